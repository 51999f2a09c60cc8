use Rattle.link_picture.proofs.CountLemmas.{counts_more}
use Rattle.link_picture.proofs.counts.Counts.with.Goals as goal

pub returns : goal.returns
returns c =
    λ packets few is. counts_more packets c.args.packet.now c.args.self.now c.counted.result c.counted-2.result c.counted-3.result few is (rw c.is_codel_drop.ensures at c.counted.ensures) (rw c.is_overflow_drop.ensures at c.counted-2.ensures) (rw c.is_marked.ensures at c.counted-3.ensures)
