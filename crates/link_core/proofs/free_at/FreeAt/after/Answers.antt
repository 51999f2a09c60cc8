use Rattle.link_core.proofs.LinkTimes.{free_after}
use Rattle.link_core.proofs.free_at.FreeAt.after.Goals as goal

pub returns : goal.returns
returns c = free_after c.args.link.now c.args.self c.args.len c.rate-rate.result c.work.result c.rate-rate.ensures.value c.work.ensures.value c.requires.rest c.rate-rate.ensures.range.0 c.work.ensures.most
