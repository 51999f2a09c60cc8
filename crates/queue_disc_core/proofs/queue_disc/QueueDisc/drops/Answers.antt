use Rattle.std.proofs.Common.{◌<◌, length, arith}
use Rattle.queue_disc_core.proofs.queue_disc.QueueDisc.drops.Goals as goal
use Rattle.queue_disc_core.proofs.Readings.{reads_none, reads_on}

pub loop-place-init : goal.loop-place-init
loop-place-init c = reads_none c.args.self.now c.args.out.now

pub loop-place-preserved : goal.loop-place-preserved
loop-place-preserved c =
    let within : c.loop-place.place < length c.loop-place.out = omega arith in
    reads_on c.args.self.now c.args.out.now c.loop-place.place c.loop-place.out c.loop-place.self c.read_drop.new.self c.read_drop.result c.loop-place.invariant c.read_drop.ensures within
