use Rattle.std.proofs.Common.{◌<◌, length, arith}
use Rattle.maltcove_c.proofs.losses.read_drops.Goals as goal
use Rattle.maltcove_c.proofs.Readings.{reads_none, reads_on}

pub loop-place-init : goal.loop-place-init
loop-place-init c = reads_none c.args.disc.now c.args.out.now

pub loop-place-preserved : goal.loop-place-preserved
loop-place-preserved c =
    let within : c.loop-place.place < length c.loop-place.out = omega arith in
    rw c.dropped_of.ensures
    (reads_on c.args.disc.now c.args.out.now c.loop-place.place c.loop-place.out c.loop-place.disc c.next_drop.new.self c.in-Some.dropped c.loop-place.invariant c.in-Some.ensures.read within)
