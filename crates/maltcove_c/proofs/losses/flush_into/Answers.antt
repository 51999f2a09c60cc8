use Rattle.std.proofs.Common.{◌<◌, length, arith}
use Rattle.maltcove_c.proofs.losses.flush_into.Goals as goal
use Rattle.maltcove_c.proofs.Readings.{flushes_none, flushes_on}

pub loop-place-init : goal.loop-place-init
loop-place-init c = flushes_none c.args.disc.now c.args.out.now

pub loop-place-preserved : goal.loop-place-preserved
loop-place-preserved c =
    let within : c.loop-place.place < length c.loop-place.out = omega arith in
    rw c.flushed_of.ensures
    (flushes_on c.args.disc.now c.args.out.now c.loop-place.place c.loop-place.out c.loop-place.disc c.flush_next.new.disc c.in-Some.packet c.loop-place.invariant c.in-Some.ensures.flushed within)
