use Rattle.std.proofs.Common.{◌≡◌, ◌<◌, length, arith, rules}
use Rattle.maltcove_c.specs.declared.status.TheConstants.{IDLE, OK}
use Rattle.maltcove_c.proofs.packets.give_burst.Goals as goal
use Rattle.maltcove_c.proofs.Bursts.{sends_all, sends_none, sends_on}

pub loop-place-init : goal.loop-place-init
loop-place-init c = sends_none c.args.disc.now c.args.moment c.args.out.now

pub loop-place-preserved : goal.loop-place-preserved
loop-place-preserved c =
    let within : c.loop-place.place < length c.loop-place.out = omega arith in
    let made : c.give-code.result ≡ OK = search rules in
    sends_on c.args.disc.now c.args.moment c.args.out.now c.loop-place.place c.loop-place.out c.loop-place.disc c.give-code.new.disc c.give-code.new.out c.loop-place.invariant (c.give-code.ensures.sent made) within

pub returns-then-code-ne-OK-clause-idle : goal.returns-then-code-ne-OK-clause-idle
returns-then-code-ne-OK-clause-idle c is_idle =
    let within : c.loop-place.place < length c.loop-place.out = omega arith in
    let idle : c.give-code.result ≡ IDLE = search rules in
    (omega arith, sends_all c.args.disc.now c.args.moment c.args.out.now c.loop-place.place c.loop-place.out c.loop-place.disc c.give-code.new.disc c.give-code.new.out c.loop-place.invariant (c.give-code.ensures.idle idle) within)
