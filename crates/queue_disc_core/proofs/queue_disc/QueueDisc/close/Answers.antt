use Rattle.std.proofs.Common.{refl, subst}
use Rattle.queue_disc_core.specs.QueueDiscKept.{disc_state_of}
use Rattle.queue_disc_core.specs.QueueDiscs.{IsDiscClosed, DiscState}
use Rattle.queue_disc_core.proofs.SoundSteps.{close_sound}
use Rattle.queue_disc_core.proofs.queue_disc.QueueDisc.close.Goals as goal

pub invariant_of-self-2 : goal.invariant_of-self-2
invariant_of-self-2 c =
    let new : DiscState = record (disc_state_of c.self.inside) { sched = c.close.new.self } in
    close_sound (disc_state_of c.self.inside) new c.args.moment c.has_laws.ensures.laws c.has_laws-2.ensures.laws c.self.invariant (record { advances = c.in_ok-close.ensures.made; room = c.close.ensures.room; capacity = c.close.ensures.capacity; rest = refl })

pub returns-clause-made : goal.returns-clause-made
returns-clause-made c =
    let new : DiscState = record (disc_state_of c.self.inside) { sched = c.close.new.self } in
    subst (λ (t : DiscState). IsDiscClosed t c.args.moment new) c.self.view_is (record { advances = c.in_ok-close.ensures.made; room = c.close.ensures.room; capacity = c.close.ensures.capacity; rest = refl })
