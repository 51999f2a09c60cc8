use Rattle.std.proofs.Common.{ℕ, ◌+◌, ◌-◌, ◌<◌, List, length, arith, subst, sym}
use Rattle.packet_core.specs.declared.packet.Waiting.{Waiting}
use Rattle.journal_core.specs.Losses.{lost_packets}
use Rattle.journal_core.specs.declared.event.Event.{Event}
use Rattle.queue_disc_core.specs.declared.answers.Dropped.{Dropped}
use Rattle.queue_disc_core.specs.Drops.{IsDropAt}
use Rattle.queue_disc_core.specs.QueueDiscKept.{disc_state_of}
use Rattle.queue_disc_core.specs.QueueDiscs.{IsRead, DiscState, lost_of}
use Rattle.queue_disc_core.proofs.Handles.{drop_below, drop_known}
use Rattle.queue_disc_core.proofs.Memory.{few_recent}
use Rattle.queue_disc_core.proofs.SoundSteps.{read_sound}
use Rattle.queue_disc_core.proofs.queue_disc.QueueDisc.read_drop.Goals as goal

pub dropped-dropped-requires-clause-few : goal.dropped-dropped-requires-clause-few
dropped-dropped-requires-clause-few c =
    let enough = c.recorder-drops.ensures.made_for_limit c.is_made_for_some.ensures in
    rw (c.recorder-drops.ensures.lost, c.recorder-drops.ensures.told)
    (omega (arith, few_recent c.self.inside.sched c.has_laws.ensures.laws c.has_laws.ensures.counted c.self.invariant.memory, enough))

pub overflow_add-dropped : goal.overflow_add-dropped
overflow_add-dropped c =
    let s = disc_state_of c.self.inside in
    let events : List Event = s.sched.standing.events in
    let n : ℕ = length (lost_of s) - s.unread in
    let drop : IsDropAt events (lost_packets events) n c.dropped-dropped.result =
    subst (λ (es : List Event). IsDropAt es (lost_packets events) n c.dropped-dropped.result) c.recorder-drops.ensures.told
    (subst (λ (ws : List Waiting). IsDropAt c.recorder-drops.result.now.events ws (length ws - s.unread) c.dropped-dropped.result) c.recorder-drops.ensures.lost c.dropped-dropped.ensures) in
    omega (arith, drop_below events n c.dropped-dropped.result c.has_laws.ensures.laws.laws.ids_in_order drop, c.self.invariant.counted, c.has_laws.ensures.ids, c.self.invariant.few)

abbrev new_of : goal.After-read → DiscState
new_of c = record (disc_state_of c.self.inside) { unread = c.self.inside.unread - 1; packets = c.read.new.self }

abbrev said_of : goal.After-read → Dropped
said_of c = record { tag = c.dropped-dropped.result.tag; id = c.self.inside.past.accepted + c.dropped-dropped.result.id; cause = c.dropped-dropped.result.cause }

made_of : (c : goal.After-read) → IsRead (disc_state_of c.self.inside) (said_of c) (new_of c)
made_of c =
    let s = disc_state_of c.self.inside in
    let events : List Event = s.sched.standing.events in
    let n : ℕ = length (lost_of s) - s.unread in
    let drop : IsDropAt events (lost_packets events) n c.dropped-dropped.result =
    subst (λ (es : List Event). IsDropAt es (lost_packets events) n c.dropped-dropped.result) c.recorder-drops.ensures.told
    (subst (λ (ws : List Waiting). IsDropAt c.recorder-drops.result.now.events ws (length ws - s.unread) c.dropped-dropped.result) c.recorder-drops.ensures.lost c.dropped-dropped.ensures) in
    let some : 0 < s.unread = subst (λ (t : DiscState). 0 < t.unread) (sym c.self.view_is) c.requires in
    record {
      drop = record { packet = drop_known s.past.accepted (lost_of s) n c.dropped-dropped.result drop.packet; cause = drop.cause };
      unread = omega arith;
      rest = λ i. record s { unread = s.unread - 1; packets = c.read.ensures i };
    }

pub invariant_of-self : goal.invariant_of-self
invariant_of-self c = read_sound (disc_state_of c.self.inside) (new_of c) (said_of c) c.has_laws.ensures.laws c.self.invariant (made_of c)

pub returns : goal.returns
returns c = subst (λ (t : DiscState). IsRead t (said_of c) (new_of c)) c.self.view_is (made_of c)
