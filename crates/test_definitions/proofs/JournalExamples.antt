-- Worked examples of steps, refusals and journals, by computation: what a run gives, what its journal counts as, and
-- journals that break a law.
use Rattle.std.proofs.Common.{◌≡◌, ℕ, ◌^◌, ◌-◌, Bool, true, false, ◌==◌, All, List, [], ◌∷◌, arith, Some, None, refl}
use Rattle.packet_core.specs.Params.{standard_fields}
use Rattle.packet_core.specs.declared.flow.Seed.{Seed}
use Rattle.packet_core.specs.declared.packet.Ecn.TheVariants.{NotEct, Ce}
use Rattle.packet_core.specs.declared.packet.Waiting.{Waiting}
use Rattle.packet_core.specs.declared.params.Classify.TheVariants.{Dport}
use Rattle.packet_core.specs.declared.params.ParamFields.{ParamFields}
use Rattle.codel_core.specs.declared.served.Mark.TheVariants.{NoMark, CodelMark}
use Rattle.journal_core.specs.declared.event.Cause.TheVariants.{Codel, Overflow}
use Rattle.journal_core.specs.declared.event.Event.{Event}
use Rattle.journal_core.specs.declared.event.Event.TheVariants as event
use Rattle.journal_core.specs.declared.outcome.Answer.{Answer}
use Rattle.journal_core.specs.declared.outcome.Answer.TheVariants as answer
use Rattle.journal_core.specs.declared.outcome.Outcome.{Outcome}
use Rattle.journal_core.specs.declared.step.MomentFault.TheVariants.{TooLarge, Backwards}
use Rattle.journal_core.specs.declared.step.Refusal.TheVariants as refusal
use Rattle.journal_core.specs.declared.step.Step.TheVariants.{Enqueue, Dequeue, Close}
use Rattle.journal_core.specs.Happened.{acceptances, fate_ids}
use Rattle.journal_core.specs.JournalLaws.{AreDistinct, FatesFollow, LeaveInOrder, IsClosedForGood, IsHonest, WaitWithoutFate}
use Rattle.journal_core.specs.Runs.{Made, outcomes_from}
use Rattle.journal_core.specs.State.{State, refusal_of}
use Rattle.journal_core.specs.Statistics.{statistics}
use Rattle.journal_core.specs.TupleRows.{tuple_rows}
use Rattle.test_definitions.proofs.ComputedRuns.{RunGives, acceptance, accepts, arrives, packet_to, run_gives, sends}

-- A RUN AND ITS OUTCOMES

abbrev one_flow : ParamFields
one_flow = record standard_fields { flows = 1; classify = Dport }

abbrev refuses : Made
refuses = record { answer = answer.Refused refusal.ClosedAlready; events = [] }

abbrev closing_made : List Made
closing_made =
    accepts 0 0 1000 ∷ record { answer = answer.Closed; events = event.Closed 1 ∷ [] } ∷ refuses ∷ sends 0 3 ∷ refuses ∷ []

-- a packet, a close, a packet too late, a dequeue and a second close
closing : (seed : Seed)
    → RunGives one_flow seed (arrives 0 1000 ∷ Close 1 ∷ Enqueue 2 0 (packet_to 0 1000) ∷ Dequeue 3 ∷ Close 4 ∷ []) closing_made
closing seed = run_gives one_flow seed _ refl

abbrev outcome : Answer → ℕ → ℕ → Outcome
outcome said first behind = record { answer = said; first_event = first; end_event = behind }

closing_outcomes : outcomes_from 0 closing_made
    ≡ outcome answer.Accepted 0 1 ∷ outcome answer.Closed 1 2 ∷ outcome (answer.Refused refusal.ClosedAlready) 2 2
    ∷ outcome answer.Sent 2 3 ∷ outcome (answer.Refused refusal.ClosedAlready) 3 3 ∷ []
closing_outcomes = refl

-- WHAT A JOURNAL COUNTS AS

-- Ids 0 to 3 of 1000, 200, 30 and 4 bytes are sent unmarked, sent marked, dropped by CoDel and by overflow. A fifth packet, of
-- 7 bytes, waits when the scheduler is closed.
abbrev five_packets : List Event
five_packets =
    acceptance 0 2 1000 ∷ acceptance 1 1 200 ∷ acceptance 2 2 30 ∷ acceptance 3 1 4 ∷ event.Sent 0 1 NotEct NoMark
    ∷ event.Sent 1 1 Ce CodelMark ∷ event.Dropped 2 1 Codel ∷ event.Dropped 3 1 Overflow ∷ acceptance 4 2 7 ∷ event.Closed 2 ∷ []

five_statistics : statistics five_packets
    ≡ record { accepted = 5; accepted_bytes = 1241; sent = 2; sent_bytes = 1200; dropped_codel = 1; dropped_overflow = 1; dropped_bytes = 34; marked = 1; threshold_marked = 0; queued = 1; queued_bytes = 7; closed = true }
five_statistics = refl

-- a row for each five-tuple, in order of first acceptance
five_rows : tuple_rows five_packets
    ≡ record { tuple = (packet_to 2 0).tuple; flow = 2; accepted = 3; sent = 1; dropped = 1; queued = 1 }
    ∷ record { tuple = (packet_to 1 0).tuple; flow = 1; accepted = 2; sent = 1; dropped = 1; queued = 0 } ∷ []
five_rows = refl

-- REFUSALS IN THEIR ORDER

abbrev state_at : ℕ → ℕ → Bool → State (List Waiting)
state_at next_id last closed = record { queues = []; next_id = next_id; last = last; closed = closed }

large_first : refusal_of (state_at 0 5 true) (Enqueue (2 ^ 60) 0 (packet_to 0 1)) ≡ Some (refusal.Moment TooLarge)
large_first = refl

backwards_second : refusal_of (state_at (2 ^ 40) 5 true) (Enqueue 4 0 (packet_to 0 1)) ≡ Some (refusal.Moment (Backwards 5))
backwards_second = refl

closed_third : refusal_of (state_at (2 ^ 40) 5 true) (Enqueue 5 0 (packet_to 0 1)) ≡ Some refusal.ClosedAlready
closed_third = refl

exhausted_fourth : refusal_of (state_at (2 ^ 40) 5 false) (Enqueue 5 0 (packet_to 0 1)) ≡ Some refusal.Exhausted
exhausted_fourth = refl

last_id_fits : refusal_of (state_at (2 ^ 40 - 1) 5 false) (Enqueue 5 0 (packet_to 0 1)) ≡ None
last_id_fits = refl

dequeue_after_close : refusal_of (state_at 1 5 true) (Dequeue 5) ≡ None
dequeue_after_close = refl

close_after_exhaustion : refusal_of (state_at (2 ^ 40) 5 false) (Close 5) ≡ None
close_after_exhaustion = refl

-- JOURNALS THAT BREAK A LAW

sent_twice : AreDistinct (fate_ids (acceptance 0 0 1 ∷ event.Sent 0 1 NotEct NoMark ∷ event.Sent 0 2 NotEct NoMark ∷ [])) → ⊥
sent_twice law = law.0 0 0 (omega arith) refl

fate_before_acceptance : FatesFollow (event.Sent 0 0 NotEct NoMark ∷ acceptance 0 0 1 ∷ []) → ⊥
fate_before_acceptance law = let among = law 1 0 0 (omega arith) in absurd (omega (arith, among.1))

overtaken : LeaveInOrder (λ a. a.flow == 0) (acceptance 0 0 1 ∷ acceptance 1 0 1 ∷ event.Sent 1 1 NotEct NoMark ∷ []) → ⊥
overtaken law = let e : 1 ∷ [] ≡ 0 ∷ [] = law in cc

accepted_after_close : IsClosedForGood (event.Closed 0 ∷ acceptance 0 0 1 ∷ []) → ⊥
accepted_after_close law = let e : true ≡ false = law.0 refl in cc

marked_for_nothing : All (IsHonest (acceptances (acceptance 0 0 1 ∷ event.Sent 0 1 Ce CodelMark ∷ []))) (acceptance 0 0 1 ∷ event.Sent 0 1 Ce CodelMark ∷ []) → ⊥
marked_for_nothing law = let h = law 1 (event.Closed 0) (omega arith) in h.1 refl

lost_silently : WaitWithoutFate (λ _. []) (acceptance 0 0 1 ∷ []) → ⊥
lost_silently law = let e = law 0 in cc
