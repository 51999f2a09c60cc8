-- What each acceptance and each dequeue of a discipline keeps of its queues, a run keeps.
use Rattle.std.proofs.Common.{◌≡◌, ℕ, List, [], ◌∷◌, Option, Some, None, MatchOption, subst}
use Rattle.std.specs.List.{AllByRecursion}
use Rattle.std.proofs.lemmas.List.Elements.{filter_map-append}
use Rattle.packet_core.specs.Packets.{PacketParts}
use Rattle.packet_core.specs.declared.packet.Waiting.{Waiting}
use Rattle.journal_core.specs.declared.event.Event.{Event}
use Rattle.journal_core.specs.declared.outcome.Answer.{Answer}
use Rattle.journal_core.specs.declared.outcome.Answer.TheVariants as answer
use Rattle.journal_core.specs.declared.step.Refusal.{Refusal}
use Rattle.journal_core.specs.declared.step.Step.{Step}
use Rattle.journal_core.specs.declared.step.Step.TheVariants.{Enqueue, Dequeue, Close}
use Rattle.journal_core.specs.Disciplines.{Discipline, Given}
use Rattle.journal_core.specs.Happened.{Acceptance, acceptance_of, acceptances}
use Rattle.journal_core.specs.Runs.{Made, Runs, journal_of}
use Rattle.journal_core.specs.State.{State, refusal_of}
use Rattle.journal_core.specs.Steps.{Makes, Steps}
use Rattle.journal_core.proofs.ListLemmas.{ByRecursion-all, ByRecursion-parts}

-- each packet that is accepted fits
abbrev pub AcceptsFitting : (PacketParts → Type 0) → List Event → Type 0
AcceptsFitting Fits events = AllByRecursion (λ (a : Acceptance). Fits a.packet) (acceptances events)

-- a packet that comes in fits
abbrev pub BringsFitting : (PacketParts → Type 0) → Step → Type 0
BringsFitting Fits (Enqueue moment lane packet) = Fits packet
BringsFitting Fits (Dequeue moment) = Unit {0}
BringsFitting Fits (Close moment) = Unit {0}

module _ {Q : Type 0} (d : Discipline Q) (Keeps : Q → Type 0) (Fits : PacketParts → Type 0)
    (admits : (old : Q) (w : Waiting) (lost : List Waiting) (new : Q) → d.admits old w lost new → Fits w.packet → Keeps old → Keeps new)
    (serves : (old : Q) (dropped : List Waiting) (given : Option Given) (new : Q) (moment : ℕ) → d.serves old moment dropped given new → Keeps old → Keeps new) where
  makes_keep : (old new : State Q) (step : Step) (said : Answer) (made : List Event) → Makes d old step said made new → BringsFitting Fits step → Keeps old.queues → Keeps new.queues
  makes_keep old new (Enqueue moment lane packet) said made m fits h = admits old.queues _ m.1.lost new.queues m.1.queues fits h
  makes_keep old new (Dequeue moment) said made m fits h = serves old.queues m.2.dropped m.0 new.queues moment m.2.queues h
  makes_keep old new (Close moment) said made m fits h = rw m.1.state h

  -- a step that brings such a packet, unless it is refused
  steps_by : (old new : State Q) (step : Step) (said : Answer) (made : List Event) → Steps d old step said made new → (Makes d old step said made new → BringsFitting Fits step) → Keeps old.queues → Keeps new.queues
  steps_by old new step said made s fits h = go (refusal_of old step) s
    where
      go : (o : Option Refusal) → MatchOption o (Makes d old step said made new) (λ r. (said ≡ answer.Refused r) × (made ≡ []) × (new ≡ old)) → Keeps new.queues
      go None m = makes_keep old new step said made m (fits m) h
      go (Some r) m = rw m.2 h

  pub steps_keep : (old new : State Q) (step : Step) (said : Answer) (made : List Event) → Steps d old step said made new → BringsFitting Fits step → Keeps old.queues → Keeps new.queues
  steps_keep old new step said made s fits h = steps_by old new step said made s (λ m. fits) h

  -- an accepted packet is the step's
  accepted_fits : (old new : State Q) (step : Step) (said : Answer) (made : List Event) → AcceptsFitting Fits made → Makes d old step said made new → BringsFitting Fits step
  accepted_fits old new (Enqueue moment lane packet) said made accepts m = (subst (AcceptsFitting Fits) m.1.told accepts).0
  accepted_fits old new (Dequeue moment) said made accepts m = tt
  accepted_fits old new (Close moment) said made accepts m = tt

  -- a step that accepts such a packet, if any
  pub makes_accepting : (old new : State Q) (step : Step) (said : Answer) (made : List Event) → AcceptsFitting Fits made → Makes d old step said made new → Keeps old.queues → Keeps new.queues
  makes_accepting old new step said made accepts m h = makes_keep old new step said made m (accepted_fits old new step said made accepts m) h

  pub runs_keep : (old new : State Q) (steps : List Step) (made : List Made) → Runs d old steps made new → AcceptsFitting Fits (journal_of made) → Keeps old.queues → Keeps new.queues
  runs_keep old new [] [] r accepts h = rw r h
  runs_keep old new [] (m ∷ made) r accepts h = absurd r
  runs_keep old new (step ∷ steps) [] r accepts h = absurd r
  runs_keep old new (step ∷ steps) (m ∷ made) r accepts h =
      let parts = ByRecursion-parts (λ (a : Acceptance). Fits a.packet) (acceptances m.events) (acceptances (journal_of made)) (rw (← filter_map-append acceptance_of m.events (journal_of made)) accepts) in
      runs_keep r.0 new steps made r.2 parts.1 (steps_by old r.0 step m.answer m.events r.1 (accepted_fits old r.0 step m.answer m.events parts.0) h)

-- where any packet fits
pub all_fit : (events : List Event) → AcceptsFitting (λ packet. Unit {0}) events
all_fit events = ByRecursion-all (λ (a : Acceptance). Unit {0}) (acceptances events) (λ a. tt)
