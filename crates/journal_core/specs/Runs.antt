use Rattle.std.specs.Prelude.{◌≡◌, ℕ, ◌+◌, ◌≤◌, Bool, true, false, not, List, [], ◌∷◌, ◌++◌, All, length, filter, if◌then◌else◌}
use Rattle.std.specs.List.{flat_map}
use Rattle.packet_core.specs.Packets.{IsLengthInRange}
use Rattle.journal_core.specs.declared.step.Step.{Step}
use Rattle.journal_core.specs.declared.step.Step.TheVariants.{Enqueue, Dequeue, Close}
use Rattle.journal_core.specs.declared.event.Event.{Event}
use Rattle.journal_core.specs.declared.outcome.Answer.{Answer}
use Rattle.journal_core.specs.declared.outcome.Answer.TheVariants as answer
use Rattle.journal_core.specs.declared.outcome.Outcome.{Outcome}
use Rattle.journal_core.specs.Calls.{Standing}
use Rattle.journal_core.specs.Disciplines.{Discipline}
use Rattle.journal_core.specs.State.{State, opening_state}
use Rattle.journal_core.specs.Steps.{Steps}

-- A packet that comes in has a length that packets have: `Packet` holds no other.
abbrev pub HasLengthInRange : Step → Type 0
HasLengthInRange (Enqueue moment lane packet) = IsLengthInRange packet.len
HasLengthInRange (Dequeue moment) = Unit {0}
HasLengthInRange (Close moment) = Unit {0}

-- what one step gave
pub record Made : Type 0 where
  pub answer : Answer
  pub events : List Event

-- the steps in turn, each from the state that the one before it left
abbrev pub Runs : {Q : Type 0} → Discipline Q → State Q → List Step → List Made → State Q → Type 0
Runs d old [] [] new = new ≡ old
Runs d old [] (m ∷ made) new = ⊥
Runs d old (step ∷ steps) [] new = ⊥
Runs {Q} d old (step ∷ steps) (m ∷ made) new =
    (mid : State Q) × Steps d old step m.answer m.events mid × Runs d mid steps made new

-- whether a step was refused
abbrev pub is_refused : Answer → Bool
is_refused answer.Accepted = false
is_refused answer.Sent = false
is_refused answer.Idle = false
is_refused answer.Closed = false
is_refused (answer.Refused r) = true

-- the step alone, or nothing where it was refused
abbrev pub unless_refused : Answer → Step → List Step
unless_refused said step = if is_refused said then [] else step ∷ []

-- the steps that weren't refused, in order, where each has something that tells its answer
abbrev pub steps_made : {X : Type 0} → List Step → List X → (X → Answer) → List Step
steps_made [] told said = []
steps_made (step ∷ steps) [] said = []
steps_made (step ∷ steps) (x ∷ told) said = unless_refused (said x) step ++ steps_made steps told said

-- what they gave
abbrev pub given_by_made : List Made → List Made
given_by_made made = filter (λ m. not (is_refused m.answer)) made

-- the events of all steps, joined
abbrev pub journal_of : List Made → List Event
journal_of made = flat_map (λ m. m.events) made

-- each step's answer, and where its own events stand in the journal; the first of them stands at the place given
abbrev pub outcomes_from : ℕ → List Made → List Outcome
outcomes_from at [] = []
outcomes_from at (m ∷ made) =
    let end = at + length m.events in
    record { answer = m.answer; first_event = at; end_event = end } ∷ outcomes_from end made

-- One step, refused or not: its events stand at the journal's end.
pub record Takes {Q : Type 0} (d : Discipline Q) (old : Standing Q) (step : Step) (said : Answer)
    (new : Standing Q) : Type 0 where
  pub made : List Event
  pub steps : Steps d old.state step said made new.state
  pub journal : new.events ≡ old.events ++ made

-- A scheduler and the outcomes are those of the run of the steps: state, journal, and one outcome for each step.
pub record IsRun {Q : Type 0} (d : Discipline Q) (steps : List Step) (sched : Standing Q)
    (outcomes : List Outcome) : Type 0 where
  pub made : List Made
  pub runs : Runs d (opening_state d.opening) steps made sched.state
  pub journal : sched.events ≡ journal_of made
  pub told : outcomes ≡ outcomes_from 0 made

-- A scheduler is that of the run of the steps, none of which is refused.
pub record IsRunOf {Q : Type 0} (d : Discipline Q) (steps : List Step) (sched : Standing Q) : Type 0 where
  pub made : List Made
  pub runs : Runs d (opening_state d.opening) steps made sched.state
  pub journal : sched.events ≡ journal_of made
  pub none_refused : All (λ m. is_refused m.answer ≡ false) made

-- The outcome's places lie in the journal, the first not behind the end.
pub record StandsIn (events : List Event) (o : Outcome) : Type 0 where
  pub first : o.first_event ≤ o.end_event
  pub end : o.end_event ≤ length events
