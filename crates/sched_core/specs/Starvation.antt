-- What becomes of a flow's packets between two points of a run, and how many dequeues there are. A point is a number of
-- steps made.
use Rattle.std.specs.Prelude.{◌≢◌, ℕ, ◌-◌, List, [], count_by, drop, filter, take, ◌==◌}
use Rattle.journal_core.specs.declared.event.Event.{Event}
use Rattle.journal_core.specs.declared.step.Step.{Step}
use Rattle.journal_core.specs.Disciplines.{Discipline}
use Rattle.journal_core.specs.Happened.{Acceptance, acceptances, fate_ids, passes}
use Rattle.journal_core.specs.Runs.{Made, Runs, journal_of}
use Rattle.journal_core.specs.State.{State, opening_state}
use Rattle.fair_core.specs.FairQueues.{FairQueues, queue_of}
use Rattle.sched_core.specs.LastSteps.{is_dequeued}

-- a packet of the flow waits behind the first so many of these steps
abbrev pub WaitsAt : Discipline FairQueues → List Step → ℕ → ℕ → Type 0
WaitsAt d steps point flow =
    (made : List Made) (s : State FairQueues) → Runs d (opening_state d.opening) (take point steps) made s
    → queue_of s.queues flow ≢ []

-- the ids of the packets of a flow that have their fate in these events, where those were accepted
abbrev pub fates_from : List Acceptance → ℕ → List Event → List ℕ
fates_from accepted flow events = filter (passes (λ a. a.flow == flow) accepted) (fate_ids events)

-- and in the steps from point a to point b
abbrev pub fates_between : List Made → ℕ → ℕ → ℕ → List ℕ
fates_between made a b flow = fates_from (acceptances (journal_of made)) flow (journal_of (take (b - a) (drop a made)))

-- how many dequeues from point a to point b weren't refused
abbrev pub dequeues_between : List Made → ℕ → ℕ → ℕ
dequeues_between made a b = count_by (λ m. is_dequeued m.answer) (take (b - a) (drop a made))
