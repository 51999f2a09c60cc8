-- How many bytes two flows send between two points of a run. A point is a number of steps made.
use Rattle.std.specs.Prelude.{◌≡◌, ℕ, ◌+◌, ◌-◌, ◌*◌, ◌≤◌, List, [], ◌∷◌, Contains, filter, take, drop, max, ◌==◌}
use Rattle.std.specs.List.{filter_map}
use Rattle.packet_core.specs.declared.flow.Seed.{Seed}
use Rattle.packet_core.specs.declared.params.ParamFields.{ParamFields}
use Rattle.journal_core.specs.declared.event.Event.{Event}
use Rattle.journal_core.specs.declared.step.Step.{Step}
use Rattle.journal_core.specs.Disciplines.{Discipline}
use Rattle.journal_core.specs.Happened.{Acceptance, acceptances, passes}
use Rattle.journal_core.specs.Runs.{Made, Runs, journal_of}
use Rattle.journal_core.specs.State.{State, opening_state}
use Rattle.journal_core.specs.Statistics.{bytes_named, sent_of}
use Rattle.fair_core.specs.FairQueues.{FairQueues, no_queues}
use Rattle.fair_core.specs.FqCodel.{fq_codel}

-- the ids of the packets of a flow that these events tell as sent, where those were accepted
abbrev pub sent_from : List Acceptance → ℕ → List Event → List ℕ
sent_from accepted flow events = filter (passes (λ a. a.flow == flow) accepted) (filter_map sent_of events)

-- how many bytes of a flow were sent in these events: the lengths of those packets, as accepted
abbrev pub bytes_sent : List Acceptance → ℕ → List Event → ℕ
bytes_sent accepted flow events = bytes_named accepted (sent_from accepted flow events)

-- the greatest length that was accepted, and 1 where there is none
abbrev pub longest : List Acceptance → ℕ
longest [] = 1
longest (a ∷ accepted) = max a.packet.len (longest accepted)

-- the flow stands in the list of old flows behind the first so many of these steps
abbrev pub IsOldAt : Discipline FairQueues → List Step → ℕ → ℕ → Type 0
IsOldAt d steps flow point =
    (made : List Made) (s : State FairQueues) → Runs d (opening_state d.opening) (take point steps) made s
    → Contains s.queues.lists.old_flows flow

-- and at each point from a to b
abbrev pub StaysOld : Discipline FairQueues → List Step → ℕ → ℕ → ℕ → Type 0
StaysOld d steps a b flow = (point : ℕ) → a ≤ point → point ≤ b → IsOldAt d steps flow point

-- how many bytes of a flow are sent in the steps from point a to point b
abbrev pub bytes_between : List Made → ℕ → ℕ → ℕ → ℕ
bytes_between made a b flow = bytes_sent (acceptances (journal_of made)) flow (journal_of (take (b - a) (drop a made)))

-- Two numbers differ by so much at most.
abbrev pub IsWithin : ℕ → ℕ → ℕ → Type 0
IsWithin most m n = (m ≤ n + most) × (n ≤ m + most)

-- These steps have that journal, and between two points of their run two flows that stay old at each point send about
-- as many bytes: they differ by three quanta at most and twice what the longest packet so far has more than one byte.
pub record SharesFairly (p : ParamFields) (seed : Seed) (steps : List Step) (events : List Event)
    (a b f g : ℕ) : Type 0 where
  pub made : List Made
  pub new : State FairQueues
  pub runs : Runs (fq_codel p seed) (opening_state (no_queues p.flows)) steps made new
  pub journal : events ≡ journal_of made
  pub near : StaysOld (fq_codel p seed) steps a b f → StaysOld (fq_codel p seed) steps a b g
      → IsWithin (3 * p.quantum + 2 * (longest (acceptances (journal_of (take b made))) - 1))
      (bytes_between made a b f) (bytes_between made a b g)
