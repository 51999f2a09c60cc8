-- A plain queue: first in, first out, with a limit of packets, at which the packet that arrives is dropped.
use Rattle.std.specs.Prelude.{◌≡◌, ℕ, ◌<◌, ◌≤◌, ◌⊎◌, List, [], ◌∷◌, ◌++◌, length, Option, Some, None}
use Rattle.packet_core.specs.FlowNumber.{flow_number}
use Rattle.packet_core.specs.declared.flow.Seed.{Seed}
use Rattle.packet_core.specs.declared.packet.Waiting.{Waiting}
use Rattle.packet_core.specs.declared.params.ParamFields.{ParamFields}
use Rattle.codel_core.specs.declared.served.Mark.TheVariants.{NoMark}
use Rattle.journal_core.specs.declared.event.Event.{Event}
use Rattle.journal_core.specs.declared.step.Step.{Step}
use Rattle.journal_core.specs.Disciplines.{Discipline, Given}
use Rattle.journal_core.specs.Runs.{Made, journal_of}
use Rattle.journal_core.specs.State.{State}
use Rattle.link_core.specs.declared.arrival.Arrival.{Arrival}
use Rattle.link_core.specs.declared.link.LinkFields.{LinkFields}
use Rattle.link_core.specs.LinkRuns.{IsLinkRunOf}

-- The packet goes to the tail, or is dropped where as many wait as may.
abbrev pub TakesIn : ℕ → List Waiting → Waiting → List Waiting → List Waiting → Type 0
TakesIn limit old w lost new =
    ((length old < limit) × (lost ≡ []) × (new ≡ old ++ w ∷ []))
    ⊎ ((limit ≤ length old) × (lost ≡ w ∷ []) × (new ≡ old))

-- The head leaves, unmarked, and no packet is dropped.
abbrev pub GivesHead : List Waiting → List Waiting → Option Given → List Waiting → Type 0
GivesHead [] dropped given new = (dropped ≡ []) × (given ≡ None) × (new ≡ [])
GivesHead (w ∷ rest) dropped given new =
    (dropped ≡ []) × (given ≡ Some (record { waiting = w; mark = NoMark })) × (new ≡ rest)

-- That queue, with the limit of those parameters. It looks at no flow; the journal names the flow that FQ-CoDel with
-- the same parameters and seed would choose, so that the two can be compared.
abbrev pub fifo : ParamFields → Seed → Discipline (List Waiting)
fifo p seed = record {
  opening = [];
  flow_of = λ tuple. flow_number p.classify p.flows seed tuple;
  admits = λ old w lost new. TakesIn p.limit old w lost new;
  serves = λ old moment dropped given new. GivesHead old dropped given new;
}

-- The events are the journal of the link's run over that queue.
pub record IsFifoJournal (p : ParamFields) (seed : Seed) (link : LinkFields) (arrivals : List Arrival)
    (events : List Event) : Type 0 where
  pub steps : List Step
  pub made : List Made
  pub last : State (List Waiting)
  pub run : IsLinkRunOf (fifo p seed) link arrivals steps made last
  pub journal : events ≡ journal_of made
