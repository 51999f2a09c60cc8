-- Runs of a scheduler whose steps are those of a link.
use Rattle.std.specs.Prelude.{◌≡◌, false, List, All}
use Rattle.packet_core.specs.declared.flow.Seed.{Seed}
use Rattle.packet_core.specs.declared.params.ParamFields.{ParamFields}
use Rattle.journal_core.specs.declared.step.Step.{Step}
use Rattle.journal_core.specs.Disciplines.{Discipline}
use Rattle.journal_core.specs.Runs.{Made, Runs, is_refused, journal_of}
use Rattle.journal_core.specs.State.{State, opening_state}
use Rattle.fair_core.specs.FairQueues.{FairQueues}
use Rattle.fair_core.specs.FqCodel.{fq_codel}
use Rattle.sched_core.specs.Engines.{Running}
use Rattle.link_core.specs.declared.arrival.Arrival.{Arrival}
use Rattle.link_core.specs.declared.link.LinkFields.{LinkFields}
use Rattle.link_core.specs.LinkLaw.{Follows, LinkLaw, LinkPoint}
use Rattle.link_core.specs.LinkLaw.LinkState.{idle}
use Rattle.link_core.specs.QueueDisciplines.{Progress}

-- The steps are those of the link for these arrivals, and they are made by a scheduler of that discipline; none of them
-- is refused. So each packet's id is its place among the arrivals.
pub record IsLinkRunOf {Q : Type 0} (d : Discipline Q) (link : LinkFields) (arrivals : List Arrival) (steps : List Step)
    (made : List Made) (last : State Q) : Type 0 where
  pub law : LinkLaw link arrivals steps made
  pub runs : Runs d (opening_state d.opening) steps made last
  pub none_refused : All (λ (m : Made). is_refused m.answer ≡ false) made

-- A run of the link so far, up to that point: the steps are the link's, they are made, and none of them is refused.
pub record IsLinkRunTo {Q : Type 0} (d : Discipline Q) (link : LinkFields) (arrivals : List Arrival) (steps : List Step)
    (made : List Made) (point : LinkPoint) (at : State Q) : Type 0 where
  pub follows : Follows link arrivals (record { state = idle; coming = arrivals }) steps made point
  pub runs : Runs d (opening_state d.opening) steps made at
  pub none_refused : All (λ (m : Made). is_refused m.answer ≡ false) made

-- A discipline has made the steps of the link for these arrivals, and no others.
pub record HasRunOver {Q : Type 0} (d : Discipline Q) (link : LinkFields) (arrivals : List Arrival)
    (at : Progress Q) : Type 0 where
  pub made : List Made
  pub run : IsLinkRunOf d link arrivals at.steps made at.standing.state
  pub journal : at.standing.events ≡ journal_of made

-- a run over FQ-CoDel (RFC 8290)
abbrev pub IsLinkRun : ParamFields → Seed → LinkFields → List Arrival → List Step → List Made → State FairQueues
    → Type 0
IsLinkRun p seed link arrivals steps made last = IsLinkRunOf (fq_codel p seed) link arrivals steps made last

-- An engine has made the steps of the link for these arrivals, and no others.
pub record HasRunLink (p : ParamFields) (seed : Seed) (link : LinkFields) (arrivals : List Arrival)
    (e : Running) : Type 0 where
  pub made : List Made
  pub run : IsLinkRun p seed link arrivals e.steps made e.sched.standing.state
  pub journal : e.sched.standing.events ≡ journal_of made
  pub params : e.sched.params ≡ p
  pub seed_kept : e.sched.seed ≡ seed
