-- The laws of a link's runs over FQ-CoDel.
use Rattle.std.proofs.Common.{◌≡◌, ◌+◌, ◌*◌, ◌<◌, ◌≤◌, All, List, [], length, sym, ◌∙◌, arith}
use Rattle.std.proofs.lemmas.List.Elements.{recursion_from_All}
use Rattle.packet_core.specs.declared.flow.Seed.{Seed}
use Rattle.packet_core.specs.declared.params.ParamFields.{ParamFields}
use Rattle.journal_core.specs.declared.step.Step.{Step}
use Rattle.journal_core.specs.Happened.{fate_ids, without_fate}
use Rattle.journal_core.specs.Runs.{Made, journal_of}
use Rattle.journal_core.specs.State.{State}
use Rattle.journal_core.proofs.HistoryRuns.{Keeps, keeps_opening, keeps_steps}
use Rattle.fair_core.specs.FairQueues.{FairQueues, queue_of}
use Rattle.fair_core.specs.FqCodel.{fq_codel, fq_codel_policy}
use Rattle.fair_core.proofs.FairFifo.{fair_is_fifo}
use Rattle.fair_core.proofs.FqCodelPolicy.{policy_drops}
use Rattle.packet_core.specs.FlowNumber.{flow_number}
use Rattle.sched_core.proofs.FqCodelRuns.{fq_codel_laws}
use Rattle.link_core.specs.declared.arrival.Arrival.{Arrival}
use Rattle.link_core.specs.declared.link.LinkFields.{LinkFields}
use Rattle.link_core.specs.LinkLaw.{LinkPoint}
use Rattle.link_core.specs.LinkLaw.LinkState.{idle}
use Rattle.link_core.specs.LinkLaws.{FollowsArrival}
use Rattle.link_core.specs.LinkRuns.{IsLinkRun, IsLinkRunTo}
use Rattle.link_core.proofs.Causality.{run_follows}
use Rattle.link_core.proofs.EventCounts.{few_in_run}
use Rattle.link_core.proofs.IdleLinks.{all_fated, fair_idle_empty}
use Rattle.link_core.proofs.SentIds.{history_of}

-- where the link is idle, each packet that came has its fate
pub none_waits : (p : ParamFields) (seed : Seed) (link : LinkFields) (arrivals : List Arrival) (steps : List Step) (made : List Made) (point : LinkPoint) (at : State FairQueues)
    → All (λ (a : Arrival). 1 ≤ a.packet.len) arrivals → IsLinkRunTo (fq_codel p seed) link arrivals steps made point at → point.state ≡ idle → without_fate (journal_of made) ≡ []
none_waits p seed link arrivals steps made point at have run is =
    let opens = (fair_is_fifo (fq_codel_policy p) (policy_drops p) p.flows (flow_number p.classify p.flows seed)).opens in
    let empty = fair_idle_empty p seed link arrivals steps made point at run (recursion_from_All (λ (a : Arrival). 1 ≤ a.packet.len) arrivals have) opens is in
    let waits = (fq_codel_laws p seed steps made at run.runs).1 in
    all_fated (without_fate (journal_of made)) (λ flow. sym (empty flow) ∙ waits flow)

-- no packet has its fate before it came
pub none_early : (p : ParamFields) (seed : Seed) (link : LinkFields) (arrivals : List Arrival) (steps : List Step) (made : List Made) (last : State FairQueues) → IsLinkRun p seed link arrivals steps made last
    → All (FollowsArrival arrivals) (journal_of made)
none_early p seed link arrivals steps made last run =
    let d = fq_codel p seed in
    let fifo = fair_is_fifo (fq_codel_policy p) (policy_drops p) p.flows (flow_number p.classify p.flows seed) in
    run_follows d (Keeps d queue_of fifo) (keeps_steps d queue_of fifo) (λ s events h. recursion_from_All (λ id. id < s.next_id) (fate_ids events) h.known) link arrivals steps made last (keeps_opening d queue_of fifo) run

-- two events at most for each arrival
pub few_made : (p : ParamFields) (seed : Seed) (link : LinkFields) (arrivals : List Arrival) (steps : List Step) (made : List Made) (last : State FairQueues) → IsLinkRun p seed link arrivals steps made last
    → length (journal_of made) ≤ 2 * length arrivals
few_made p seed link arrivals steps made last run =
    let left : length (without_fate (journal_of made)) + length (fate_ids (journal_of made)) ≡ last.next_id = (history_of p seed steps made last run.runs).left in
    few_in_run (fq_codel p seed) link arrivals steps made last run (omega arith)
