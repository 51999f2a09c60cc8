-- Where no packet so far was longer than a quantum, no flow is owed more than one quantum, so a dequeue makes three turns at most for each new
-- flow, and two for each old one.
use Rattle.std.proofs.Common.{ℕ, ◌+◌, ◌*◌, ◌≤◌, List, All, length, arith}
use Rattle.std.proofs.lemmas.List.Elements.{recursion_from_All}
use Rattle.packet_core.specs.Params.{AreInRange}
use Rattle.packet_core.specs.FlowNumber.{flow_number}
use Rattle.packet_core.specs.declared.flow.Seed.{Seed}
use Rattle.packet_core.specs.declared.params.ParamFields.{ParamFields}
use Rattle.journal_core.specs.declared.step.Step.{Step}
use Rattle.journal_core.specs.Happened.{Acceptance, acceptances}
use Rattle.journal_core.specs.Runs.{Made, Runs, journal_of}
use Rattle.journal_core.specs.State.{State, opening_state}
use Rattle.fair_core.specs.FairQueues.{FairQueues, no_queues}
use Rattle.fair_core.specs.FqCodel.{fq_codel, fq_codel_policy}
use Rattle.fair_core.specs.Turns.{Chain, TurnMade}
use Rattle.fair_core.proofs.CreditRanges.{opening_credits, runs_credits, short_bound}
use Rattle.fair_core.proofs.FqCodelPolicy.{policy_drops}
use Rattle.fair_core.proofs.ServingChains.{chain_bound}
use Rattle.sched_core.proofs.FqCodelRuns.{fq_codel_sound}

-- the turns of a dequeue, wherever a run stands that accepted no packet longer than a quantum
pub short_packets_few_turns : (p : ParamFields) (seed : Seed) → AreInRange p → (steps : List Step) (made : List Made) (new : State FairQueues) → Runs (fq_codel p seed) (opening_state (no_queues p.flows)) steps made new
    → All (λ (a : Acceptance). a.packet.len ≤ p.quantum) (acceptances (journal_of made))
    → (turns : List TurnMade) (now : ℕ) (next : FairQueues) → Chain (fq_codel_policy p) now new.queues turns next
    → length turns ≤ 3 * length new.queues.lists.new_flows + 2 * length new.queues.lists.old_flows
short_packets_few_turns p seed range steps made new r accepts turns now next c =
    let some = range.quantum.0 in
    let kept = runs_credits (fq_codel_policy p) (policy_drops p) p.quantum p.flows (flow_number p.classify p.flows seed) (opening_state (no_queues p.flows)) new steps made r
    (recursion_from_All (λ (a : Acceptance). a.packet.len ≤ p.quantum) (acceptances (journal_of made)) accepts) (opening_credits p.quantum p.quantum p.flows some) in
    let bound = chain_bound (fq_codel_policy p) some now turns new.queues next (fq_codel_sound p seed range steps made new r).sound c in
    let few = short_bound p.quantum p.quantum new.queues some (omega arith) kept in
    omega arith
