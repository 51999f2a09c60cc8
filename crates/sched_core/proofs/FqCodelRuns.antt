-- Every run of FQ-CoDel has the laws.
use Rattle.std.proofs.Common.{◌≡◌, ℕ, ◌+◌, ◌<◌, ◌≤◌, not, List, length, sum_by, sym, ◌∙◌, arith}
use Rattle.std.proofs.lemmas.List.Elements.{recursion_from_All}
use Rattle.std.proofs.lemmas.Nat.{mod_below}
use Rattle.packet_core.specs.FlowNumber.{flow_number, hash_value, hashed_message}
use Rattle.packet_core.specs.Params.{AreInRange}
use Rattle.packet_core.specs.declared.flow.Seed.{Seed}
use Rattle.packet_core.specs.declared.packet.FiveTuple.{FiveTuple}
use Rattle.packet_core.specs.declared.packet.Waiting.{Waiting}
use Rattle.packet_core.specs.declared.params.Classify.{Classify}
use Rattle.packet_core.specs.declared.params.Classify.TheVariants.{Dport, Hash}
use Rattle.packet_core.specs.declared.params.ParamFields.{ParamFields}
use Rattle.codel_core.specs.Queue.{bytes_of}
use Rattle.flow_core.specs.FlowLists.{waiting_in}
use Rattle.journal_core.specs.declared.step.Step.{Step}
use Rattle.fair_core.specs.FairQueues.{FairQueues, no_queues, queue_of}
use Rattle.fair_core.specs.FqCodel.{fq_codel, fq_codel_policy}
use Rattle.journal_core.specs.Happened.{acceptances, fate_ids, is_among, waiting_of, without_fate}
use Rattle.journal_core.specs.JournalLaws.{JournalLaws, WaitWithoutFate}
use Rattle.journal_core.specs.Losses.{AreGivenBackOnce, lost_packets}
use Rattle.journal_core.specs.Runs.{Made, Runs, journal_of}
use Rattle.journal_core.specs.State.{State, opening_state}
use Rattle.journal_core.specs.Statistics.{statistics}
use Rattle.fair_core.proofs.FairFifo.{fair_is_fifo}
use Rattle.fair_core.proofs.FqCodelPolicy.{policy_drops}
use Rattle.journal_core.proofs.HistoryRuns.{run_laws}
use Rattle.journal_core.proofs.PacketsGivenBack.{given_back_once}
use Rattle.journal_core.proofs.ListLemmas.{ByRecursion-filter, ByRecursion-weaker, length_as_sum, sum_by_agree_on, ByRecursion-all}
use Rattle.fair_core.proofs.SoundFlows.{AreSoundFlows, opening_sound, runs_sound}
use Rattle.journal_core.proofs.WaitingPackets.{by_queues}

pub flow_below : (classify : Classify) (flows : ℕ) (seed : Seed) (tuple : FiveTuple) → 0 < flows → flow_number classify flows seed tuple < flows
flow_below Hash flows seed tuple some = mod_below (hash_value (hashed_message seed tuple)) flows some
flow_below Dport flows seed tuple some = mod_below tuple.dport flows some

module _ (p : ParamFields) (seed : Seed) where
  abbrev Run : List Step → List Made → State FairQueues → Type 0
  Run steps made new = Runs (fq_codel p seed) (opening_state (no_queues p.flows)) steps made new

  pub fq_codel_laws : (steps : List Step) (made : List Made) (new : State FairQueues) → Run steps made new → JournalLaws (fq_codel p seed).flow_of (journal_of made) × WaitWithoutFate (queue_of new.queues) (journal_of made)
  fq_codel_laws steps made new r = run_laws (fq_codel p seed) queue_of (fair_is_fifo (fq_codel_policy p) (policy_drops p) p.flows (flow_number p.classify p.flows seed)) steps made new r

module _ (p : ParamFields) (seed : Seed) (range : AreInRange p) where
  pub fq_codel_sound : (steps : List Step) (made : List Made) (new : State FairQueues) → Run p seed steps made new → AreSoundFlows p.flows new.queues
  fq_codel_sound steps made new r = runs_sound (fq_codel_policy p) range.quantum.0 (policy_drops p) p.flows (flow_number p.classify p.flows seed) (opening_state (no_queues p.flows)) new steps made r (opening_sound p.flows)

  -- sums over what waits are sums over what has no fate
  waiting_sum : (h : Waiting → ℕ) (steps : List Step) (made : List Made) (new : State FairQueues) → Run p seed steps made new → sum_by (λ q. sum_by h q) new.queues.lists.queues ≡ sum_by (λ a. h (waiting_of a)) (without_fate (journal_of made))
  waiting_sum h steps made new r =
      let held = fq_codel_laws p seed steps made new r in
      let flows = (fq_codel_sound steps made new r).as_many in
      let events = journal_of made in
      by_queues h 0 new.queues.lists.queues (without_fate events) (λ i below. rw (let e : 0 + i ≡ i = omega arith in e) (held.1 i))
      (ByRecursion-filter (λ a. (0 ≤ a.flow) × (a.flow < 0 + length new.queues.lists.queues)) (λ a. not (is_among (fate_ids events) a.id)) (acceptances events)
      (ByRecursion-weaker (λ a. a.flow ≡ (fq_codel p seed).flow_of a.packet.tuple) (λ a. (0 ≤ a.flow) × (a.flow < 0 + length new.queues.lists.queues)) (acceptances events)
      (λ a e. let low = flow_below p.classify p.flows seed a.packet.tuple range.flows.0 in omega arith)
      (recursion_from_All (λ a. a.flow ≡ (fq_codel p seed).flow_of a.packet.tuple) (acceptances events) held.0.flows_are_named)))

  pub queued_is_waiting : (steps : List Step) (made : List Made) (new : State FairQueues) → Run p seed steps made new → (statistics (journal_of made)).queued ≡ waiting_in new.queues.lists
  queued_is_waiting steps made new r =
      length_as_sum (without_fate (journal_of made))
      ∙ sym (waiting_sum (λ _. 1) steps made new r)
      ∙ sum_by_agree_on (λ q. sum_by (λ _. 1) q) length new.queues.lists.queues (ByRecursion-all (λ q. sum_by (λ _. 1) q ≡ length q) new.queues.lists.queues (λ q. sym (length_as_sum q)))

  pub queued_bytes_are_waiting : (steps : List Step) (made : List Made) (new : State FairQueues) → Run p seed steps made new → (statistics (journal_of made)).queued_bytes ≡ sum_by bytes_of new.queues.lists.queues
  queued_bytes_are_waiting steps made new r = sym (waiting_sum (λ w. w.packet.len) steps made new r)

  pub run_gives_back : (steps : List Step) (made : List Made) (new : State FairQueues) → Run p seed steps made new → AreGivenBackOnce new.queues.lists.queues (lost_packets (journal_of made)) (journal_of made)
  run_gives_back steps made new r =
      let held = fq_codel_laws p seed steps made new r in
      let flows = (fq_codel_sound steps made new r).as_many in
      given_back_once (fq_codel p seed).flow_of new.queues.lists.queues (journal_of made) (λ tuple. let low = flow_below p.classify p.flows seed tuple range.flows.0 in omega arith) held.0 held.1
