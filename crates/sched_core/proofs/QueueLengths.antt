-- While no packet of a flow has a fate, its queue does not get shorter.
use Rattle.std.proofs.Common.{◌≡◌, ℕ, ◌<◌, ◌≤◌, Bool, List, [], ◌++◌, Some, filter, length, map, sym, ap, subst, ◌∙◌, arith, append-nil, length-append}
use Rattle.packet_core.specs.declared.packet.FiveTuple.{FiveTuple}
use Rattle.packet_core.specs.declared.packet.Waiting.{Waiting}
use Rattle.journal_core.specs.declared.event.Event.{Event}
use Rattle.journal_core.proofs.FlowShares.{AreFound, of_flow, passes_stay}
use Rattle.journal_core.proofs.IdLemmas.{id_of, named_within}
use Rattle.journal_core.proofs.ListLemmas.{ByRecursion-parts, ByRecursion-weaker}
use Rattle.journal_core.proofs.Words.{AllByRecursion, Acceptance, IsHistory, IsLine, acceptance_of, acceptances, fate_ids, fate_of, filter-append, filter_map-append, length-map, named, passes, range_with_len, recursion_from_All, waiting_of}
use Rattle.sched_core.specs.Starvation.{fates_from}

all_found : (n : ℕ) (accepted : List Acceptance) (ids : List ℕ) → map id_of accepted ≡ range_with_len 0 n → AllByRecursion (λ id. id < n) ids → AreFound accepted ids
all_found n accepted ids are known = ByRecursion-weaker (λ id. id < n) (λ id. (a : Acceptance) × (named accepted id ≡ Some a)) ids (λ id below. named_within n accepted id are below) known

-- one flow's shares of a journal, and of a longer one
module _ (flow : ℕ) (accepted more : List Acceptance) (fated told : List ℕ) (found : AreFound accepted fated) (none : filter (passes (of_flow flow) (accepted ++ more)) told ≡ []) where
  line_longer : (queue queue' : List Waiting) → IsLine flow queue accepted fated → IsLine flow queue' (accepted ++ more) (fated ++ told) → length queue ≤ length queue'
  line_longer queue queue' line line' =
      let test = passes (of_flow flow) (accepted ++ more) in
      let gone : map id_of line'.gone ≡ map id_of line.gone =
      sym line'.fates ∙ filter-append test fated told ∙ (λ i. passes_stay (of_flow flow) accepted more fated found i ++ none i) ∙ append-nil (filter (passes (of_flow flow) accepted) fated) ∙ line.fates in
      let as_many : length line'.gone ≡ length line.gone = sym (length-map line'.gone id_of) ∙ ap length gone ∙ length-map line.gone id_of in
      let all = ap length line.split ∙ length-append line.gone line.rest in
      let all' = sym (length-append (filter (of_flow flow) accepted) (filter (of_flow flow) more)) ∙ ap length (sym (filter-append (of_flow flow) accepted more) ∙ line'.split) ∙ length-append line'.gone line'.rest in
      let waiting = ap length line.queue ∙ length-map line.rest waiting_of in
      let waiting' = ap length line'.queue ∙ length-map line'.rest waiting_of in
      omega arith

-- the same of two histories, where the packets' flows are told by more acceptances
pub history_longer : (flow_of : FiveTuple → ℕ) (queue_of queue_of' : ℕ → List Waiting) (events made : List Event) (n n' last last' : ℕ) (closed closed' : Bool) (accepted more : List Acceptance) (flow : ℕ)
    → IsHistory flow_of queue_of events n last closed → IsHistory flow_of queue_of' (events ++ made) n' last' closed'
    → accepted ≡ acceptances (events ++ made) ++ more → fates_from accepted flow made ≡ [] → length (queue_of flow) ≤ length (queue_of' flow)
history_longer flow_of queue_of queue_of' events made n n' last last' closed closed' accepted more flow h h' is none =
    let before = acceptances events in
    let after = acceptances made in
    let all_accepted : acceptances (events ++ made) ≡ before ++ after = filter_map-append acceptance_of events made in
    let all_fates : fate_ids (events ++ made) ≡ fate_ids events ++ fate_ids made = filter_map-append fate_of events made in
    let ids' : map id_of (before ++ after) ≡ range_with_len 0 n' = subst (λ l. map id_of l ≡ range_with_len 0 n') all_accepted h'.ids in
    let known' = (ByRecursion-parts (λ id. id < n') (fate_ids events) (fate_ids made) (subst (AllByRecursion (λ id. id < n')) all_fates (recursion_from_All (λ id. id < n') (fate_ids (events ++ made)) h'.known))).1 in
    let found = all_found n before (fate_ids events) h.ids (recursion_from_All (λ id. id < n) (fate_ids events) h.known) in
    let found' = all_found n' (before ++ after) (fate_ids made) ids' known' in
    let is' : accepted ≡ (before ++ after) ++ more = is ∙ ap (λ l. l ++ more) all_accepted in
    let none' : filter (passes (of_flow flow) (before ++ after)) (fate_ids made) ≡ [] = sym (passes_stay (of_flow flow) (before ++ after) more (fate_ids made) found') ∙ ap (λ l. fates_from l flow made) (sym is') ∙ none in
    let line' = subst (λ l. IsLine flow (queue_of' flow) l (fate_ids events ++ fate_ids made)) all_accepted (subst (λ ids. IsLine flow (queue_of' flow) (acceptances (events ++ made)) ids) all_fates (h'.lines flow)) in
    line_longer flow before after (fate_ids events) (fate_ids made) found none' (queue_of flow) (queue_of' flow) (h.lines flow) line'
