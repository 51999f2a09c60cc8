-- Flows in the lists: the one at the head, one that comes to an end of them, and one that is in none.
use Rattle.std.proofs.Common.{append-nil, ◌≡◌, ℕ, List, [], ◌∷◌, ◌++◌, Some, refl, subst, ◌≢◌, ◌<◌, true, false, All, eqb, pos, sym, inl, inr, suc, set, arith}
use Rattle.packet_core.specs.declared.packet.Waiting.{Waiting}
use Rattle.flow_core.specs.FlowLists.{FlowLists, AreDistinct, queue_at}
use Rattle.fair_core.specs.declared.fair_queue.FlowList.TheVariants.{New, Old}
use Rattle.fair_core.specs.declared.fair_queue.Head.{Head}
use Rattle.fair_core.specs.FairQueues.{head_of_lists, unlisted, FairQueues, flow_state_at}
use Rattle.std.specs.List.{AllByRecursion, list_any, Contains}
use Rattle.std.proofs.lemmas.Bool.{cases_Bool, cases_eq, eq-eqb, ne_eqb}
use Rattle.std.proofs.lemmas.List.Elements.{All-from_recursion, recursion_from_All}
use Rattle.fair_core.specs.FairQueueing.{is_listed}
use Rattle.journal_core.proofs.ListLemmas.{ByRecursion-append, ByRecursion-parts}
use Rattle.packet_core.specs.declared.params.ParamFields.{ParamFields}
use Rattle.fair_core.specs.HeldQueues.{with_arrival_listed}

abbrev pub IsHead : FlowLists → Head → Type 0
IsHead lists head = head_of_lists lists.new_flows lists.old_flows ≡ Some head

-- what holds of a new flow at the head, and of an old one where there are no new flows, holds of every head
pub by_head : (P : FlowLists → Head → Type 0)
    → ((queues : List (List Waiting)) (flow : ℕ) (rest old : List ℕ) → P (record { queues = queues; new_flows = flow ∷ rest; old_flows = old }) (record { flow = flow; from = New }))
    → ((queues : List (List Waiting)) (flow : ℕ) (rest : List ℕ) → P (record { queues = queues; new_flows = []; old_flows = flow ∷ rest }) (record { flow = flow; from = Old }))
    → (lists : FlowLists) (head : Head) → IsHead lists head → P lists head
by_head P of_new of_old lists head at = go lists.new_flows lists.old_flows at
  where
    go : (new old : List ℕ) → head_of_lists new old ≡ Some head → P (record { queues = lists.queues; new_flows = new; old_flows = old }) head
    go (flow ∷ rest) old is = let e : record { flow = flow; from = New } ≡ head = cc in subst (P (record { queues = lists.queues; new_flows = flow ∷ rest; old_flows = old })) e (of_new lists.queues flow rest old)
    go [] (flow ∷ rest) is = let e : record { flow = flow; from = Old } ≡ head = cc in subst (P (record { queues = lists.queues; new_flows = []; old_flows = flow ∷ rest })) e (of_old lists.queues flow rest)
    go [] [] is = absurd cc

-- the flows that are listed behind the head
abbrev pub others : FlowLists → Head → List ℕ
others lists head = (unlisted lists head).new_flows ++ (unlisted lists head).old_flows

pub listed_from_head : (lists : FlowLists) (head : Head) → IsHead lists head → lists.new_flows ++ lists.old_flows ≡ head.flow ∷ others lists head
listed_from_head = by_head (λ lists head. lists.new_flows ++ lists.old_flows ≡ head.flow ∷ others lists head) (λ queues flow rest old. refl) (λ queues flow rest. refl)

-- a number that is not among others is apart from each of them
pub apart_from_any : (flow : ℕ) (flows : List ℕ) → list_any (λ other. eqb other flow) flows ≡ false → AllByRecursion (λ other. other ≢ flow) flows
apart_from_any flow [] none = tt
apart_from_any flow (other ∷ flows) none =
    elim (cases_eq other flow) [
      | inl same ↦ let e : true ≡ false = rw (eq-eqb other flow same) at none in absurd cc
      | inr differs ↦ (differs, apart_from_any flow flows (rw (ne_eqb other flow differs) at none))
    ]

-- and may stand between them
pub distinct_between : (flow : ℕ) (ms ns : List ℕ) → AllByRecursion (λ other. other ≢ flow) (ms ++ ns) → AreDistinct (ms ++ ns) → AreDistinct (ms ++ flow ∷ ns)
distinct_between flow [] ns apart once = (All-from_recursion (λ other. other ≢ flow) ns apart, once)
distinct_between flow (m ∷ ms) ns apart once =
    let parts = ByRecursion-parts (λ other. other ≢ m) ms ns (recursion_from_All (λ other. other ≢ m) (ms ++ ns) once.0) in
    let with' : AllByRecursion (λ other. other ≢ m) (ms ++ flow ∷ ns) = ByRecursion-append (λ other. other ≢ m) ms (flow ∷ ns) parts.0 ((λ e. apart.0 (sym e)), parts.1) in
    (All-from_recursion (λ other. other ≢ m) (ms ++ flow ∷ ns) with', distinct_between flow ms ns apart.1 once.1)

-- so also at the end
pub distinct_push : (flow : ℕ) (ns : List ℕ) → All (λ other. other ≢ flow) ns → AreDistinct ns → AreDistinct (ns ++ flow ∷ [])
distinct_push flow ns apart once = distinct_between flow ns [] (rw (append-nil ns) (recursion_from_All (λ other. other ≢ flow) ns apart)) (rw (append-nil ns) once)

pub within_between : (most flow : ℕ) (ms ns : List ℕ) → flow < most → All (λ other. other < most) (ms ++ ns) → All (λ other. other < most) (ms ++ flow ∷ ns)
within_between most flow ms ns below h =
    let parts = ByRecursion-parts (λ other. other < most) ms ns (recursion_from_All (λ other. other < most) (ms ++ ns) h) in
    All-from_recursion (λ other. other < most) (ms ++ flow ∷ ns) (ByRecursion-append (λ other. other < most) ms (flow ∷ ns) parts.0 (below, parts.1))

any_contains : (flow : ℕ) (flows : List ℕ) → list_any (λ other. eqb other flow) flows ≡ true → Contains flows flow
any_contains flow [] is = absurd cc
any_contains flow (other ∷ flows) is =
    elim (cases_eq other flow) [
      | inl same ↦ (0, omega arith, same)
      | inr differs ↦ let behind = any_contains flow flows (rw (ne_eqb other flow differs) at is) in let below = behind.1 in (suc behind.0, omega arith, behind.2)
    ]

-- a packet of a flow in no list
pub arrival_listed : (p : ParamFields) (s : FairQueues) (flow : ℕ) (w : Waiting) → (Contains (s.lists.new_flows ++ s.lists.old_flows) flow → ⊥)
    → with_arrival_listed p s flow w
    ≡ record {
      lists = record s.lists { queues = set s.lists.queues flow (queue_at s.lists flow ++ w ∷ []); new_flows = s.lists.new_flows ++ flow ∷ [] };
      flow_states = set s.flow_states flow (record (flow_state_at s flow) { credits = pos p.quantum });
    }
arrival_listed p s flow w absent =
    elim (cases_Bool (is_listed s flow)) [
      | inl t ↦ absurd (absent (any_contains flow (s.lists.new_flows ++ s.lists.old_flows) t))
      | inr f ↦ rw f refl
    ]
