-- What is left of queues of which packets are taken out.
use Rattle.std.proofs.Common.{◌≡◌, ℕ, zero, suc, ◌<◌, List, [], ◌∷◌, ◌++◌, Some, drop, get_or, length, refl, arith}
use Rattle.std.specs.Prelude.{set, slice_get, sum_by}
use Rattle.std.specs.List.{flat_map}
use Rattle.std.specs.List.Sorted.{IsPermutation}
use Rattle.std.proofs.lemmas.List.Sorted.{IsPermutation-append, IsPermutation-middle, IsPermutation-refl, IsPermutation-trans}
use Rattle.std.proofs.lemmas.List.Sums.{sum_by-cons}
use Rattle.packet_core.specs.declared.packet.Waiting.{Waiting}
use Rattle.sched_core.specs.Remaining.{GivesHead}

-- The head of a queue is taken out: the others are left.
pub taken_out : (queues : List (List Waiting)) (flow : ℕ) (w : Waiting) (rest : List Waiting) → flow < length queues → get_or queues flow [] ≡ w ∷ rest
    → IsPermutation (flat_map (λ q. q) queues) (w ∷ flat_map (λ q. q) (set queues flow rest))
taken_out [] flow w rest within is = absurd (omega arith)
taken_out (q ∷ queues) zero w rest within is = rw is (IsPermutation-refl (w ∷ rest ++ flat_map (λ q. q) queues))
taken_out (q ∷ queues) (suc flow) w rest within is =
    let others = flat_map (λ q. q) (set queues flow rest) in
    IsPermutation-trans (q ++ flat_map (λ q. q) queues) (q ++ w ∷ others) (w ∷ q ++ others)
    (IsPermutation-append q q (flat_map (λ q. q) queues) (w ∷ others) (IsPermutation-refl q) (taken_out queues flow w rest (omega arith) is))
    (IsPermutation-middle q w others)

-- Where nothing waits, nothing is left.
pub none_left : (queues : List (List Waiting)) → sum_by length queues ≡ 0 → flat_map (λ q. q) queues ≡ []
none_left [] none = refl
none_left ([] ∷ queues) none = none_left queues (let sum = sum_by-cons (length {A = Waiting}) [] queues in omega arith)
none_left ((w ∷ q) ∷ queues) none = absurd (let sum = sum_by-cons (length {A = Waiting}) (w ∷ q) queues in omega arith)

-- The head of a queue is its first packet.
is_head : (q : List Waiting) (w : Waiting) → slice_get q 0 ≡ Some w → q ≡ w ∷ drop 1 q
is_head [] w is = absurd cc
is_head (v ∷ q) w is = cc is

-- So what is taken out is the head of that flow's queue.
pub head_given : (queues : List (List Waiting)) (flow : ℕ) (w : Waiting) → slice_get (get_or queues flow []) 0 ≡ Some w
    → GivesHead queues w (set queues flow (drop 1 (get_or queues flow [])))
head_given queues flow w is = (flow, is_head (get_or queues flow []) w is, refl)
