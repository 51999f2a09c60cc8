use Rattle.std.proofs.Common.{◌≡◌, ℕ, ◌+◌, ◌-◌, ◌/◌, ◌<◌, ◌≤◌, Bool, List, All, IsPermutation, arith, cond, count_by, drop, false, get_or, length, nat_lt, rules, ◌∙◌, take, get_or-drop, get_or-take, length-drop}
use Rattle.std.specs.List.Sorted.{IsNonDecreasingBy, IsSorted}
use Rattle.std.specs.Ordering.{nat_cmp}
use Rattle.std.proofs.lemmas.Bool.{le-ltb}
use Rattle.std.proofs.lemmas.List.{get_or_default, length-take-le}
use Rattle.std.proofs.lemmas.List.Elements.{Contains-get_or}
use Rattle.std.proofs.lemmas.List.Sorted.{All-permutation, Contains-permutation, IsNonDecreasingBy-from_sort, IsPermutation-sym, length_permutation, sum_by-IsPermutation}
use Rattle.std.proofs.lemmas.List.Sums.{count_by-le-length, sum_by-le, sum_by-take-drop}
use Rattle.bench.specs.Times.{Summarizes}
use Rattle.bench.proofs.times.Times.of.Goals as goal

-- none is counted where none passes
count_none : (p : ℕ → Bool) (xs : List ℕ) → All (λ x. p x ≡ false) xs → count_by p xs ≤ 0
count_none p xs fail =
    omega (arith, sum_by-le (λ x. cond (p x) 1 0) 0 xs (λ k none within. rw (fail k none within) omega arith))

-- where none passes from a place on, at most those before it do
count_before : (p : ℕ → Bool) (xs : List ℕ) (place : ℕ) → place ≤ length xs → ((k : ℕ) (none : ℕ) → place ≤ k → k < length xs → p (get_or xs k none) ≡ false) → count_by p xs ≤ place
count_before p xs place within fail =
    let none : count_by p (drop place xs) ≤ 0 = count_none p (drop place xs) (λ k none below. rw (get_or-drop place xs k none) (fail (place + k) none (omega arith) (omega (arith, rw (length-drop place xs) at below)))) in
    let some : count_by p (take place xs) ≤ place = rw (length-take-le place xs within) at (count_by-le-length p (take place xs)) in
    omega (arith, none, some, sum_by-take-drop (λ x. cond (p x) 1 0) xs place)

-- where none passes up to a place, at most those behind it do
count_behind : (p : ℕ → Bool) (xs : List ℕ) (place : ℕ) → place ≤ length xs → ((k : ℕ) (none : ℕ) → k < place → p (get_or xs k none) ≡ false) → count_by p xs ≤ length xs - place
count_behind p xs place within fail =
    let none : count_by p (take place xs) ≤ 0 = count_none p (take place xs) (λ k none below. let early : k < place = rw (length-take-le place xs within) at below in rw (get_or-take place xs k none early) (fail k none early)) in
    let some : count_by p (drop place xs) ≤ length xs - place = rw (length-drop place xs) at (count_by-le-length p (drop place xs)) in
    omega (arith, none, some, sum_by-take-drop (λ x. cond (p x) 1 0) xs place)

-- the first and the middle one of the times in order
summarizes : (times ordered : List ℕ) → IsPermutation times ordered → IsSorted nat_cmp ordered → 0 < length ordered → Summarizes times (record { least = get_or ordered 0 0; median = get_or ordered (length ordered / 2) 0 })
summarizes times ordered same sorted some =
    let rises : IsNonDecreasingBy (λ x. x) ordered = IsNonDecreasingBy-from_sort (λ x. x) ordered sorted in
    let back : IsPermutation ordered times = IsPermutation-sym times ordered same in
    let long : length ordered ≡ length times = length_permutation times ordered same in
    let place : ℕ = length ordered / 2 in
    let median : ℕ = get_or ordered place 0 in
    let middle : place < length ordered = omega (arith, some) in
    record {
      has_least = Contains-permutation ordered times (get_or ordered 0 0) back (Contains-get_or ordered 0 0 some);
      none_less = All-permutation (λ time. get_or ordered 0 0 ≤ time) ordered times back (λ k none within. rw (get_or_default ordered k none 0 within) (rises 0 k 0 (omega arith) within));
      has_median = Contains-permutation ordered times (get_or ordered (length ordered / 2) 0) back (Contains-get_or ordered (length ordered / 2) 0 middle);
      half_below = omega (arith, long, sum_by-IsPermutation (λ x. cond (nat_lt x median) 1 0) times ordered same, count_before (λ x. nat_lt x median) ordered place (omega (arith, middle)) (λ k none from within. le-ltb (get_or ordered k none) median (rw (get_or_default ordered k none 0 within) (rises place k 0 from within))));
      half_above = omega (arith, long, sum_by-IsPermutation (λ x. cond (nat_lt median x) 1 0) times ordered same, count_behind (λ x. nat_lt median x) ordered (place + 1) (omega (arith, middle)) (λ k none before. le-ltb median (get_or ordered k none) (rw (get_or_default ordered k none 0 (omega (arith, before, middle))) (rises k place 0 (omega (arith, before)) middle))));
    }

pub returns-clause-some : goal.returns-clause-some
returns-clause-some c =
    let items = c.sort_unstable.new.self.items in
    let some : 0 < length items = search rules in
    let first : c.index.result.now ≡ get_or items 0 0 = c.index.ensures ∙ get_or_default items 0 c.index.result.now 0 some in
    let middle : c.index-2.result.now ≡ get_or items (length items / 2) 0 = (rw (c.len-middle.ensures, c.sort_unstable.new.self.ok.0) at c.index-2.ensures) ∙ get_or_default items (length items / 2) c.index-2.result.now 0 (omega (arith, some)) in
    rw (first, middle) (summarizes c.args.times.items items c.sort_unstable.ensures.permutation c.sort_unstable.ensures.sorted some)
