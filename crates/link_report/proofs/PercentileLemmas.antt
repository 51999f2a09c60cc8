-- Members of a list that ascends, counted.
use Rattle.std.proofs.Common.{◌≡◌, ℕ, zero, suc, ◌+◌, ◌*◌, ◌/◌, ◌%◌, ◌-◌, ◌<◌, ◌≤◌, ◌⊎◌, Bool, true, false, cond, List, [], ◌∷◌, leb, get_or, length, take, filter, fold, min, refl, sym, ap, ◌∙◌, inl, inr, arith, add-one}
use Rattle.std.specs.Prelude.{Contains, count_by}
use Rattle.std.proofs.Math.Nat.{mul_comm, mul-le-mul_left}
use Rattle.std.specs.List.Sorted.{IsNonDecreasing, IsPermutation}
use Rattle.std.proofs.lemmas.Bool.{cases_Bool, cases_lt, le-leb, leb-true, lt-leb}
use Rattle.std.proofs.lemmas.List.{take_all, length-take-le}
use Rattle.std.proofs.lemmas.Grind.{get_or_default_zero}
use Rattle.std.proofs.lemmas.List.Elements.{Contains-get_or}
use Rattle.std.proofs.lemmas.List.Sorted.{Contains-permutation, IsPermutation-sym, length_permutation, sum_by-IsPermutation}
use Rattle.std.proofs.lemmas.List.Sums.{count_by-le-length, count_by_more_no, count_by_more_yes, sum_by-take-le}
use Rattle.link_report.specs.Percentiles.{IsPercentile, at_most, percentile_of, least_of}

module _ (xs : List ℕ) (up : IsNonDecreasing xs) where
  -- of the first members, all are at most a later one
  counted : (bound i k : ℕ) → i < length xs → bound ≡ get_or xs i 0 → k ≤ i + 1 → at_most (take k xs) bound ≡ k
  counted bound i zero low is within = refl
  counted bound i (suc k) low is within =
      let here : get_or xs k 0 ≤ bound = omega (arith, up k i 0 (omega arith) low) in
      let more : at_most (take (k + 1) xs) bound ≡ k + 1 = count_by_more_yes (λ m. leb m bound) xs k 0 (omega arith) (le-leb (get_or xs k 0) bound here) ∙ ap (λ n. n + 1) (counted bound i k low is (omega arith)) in
      rw (add-one k) at more

  -- so a member has at least as many at most it as stand up to its place
  pub many : (i : ℕ) → i < length xs → i + 1 ≤ at_most xs (get_or xs i 0)
  many i low = omega (arith, counted (get_or xs i 0) i (i + 1) low refl (omega arith), sum_by-take-le (λ m. cond (leb m (get_or xs i 0)) 1 0) xs (i + 1))

  -- from a greater member on, none is at most the lesser one
  none_more : (bound i k j : ℕ) → j ≡ i + k → bound < get_or xs i 0 → j ≤ length xs → at_most (take j xs) bound ≡ at_most (take i xs) bound
  none_more bound i zero j is above within = let same : j ≡ i = omega arith in ap (λ n. at_most (take n xs) bound) same
  none_more bound i (suc k) j is above within =
      let same : j ≡ i + k + 1 = omega arith in
      let here : bound < get_or xs (i + k) 0 = omega (arith, up i (i + k) 0 (omega arith) (omega arith)) in
      ap (λ n. at_most (take n xs) bound) same ∙ count_by_more_no (λ m. leb m bound) xs (i + k) 0 (omega arith) (lt-leb (get_or xs (i + k) 0) bound here)
      ∙ none_more bound i k (i + k) refl above (omega arith)

  -- so a lesser one has at most as many as stand before the greater one
  pub few : (bound i : ℕ) → i < length xs → bound < get_or xs i 0 → at_most xs bound ≤ i
  few bound i low above =
      let all = none_more bound i (length xs - i) (length xs) (omega arith) above (omega arith) in
      let whole : take (length xs) xs ≡ xs = take_all (length xs) xs (omega arith) in
      let same : at_most xs bound ≡ at_most (take i xs) bound = ap (λ l. at_most l bound) (sym whole) ∙ all in
      omega (arith, same, count_by-le-length (λ m. leb m bound) (take i xs), length-take-le i xs (omega arith))

  -- the member at the rank
  pub percentile_at : (percent i value : ℕ) → i < length xs → value ≡ get_or xs i 0 → percent * length xs ≤ 100 * (i + 1) → (i ≡ 0) ⊎ (100 * i < percent * length xs) → IsPercentile percent xs value
  percentile_at percent i value low is enough rank = rw is (record {
    member = Contains-get_or xs i 0 low;
    enough = omega (arith, many i low);
    least = λ other has passes. by other has passes (cases_lt other (get_or xs i 0));
  })
    where
      by : (other : ℕ) → Contains xs other → percent * length xs ≤ 100 * at_most xs other → (other < get_or xs i 0) ⊎ (get_or xs i 0 ≤ other) → get_or xs i 0 ≤ other
      by other has passes (inr above) = above
      by other has passes (inl below) =
          let fewer = few other i low below in
          elim rank [
            | inl first ↦ absurd (lowest other has below first)
            | inr late ↦ absurd (omega arith)
          ]
        where
          lowest : (other : ℕ) → Contains xs other → other < get_or xs i 0 → i ≡ 0 → ⊥
          lowest other has below first = let at = has.2 in let within = has.1 in omega (arith, up i has.0 other (omega arith) within, at, get_or_default_zero xs i other low)

-- the same of the members in another order
pub percentile_permuted : (percent : ℕ) (xs ys : List ℕ) (value : ℕ) → IsPermutation xs ys → IsPercentile percent ys value → IsPercentile percent xs value
percentile_permuted percent xs ys value moves p =
    let back = IsPermutation-sym xs ys moves in
    let len = length_permutation xs ys moves in
    record {
      member = Contains-permutation ys xs value back p.member;
      enough = omega (arith, p.enough, ap (λ n. percent * n) len, sum_by-IsPermutation (λ m. cond (leb m value) 1 0) xs ys moves);
      least = λ other has passes. p.least other (Contains-permutation xs ys other moves has) (omega (arith, passes, ap (λ n. percent * n) len, sum_by-IsPermutation (λ m. cond (leb m other) 1 0) xs ys moves));
    }

-- The least of the members that pass a test.
module _ (test : ℕ → Bool) (value : ℕ) where
  abbrev AreAbove : List ℕ → Type 0
  AreAbove xs = (other : ℕ) → Contains xs other → test other ≡ true → value ≤ other

  above_rest : (x : ℕ) (xs : List ℕ) → AreAbove (x ∷ xs) → AreAbove xs
  above_rest x xs above = λ other has passes. above other (suc has.0, omega (arith, has.1), has.2) passes

  above_first : (x : ℕ) (xs : List ℕ) → AreAbove (x ∷ xs) → test x ≡ true → value ≤ x
  above_first x xs above passes = above x (0, omega arith, refl) passes

  stays : (xs : List ℕ) → AreAbove xs → fold min value (filter test xs) ≡ value
  stays [] above = refl
  stays (x ∷ xs) above = elim (cases_Bool (test x)) [
    | inl passes ↦
        let low = above_first x xs above passes in
        let same : min value x ≡ value = omega arith in
        rw passes (ap (λ a. fold min a (filter test xs)) same ∙ stays xs (above_rest x xs above))
    | inr fails ↦ rw fails (stays xs (above_rest x xs above))
  ]

  comes : (least : ℕ) (xs : List ℕ) → value ≤ least → Contains xs value → test value ≡ true → AreAbove xs → fold min least (filter test xs) ≡ value
  comes least [] low has passes above = let none = has.1 in absurd (omega arith)
  comes least (x ∷ xs) low (zero, within, is) passes above =
      let first : x ≡ value = is in
      let here : test x ≡ true = ap test first ∙ passes in
      let same : min least x ≡ value = omega arith in
      rw here (ap (λ a. fold min a (filter test xs)) same ∙ stays xs (above_rest x xs above))
  comes least (x ∷ xs) low (suc k, within, is) passes above =
      let rest : Contains xs value = (k, omega arith, is) in
      elim (cases_Bool (test x)) [
        | inl here ↦ let first = above_first x xs above here in rw here (comes (min least x) xs (omega arith) rest passes (above_rest x xs above))
        | inr fails ↦ rw fails (comes least xs low rest passes (above_rest x xs above))
      ]

  pub least_is : (xs : List ℕ) → Contains xs value → test value ≡ true → AreAbove xs → least_of (filter test xs) ≡ value
  least_is [] has passes above = let none = has.1 in absurd (omega arith)
  least_is (x ∷ xs) (zero, within, is) passes above =
      let first : x ≡ value = is in
      let here : test x ≡ true = ap test first ∙ passes in
      rw here (ap (λ a. fold min a (filter test xs)) first ∙ stays xs (above_rest x xs above))
  least_is (x ∷ xs) (suc k, within, is) passes above =
      let rest : Contains xs value = (k, omega arith, is) in
      elim (cases_Bool (test x)) [
        | inl here ↦ rw here (comes x xs (above_first x xs above here) rest passes (above_rest x xs above))
        | inr fails ↦ rw fails (least_is xs rest passes (above_rest x xs above))
      ]

-- The definition by counting gives that value.
pub percentile_is : (percent : ℕ) (xs : List ℕ) (value : ℕ) → IsPercentile percent xs value → percentile_of percent xs ≡ value
percentile_is percent xs value p =
    least_is (λ m. leb (percent * length xs) (100 * at_most xs m)) value xs p.member (le-leb (percent * length xs) (100 * at_most xs value) p.enough)
    (λ other has passes. p.least other has (leb-true (percent * length xs) (100 * at_most xs other) passes))

-- The rank of a percentile in an ascending list.
pub rank_is : (n p w r i : ℕ) → w ≡ n * p → r ≡ w / 100 + min 1 (w % 100) → i ≡ r - 1 → 0 < n → p ≤ 100 → (i < n) × (p * n ≤ 100 * (i + 1)) × ((i ≡ 0) ⊎ (100 * i < p * n))
rank_is n p w r i of_all rank place some percent =
    let most : n * p ≤ n * 100 = mul-le-mul_left n percent in
    let other : p * n ≡ n * p = mul_comm p n in
    (omega arith, omega arith, by (cases_lt 0 w))
  where
    by : (0 < w) ⊎ (w ≤ 0) → (i ≡ 0) ⊎ (100 * i < p * n)
    by (inl more) = let other : p * n ≡ n * p = mul_comm p n in inr (omega arith)
    by (inr none) = inl (omega arith)
