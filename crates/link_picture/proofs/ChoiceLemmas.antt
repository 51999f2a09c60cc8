-- The five-tuples that are chosen, one after another.
use Rattle.std.proofs.Common.{◌≡◌, ◌≢◌, ◌∙◌, ℕ, ◌+◌, ◌-◌, ◌^◌, ◌<◌, ◌≤◌, ◌==◌, cond, List, [], ◌∷◌, ◌++◌, Option, Some, None, get_or, set, take, length, min, sym, ap, inl, inr, arith}
use Rattle.std.specs.List.Sorted.{IsNonDecreasing, IsPermutation}
use Rattle.std.proofs.lemmas.Bool.{cases_eq, cases_lt, eq-eqb, ne_eqb}
use Rattle.std.proofs.lemmas.List.{get_or-set_same, get_or-set_other, length-set, length-take-le, length_push}
use Rattle.std.proofs.lemmas.List.Sorted.{length_permutation, sum_by-IsPermutation}
use Rattle.std.proofs.lemmas.List.Sums.{count_by-le-length, count_by_more_no, count_by_more_yes, sum_by_push}
use Rattle.link_report.specs.declared.packets.PacketRecord.{PacketRecord}
use Rattle.link_picture.specs.declared.lines.TheConstants.{MAX_NAMED}
use Rattle.link_picture.specs.Lines.{AreChosen, AreLineCounts, AreMost, AreNone, GoesBefore, IsPlaceOfMost, count_of, times_among}

-- one number more, which is that one or another
times_push : (xs : List ℕ) (x n : ℕ) → times_among (xs ++ x ∷ []) n ≡ times_among xs n + cond (x == n) 1 0
times_push xs x n = sum_by_push (λ m. cond (m == n) 1 0) xs x

times_same : (xs : List ℕ) (x n : ℕ) → x ≡ n → times_among (xs ++ x ∷ []) n ≡ times_among xs n + 1
times_same xs x n is = times_push xs x n ∙ ap (λ b. times_among xs n + cond b 1 0) (eq-eqb x n is)

times_other : (xs : List ℕ) (x n : ℕ) → x ≢ n → times_among (xs ++ x ∷ []) n ≡ times_among xs n
times_other xs x n other = times_push xs x n ∙ ap (λ b. times_among xs n + cond b 1 0) (ne_eqb x n other) ∙ omega arith

-- After so many turns some five-tuples were chosen, and the counts of these are 0.
pub record Choosing (tuples : ℕ) (packets : List PacketRecord) (turns : ℕ) (counts chosen : List ℕ) : Type 0 where
  pub long : length counts ≡ tuples
  pub few : length chosen ≤ turns
  pub left : (k : ℕ) → k < tuples → times_among chosen k ≡ 0 → get_or counts k 0 ≡ count_of packets k
  pub gone : (k : ℕ) → k < tuples → 0 < times_among chosen k → get_or counts k 0 ≡ 0
  pub once : (k : ℕ) → times_among chosen k ≤ 1
  pub some : (k : ℕ) → 0 < times_among chosen k → (k < tuples) × (0 < count_of packets k)
  pub first : (k other : ℕ) → 0 < times_among chosen k → other < tuples → times_among chosen other ≡ 0 → GoesBefore packets k other
  pub all : length chosen < turns → (other : ℕ) → other < tuples → times_among chosen other ≡ 0 → count_of packets other ≡ 0

pub begun : (tuples : ℕ) (packets : List PacketRecord) (counts chosen : List ℕ) → AreLineCounts tuples packets counts → chosen ≡ [] → Choosing tuples packets 0 counts chosen
begun tuples packets counts chosen are none =
    let never : (k : ℕ) → times_among chosen k ≡ 0 = λ k. ap (λ l. times_among l k) none in
    let short : length chosen ≡ 0 = ap length none in
    record {
      long = are.long;
      few = omega arith;
      left = λ k low free. are.each k low;
      gone = λ k low taken. absurd (omega (arith, never k));
      once = λ k. omega (arith, never k);
      some = λ k taken. absurd (omega (arith, never k));
      first = λ k other taken low free. absurd (omega (arith, never k));
      all = λ fewer other low free. absurd (omega arith);
    }

-- where no count is left none is chosen
pub stays : (tuples : ℕ) (packets : List PacketRecord) (turns : ℕ) (counts chosen : List ℕ) → Choosing tuples packets turns counts chosen → AreNone counts → Choosing tuples packets (turns + 1) counts chosen
stays tuples packets turns counts chosen so none =
    let long = so.long in
    let few = so.few in
    record {
      long = so.long;
      few = omega arith;
      left = so.left;
      gone = so.gone;
      once = so.once;
      some = so.some;
      first = so.first;
      all = λ fewer other low free. sym (so.left other low free) ∙ none other (omega arith);
    }

module _ (tuples : ℕ) (packets : List PacketRecord) (turns : ℕ) (counts chosen : List ℕ) (so : Choosing tuples packets turns counts chosen) (place : ℕ) (most : IsPlaceOfMost counts place) where
  own_low : place < tuples
  own_low = let long = so.long in let within = most.within in omega arith

  -- the place of the greatest count wasn't chosen before
  own_free : times_among chosen place ≡ 0
  own_free =
      let some = most.some in
      elim (cases_lt 0 (times_among chosen place)) [
        | inl taken ↦ absurd (omega (arith, so.gone place own_low taken))
        | inr none ↦ omega arith
      ]

  own_count : get_or counts place 0 ≡ count_of packets place
  own_count = so.left place own_low own_free

  left_free : (k : ℕ) → times_among (chosen ++ place ∷ []) k ≡ 0 → (place ≢ k) × (times_among chosen k ≡ 0)
  left_free k free =
      elim (cases_eq place k) [
        | inl same ↦ absurd (omega (arith, times_same chosen place k same))
        | inr other ↦ (other, sym (times_other chosen place k other) ∙ free)
      ]

  left_new : (k : ℕ) → k < tuples → times_among (chosen ++ place ∷ []) k ≡ 0 → get_or (set counts place 0) k 0 ≡ count_of packets k
  left_new k low free =
      let parts = left_free k free in
      get_or-set_other counts place k 0 0 (λ e. parts.0 (sym e)) ∙ so.left k low parts.1

  gone_new : (k : ℕ) → k < tuples → 0 < times_among (chosen ++ place ∷ []) k → get_or (set counts place 0) k 0 ≡ 0
  gone_new k low taken =
      elim (cases_eq place k) [
        | inl same ↦ ap (λ n. get_or (set counts place 0) n 0) (sym same) ∙ get_or-set_same counts place 0 0 most.within
        | inr other ↦ get_or-set_other counts place k 0 0 (λ e. other (sym e)) ∙ so.gone k low (omega (arith, times_other chosen place k other))
      ]

  once_new : (k : ℕ) → times_among (chosen ++ place ∷ []) k ≤ 1
  once_new k =
      elim (cases_eq place k) [
        | inl same ↦
            let free : times_among chosen k ≡ 0 = ap (times_among chosen) (sym same) ∙ own_free in
            omega (arith, times_same chosen place k same)
        | inr other ↦ omega (arith, times_other chosen place k other, so.once k)
      ]

  some_new : (k : ℕ) → 0 < times_among (chosen ++ place ∷ []) k → (k < tuples) × (0 < count_of packets k)
  some_new k taken =
      elim (cases_eq place k) [
        | inl same ↦
            let some = most.some in
            let counted : 0 < count_of packets place = omega (arith, own_count) in
            (omega (arith, own_low), rw (← same) counted)
        | inr other ↦ so.some k (omega (arith, times_other chosen place k other))
      ]

  own_first : (other : ℕ) → other < tuples → place ≢ other → times_among chosen other ≡ 0 → GoesBefore packets place other
  own_first other low apart free =
      let long = so.long in
      let here = so.left other low free in
      let least = most.most other (omega arith) in
      elim (cases_lt (get_or counts other 0) (get_or counts place 0)) [
        | inl less ↦ inl (omega (arith, own_count))
        | inr equal ↦ inr (
          omega (arith, own_count),
          elim (cases_lt other place) [
            | inl before ↦ absurd (omega (arith, most.first other before))
            | inr after ↦ omega arith
          ],
        )
      ]

  first_new : (k other : ℕ) → 0 < times_among (chosen ++ place ∷ []) k → other < tuples → times_among (chosen ++ place ∷ []) other ≡ 0 → GoesBefore packets k other
  first_new k other taken low free =
      let parts = left_free other free in
      elim (cases_eq place k) [
        | inl same ↦ rw (← same) (own_first other low parts.0 parts.1)
        | inr apart ↦ so.first k other (omega (arith, times_other chosen place k apart)) low parts.1
      ]

  -- one five-tuple more is chosen
  pub chooses : Choosing tuples packets (turns + 1) (set counts place 0) (chosen ++ place ∷ [])
  chooses =
      let longer = length_push chosen place in
      let few = so.few in
      record {
        long = length-set counts place 0 ∙ so.long;
        few = omega arith;
        left = left_new;
        gone = gone_new;
        once = once_new;
        some = some_new;
        first = first_new;
        all = λ fewer other low free. so.all (omega arith) other low (left_free other free).1;
      }

pub done : (tuples : ℕ) (packets : List PacketRecord) (turns : ℕ) (counts chosen : List ℕ) → Choosing tuples packets turns counts chosen → turns ≡ MAX_NAMED → AreMost tuples packets chosen
done tuples packets turns counts chosen so is =
    let few = so.few in
    record {
      few = omega arith;
      once = so.once;
      some = so.some;
      first = so.first;
      all = λ fewer other low free. so.all (omega arith) other low free;
    }

-- the same in another order
pub in_order : (tuples : ℕ) (packets : List PacketRecord) (old new : List ℕ) → AreMost tuples packets old → IsPermutation old new → IsNonDecreasing new → AreChosen tuples packets new
in_order tuples packets old new are same up =
    let few = are.few in
    let long = length_permutation old new same in
    let often : (k : ℕ) → times_among new k ≡ times_among old k = λ k. sum_by-IsPermutation (λ m. cond (m == k) 1 0) old new same in
    record {
      most = record {
        few = omega arith;
        once = λ k. omega (arith, often k, are.once k);
        some = λ k taken. are.some k (omega (arith, often k));
        first = λ k other taken low free. are.first k other (omega (arith, often k)) low (sym (often other) ∙ free);
        all = λ fewer other low free. are.all (omega arith) other low (sym (often other) ∙ free);
      };
      ascending = up;
    }

-- the counts of no packet, and those of one more
pub counts_none : (tuples : ℕ) (counts : List ℕ) → length counts ≡ tuples → AreNone counts → AreLineCounts tuples [] counts
counts_none tuples counts long none = record { long = long; each = λ k low. none k (omega arith) }

pub counts_more : (tuples i : ℕ) (packets : List PacketRecord) (d : PacketRecord) (counts : List ℕ) (n : ℕ) → i < length packets → AreLineCounts tuples (take i packets) counts → ((get_or packets i d).tuple < tuples → n ≡ count_of (take i packets) (get_or packets i d).tuple + 1)
    → AreLineCounts tuples (take (i + 1) packets) (set counts (get_or packets i d).tuple n)
counts_more tuples i packets d counts n low are is =
    let tuple = (get_or packets i d).tuple in
    let long = are.long in
    record {
      long = length-set counts tuple n ∙ are.long;
      each = λ k within. elim (cases_eq tuple k) [
        | inl same ↦
            let inside : tuple < tuples = omega arith in
            let yes = count_by_more_yes (λ (p : PacketRecord). p.tuple == k) packets i d low (eq-eqb tuple k same) in
            let here : n ≡ count_of (take (i + 1) packets) k = is inside ∙ ap (λ m. count_of (take i packets) m + 1) same ∙ sym yes in
            ap (λ m. get_or (set counts tuple n) m 0) (sym same) ∙ get_or-set_same counts tuple n 0 (omega arith) ∙ here
        | inr other ↦
            let no = count_by_more_no (λ (p : PacketRecord). p.tuple == k) packets i d low (ne_eqb tuple k other) in
            get_or-set_other counts tuple k n 0 (λ e. other (sym e)) ∙ are.each k within ∙ sym no
      ];
    }

-- the greatest number so far, and its first place
abbrev pub MostSoFar : List ℕ → ℕ → ℕ → Option ℕ → Type 0
MostSoFar xs i most None = (most ≡ 0) × ((k : ℕ) → k < i → get_or xs k 0 ≡ 0)
MostSoFar xs i most (Some place) =
    (place < i) × (0 < most) × (most ≡ get_or xs place 0) × ((k : ℕ) → k < i → get_or xs k 0 ≤ most) × ((k : ℕ) → k < place → get_or xs k 0 < most)

-- the turn of the loop over packets
pub counts_turn : (tuples i : ℕ) (packets : List PacketRecord) (d : PacketRecord) (old new : List ℕ) → i < length packets → length packets < 2 ^ 63 → AreLineCounts tuples (take i packets) old → new ≡ set old (get_or packets i d).tuple (min (get_or old (get_or packets i d).tuple 0 + 1) (2 ^ 64 - 1)) → AreLineCounts tuples (take (i + 1) packets) new
counts_turn tuples i packets d old new low short are is =
    rw is (counts_more tuples i packets d old (min (get_or old (get_or packets i d).tuple 0 + 1) (2 ^ 64 - 1)) low are (λ inside.
    let test = λ (p : PacketRecord). p.tuple == (get_or packets i d).tuple in
    let now = are.each (get_or packets i d).tuple inside in
    let few = count_by-le-length test (take i packets) in
    let long = length-take-le i packets (omega arith) in
    omega arith))
