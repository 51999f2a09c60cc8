-- The rows of a bin, and the walk over bins.
use Rattle.std.proofs.Common.{◌≡◌, ◌≢◌, ◌∙◌, ℕ, zero, suc, ◌+◌, ◌-◌, ◌*◌, ◌^◌, ◌<◌, ◌≤◌, ◌==◌, Bool, true, false, cond, nat_lt, List, [], ◌∷◌, ◌++◌, Option, Some, None, append-nil, append_assoc, arith, ap, get_or, inl, inr, length, map, min, refl, set, subst, sym, take}
use Rattle.std.specs.Prelude.{filter, slice_get}
use Rattle.std.specs.List.{range_with_len}
use Rattle.std.specs.List.Sorted.{IsNonDecreasing, IsPermutation}
use Rattle.std.proofs.lemmas.Bool.{cases_Bool, cases_eq, cases_lt, eq-eqb, lt-ltb, ne_eqb}
use Rattle.std.proofs.lemmas.List.{ext_get_or, get_or-set_other, get_or-set_same, get_or_past, length-map, length-set, take_more}
use Rattle.std.proofs.lemmas.List.Elements.{filter_more}
use Rattle.std.proofs.lemmas.List.Sorted.{sum_by-IsPermutation}
use Rattle.std.proofs.lemmas.List.Sums.{fold_more, get_or-le-sum_by, sum_by-cons, sum_by_more_le, sum_by_push}
use Rattle.journal_core.specs.declared.event.Event.{Event}
use Rattle.journal_core.specs.declared.event.Event.TheVariants.{Accepted, Sent, Dropped, Closed}
use Rattle.link_report.specs.declared.packets.PacketRecord.{PacketRecord}
use Rattle.link_report.specs.declared.series.Happenings.{Happenings}
use Rattle.link_report.specs.declared.series.Series.{Series}
use Rattle.link_report.specs.declared.table.Queue.{Queue}
use Rattle.link_report.specs.declared.table.Table.{Table}
use Rattle.link_report.specs.Series.{bin_at}
use Rattle.link_report.specs.SeriesTables.{AreRows, HasRowsBefore, IsIn, Walk, begins, begun, ended, later, lines_at, noted, noted_of, nothing, of_number, on_to, series_line, still_waiting, times, walked, walk_with_event, numbers_with_row}
use Rattle.link_report.specs.Tables.{AddsToTable, HasTableText}
use Rattle.link_report.proofs.TableLemmas.{adds_line, adds_none}

abbrev one_if : Bool → ℕ
one_if b = cond b 1 0

-- how often a number is among one more in front
times_here : (x : ℕ) (xs : List ℕ) (k : ℕ) → x ≡ k → times (x ∷ xs) k ≡ 1 + times xs k
times_here x xs k is = sum_by-cons (λ n. cond (n == k) 1 0) x xs ∙ ap (λ b. cond b 1 0 + times xs k) (eq-eqb x k is)

times_past : (x : ℕ) (xs : List ℕ) (k : ℕ) → x ≢ k → times (x ∷ xs) k ≡ times xs k
times_past x xs k other =
    let none : 0 + times xs k ≡ times xs k = omega arith in
    sum_by-cons (λ n. cond (n == k) 1 0) x xs ∙ ap (λ b. cond b 1 0 + times xs k) (ne_eqb x k other) ∙ none

-- and among one more behind
times_push : (xs : List ℕ) (x k : ℕ) → times (xs ++ x ∷ []) k ≡ times xs k + cond (x == k) 1 0
times_push xs x k = sum_by_push (λ n. cond (n == k) 1 0) xs x

times_same : (xs : List ℕ) (x k : ℕ) → x ≡ k → times (xs ++ x ∷ []) k ≡ times xs k + 1
times_same xs x k is = times_push xs x k ∙ ap (λ b. times xs k + cond b 1 0) (eq-eqb x k is)

times_other : (xs : List ℕ) (x k : ℕ) → x ≢ k → times (xs ++ x ∷ []) k ≡ times xs k
times_other xs x k other =
    let none : times xs k + 0 ≡ times xs k = omega arith in
    times_push xs x k ∙ ap (λ b. times xs k + cond b 1 0) (ne_eqb x k other) ∙ none

times_filter : (test : ℕ → Bool) (xs : List ℕ) (k : ℕ) → times (filter test xs) k ≡ cond (test k) (times xs k) 0
times_filter test [] k = elim (cases_Bool (test k)) [ inl holds ↦ rw holds refl | inr fails ↦ rw fails refl ]
times_filter test (x ∷ xs) k =
    let rest = times_filter test xs k in
    elim (cases_eq x k) [
      | inl same ↦
          elim (cases_Bool (test x)) [
            | inl holds ↦
                let at : test k ≡ true = ap test (sym same) ∙ holds in
                rw (holds, at) (times_here x (filter test xs) k same ∙ ap (λ n. 1 + n) (rest ∙ ap (λ b. cond b (times xs k) 0) at) ∙ sym (times_here x xs k same))
            | inr fails ↦ let at : test k ≡ false = ap test (sym same) ∙ fails in rw (fails, at) (rest ∙ ap (λ b. cond b (times xs k) 0) at)
          ]
      | inr other ↦
          let whole = ap (λ n. cond (test k) n 0) (sym (times_past x xs k other)) in
          elim (cases_Bool (test x)) [
            | inl holds ↦ rw holds (times_past x (filter test xs) k other ∙ rest ∙ whole)
            | inr fails ↦ rw fails (rest ∙ whole)
          ]
    ]

-- numbers that ascend
sorted_tail : (x : ℕ) (xs : List ℕ) → IsNonDecreasing (x ∷ xs) → IsNonDecreasing xs
sorted_tail x xs up = λ i j d below within. up (suc i) (suc j) d (omega arith) (omega arith)

first_least : (x : ℕ) (xs : List ℕ) → IsNonDecreasing (x ∷ xs) → (j : ℕ) → j < length xs → x ≤ get_or xs j 0
first_least x xs up j within = up 0 (suc j) 0 (omega arith) (omega arith)

none_below : (xs : List ℕ) (x : ℕ) → ((j : ℕ) → j < length xs → x ≤ get_or xs j 0) → (k : ℕ) → k < x → times xs k ≡ 0
none_below [] x least k low = refl
none_below (y ∷ ys) x least k low =
    let here : x ≤ y = least 0 (omega arith) in
    times_past y ys k (λ e. omega arith) ∙ none_below ys x (λ j within. least (suc j) (omega arith)) k low

-- The first of ascending numbers, where it is one of those that pass a test,
first_listed : (test : ℕ → Bool) (n : ℕ) (more xs : List ℕ) → test n ≡ true → IsNonDecreasing xs → ((k : ℕ) → k < n → times xs k ≡ 0) → ((k : ℕ) → n ≤ k → times xs k ≡ cond (test k) 1 0)
    → ((ys : List ℕ) → IsNonDecreasing ys → ((k : ℕ) → k < n + 1 → times ys k ≡ 0) → ((k : ℕ) → n + 1 ≤ k → times ys k ≡ cond (test k) 1 0) → ys ≡ more) → xs ≡ n ∷ more
first_listed test n more [] holds up low each rest =
    let one : times [] n ≡ 1 = each n (omega arith) ∙ ap one_if holds in
    absurd (omega arith)
first_listed test n more (x ∷ xs) holds up low each rest =
    let one : times (x ∷ xs) n ≡ 1 = each n (omega arith) ∙ ap one_if holds in
    let own : times (x ∷ xs) x ≡ 1 + times xs x = times_here x xs x refl in
    let is : x ≡ n = elim (cases_lt x n) [
      | inl less ↦ absurd (omega (arith, low x less))
      | inr from ↦
          elim (cases_lt n x) [
            | inl above ↦ absurd (omega (arith, times_past x xs n (λ e. omega arith), none_below xs x (first_least x xs up) n above))
            | inr same ↦ omega arith
          ]
    ] in
    let here : times (x ∷ xs) n ≡ 1 + times xs n = times_here x xs n is in
    let tail_low : (k : ℕ) → k < n + 1 → times xs k ≡ 0 = λ k less. elim (cases_lt k n) [
      | inl before ↦ sym (times_past x xs k (λ e. omega arith)) ∙ low k before
      | inr at ↦
          let same : k ≡ n = omega arith in
          let gone : times xs n ≡ 0 = omega arith in
          ap (times xs) same ∙ gone
    ] in
    let tail_each : (k : ℕ) → n + 1 ≤ k → times xs k ≡ cond (test k) 1 0 = λ k after. sym (times_past x xs k (λ e. omega arith)) ∙ each k (omega arith) in
    let tail = rest xs (sorted_tail x xs up) tail_low tail_each in
    λ i. is i ∷ tail i

-- and all of them.
listed : (test : ℕ → Bool) (m n : ℕ) (xs : List ℕ) → IsNonDecreasing xs → ((k : ℕ) → k < n → times xs k ≡ 0) → ((k : ℕ) → n ≤ k → times xs k ≡ cond (test k) 1 0) → ((k : ℕ) → n + m ≤ k → test k ≡ false)
    → xs ≡ filter test (range_with_len n m)
listed test zero n [] up low each high = refl
listed test zero n (x ∷ xs) up low each high =
    let own : times (x ∷ xs) x ≡ 1 + times xs x = times_here x xs x refl in
    let none : times (x ∷ xs) x ≡ 0 = elim (cases_lt x n) [
      | inl less ↦ low x less
      | inr from ↦ each x from ∙ ap one_if (high x (omega arith))
    ] in
    absurd (omega arith)
listed test (suc m) n xs up low each high =
    let past : (k : ℕ) → n + 1 + m ≤ k → test k ≡ false = λ k from. high k (omega arith) in
    elim (cases_Bool (test n)) [
      | inl holds ↦ rw holds (first_listed test n (filter test (range_with_len (n + 1) m)) xs holds up low each (λ ys ups lows eachs. listed test m (n + 1) ys ups lows eachs past))
      | inr fails ↦
          let gone : times xs n ≡ 0 = each n (omega arith) ∙ ap one_if fails in
          let lows : (k : ℕ) → k < n + 1 → times xs k ≡ 0 = λ k less. elim (cases_lt k n) [
            | inl before ↦ low k before
            | inr at ↦ let same : k ≡ n = omega arith in ap (times xs) same ∙ gone
          ] in
          rw fails (listed test m (n + 1) xs up lows (λ k from. each k (omega arith)) past)
    ]

-- the numbers with a row, in ascending order
pub rows_listed : (happenings : List Happenings) (numbers : List ℕ) → AreRows happenings numbers → IsNonDecreasing numbers → numbers ≡ numbers_with_row happenings
rows_listed happenings numbers are up =
    listed (λ k. (of_number happenings k).has_row) (length happenings) 0 numbers up (λ k less. absurd (omega arith)) (λ k from. are.once k)
    (λ k past. ap (λ (h : Happenings). h.has_row) (get_or_past happenings k nothing (omega arith)))

-- the same numbers in another order
pub rows_permuted : (happenings : List Happenings) (xs ys : List ℕ) → AreRows happenings xs → IsPermutation xs ys → AreRows happenings ys
rows_permuted happenings xs ys are same =
    record { once = λ k. sum_by-IsPermutation (λ n. cond (n == k) 1 0) xs ys same ∙ are.once k; idle = are.idle }

-- what is among some numbers is counted
counted : (all : List ℕ) (i d : ℕ) → i < length all → 1 ≤ times all (get_or all i d)
counted all i d low =
    let k = get_or all i d in
    let most = get_or-le-sum_by (λ n. cond (n == k) 1 0) all i d low in
    rw (eq-eqb k k refl) at most

once_more : (all : List ℕ) (i d : ℕ) → i < length all → times (take i all) (get_or all i d) + 1 ≤ times all (get_or all i d)
once_more all i d low =
    let k = get_or all i d in
    let most = sum_by_more_le (λ n. cond (n == k) 1 0) all i d low in
    rw (eq-eqb k k refl) at most

once_each : (happenings : List Happenings) (all : List ℕ) → AreRows happenings all → (k : ℕ) → times all k ≤ 1
once_each happenings all are k =
    let is = are.once k in
    elim (cases_Bool (of_number happenings k).has_row) [
      | inl holds ↦ omega (arith, is ∙ ap one_if holds)
      | inr fails ↦ omega (arith, is ∙ ap one_if fails)
    ]

-- each is the number of a five-tuple
row_within : (happenings : List Happenings) (all : List ℕ) (i d : ℕ) → AreRows happenings all → i < length all → get_or all i d < length happenings
row_within happenings all i d are low =
    let k = get_or all i d in
    elim (cases_lt k (length happenings)) [
      | inl within ↦ within
      | inr past ↦
          let none : times all k ≡ 0 = are.once k ∙ ap (λ (h : Happenings). one_if h.has_row) (get_or_past happenings k nothing past) in
          absurd (omega (arith, counted all i d low))
    ]

cond_append : (b : Bool) (xs : List ℕ) (x : ℕ) → cond b (xs ++ x ∷ []) xs ≡ xs ++ cond b (x ∷ []) []
cond_append true xs x = refl
cond_append false xs x = sym (append-nil xs)

-- The rows of some five-tuples were written, and what waits is left for the next bin.
pub record Wrote (queue : Queue) (from : ℕ) (happenings : List Happenings) (numbers : List ℕ) (old new : Table) (now : List Happenings) (rows : List ℕ) : Type 0 where
  pub text : AddsToTable old new (lines_at queue from happenings numbers)
  pub long : length now ≡ length happenings
  pub each : (k : ℕ) → of_number now k ≡ cond (nat_lt 0 (times numbers k)) (still_waiting (of_number happenings k)) (of_number happenings k)
  pub left : rows ≡ filter (λ k. nat_lt 0 (of_number happenings k).waiting) numbers

pub wrote_none : (queue : Queue) (from : ℕ) (happenings : List Happenings) (table : Table) → Wrote queue from happenings [] table table happenings []
wrote_none queue from happenings table =
    record { text = adds_none table; long = refl; each = λ k. refl; left = refl }

module _ (queue : Queue) (from : ℕ) (happenings : List Happenings) (all : List ℕ) (i d : ℕ) (old mid new : Table) (now next : List Happenings) (rows after : List ℕ) (number : ℕ) (waits : Bool) (are : AreRows happenings all) (low : i < length all)
    (is : number ≡ get_or all i d) (so : Wrote queue from happenings (take i all) old mid now rows) (writes : number < length now → AddsToTable mid new (series_line queue from number (of_number now number)))
    (leaves : number < length now → next ≡ set now number (still_waiting (of_number now number))) (answers : number < length now → waits ≡ nat_lt 0 (of_number now number).waiting) (pushed : after ≡ cond waits (rows ++ number ∷ []) rows) where
  low_now : number < length now
  low_now =
      let long = so.long in
      let within = row_within happenings all i d are low in
      omega arith

  not_before : times (take i all) number ≡ 0
  not_before =
      let once = once_each happenings all are (get_or all i d) in
      let more = once_more all i d low in
      let none : times (take i all) (get_or all i d) ≡ 0 = omega arith in
      ap (times (take i all)) is ∙ none

  unchanged : of_number now number ≡ of_number happenings number
  unchanged =
      so.each number ∙ ap (λ n. cond (nat_lt 0 n) (still_waiting (of_number happenings number)) (of_number happenings number)) not_before

  more : take (i + 1) all ≡ take i all ++ number ∷ []
  more = take_more all i d low ∙ ap (λ n. take i all ++ n ∷ []) (sym is)

  each_more : (k : ℕ) → of_number next k ≡ cond (nat_lt 0 (times (take (i + 1) all) k)) (still_waiting (of_number happenings k)) (of_number happenings k)
  each_more k =
      let left = still_waiting (of_number now number) in
      let became : of_number next k ≡ of_number (set now number left) k = ap (λ hs. of_number hs k) (leaves low_now) in
      let count : times (take (i + 1) all) k ≡ times (take i all ++ number ∷ []) k = ap (λ l. times l k) more in
      elim (cases_eq number k) [
        | inl same ↦
            let some : 0 < times (take (i + 1) all) k = omega (arith, times_same (take i all) number k same) in
            let here : of_number (set now number left) k ≡ left = ap (λ n. of_number (set now number left) n) (sym same) ∙ get_or-set_same now number left nothing low_now in
            rw (lt-ltb 0 (times (take (i + 1) all) k) some) (became ∙ here ∙ ap still_waiting unchanged ∙ ap (λ n. still_waiting (of_number happenings n)) same)
        | inr other ↦
            let none = times_other (take i all) number k other in
            became ∙ get_or-set_other now number k left nothing (λ e. other (sym e)) ∙ so.each k
            ∙ ap (λ n. cond (nat_lt 0 n) (still_waiting (of_number happenings k)) (of_number happenings k)) (sym (count ∙ none))
      ]

  left_more : after ≡ filter (λ k. nat_lt 0 (of_number happenings k).waiting) (take (i + 1) all)
  left_more =
      let test : ℕ → Bool = λ k. nat_lt 0 (of_number happenings k).waiting in
      let kept = filter test (take i all) in
      let tells : waits ≡ test (get_or all i d) = answers low_now ∙ ap (λ (h : Happenings). nat_lt 0 h.waiting) unchanged ∙ ap test is in
      pushed ∙ (λ j. cond (tells j) (so.left j ++ is j ∷ []) (so.left j)) ∙ cond_append (test (get_or all i d)) kept (get_or all i d) ∙ sym (filter_more test all i d low)

  -- one row more
  pub wrote_more : Wrote queue from happenings (take (i + 1) all) old new next after
  wrote_more =
      let line = subst (λ (h : Happenings). AddsToTable mid new (series_line queue from number h)) unchanged (writes low_now) in
      record {
        text = adds_line (λ k. series_line queue from k (of_number happenings k)) all i number d old mid new low is so.text line;
        long = ap length (leaves low_now) ∙ length-set now number (still_waiting (of_number now number)) ∙ so.long;
        each = each_more;
        left = left_more;
      }

-- what the next bin begins with, at each number
still_at : (happenings : List Happenings) (k : ℕ) → of_number (map still_waiting happenings) k ≡ still_waiting (of_number happenings k)
still_at [] k = refl
still_at (h ∷ happenings) zero = refl
still_at (h ∷ happenings) (suc k) = still_at happenings k

module _ (queue : Queue) (from : ℕ) (happenings : List Happenings) (all : List ℕ) (old new : Table) (now : List Happenings) (rows : List ℕ) (are : AreRows happenings all) (so : Wrote queue from happenings all old new now rows) where
  goes_on : (k : ℕ) → cond (nat_lt 0 (times all k)) (still_waiting (of_number happenings k)) (of_number happenings k) ≡ still_waiting (of_number happenings k)
  goes_on k =
      let pick : ℕ → Happenings = λ n. cond (nat_lt 0 n) (still_waiting (of_number happenings k)) (of_number happenings k) in
      elim (cases_Bool (of_number happenings k).has_row) [
        | inl holds ↦ ap pick (are.once k ∙ ap one_if holds)
        | inr fails ↦ ap pick (are.once k ∙ ap one_if fails) ∙ sym (are.idle k fails)
      ]

  -- all rows are written
  pub wrote_all : now ≡ map still_waiting happenings
  wrote_all =
      ext_get_or nothing now (map still_waiting happenings) (so.long ∙ sym (length-map happenings still_waiting)) (λ k low. so.each k ∙ goes_on k ∙ sym (still_at happenings k))

  once_after : (k : ℕ) → times rows k ≡ cond (of_number (map still_waiting happenings) k).has_row 1 0
  once_after k =
      let test : ℕ → Bool = λ n. nat_lt 0 (of_number happenings n).waiting in
      let count : times rows k ≡ cond (test k) (times all k) 0 = ap (λ l. times l k) so.left ∙ times_filter test all k in
      let own : (of_number (map still_waiting happenings) k).has_row ≡ test k = ap (λ (h : Happenings). h.has_row) (still_at happenings k) in
      let row = are.once k in
      elim (cases_Bool (test k)) [
        | inl holds ↦
            let had : (of_number happenings k).has_row ≡ true = elim (cases_Bool (of_number happenings k).has_row) [
              | inl has ↦ has
              | inr fails ↦ sym (ap (λ (h : Happenings). h.has_row) (are.idle k fails)) ∙ holds
            ] in
            count ∙ ap (λ b. cond b (times all k) 0) holds ∙ row ∙ ap one_if (had ∙ sym (own ∙ holds))
        | inr fails ↦ count ∙ ap (λ b. cond b (times all k) 0) fails ∙ ap one_if (sym (own ∙ fails))
      ]

  pub rows_after : AreRows now rows
  rows_after =
      let next : AreRows (map still_waiting happenings) rows = record {
        once = once_after;
        idle = λ k fails. ap still_waiting (still_at happenings k) ∙ sym (still_at happenings k);
      } in
      subst (λ (hs : List Happenings). AreRows hs rows) (sym wrote_all) next

-- a bin with no row
no_rows : (happenings : List Happenings) → AreRows happenings [] → (map still_waiting happenings ≡ happenings) × (numbers_with_row happenings ≡ [])
no_rows happenings are =
    let fails : (k : ℕ) → (of_number happenings k).has_row ≡ false = λ k. elim (cases_Bool (of_number happenings k).has_row) [
      | inl holds ↦ let one : times [] k ≡ 1 = are.once k ∙ ap one_if holds in absurd (omega arith)
      | inr none ↦ none
    ] in (
      ext_get_or nothing (map still_waiting happenings) happenings (length-map happenings still_waiting) (λ k low. still_at happenings k ∙ are.idle k (fails k)),
      sym (rows_listed happenings [] are (λ i j d below within. absurd (omega arith))),
    )

-- All but the number of the bin is the same.
record IsSame (old new : Walk) : Type 0 where
  queue : new.queue ≡ old.queue
  every : new.every ≡ old.every
  happenings : new.happenings ≡ old.happenings
  text : new.text ≡ old.text

-- bins with no row
idle_later : (count : ℕ) (walk : Walk) → AreRows walk.happenings [] → IsSame walk (later count walk)
idle_later zero walk are = record { queue = refl; every = refl; happenings = refl; text = refl }
idle_later (suc count) walk are =
    let so = idle_later count walk are in
    let was = later count walk in
    let here = subst (λ (hs : List Happenings). AreRows hs []) (sym so.happenings) are in
    let none = no_rows was.happenings here in
    record {
      queue = so.queue;
      every = so.every;
      happenings = none.0 ∙ so.happenings;
      text = ap (λ numbers. was.text ++ lines_at was.queue (begins was) was.happenings numbers) none.1 ∙ append-nil was.text ∙ so.text;
    }

-- so many bins later, and then so many more
later_both : (more count : ℕ) (walk : Walk) → later (count + more) walk ≡ later more (later count walk)
later_both zero count walk = let none : count + 0 ≡ count = omega arith in ap (λ n. later n walk) none
later_both (suc more) count walk =
    let rest = later_both more count walk in
    let next : count + suc more ≡ suc (count + more) = omega arith in
    ap (λ n. later n walk) next ∙ ap (λ (w : Walk). record (ended w) { bin = w.bin + 1 }) rest

pub later_bin : (count : ℕ) (walk : Walk) → (later count walk).bin ≡ walk.bin + count
later_bin zero walk = omega arith
later_bin (suc count) walk = omega (arith, later_bin count walk)

-- to the same place of the walk but for the number of the bin
moved : (before : List ℕ) (series : Series) (table : Table) (old new : Walk) (bin : ℕ) → HasRowsBefore before series table old → IsSame old new → HasRowsBefore before (record series { bin = bin }) table (record new { bin = bin })
moved before series table old new bin at same =
    record {
      place = record {
        queue = at.place.queue ∙ sym same.queue;
        every = at.place.every ∙ sym same.every;
        bin = refl;
        happenings = at.place.happenings ∙ sym same.happenings;
        rows = subst (λ (hs : List Happenings). AreRows hs series.rows.items) (sym same.happenings) at.place.rows;
      };
      text = subst (λ (text : List ℕ). HasTableText table (before ++ text)) (sym same.text) at.text;
    }

-- The loop over bins begins,
pub bins_begin : (before : List ℕ) (series : Series) (table : Table) (walk : Walk) (first turn : ℕ) → turn ≡ first → HasRowsBefore before series table walk → HasRowsBefore before series table (later (turn - first) walk)
bins_begin before series table walk first turn is at =
    let none : turn - first ≡ 0 = omega arith in
    rw none at

-- goes on by a bin that ended,
pub bins_turn : (before : List ℕ) (series : Series) (table : Table) (walk : Walk) (first turn bin : ℕ) → first ≤ turn → series.bin ≡ turn → bin ≡ turn + 1 → HasRowsBefore before series table (ended (later (turn - first) walk))
    → HasRowsBefore before (record series { bin = bin }) table (later (turn + 1 - first) walk)
bins_turn before series table walk first turn bin from is more at =
    let next : turn + 1 - first ≡ suc (turn - first) = omega arith in
    let was = at.place.bin in
    rw next (record {
      place = record {
        queue = at.place.queue;
        every = at.place.every;
        bin = omega arith;
        happenings = at.place.happenings;
        rows = at.place.rows;
      };
      text = at.text;
    })

-- and ends, at its last bin
pub bins_end : (before : List ℕ) (series : Series) (table : Table) (walk : Walk) (first turn bin : ℕ) → first ≡ walk.bin → turn - first ≡ bin - first → HasRowsBefore before series table (later (turn - first) walk) → HasRowsBefore before (record series { bin = bin }) table (on_to bin walk)
bins_end before series table walk first turn bin is last at =
    let count : turn - first ≡ bin - walk.bin = omega arith in
    moved before series table (later (turn - first) walk) (later (bin - walk.bin) walk) bin at (rw count (record { queue = refl; every = refl; happenings = refl; text = refl }))

-- or at the first with no row.
pub bins_stop : (before : List ℕ) (series : Series) (table : Table) (walk : Walk) (first turn bin : ℕ) → first ≡ walk.bin → first ≤ turn → turn ≤ bin → series.rows.items ≡ [] → HasRowsBefore before series table (later (turn - first) walk)
    → HasRowsBefore before (record series { bin = bin }) table (on_to bin walk)
bins_stop before series table walk first turn bin is from below none at =
    let was = later (turn - first) walk in
    let empty = subst (λ (numbers : List ℕ). AreRows was.happenings numbers) none at.place.rows in
    let count : (turn - first) + (bin - turn) ≡ bin - walk.bin = omega arith in
    let whole = sym (later_both (bin - turn) (turn - first) walk) ∙ ap (λ n. later n walk) count in
    moved before series table was (later (bin - walk.bin) walk) bin at (subst (λ (w : Walk). IsSame was w) whole (idle_later (bin - turn) was empty))

-- A bin's rows are written.
pub bin_ends : (before : List ℕ) (series : Series) (sorted : List ℕ) (table new : Table) (walk : Walk) (from : ℕ) (now : List Happenings) (rows : List ℕ) (after : Series) → HasRowsBefore before series table walk → IsPermutation series.rows.items sorted → IsNonDecreasing sorted
    → from ≡ min (series.bin * series.every) (2 ^ 64 - 1) → (AreRows series.happenings.items sorted → AddsToTable table new (lines_at series.queue from series.happenings.items sorted)) → (AreRows series.happenings.items sorted → now ≡ map still_waiting series.happenings.items)
    → (AreRows series.happenings.items sorted → AreRows now rows) → after.queue ≡ series.queue → after.every ≡ series.every → after.bin ≡ series.bin → after.happenings.items ≡ now → after.rows.items ≡ rows → HasRowsBefore before after new (ended walk)
unfolding AddsToTable
bin_ends before series sorted table new walk from now rows after at moves up starts adds leaves left queue every bin happenings kept =
    let place = at.place in
    let old = rows_permuted walk.happenings series.rows.items sorted place.rows moves in
    let are = subst (λ (hs : List Happenings). AreRows hs sorted) (sym place.happenings) old in
    let all = rows_listed walk.happenings sorted old up in
    let start : from ≡ min (walk.bin * walk.every) (2 ^ 64 - 1) = starts ∙ (λ k. min (place.bin k * place.every k) (2 ^ 64 - 1)) in
    let lines : lines_at series.queue from series.happenings.items sorted ≡ lines_at walk.queue (min (walk.bin * walk.every) (2 ^ 64 - 1)) walk.happenings (numbers_with_row walk.happenings) = λ k. lines_at (place.queue k) (start k) (place.happenings k) (all k) in
    let next : now ≡ map still_waiting walk.happenings = leaves are ∙ ap (λ hs. map still_waiting hs) place.happenings in
    record {
      place = record {
        queue = queue ∙ place.queue;
        every = every ∙ place.every;
        bin = bin ∙ place.bin;
        happenings = happenings ∙ next;
        rows = subst (λ (numbers : List ℕ). AreRows (map still_waiting walk.happenings) numbers) (sym kept) (subst (λ (hs : List Happenings). AreRows hs rows) next (left are));
      };
      text = subst (λ (text : List ℕ). HasTableText new text) (append_assoc before walk.text (lines_at walk.queue (begins walk) walk.happenings (numbers_with_row walk.happenings))) (subst (λ (text : List ℕ). HasTableText new ((before ++ walk.text) ++ text)) lines (adds are (before ++ walk.text) at.text));
    }

-- The walk over events begins,
pub walk_begins : (before : List ℕ) (series : Series) (table : Table) (queue : Queue) (every tuples count : ℕ) → count ≡ tuples → IsIn series (begun queue every count) → HasTableText table before → HasRowsBefore before series table (begun queue every tuples)
walk_begins before series table queue every tuples count is begins has =
    record { place = subst (λ (n : ℕ). IsIn series (begun queue every n)) is begins; text = subst (λ (text : List ℕ). HasTableText table text) (sym (append-nil before)) has }

-- goes on,
pub walk_goes_on : (before : List ℕ) (series : Series) (table : Table) (queue : Queue) (every tuples : ℕ) (packets given : List PacketRecord) (events : List Event) (i : ℕ) (event : Event) → i < length events → event ≡ get_or events i event → given ≡ packets
    → HasRowsBefore before series table (walk_with_event given (walked queue every tuples packets (take i events)) event) → HasRowsBefore before series table (walked queue every tuples packets (take (i + 1) events))
walk_goes_on before series table queue every tuples packets given events i event low is same at =
    let was = walked queue every tuples packets (take i events) in
    let more = fold_more (walk_with_event packets) (begun queue every tuples) events i event low in
    let own = subst (λ (ps : List PacketRecord). HasRowsBefore before series table (walk_with_event ps was event)) same at in
    let here = subst (λ (e : Event). HasRowsBefore before series table (walk_with_event packets was e)) is own in
    subst (λ (w : Walk). HasRowsBefore before series table w) (sym more) here

-- and ends.
pub walk_ends : (old mid new : Table) (series after : Series) (walk : Walk) → ((before : List ℕ) → HasTableText old before → HasRowsBefore before series mid walk) → ((before : List ℕ) (w : Walk) → HasRowsBefore before series mid w → HasRowsBefore before after new (ended w)) → AddsToTable old new (ended walk).text
unfolding AddsToTable
walk_ends old mid new series after walk at ends = λ before has. (ends before walk (at before has)).text

-- the id of the packet that an event is of, and its moment
abbrev pub own_of : Event → Option (ℕ × ℕ)
own_of (Accepted lane id moment flow packet) = Some (id, moment)
own_of (Sent id moment ecn mark) = Some (id, moment)
own_of (Dropped id moment cause) = Some (id, moment)
own_of (Closed moment) = None

abbrev id_of : Option (ℕ × ℕ) → ℕ
id_of None = 0
id_of (Some own) = own.0

abbrev moment_of : Option (ℕ × ℕ) → ℕ
moment_of None = 0
moment_of (Some own) = own.1

walk_by : (packets : List PacketRecord) (walk : Walk) (event : Event) (id moment : ℕ) → own_of event ≡ Some (id, moment) → walk_with_event packets walk event ≡ noted_of (slice_get packets id) (on_to (bin_at walk.every moment) walk) event
walk_by packets walk (Accepted lane i m flow packet) id moment is =
    let ids : i ≡ id = ap id_of is in
    let moments : m ≡ moment = ap moment_of is in
    λ k. noted_of (slice_get packets (ids k)) (on_to (bin_at walk.every (moments k)) walk) (Accepted lane i m flow packet)
walk_by packets walk (Sent i m ecn mark) id moment is =
    let ids : i ≡ id = ap id_of is in
    let moments : m ≡ moment = ap moment_of is in
    λ k. noted_of (slice_get packets (ids k)) (on_to (bin_at walk.every (moments k)) walk) (Sent i m ecn mark)
walk_by packets walk (Dropped i m cause) id moment is =
    let ids : i ≡ id = ap id_of is in
    let moments : m ≡ moment = ap moment_of is in
    λ k. noted_of (slice_get packets (ids k)) (on_to (bin_at walk.every (moments k)) walk) (Dropped i m cause)
walk_by packets walk (Closed m) id moment is = cc

-- An event of a packet is taken.
pub taken : (before : List ℕ) (series mid after : Series) (table : Table) (packets : List PacketRecord) (walk : Walk) (event : Event) (id moment bin : ℕ) (p : PacketRecord) → own_of event ≡ Some (id, moment) → slice_get packets id ≡ Some p → bin ≡ bin_at series.every moment → series.every ≡ walk.every
    → HasRowsBefore before mid table (on_to bin walk) → ((w : Walk) → IsIn mid w → IsIn after (noted p w event)) → HasRowsBefore before after table (walk_with_event packets walk event)
taken before series mid after table packets walk event id moment bin p own found of_bin every at notes =
    let there : bin ≡ bin_at walk.every moment = of_bin ∙ ap (λ n. bin_at n moment) every in
    let here = subst (λ (n : ℕ). HasRowsBefore before mid table (on_to n walk)) there at in
    let next = on_to (bin_at walk.every moment) walk in
    let new : HasRowsBefore before after table (noted p next event) = record { place = notes next here.place; text = here.text } in
    let one = subst (λ (o : Option PacketRecord). HasRowsBefore before after table (noted_of o next event)) (sym found) new in
    subst (λ (w : Walk). HasRowsBefore before after table w) (sym (walk_by packets walk event id moment own)) one
