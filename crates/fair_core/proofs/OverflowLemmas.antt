-- Where every packet that waits has a byte at least, there is one overflow of the queues, and no other: as long as too
-- much waits, some flow is the fattest, and one alone, and behind its batch fewer packets wait.
use Rattle.std.proofs.Common.{◌≡◌, ℕ, zero, suc, ◌*◌, ◌<◌, ◌≤◌, ◌⊎◌, All, List, [], ◌∷◌, Option, Some, None, IsSomeAnd, drop, get_or, length, sum_by, refl, sym, ap, subst, ◌∙◌, inl, inr, arith}
use Rattle.std.proofs.lemmas.Bool.{cases_lt, cases_order}
use Rattle.std.proofs.lemmas.List.{get_or_past, length-drop}
use Rattle.std.proofs.lemmas.List.Elements.{All-drop, All-from_get_or, All-get_or, All-head, All-set}
use Rattle.std.proofs.lemmas.List.Sums.{sum_by-cons, sum_by-le, sum_by-set}
use Rattle.packet_core.specs.Packets.{IsLengthInRange}
use Rattle.packet_core.specs.declared.packet.Waiting.{Waiting}
use Rattle.packet_core.specs.declared.params.ParamFields.{ParamFields}
use Rattle.codel_core.specs.Queue.{bytes_of}
use Rattle.flow_core.specs.Fattest.{IsFattest, bytes_at}
use Rattle.journal_core.specs.Disciplines.{Batch}
use Rattle.fair_core.specs.Overflow.{Exceeds, Overflow, batch_of, batch_size, without_batch}

-- one flow is the fattest
fattest_once : (queues : List (List Waiting)) (flow flow' : ℕ) → IsFattest queues flow → IsFattest queues flow'
    → flow ≡ flow'
fattest_once queues flow flow' a b =
    elim (cases_order flow flow') [
      | inl same ↦ same
      | inr (inl below) ↦ let less = b.least flow below in let most = a.greatest flow' in absurd (omega arith)
      | inr (inr below) ↦ let less = a.least flow' below in let most = b.greatest flow in absurd (omega arith)
    ]

-- each batch is that of the one flow that is the fattest then
pub overflow_once : (p : ParamFields) (queues new new' : List (List Waiting)) (batches batches' : List Batch)
    → Overflow p queues batches new → Overflow p queues batches' new'
    → (batches ≡ batches') × (new ≡ new')
overflow_once p queues new new' [] [] o o' = (refl, o.1 ∙ sym o'.1)
overflow_once p queues new new' [] (batch' ∷ more') o o' = absurd (o.0 o'.0)
overflow_once p queues new new' (batch ∷ more) [] o o' = absurd (o'.0 o.0)
overflow_once p queues new new' (batch ∷ more) (batch' ∷ more') o o' =
    let same = fattest_once queues batch.flow batch'.flow o.1 o'.1 in
    let one : batch ≡ batch' = o.2 ∙ ap (batch_of p.drop_batch queues) same ∙ sym o'.2 in
    let left = subst (λ (f : ℕ). Overflow p (without_batch p.drop_batch queues f) more' new') (sym same) o'.3 in
    let rest = overflow_once p (without_batch p.drop_batch queues batch.flow) new new' more more' o.3 left in
    (λ i. one i ∷ rest.0 i, rest.1)

-- the first of n places that has the greatest value of them, and place 0 where there is none
first_greatest : (value : ℕ → ℕ) (n : ℕ) → (k : ℕ) × ((i : ℕ) → i < n → value i ≤ value k) × ((i : ℕ) → i < k → value i < value k)
first_greatest value zero = (0, (λ i below. absurd (omega arith)), (λ i below. absurd (omega arith)))
first_greatest value (suc n) =
    let best = first_greatest value n in
    elim (cases_lt (value best.0) (value n)) [
      | inl more ↦ (n, at_end (λ i. value i ≤ value n) (λ i below. let most = best.1 i below in omega arith) (omega arith), (λ i below. let most = best.1 i below in omega arith))
      | inr few ↦ (best.0, at_end (λ i. value i ≤ value best.0) best.1 few, best.2)
    ]
  where
    at_end : (P : ℕ → Type 0) → ((i : ℕ) → i < n → P i) → P n → (i : ℕ) → i < suc n → P i
    at_end P before here i below =
        elim (cases_lt i n) [
          | inl less ↦ before i less
          | inr past ↦ let same : n ≡ i = omega arith in subst P same here
        ]

-- each packet has a length that packets have
abbrev HaveLengths : List Waiting → Type 0
HaveLengths q = All (λ w. IsLengthInRange w.packet.len) q

-- so a queue without bytes is empty
empty_without_bytes : (q : List Waiting) → HaveLengths q → bytes_of q ≡ 0 → length q ≤ 0
empty_without_bytes [] have none = omega arith
empty_without_bytes (w ∷ q) have none =
    let some = (All-head (λ (v : Waiting). IsLengthInRange v.packet.len) w q have).0 in
    let bytes = sum_by-cons (λ (v : Waiting). v.packet.len) w q in
    absurd (omega arith)

-- and no packet waits where no flow has bytes
none_waits : (queues : List (List Waiting)) → All HaveLengths queues
    → ((i : ℕ) → i < length queues → bytes_at queues i ≡ 0) → sum_by length queues ≤ length queues * 0
none_waits queues have none =
    sum_by-le length 0 queues (All-from_get_or (λ q. length q ≤ 0) queues [] empty)
  where
    empty : (i : ℕ) → i < length queues → length (get_or queues i []) ≤ 0
    empty i below = empty_without_bytes (get_or queues i []) (All-get_or HaveLengths queues i [] below have) (none i below)

-- where a packet waits, some flow is the fattest
fattest_there : (queues : List (List Waiting)) → All HaveLengths queues → 0 < sum_by length queues
    → (flow : ℕ) × IsFattest queues flow
fattest_there queues have some =
    let best = first_greatest (bytes_at queues) (length queues) in
    elim (cases_lt 0 (bytes_at queues best.0)) [
      | inl waits ↦ (best.0, record { within = has_bytes best.0 waits; waits = waits; greatest = most_bytes best.0 best.1; least = best.2 })
      | inr zeros ↦ let few = none_waits queues have (λ i below. let most = best.1 i below in omega arith) in absurd (omega arith)
    ]
  where
    no_bytes : (flow : ℕ) → length queues ≤ flow → bytes_at queues flow ≡ 0
    no_bytes flow past = rw (get_or_past queues flow [] past) refl

    has_bytes : (flow : ℕ) → 0 < bytes_at queues flow → flow < length queues
    has_bytes flow waits =
        elim (cases_lt flow (length queues)) [
          | inl below ↦ below
          | inr past ↦ let none = no_bytes flow past in absurd (omega arith)
        ]

    most_bytes : (flow : ℕ) → ((i : ℕ) → i < length queues → bytes_at queues i ≤ bytes_at queues flow)
        → (other : ℕ) → bytes_at queues other ≤ bytes_at queues flow
    most_bytes flow most other =
        elim (cases_lt other (length queues)) [
          | inl below ↦ most other below
          | inr past ↦ let none = no_bytes other past in omega arith
        ]

-- THERE IS AN OVERFLOW

-- where bytes wait, packets do
packets_wait : (queues : List (List Waiting)) → 0 < sum_by bytes_of queues → 0 < sum_by length queues
packets_wait [] some = omega arith
packets_wait ([] ∷ queues) some =
    omega (arith, sum_by-cons bytes_of [] queues, sum_by-cons length [] queues, packets_wait queues (omega (arith, sum_by-cons bytes_of [] queues)))
packets_wait ((w ∷ ws) ∷ queues) some = omega (arith, sum_by-cons length (w ∷ ws) queues)

-- whether too much waits can be told
exceeds_told : (p : ParamFields) (queues : List (List Waiting)) → Exceeds p queues ⊎ ¬ Exceeds p queues
exceeds_told p queues =
    elim (cases_lt p.limit (sum_by length queues)) [
      | inl many ↦ inl (inl many)
      | inr few ↦ bytes_told p.memory_limit few
    ]
  where
    neither : (o : Option ℕ) → ¬ IsSomeAnd o (λ most. most < sum_by bytes_of queues) → sum_by length queues ≤ p.limit
        → ¬ ((p.limit < sum_by length queues) ⊎ IsSomeAnd o (λ most. most < sum_by bytes_of queues))
    neither o not few (inl many) = omega arith
    neither o not few (inr much) = not much

    bytes_told : (o : Option ℕ) → sum_by length queues ≤ p.limit
        → ((p.limit < sum_by length queues) ⊎ IsSomeAnd o (λ most. most < sum_by bytes_of queues))
        ⊎ ¬ ((p.limit < sum_by length queues) ⊎ IsSomeAnd o (λ most. most < sum_by bytes_of queues))
    bytes_told None few = inr (neither None (λ h. h) few)
    bytes_told (Some most) few =
        elim (cases_lt most (sum_by bytes_of queues)) [
          | inl much ↦ inl (inr much)
          | inr little ↦ inr (neither (Some most) (λ h. omega arith) few)
        ]

-- where too much waits, a packet does
pub exceeding_waits : (p : ParamFields) (queues : List (List Waiting)) → Exceeds p queues → 0 < sum_by length queues
exceeding_waits p queues (inl many) = omega arith
exceeding_waits p queues (inr much) = by_bytes p.memory_limit much
  where
    by_bytes : (o : Option ℕ) → IsSomeAnd o (λ most. most < sum_by bytes_of queues) → 0 < sum_by length queues
    by_bytes None much = absurd much
    by_bytes (Some most) much = packets_wait queues (omega arith)

-- the fattest flow has a packet
pub fattest_has : (queues : List (List Waiting)) (flow : ℕ) → IsFattest queues flow → 0 < length (get_or queues flow [])
fattest_has queues flow fattest = has (get_or queues flow []) fattest.waits
  where
    has : (q : List Waiting) → 0 < bytes_of q → 0 < length q
    has [] some = omega arith
    has (w ∷ ws) some = omega arith

-- behind a batch fewer packets wait
pub fewer_behind : (most : ℕ) (queues : List (List Waiting)) (flow : ℕ) → 1 ≤ most → IsFattest queues flow
    → sum_by length (without_batch most queues flow) < sum_by length queues
fewer_behind most queues flow some fattest =
    let q = get_or queues flow [] in
    let left = drop (batch_size most (length q)) q in
    omega (arith, sum_by-set length queues flow left [] fattest.within, length-drop (batch_size most (length q)) q, fattest_has queues flow fattest)

-- packets behind a batch have lengths
lengths_behind : (most : ℕ) (queues : List (List Waiting)) (flow : ℕ) → flow < length queues → All HaveLengths queues
    → All HaveLengths (without_batch most queues flow)
lengths_behind most queues flow within have =
    let q = get_or queues flow [] in
    let n = batch_size most (length q) in
    All-set HaveLengths queues flow (drop n q) (All-drop (λ (w : Waiting). IsLengthInRange w.packet.len) n q (All-get_or HaveLengths queues flow [] within have)) have

-- of so many packets at most
overflow_within : (p : ParamFields) (n : ℕ) (queues : List (List Waiting)) → 1 ≤ p.drop_batch → sum_by length queues ≤ n → All HaveLengths queues
    → (batches : List Batch) × (queues' : List (List Waiting)) × Overflow p queues batches queues'
overflow_within p zero queues some few have =
    elim (exceeds_told p queues) [
      | inl much ↦ let waits = exceeding_waits p queues much in absurd (omega arith)
      | inr not ↦ ([], queues, (not, refl))
    ]
overflow_within p (suc n) queues some few have =
    elim (exceeds_told p queues) [
      | inl much ↦
          let fattest = fattest_there queues have (exceeding_waits p queues much) in
          let next = without_batch p.drop_batch queues fattest.0 in
          let rest = overflow_within p n next some (omega (arith, fewer_behind p.drop_batch queues fattest.0 some fattest.1)) (lengths_behind p.drop_batch queues fattest.0 fattest.1.within have) in
          (batch_of p.drop_batch queues fattest.0 ∷ rest.0, rest.1, (much, fattest.1, refl, rest.2))
      | inr not ↦ ([], queues, (not, refl))
    ]

pub overflow_there : (p : ParamFields) (queues : List (List Waiting)) → 1 ≤ p.drop_batch → All HaveLengths queues
    → (batches : List Batch) × (queues' : List (List Waiting)) × Overflow p queues batches queues'
overflow_there p queues some have = overflow_within p (sum_by length queues) queues some (omega arith) have
