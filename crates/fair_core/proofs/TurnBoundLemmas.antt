-- How many quanta a flow is owed: the number is the least one, it falls by one with each quantum, and no flow with
-- credits is owed any. So no chain has more turns than a number of 64 bits can count.
use Rattle.std.proofs.Common.{◌≡◌, ℕ, zero, suc, ◌+◌, ◌*◌, ◌<◌, ◌≤◌, ◌/◌, ◌%◌, ℤ, pos, negsuc, ◌+ℤ◌, ◌<ℤ◌, arith, inl, inr, ◌^◌, List, length, sum_by, ◌≤ℤ◌}
use Rattle.std.proofs.lemmas.Int.{ints}
use Rattle.std.proofs.lemmas.Bool.{cases_lt}
use Rattle.std.proofs.lemmas.Nat.{div-add-mod', mod_below}
use Rattle.fair_core.specs.TurnBound.{AreQuantaOwed, quanta_owed, turns_at_most}
use Rattle.std.proofs.lemmas.List.Elements.{All-from_recursion}
use Rattle.std.proofs.lemmas.List.Sums.{sum_by-le}
use Rattle.fair_core.specs.HeldQueues.{AreHeld}
use Rattle.fair_core.specs.FairQueues.{FairQueues, flow_state_at}
use Rattle.journal_core.proofs.ListLemmas.{ByRecursion-all}

-- there is one such number
pub owed_once : (quantum : ℕ) (credits : ℤ) (m n : ℕ) → AreQuantaOwed quantum credits m → AreQuantaOwed quantum credits n → m ≡ n
owed_once quantum credits m n a b =
    elim (cases_lt m n) [
      | inl below ↦ let high = b.least m below in let low = a.enough in absurd (omega (arith, ints))
      | inr not_below ↦
          elim (cases_lt n m) [
            | inl below ↦ let high = a.least n below in let low = b.enough in absurd (omega (arith, ints))
            | inr also ↦ omega arith
          ]
    ]

-- none is owed where there are credits
pub none_owed : (quantum : ℕ) (credits : ℤ) → pos 0 <ℤ credits → AreQuantaOwed quantum credits 0
none_owed quantum credits above = record {
  enough = omega (arith, ints);
  least = λ m below. absurd (omega arith);
}

-- a quantum less is owed once one is there
pub one_owed_less : (quantum : ℕ) (credits : ℤ) (n : ℕ) → AreQuantaOwed quantum credits (suc n) → AreQuantaOwed quantum (credits +ℤ pos quantum) n
one_owed_less quantum credits n a = record {
  enough = let e : suc n * quantum ≡ n * quantum + quantum = omega arith in let enough = a.enough in omega (arith, ints);
  least = λ m below. let e : suc m * quantum ≡ m * quantum + quantum = omega arith in let low = a.least (suc m) (omega arith) in omega (arith, ints);
}

-- the number that is computed is that one
pub quanta_owed_is : (quantum : ℕ) (credits : ℤ) → 0 < quantum → AreQuantaOwed quantum credits (quanta_owed quantum credits)
quanta_owed_is quantum (pos zero) some = record { enough = omega (arith, ints); least = λ m below. let e : m ≡ 0 = omega arith in rw e (omega (arith, ints)) }
quanta_owed_is quantum (pos (suc n)) some = none_owed quantum (pos (suc n)) (omega (arith, ints))
quanta_owed_is quantum (negsuc n) some = record {
  enough = let low = mod_below (suc n) quantum some in let e : (suc n / quantum + 1) * quantum ≡ suc n / quantum * quantum + quantum = omega arith in let high = split in omega (arith, ints);
  least = λ m below. let most : m * quantum ≤ suc n / quantum * quantum = product m (suc n / quantum) (omega arith) in let low = split in omega (arith, ints);
}
  where
    split : suc n / quantum * quantum + suc n % quantum ≡ suc n
    split = div-add-mod' (suc n) quantum

    product : (a b : ℕ) → a ≤ b → a * quantum ≤ b * quantum
    product a b le = grind arith

-- credits that are not far below 0 are brought above it by so many quanta at most
owed_most : (quantum : ℕ) (credits : ℤ) → 0 < quantum → pos 0 ≤ℤ (credits +ℤ pos 65535) → quanta_owed quantum credits ≤ 65536
owed_most quantum (pos zero) some low = omega arith
owed_most quantum (pos (suc n)) some low = omega arith
owed_most quantum (negsuc n) some low =
    let near : suc n ≤ 65535 = omega (arith, ints) in
    let split = div-add-mod' (suc n) quantum in
    let less = quotient (suc n / quantum) in
    omega arith
  where
    quotient : (k : ℕ) → k ≤ k * quantum
    quotient k = grind arith

sum_most : (f : ℕ → ℕ) (most : ℕ) (xs : List ℕ) → ((x : ℕ) → f x ≤ most) → sum_by f xs ≤ length xs * most
sum_most f most xs each = sum_by-le f most xs (All-from_recursion (λ x. f x ≤ most) xs (ByRecursion-all (λ x. f x ≤ most) xs each))

pub few_turns : (quantum : ℕ) (s : FairQueues) (arrived : ℕ) → 0 < quantum → AreHeld s.lists s.flow_states arrived → length s.lists.new_flows + length s.lists.old_flows ≤ 65536 → turns_at_most quantum s ≤ 2 ^ 40
few_turns quantum s arrived some h few =
    let each = λ (flow : ℕ). owed_most quantum ((flow_state_at s flow).credits) some (h.numbers flow).low in
    let new = sum_most (λ flow. quanta_owed quantum ((flow_state_at s flow).credits) + 2) 65538 s.lists.new_flows (λ flow. let e = each flow in omega arith) in
    let old = sum_most (λ flow. quanta_owed quantum ((flow_state_at s flow).credits) + 1) 65538 s.lists.old_flows (λ flow. let e = each flow in omega arith) in
    omega arith
