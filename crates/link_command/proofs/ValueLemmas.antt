-- Values in their ranges, where they are cut off.
use Rattle.std.proofs.Common.{◌≡◌, ◌∙◌, ◌-◌, ◌<◌, ◌≤◌, ◌^◌, ◌&&◌, ℕ, Bool, true, false, Option, Some, None, Result, Ok, Err, min, refl, sym, ap, arith, inl, inr, leb}
use Rattle.std.specs.Prelude.{IfOk}
use Rattle.std.proofs.lemmas.Bool.{cases_lt}
use Rattle.std.proofs.lemmas.Bool.Decides.{leb_tells}
use Rattle.link_command.proofs.CountLemmas.{capped}
use Rattle.link_command.specs.Values.{fault_within}

above : (n most : ℕ) → most < n → leb n most ≡ false
above n most h = elim (leb_tells n most) [ inl t ↦ absurd (omega (arith, t.1, h)) | inr t ↦ t.0 ]

and_no : (b : Bool) → (b && false) ≡ false
and_no true = refl
and_no false = refl

-- what is wrong with a value is wrong with it where it is cut off
pub within_capped : (least most : ℕ) (x : Option ℕ) → most < 2 ^ 64 - 1 → fault_within least most (capped x) ≡ fault_within least most x
within_capped least most None small = refl
within_capped least most (Some n) small = elim (cases_lt n (2 ^ 64 - 1)) [
  | inl low ↦ let same : min n (2 ^ 64 - 1) ≡ n = omega arith in rw same refl
  | inr high ↦
      let same : min n (2 ^ 64 - 1) ≡ 2 ^ 64 - 1 = omega arith in
      rw (same, above (2 ^ 64 - 1) most (omega arith), above n most (omega arith), and_no (leb least (2 ^ 64 - 1)), and_no (leb least n)) refl
]

exact : (x : Option ℕ) (v : ℕ) → capped x ≡ Some v → v < 2 ^ 64 - 1 → x ≡ Some v
exact None v e small = cc
exact (Some n) v e small = let same : min n (2 ^ 64 - 1) ≡ v = cc in ap Some (omega arith)

-- and one in its range isn't cut off
pub said_exactly : {E : Type 0} (r : Result ℕ E) (x value : Option ℕ) (least most : ℕ) → value ≡ capped x → most < 2 ^ 64 - 1 → IfOk r (λ v. value ≡ Some v)
    → IfOk r (λ v. (least ≤ v) × (v ≤ most)) → IfOk r (λ v. x ≡ Some v)
said_exactly (Ok v) x value least most is small said range = exact x v (sym is ∙ said) (omega (arith, range.1))
said_exactly (Err e) x value least most is small said range = tt
