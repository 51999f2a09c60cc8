-- The hop-by-hop options: how far a walk along them has come, and that there is one verdict on a jumbogram.
use Rattle.std.proofs.Common.{◌≡◌, ◌∙◌, ℕ, suc, ◌+◌, ◌<◌, List, Option, Some, None, MatchOption, refl, sym, ap, below_more, arith}
use Rattle.header_core.specs.Jumbograms.{JudgesJumbogram, LooksUpTo, option_at, option_fault, option_length, option_place, verdict_at}
use Rattle.header_core.specs.declared.header.Verdict.{Verdict}
use Rattle.header_core.specs.declared.jumbo.Found.TheVariants as found
use Rattle.header_core.proofs.TestLemmas.{first_is_one}

-- The walk stands behind k other options.
pub record Looks (bytes : List ℕ) (at k : ℕ) : Type 0 where
  pub place : at ≡ option_place bytes k
  pub before : (j : ℕ) → j < k → option_at bytes (option_place bytes j) ≡ found.Another

pub looks_none : (bytes : List ℕ) → Looks bytes 42 0
unfolding option_place
looks_none bytes = record { place = refl; before = λ j below. absurd (omega arith) }

pub looks_more : (bytes : List ℕ) (at k : ℕ) → Looks bytes at k → option_at bytes at ≡ found.Another → Looks bytes (at + option_length bytes at) (suc k)
unfolding option_place
looks_more bytes at k walk here =
    let P : ℕ → Type 0 = λ j. option_at bytes (option_place bytes j) ≡ found.Another in
    record {
      place = ap (λ (n : ℕ). n + option_length bytes n) walk.place;
      before = λ j below. below_more P k walk.before (ap (option_at bytes) (sym walk.place) ∙ here) j (omega arith);
    }

one_option : (bytes : List ℕ) (a b k m : ℕ) → LooksUpTo bytes a k → LooksUpTo bytes b m → a ≡ b
one_option bytes a b k m x y =
    let P : ℕ → Type 0 = λ j. option_at bytes (option_place bytes j) ≡ found.Another in
    let same : k ≡ m = first_is_one P k m x.before (λ h. x.end (ap (option_at bytes) x.place ∙ h)) y.before (λ h. y.end (ap (option_at bytes) y.place ∙ h)) in
    x.place ∙ ap (option_place bytes) same ∙ sym y.place

abbrev Judges : Option Verdict → List ℕ → ℕ → Verdict → Type 0
Judges fault bytes wire judged =
    MatchOption fault
    ((at : ℕ) × (k : ℕ) × LooksUpTo bytes at k × (judged ≡ verdict_at bytes wire at (option_at bytes at)))
    (λ broken. judged ≡ broken)

one_by : (fault : Option Verdict) (bytes : List ℕ) (wire : ℕ) (v w : Verdict) → Judges fault bytes wire v → Judges fault bytes wire w → v ≡ w
one_by (Some broken) bytes wire v w x y = x ∙ sym y
one_by None bytes wire v w (a, k, x, is) (b, m, y, also) =
    is ∙ ap (λ (at : ℕ). verdict_at bytes wire at (option_at bytes at)) (one_option bytes a b k m x y) ∙ sym also

pub one_verdict : (bytes : List ℕ) (wire : ℕ) (v w : Verdict) → JudgesJumbogram bytes wire v → JudgesJumbogram bytes wire w → v ≡ w
one_verdict bytes wire v w x y = one_by (option_fault bytes wire) bytes wire v w x y
