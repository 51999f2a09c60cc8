-- The chain of extension headers: how far a walk along it has come, and that it has one end.
use Rattle.std.proofs.Common.{◌≡◌, ◌∙◌, ℕ, suc, ◌+◌, ◌<◌, ◌≤◌, List, ltb, not, inl, inr, refl, sym, ap, below_more, arith}
use Rattle.std.proofs.lemmas.Bool.{ltb-false}
use Rattle.header_core.specs.Chains.{EndsAt, first_place, is_extension, kind_at, place_behind, place_of}
use Rattle.header_core.specs.declared.chain.Kind.{Kind}
use Rattle.header_core.specs.declared.chain.Kind.TheVariants as kind
use Rattle.header_core.specs.declared.chain.Place.{Place}
use Rattle.header_core.proofs.TestLemmas.{chosen, first_is_one}

-- The walk stands behind k extension headers.
pub record Walks (bytes : List ℕ) (len : ℕ) (p : Place) (k : ℕ) : Type 0 where
  pub place : p ≡ place_of bytes k
  pub before : (j : ℕ) → j < k → kind_at bytes len (place_of bytes j) ≡ kind.Extension

pub walks_none : (bytes : List ℕ) (len : ℕ) → Walks bytes len (first_place bytes) 0
unfolding place_of
walks_none bytes len = record { place = refl; before = λ j below. absurd (omega arith) }

pub walks_more : (bytes : List ℕ) (len : ℕ) (p : Place) (k : ℕ) → Walks bytes len p k → kind_at bytes len p ≡ kind.Extension → Walks bytes len (place_behind bytes p) (suc k)
unfolding place_of
walks_more bytes len p k walk here =
    let P : ℕ → Type 0 = λ j. kind_at bytes len (place_of bytes j) ≡ kind.Extension in
    record {
      place = ap (place_behind bytes) walk.place;
      before = λ j below. below_more P k walk.before (ap (kind_at bytes len) (sym walk.place) ∙ here) j (omega arith);
    }

pub one_end : (bytes : List ℕ) (len : ℕ) (p q : Place) → EndsAt bytes len p → EndsAt bytes len q → p ≡ q
one_end bytes len p q (k, a) (m, b) =
    let P : ℕ → Type 0 = λ j. kind_at bytes len (place_of bytes j) ≡ kind.Extension in
    let same : k ≡ m = first_is_one P k m a.before (λ h. a.end (ap (kind_at bytes len) a.place ∙ h)) b.before (λ h. b.end (ap (kind_at bytes len) b.place ∙ h)) in
    a.place ∙ ap (place_of bytes) same ∙ sym b.place

-- A header that can be read lies inside the packet with its first eight bytes.
pub inside : (bytes : List ℕ) (len : ℕ) (p : Place) (k : Kind) → kind_at bytes len p ≡ k → (k ≡ kind.Upper → ⊥) → (k ≡ kind.Beyond → ⊥) → p.at + 8 ≤ len
unfolding kind_at
inside bytes len p k is not_upper not_beyond =
    elim (chosen (not (is_extension p)) _ _ k is) [
      | inl upper ↦ absurd (not_upper (sym upper.1))
      | inr extension ↦ elim (chosen (ltb len (p.at + 8)) _ _ k extension.1) [
        | inl beyond ↦ absurd (not_beyond (sym beyond.1))
        | inr within ↦ ltb-false len (p.at + 8) within.0
      ]
    ]
