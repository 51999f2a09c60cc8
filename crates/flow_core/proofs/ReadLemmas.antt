-- What is read at a place of a list, which may be past its end.
use Rattle.std.proofs.Common.{◌≡◌, ℕ, zero, suc, ◌≤◌, List, [], ◌∷◌, All, length, get_or, map, replicate, sum_by, refl, ap, inl, inr, arith}
use Rattle.std.proofs.lemmas.Bool.{cases_lt}
use Rattle.std.proofs.lemmas.List.{get_or_past}
use Rattle.std.proofs.lemmas.List.Elements.{All-get_or}
use Rattle.std.proofs.lemmas.List.Sums.{get_or-le-sum_by}

pub All-at : {X : Type 0} (P : X → Type 0) (xs : List X) (i : ℕ) (d : X) → P d → All P xs → P (get_or xs i d)
All-at P xs i d default all =
    elim (cases_lt i (length xs)) [
      | inl within ↦ All-get_or P xs i d within all
      | inr past ↦ rw (get_or_past xs i d past) default
    ]

-- one of the lists has no more elements than all of them
pub length-at : {X : Type 0} (xs : List (List X)) (i : ℕ) → length (get_or xs i []) ≤ sum_by length xs
length-at xs i =
    elim (cases_lt i (length xs)) [
      | inl within ↦ get_or-le-sum_by length xs i [] within
      | inr past ↦ rw (get_or_past xs i [] past) (omega arith)
    ]

pub replicate-at : {X : Type 0} (n i : ℕ) (x : X) → get_or (replicate n x) i x ≡ x
replicate-at zero i x = refl
replicate-at (suc n) zero x = refl
replicate-at (suc n) (suc i) x = replicate-at n i x

pub map-replicate : {X Y : Type 0} (f : X → Y) (n : ℕ) (x : X) → map f (replicate n x) ≡ replicate n (f x)
map-replicate f zero x = refl
map-replicate f (suc n) x = ap (λ ys. f x ∷ ys) (map-replicate f n x)
