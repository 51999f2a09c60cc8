-- Percentiles, by counting.
use Rattle.std.specs.Prelude.{◌≡◌, ℕ, ◌*◌, ◌≤◌, List, [], ◌∷◌, Contains, length, min, fold, filter, count_by, nat_le}

-- how many members are at most that
abbrev pub at_most : List ℕ → ℕ → ℕ
at_most members bound = count_by (λ m. nat_le m bound) members

-- The value is a member such that at least so many in 100 members are at most it, and no lesser member is one.
pub record IsPercentile (percent : ℕ) (members : List ℕ) (value : ℕ) : Type 0 where
  pub member : Contains members value
  pub enough : percent * length members ≤ 100 * at_most members value
  pub least : (other : ℕ) → Contains members other
      → percent * length members ≤ 100 * at_most members other → value ≤ other

-- the least of some numbers, and 0 of none
abbrev pub least_of : List ℕ → ℕ
least_of [] = 0
least_of (x ∷ xs) = fold min x xs

-- The least member such that at least so many in 100 members are at most it; 0 of no members.
abbrev pub percentile_of : ℕ → List ℕ → ℕ
percentile_of percent members =
    least_of (filter (λ m. nat_le (percent * length members) (100 * at_most members m)) members)
