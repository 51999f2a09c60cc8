-- The greatest length that was accepted.
use Rattle.std.proofs.Common.{ℕ, ◌<◌, ◌≤◌, All, List, [], ◌∷◌, ◌++◌, arith}
use Rattle.std.specs.List.{AllByRecursion}
use Rattle.std.proofs.lemmas.List.Elements.{recursion_from_All}
use Rattle.journal_core.specs.Happened.{Acceptance}
use Rattle.journal_core.proofs.ListLemmas.{ByRecursion-weaker}
use Rattle.sched_core.specs.Shares.{longest}

-- no packet is longer
pub longest_most : (accepted : List Acceptance) → AllByRecursion (λ (a : Acceptance). a.packet.len ≤ longest accepted) accepted
longest_most [] = tt
longest_most (a ∷ accepted) = (omega arith, ByRecursion-weaker (λ (b : Acceptance). b.packet.len ≤ longest accepted) (λ b. b.packet.len ≤ longest (a ∷ accepted)) accepted (λ b le. omega arith) (longest_most accepted))

pub some_longest : (accepted : List Acceptance) → 0 < longest accepted
some_longest [] = omega arith
some_longest (a ∷ accepted) = let e = some_longest accepted in omega arith

-- it grows with more acceptances
pub longest_grows : (accepted more : List Acceptance) → longest accepted ≤ longest (accepted ++ more)
longest_grows [] more = let e = some_longest more in omega arith
longest_grows (a ∷ accepted) more = let e = longest_grows accepted more in omega arith

-- and it is at most what no packet is longer than
pub longest_least : (most : ℕ) (accepted : List Acceptance) → 0 < most → All (λ (a : Acceptance). a.packet.len ≤ most) accepted → longest accepted ≤ most
longest_least most accepted some all = go accepted (recursion_from_All (λ (a : Acceptance). a.packet.len ≤ most) accepted all)
  where
    go : (accepted : List Acceptance) → AllByRecursion (λ (a : Acceptance). a.packet.len ≤ most) accepted → longest accepted ≤ most
    go [] h = omega arith
    go (a ∷ accepted) h = let here = h.0 in let rest = go accepted h.1 in omega arith
