-- The comparisons of two flows' bytes, call by call.
use Rattle.std.proofs.Common.{◌≡◌, ℕ, ◌+◌, List, length, length-take, take, min, slice_get, Some, arith}
use Rattle.std.proofs.Math.Nat.{add-mul, zero-add}
use Rattle.std.proofs.lemmas.Option.{slice_get_within}
use Rattle.packet_core.specs.declared.packet.Waiting.{Waiting}
use Rattle.flow_core.specs.Winners.{CountsFew}

-- no comparison
pub counts_none : (flows old new : ℕ) → new ≡ old → CountsFew flows 0 old new
counts_none flows old new same = record { none_lost = omega arith; most = λ levels is. omega arith }

-- none, of whatever changes
pub counts_idle : (flows changes : ℕ) → CountsFew flows changes 0 0
counts_idle flows changes = record { none_lost = omega arith; most = λ levels is. omega arith }

-- those of some changes, and of more
pub counts_on : (flows n m old mid new : ℕ) → CountsFew flows n old mid → CountsFew flows m mid new → CountsFew flows (n + m) old new
counts_on flows n m old mid new first then' = record {
  none_lost = omega (arith, first.none_lost, then'.none_lost);
  most = λ levels is. omega (arith, first.most levels is, then'.most levels is, add-mul n m levels);
}

-- none, and then those of some changes
pub counts_behind : (flows n old mid new : ℕ) → CountsFew flows 0 old mid → CountsFew flows n mid new → CountsFew flows n old new
counts_behind flows n old mid new first then' = rw zero-add at (counts_on flows 0 n old mid new first then')

-- a packet that is found leaves with those before it
pub found_leaves : (q : List Waiting) (n : ℕ) (w : Waiting) → slice_get q n ≡ Some w → min (n + 1) (length q) ≡ length (take n q) + 1
found_leaves q n w found = let within = slice_get_within q n w found in omega (arith, length-take n q)
