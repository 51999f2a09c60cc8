-- A row's numbers, which are read up to a limit.
use Rattle.std.proofs.Common.{◌≡◌, ℕ, ◌≤◌, min, Option, Some, None, option_map, refl, arith}
use Rattle.std.proofs.lemmas.Bool.Decides.{nat_tests}
use Rattle.std.proofs.lemmas.Grind.{common_steps}
use Rattle.row_core.specs.Rows.{◌>>?◌, below}

-- a number that is cut off at a limit is below the same bounds, up to the limit
pub below_cut : (bound limit : ℕ) (o : Option ℕ) → bound ≤ limit → (option_map (λ n. min n limit) o >>? below bound) ≡ (o >>? below bound)
below_cut bound limit None within = refl
below_cut bound limit (Some n) within = grind (arith, common_steps, nat_tests)
