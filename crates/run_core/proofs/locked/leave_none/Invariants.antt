use Rattle.std.proofs.Common.{◌≡◌, All, take}
use Rattle.run_core.proofs.locked.leave_none.Given as goal

abbrev pub invariant-loop-row : goal.invariant-loop-row
invariant-loop-row l = All (λ row. row.left ≡ 0) (take l.row-index l.rows)
