use Rattle.std.proofs.Common.{◌≡◌, drop}
use Rattle.sender_core.specs.Interleavings.{main_rows}
use Rattle.sender_core.proofs.interleaving.is_done.Given as goal

abbrev pub invariant-loop-next : goal.invariant-loop-next
invariant-loop-next l = main_rows l.closed (drop l.next l.rows) ≡ main_rows l.closed (drop l.row l.rows)
