use Rattle.std.proofs.Common.{string_bytes}
use Rattle.command_core.specs.Shown.{IsShown}
use Rattle.command_core.proofs.shown.shown.Given as goal

abbrev pub invariant-loop-c : goal.invariant-loop-c
invariant-loop-c l = IsShown (string_bytes l.shown)
