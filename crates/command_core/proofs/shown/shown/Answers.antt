use Rattle.std.proofs.Common.{subst, sym}
use Rattle.command_core.specs.Shown.{IsShown}
use Rattle.command_core.proofs.ShownLemmas.{shown_none}
use Rattle.command_core.proofs.shown.shown.Goals as goal

pub loop-c-init : goal.loop-c-init
loop-c-init c = subst IsShown (sym c.new-shown.ensures.bytes) shown_none
