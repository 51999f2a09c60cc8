use Rattle.std.proofs.Common.{take}
use Rattle.port_core.specs.Settling.{AreMet}
use Rattle.port_core.proofs.settling.all_told.Given as goal

abbrev pub invariant-loop-event : goal.invariant-loop-event
invariant-loop-event g l = AreMet l.seats l.met (take l.event-index l.events)
