use Rattle.std.proofs.Common.{◌↔◌, drop}
use Rattle.link_core.specs.Underway.{AreComing}
use Rattle.link_core.proofs.arrival.Arrival.may_come.Given as goal

-- all come in order where the rest does
abbrev pub invariant-loop-arrival : goal.invariant-loop-arrival
invariant-loop-arrival l = AreComing l.last (drop l.arrival-index l.arrivals) ↔ AreComing 0 l.arrivals
