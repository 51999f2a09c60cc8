use Rattle.std.proofs.Common.{◌-◌, ◌^◌}
use Rattle.port_core.proofs.PlaceLemmas.{ArePlacesSoFar}
use Rattle.port_core.proofs.settling.places_of.Given as goal

abbrev pub invariant-loop-place : goal.invariant-loop-place
invariant-loop-place g l = ArePlacesSoFar l.seats l.places (2 ^ 64 - 1) l.place
