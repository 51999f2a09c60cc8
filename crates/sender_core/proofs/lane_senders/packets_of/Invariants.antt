use Rattle.std.proofs.Common.{◌≡◌, map, take}
use Rattle.sender_core.proofs.lane_senders.packets_of.Given as goal

abbrev pub invariant-loop-list : goal.invariant-loop-list
invariant-loop-list l = map (λ v. v.items) l.all.items ≡ map (λ v. map (λ call. call.1) v.items) (take l.list-index l.lists)
