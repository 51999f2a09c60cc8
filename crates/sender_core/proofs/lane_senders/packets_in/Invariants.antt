use Rattle.std.proofs.Common.{◌≡◌, map, take}
use Rattle.sender_core.proofs.lane_senders.packets_in.Given as goal

abbrev pub invariant-loop-packet : goal.invariant-loop-packet
invariant-loop-packet l = l.packets.items ≡ map (λ call. call.1) (take l.packet-index l.calls)
