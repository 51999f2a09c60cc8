use Rattle.std.proofs.Common.{◌≡◌, ◌<◌, ℕ, [], Vec, Global, length, slice_index_or, take}
use Rattle.packet_core.specs.Packets.{PacketParts}
use Rattle.sender_core.specs.Senders.{AreCalls}
use Rattle.sender_core.proofs.senders.lists_of.Given as goal

abbrev pub invariant-loop-sender : goal.invariant-loop-sender
invariant-loop-sender l =
    (length l.lists.items ≡ l._sender)
    × ((i : ℕ) (d : Vec (ℕ × PacketParts) Global) → i < l._sender → (slice_index_or l.lists.items i d).items ≡ [])

abbrev pub invariant-loop-step : goal.invariant-loop-step
invariant-loop-step l = record {
  calls : AreCalls l.fn.params l.fn.seed l.senders (take l.step-index l.steps) l.lists.items;
  chooser : l.chooser ≡ record { params = l.fn.params; seed = l.fn.seed };
}
