-- What the laws of a journal ask of one acceptance.
use Rattle.std.proofs.Common.{zero, suc, refl, [], ◌∷◌, arith}
use Rattle.packet_core.specs.Packets.{PacketParts}
use Rattle.journal_core.specs.JournalLaws.{FatesFollow}
use Rattle.journal_core.specs.declared.event.Event.TheVariants.{Accepted}
use Rattle.test_allocations.proofs.recorders.tallied.Goals as goal

none_follow : (packet : PacketParts) → FatesFollow (Accepted 0 0 1 0 packet ∷ [])
none_follow packet zero = λ i d low. absurd (omega arith)
none_follow packet (suc zero) = λ i d low. absurd (omega arith)
none_follow packet (suc (suc point)) = λ i d low. absurd (omega arith)

pub rows-rows-requires-clause-ids : goal.rows-rows-requires-clause-ids
rows-rows-requires-clause-ids c = rw c.in-Some-note_of.ensures refl

pub rows-rows-requires-clause-follow : goal.rows-rows-requires-clause-follow
rows-rows-requires-clause-follow c = rw c.in-Some-note_of.ensures (none_follow c.args.values.now.packet)

pub rows-rows-requires-clause-once : goal.rows-rows-requires-clause-once
rows-rows-requires-clause-once c = rw c.in-Some-note_of.ensures tt

pub rows-rows-requires-clause-seen : goal.rows-rows-requires-clause-seen
rows-rows-requires-clause-seen c =
    rw c.in-Some-note_of.ensures (c.in-Some.ensures {u = tt} (record { id = 0; moment = 1; lane = 0; flow = 0; packet = c.args.values.now.packet }) refl refl)
