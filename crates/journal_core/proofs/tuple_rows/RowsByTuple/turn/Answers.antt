-- The place that is read is one of those that were given, and each is that of a packet.
use Rattle.std.proofs.Common.{◌≡◌, ℕ, ◌<◌, ap, arith, get_or, length}
use Rattle.std.proofs.lemmas.List.{get_or_default, get_or_read}
use Rattle.std.proofs.lemmas.List.Edits.{map_over_more}
use Rattle.journal_core.proofs.SeenLemmas.{left_at}
use Rattle.journal_core.proofs.tuple_rows.RowsByTuple.turn.Goals as goal

pub index-requires : goal.index-requires
index-requires c =
    let i = c.loop-place.place-index in
    let low : i < length c.args.places.items = omega (arith, ap length c.deref_mut-place-items.ensures.value) in
    let is : get_or c.loop-place.place-items i 0 ≡ get_or c.args.places.items i 0 =
    left_at (λ place. get_or c.args.self.now.places.items place 0) c.args.places.items c.loop-place.place-items i 0 low c.loop-place.invariant in
    rw is (c.requires i 0 low)

pub loop-place-preserved : goal.loop-place-preserved
loop-place-preserved c =
    let i = c.loop-place.place-index in
    let turned : ℕ → ℕ = λ place. get_or c.args.self.now.places.items place 0 in
    let items = c.loop-place.place-items in
    let low : i < length c.args.places.items = omega (arith, ap length c.deref_mut-place-items.ensures.value) in
    let is : get_or items i 0 ≡ get_or c.args.places.items i 0 = left_at turned c.args.places.items items i 0 low c.loop-place.invariant in
    let ok = c.args.self.now.places.ok in
    let within = c.requires i 0 low in
    let read : c.index.result.now ≡ turned (get_or items i 0) = get_or_read c.args.self.now.places.items (get_or items i 0) c.index.result.now (omega arith) c.index.ensures 0 in
    rw read (map_over_more turned c.args.places.items items i (get_or items i 0) low c.loop-place.invariant (get_or_default items i 0 (get_or items i 0) (omega (arith, c.loop-place.auto.place-items))))
