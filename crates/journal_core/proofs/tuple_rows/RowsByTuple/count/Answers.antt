use Rattle.std.proofs.Common.{◌≡◌, ℕ, Some, arith, sym, subst, ◌∙◌, slice_get, get_or, ap}
use Rattle.journal_core.proofs.Words.{length-take-le, take_more, tuple_of, acceptances, packet_id_of}
use Rattle.journal_core.specs.Notes.{counted_by, noted_id}
use Rattle.journal_core.proofs.TallyLemmas.{IsOfPacket, counted_noted, event_packet, noted_packet, packet_few, packet_placed, packet_within, tallied_counts, tallied_stays}
use Rattle.journal_core.proofs.tuple_rows.RowsByTuple.count.Goals.{In-Some}
use Rattle.journal_core.proofs.tuple_rows.RowsByTuple.count.Goals as goal

-- the event's packet was accepted
its_id : (c : In-Some) → packet_id_of c.requires.noted.event ≡ Some c.in-Some.id
its_id c = sym (noted_packet c.requires.noted.event) ∙ ap noted_id (sym c.requires.noted.is) ∙ sym c.packet_id.ensures ∙ c.in-Some.is

its_packet : (c : In-Some) → IsOfPacket (acceptances c.args.told.now.items) c.requires.noted.event c.in-Some.id
its_packet c =
    let at = c.requires.noted in
    event_packet c.args.told.now.items c.requires.ids c.requires.follow c.args._place at.event at.event c.in-Some.id at.within at.stands (its_id c)

-- at its place stands its five-tuple
its_place : (c : In-Some) (row : ℕ) → row ≡ get_or c.args.self.now.places.items c.in-Some.id row → slice_get c.args.self.now.tuples.keys row ≡ Some (tuple_of (its_packet c).who)
its_place c row is =
    subst (λ p. slice_get c.args.self.now.tuples.keys p ≡ Some (tuple_of (its_packet c).who)) (sym is) (packet_placed _ _ _ _ _ c.requires.before c.requires.ids _ _ (its_packet c) row).1

pub index-row-requires : goal.index-row-requires
index-row-requires c =
    let within = (packet_placed _ _ _ _ _ c.requires.before c.requires.ids _ _ (its_packet (goal.at.index-row-requires c).In-Some) 0).0 in
    let ok = c.args.self.now.places.ok in
    omega arith

pub index_mut-requires : goal.index_mut-requires
index_mut-requires c =
    let some = (goal.at.index_mut-requires c).In-Some in
    let within = packet_within _ _ _ _ _ c.requires.before c.requires.ids _ _ (its_packet some) _ (its_place some c.index-row.result.now c.index-row.ensures) in
    let ok = c.args.self.now.rows.ok in
    omega arith

pub count-requires : goal.count-requires
count-requires c =
    let some = (goal.at.count-requires c).In-Some in
    let few = packet_few _ _ _ _ _ c.requires.before c.requires.ids _ _ (its_packet some) _ (its_place some c.index-row.result.now c.index-row.ensures) c.index_mut.result.now c.index_mut.ensures.value in
    let within = c.requires.noted.within in
    let len = length-take-le c.args._place c.args.told.now.items (omega arith) in
    record { accepted = omega arith; sent = omega arith; dropped = omega arith }

pub returns-in-Some : goal.returns-in-Some
returns-in-Some c =
    let some = (goal.at.returns-in-Some c).In-Some in
    let at = c.requires.noted in
    let counts = c.count.ensures ∙ ap (λ n. counted_by n c.index_mut.result.now) at.is ∙ counted_noted at.event c.index_mut.result.now in
    rw (counts, take_more c.args.told.now.items c.args._place at.event at.within, at.stands)
    (tallied_counts _ _ _ _ _ c.requires.before c.requires.ids _ _ (its_packet some) _ (its_place some c.index-row.result.now c.index-row.ensures) c.index_mut.result.now c.index_mut.ensures.value (its_id some))

pub returns-in_default : goal.returns-in_default
returns-in_default c =
    let at = c.requires.noted in
    rw (take_more c.args.told.now.items c.args._place at.event at.within, at.stands)
    (tallied_stays _ _ _ _ _ c.requires.before at.event (sym (noted_packet at.event) ∙ ap noted_id (sym at.is) ∙ sym c.packet_id.ensures ∙ c.in_default.is))
