use Rattle.std.proofs.Common.{◌≡◌, ◌++◌, ◌∷◌, [], arith, rules, sym}
use Rattle.journal_core.proofs.TallyLemmas.{tallied_adds}
use Rattle.journal_core.proofs.tuple_rows.RowsByTuple.accept_reserved.Goals as goal

pub returns-clause-added : goal.returns-clause-added
returns-clause-added c =
    let place = rw c.unwrap-row.ensures at c.place_by_hash.ensures.place in
    let tuples = rw c.unwrap-row.ensures at c.place_by_hash.ensures.tuples in
    let row = rw c.unwrap-row.ensures at c.place_by_hash.ensures.row in
    let places : c.push_reserved.new.self.items ≡ c.args.self.now.places.items ++ c.unwrap-row.result ∷ [] = search rules in
    λ accepted a tuple flow before.
    rw (tuples, row, places, sym tuple, sym flow) (tallied_adds _ _ _ accepted a _ (rw (tuples, sym tuple) at place) before)

pub returns-clause-room : goal.returns-clause-room
returns-clause-room c = λ more room.
    let left = c.place_by_hash.ensures.room more room in
    let len = c.push_reserved.ensures.len in
    let capacity = c.push_reserved.ensures.capacity in
    let places = rw (← c.place_by_hash.ensures.places) at room.2 in
    (left.0, left.1, omega (arith, places))
