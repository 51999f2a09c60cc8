use Rattle.std.proofs.Common.{◌≡◌, ◌++◌, ◌∷◌, [], rules, sym}
use Rattle.journal_core.proofs.TallyLemmas.{tallied_adds}
use Rattle.journal_core.proofs.tuple_rows.RowsByTuple.accept.Goals as goal

pub returns : goal.returns
returns c =
    let row = c.in_ok-row.ensures {u = tt} in
    let places : c.push_reserved.new.self.items ≡ c.args.self.now.places.items ++ c.in_ok-row.row ∷ [] = search rules in
    λ accepted a tuple flow before.
    rw (row.tuples, row.row, places, sym tuple, sym flow) (tallied_adds _ _ _ accepted a _ (rw (row.tuples, sym tuple) at row.place) before)
