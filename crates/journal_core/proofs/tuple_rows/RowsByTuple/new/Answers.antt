-- Of no event there is nothing.
use Rattle.std.proofs.Common.{refl}
use Rattle.std.specs.List.{IsDistinct}
use Rattle.journal_core.proofs.tuple_rows.RowsByTuple.new.Goals as goal

pub returns : goal.returns
unfolding IsDistinct
returns c =
    rw (c.with_hasher.ensures.empty, c.new-2.ensures.items, c.new-3.ensures.items) (record { tuples_are = refl; apart = tt; rows_are = refl; places_are = tt })
