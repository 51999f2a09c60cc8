-- How a table's rows come one after the other.
use Rattle.std.proofs.Common.{◌≡◌, ℕ, ◌+◌, ◌<◌, List, [], ◌∷◌, ◌++◌, take, get_or, length, append_assoc, append-nil}
use Rattle.std.specs.List.{flat_map}
use Rattle.std.proofs.lemmas.List.{flat_map_more, take_more}
use Rattle.link_report.specs.declared.table.Table.{Table}
use Rattle.text_core.specs.Texts as texts
use Rattle.link_report.specs.Tables.{AddsToTable}

-- what is written to the rows within is written
pub adds_within : (old new : Table) (more : List ℕ) → texts.Adds old.rows new.rows more → AddsToTable old new more
unfolding AddsToTable texts.Adds
adds_within old new more adds = adds

-- nothing is written yet
pub adds_none : (table : Table) → AddsToTable table table []
unfolding AddsToTable
adds_none table text h = rw append-nil h

-- what is written behind what was written
pub adds_both : (old mid new : Table) (first more : List ℕ) → AddsToTable old mid first → AddsToTable mid new more → AddsToTable old new (first ++ more)
unfolding AddsToTable
adds_both old mid new first more a b = λ text h. rw (← append_assoc text first more) (b (text ++ first) (a text h))

-- a row more of things that have a row each
pub adds_line : {X : Type 0} (line : X → List ℕ) (xs : List X) (i : ℕ) (x d : X) (old mid new : Table) → i < length xs → x ≡ get_or xs i d
    → AddsToTable old mid (flat_map line (take i xs)) → AddsToTable mid new (line x) → AddsToTable old new (flat_map line (take (i + 1) xs))
adds_line line xs i x d old mid new within is a b =
    let more = take_more xs i d within in
    rw (more, ← is, ← flat_map_more line [] (take i xs) x) (adds_both old mid new _ _ a b)
