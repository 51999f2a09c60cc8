-- How a report's rows come one after the other.
use Rattle.std.proofs.Common.{◌≡◌, ℕ, ◌+◌, ◌<◌, List, [], ◌∷◌, ◌++◌, map, take, get_or, length, refl, append_assoc, append-nil}
use Rattle.std.specs.List.{flat_map}
use Rattle.std.proofs.lemmas.List.{flat_map_more, take_more}
use Rattle.journal_core.specs.declared.event.Event.{Event}
use Rattle.journal_core.specs.declared.event.Event.TheVariants.{Accepted, Sent, Dropped, Closed}
use Rattle.journal_core.specs.Notes.{note_of}
use Rattle.trace_core.specs.declared.report.Rows.{Rows}
use Rattle.text_core.specs.Texts as texts
use Rattle.trace_core.specs.Report.{AddsToReport, event_line, note_line}

-- what is written to the rows within is written
pub adds_within : (old new : Rows) (more : List ℕ) → texts.Adds old.rows new.rows more → AddsToReport old new more
unfolding AddsToReport texts.Adds
adds_within old new more adds = adds

-- nothing is written yet
pub adds_none : (rows : Rows) → AddsToReport rows rows []
unfolding AddsToReport
adds_none rows text h = rw append-nil h

-- what is written behind what was written
pub adds_both : (old mid new : Rows) (first more : List ℕ) → AddsToReport old mid first → AddsToReport mid new more → AddsToReport old new (first ++ more)
unfolding AddsToReport
adds_both old mid new first more a b = λ text h. rw (← append_assoc text first more) (b (text ++ first) (a text h))

-- a row more of things that have a row each
pub adds_line : {X : Type 0} (line : X → List ℕ) (xs : List X) (i : ℕ) (x d : X) (old mid new : Rows) → i < length xs → x ≡ get_or xs i d
    → AddsToReport old mid (flat_map line (take i xs)) → AddsToReport mid new (line x) → AddsToReport old new (flat_map line (take (i + 1) xs))
adds_line line xs i x d old mid new within is a b =
    let more = take_more xs i d within in
    rw (more, ← is, ← flat_map_more line [] (take i xs) x) (adds_both old mid new _ _ a b)

-- the row of an event, by its note, is that of the event
pub noted_line : (e : Event) → note_line (note_of e) ≡ event_line e
noted_line (Accepted lane id moment flow packet) = refl
noted_line (Sent id moment ecn mark) = refl
noted_line (Dropped id moment why) = refl
noted_line (Closed moment) = refl

pub noted_lines : (es : List Event) → flat_map note_line (map note_of es) ≡ flat_map event_line es
noted_lines [] = refl
noted_lines (e ∷ es) = λ i. noted_line e i ++ noted_lines es i
