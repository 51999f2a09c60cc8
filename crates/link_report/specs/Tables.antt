-- The rows of a table as text.
use Rattle.std.specs.Prelude.{ℕ, List, ◌++◌}
use Rattle.text_core.specs.Texts as texts
use Rattle.link_report.specs.declared.table.Table.{Table}
pub use Rattle.text_core.specs.Texts.{IsFilled, address_text, cause_name, ecn_digit, mark_name}
unfoldable pub use Rattle.text_core.specs.Texts.{line_of}

-- The rows that were written are this text, and the next row starts at its end.
abbrev pub HasTableText : Table → List ℕ → Type 0
HasTableText table text = texts.HasText table.rows text

-- These bytes are written after the rows so far, whatever those are.
unfoldable pub AddsToTable : Table → Table → List ℕ → Type 0
AddsToTable old new more = (text : List ℕ) → HasTableText old text → HasTableText new (text ++ more)
