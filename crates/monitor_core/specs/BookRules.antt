-- The rule of the book of what was published, and what its step tells.
use Rattle.std.specs.Prelude.{ℕ, ◌≡◌, ◌==◌, true, List, [], ◌∷◌, ◌++◌, length, MatchBool}
use Rattle.logbook.specs.Pages.{Cell, Step, View, Book, Named}
use Rattle.monitor_core.specs.declared.book.Batch.{Batch}

-- The first word is the number of entries. A book has two words, of which this one leaves the second at 0.
abbrev pub HasEntryCount : List Cell → List Batch → Type 0
HasEntryCount cells log = cells ≡ (length log, true) ∷ (0, true) ∷ []

-- the book's first word
abbrev pub head_of : Book → Named
head_of b = record { tracked = true; key = 0; book = b }

-- The batch was added to all that had been seen; or there are more entries, and they were seen.
abbrev pub Adds : Step Batch → View Batch ℕ → ℕ → View Batch ℕ → Type 0
Adds s v found w = MatchBool (found == s.old) (w.0 ≡ v.0 ++ s.ask ∷ []) (length w.0 ≡ found)
