use Rattle.std.proofs.Common.{◌≡◌, ℕ, ◌+◌, ◌≤◌, List, [], length, map, take}
use Rattle.journal_core.specs.Tallies.{HasRowRoom, seen_of}
use Rattle.journal_core.proofs.Words.{Acceptance, IsTallied}
use Rattle.journal_core.proofs.tally.Tally.open.Given as goal

-- there is a row for each five-tuple seen so far, and room for those of the others
abbrev pub invariant-loop-one : goal.invariant-loop-one
invariant-loop-one l = record {
  tallied : (kept : List Acceptance) → l.fn.self.seen.items ≡ map seen_of kept → IsTallied l.rows (take l.one-index kept) [];
  room : (more : ℕ) → l.one-index + more ≤ length l.fn.self.seen.items → HasRowRoom more l.rows;
}
