use Rattle.std.proofs.Common.{◌≡◌, ℕ, List, length, take}
use Rattle.std.specs.Io.KnownBytes.{Appends, Keeps}
use Rattle.program_core.specs.Watched.{AreFronts}
use Rattle.program_core.proofs.monitors.tell_seen.Given as goal

-- where nobody saw anything, nothing is told
abbrev pub invariant-loop-monitor : goal.invariant-loop-monitor
invariant-loop-monitor g l =
    (length l.fn.seen ≡ 0 → Keeps (g.F.Write.contents l.fn.told) (g.F.Write.contents l.told))
    × ((text : List ℕ) × AreFronts 0 (take l.monitor l.fn.seen) text × Appends (g.F.Write.contents l.fn.told) (g.F.Write.contents l.told) text)
