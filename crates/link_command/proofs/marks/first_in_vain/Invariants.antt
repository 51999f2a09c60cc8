use Rattle.std.proofs.Common.{◌≡◌, ◌<◌, ℕ, false, get_or}
use Rattle.link_command.specs.Marks.{is_in_vain}
use Rattle.link_command.specs.declared.marks.TheConstants.{NONE_SENT}
use Rattle.link_command.proofs.marks.first_in_vain.Given as goal

-- none of those so far is in vain
abbrev pub invariant-loop-place : goal.invariant-loop-place
invariant-loop-place l = (k : ℕ) → k < l.place → is_in_vain (get_or l.counts k NONE_SENT) ≡ false
