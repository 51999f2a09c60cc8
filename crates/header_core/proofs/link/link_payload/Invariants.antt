-- All ethertypes so far are those of tags.
use Rattle.std.proofs.Common.{◌≡◌, ℕ, ◌+◌, ◌-◌, ◌<◌, true, length}
use Rattle.header_core.specs.Fields.{be16_at}
use Rattle.header_core.specs.Links.{ethertype_place, is_tag}
use Rattle.header_core.proofs.link.link_payload.Given as goal

abbrev pub invariant-loop-offset : goal.invariant-loop-offset
invariant-loop-offset l = record {
  place : l.offset ≡ ethertype_place l.tags + 2;
  tagged : (j : ℕ) → j < l.tags → is_tag (be16_at l.bytes (ethertype_place j)) ≡ true;
}

abbrev pub decreases-loop-offset : goal.decreases-loop-offset
decreases-loop-offset l = length l.bytes + 4 - l.offset
