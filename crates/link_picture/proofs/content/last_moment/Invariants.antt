use Rattle.std.proofs.Common.{◌≡◌, ◌≤◌, take}
use Rattle.link_picture.specs.Axes.{last_of}
use Rattle.link_picture.specs.declared.content.TheConstants.{LAST_MOMENT}
use Rattle.link_picture.proofs.content.last_moment.Given as goal

-- the last moment so far, at least the moment given
abbrev pub invariant-loop-packet : goal.invariant-loop-packet
invariant-loop-packet l = record {
  last : l.last ≡ last_of l.moment (take l.packet-index l.packets);
  from : l.moment ≤ l.last;
  upto : l.last ≤ LAST_MOMENT;
}
