use Rattle.std.proofs.Common.{◌≡◌, take}
use Rattle.link_picture.specs.Contents.{names_of}
use Rattle.link_picture.proofs.content.names_of.Given as goal

-- the names so far
abbrev pub invariant-loop-number : goal.invariant-loop-number
invariant-loop-number l = l.names.items ≡ names_of (take l.number-index l.chosen) l.tuples
