-- How a handle lends what is in its box.
use Rattle.std.specs.Prelude.{Some}
use Rattle.std.specs.Borrow.{Fml, Lends, MutBor}
use Rattle.queue_disc_core.specs.QueueDiscs.{DiscState}
use Rattle.queue_disc_core.specs.contracts.queue_disc.QueueDisc as disc
use Rattle.maltcove_c.specs.declared.handle.Handle.{Handle}
use Rattle.maltcove_c.specs.contracts.handle.Handle.{the_row}

-- a handle with another value in its box
abbrev pub with_disc : Handle → DiscState → Handle
with_disc h s = record h { value = Some s }

-- The handle ends with the last value behind r in its box.
abbrev pub LendsDisc : MutBor Handle → MutBor DiscState → Fml
LendsDisc h r = Lends the_row disc.the_row h r (with_disc h.now)
