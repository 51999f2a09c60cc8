-- The two ends of the lanes.
use Rattle.std.specs.Prelude.{◌≡◌, List, ◌++◌, map}
use Rattle.port_core.specs.Lanes.{RingId, Sending}

-- the rings of the senders, in order
abbrev pub sender_rings : List Sending → List RingId
sender_rings senders = map (λ s. s.ring) senders

-- The rings of some senders are those of the first lanes.
pub record AreFirst (senders lanes : List RingId) : Type 0 where
  pub others : List RingId
  pub all : senders ++ others ≡ lanes
