-- The packets that went through a queue disc.
use Rattle.std.specs.Prelude.{ℕ, List, []}
use Rattle.queue_disc_core.specs.declared.answers.Handle.{Handle}

-- those that it accepted, those that a dequeue gave, those whose drops were read and those that were flushed, each in
-- order; and the moments of the packets before which memory for a renewal was refused
pub record Packets : Type 0 where
  pub accepted : List Handle
  pub sent : List Handle
  pub read : List Handle
  pub flushed : List Handle
  pub unrenewed : List ℕ

abbrev pub no_packets_yet : Packets
no_packets_yet = record { accepted = []; sent = []; read = []; flushed = []; unrenewed = [] }
