-- What became of each packet, as the events of its journal tell it.
use Rattle.std.specs.Prelude.{ℕ, ◌+◌, ◌==◌, List, [], ◌∷◌, map, if◌then◌else◌}
use Rattle.packet_core.specs.Packets.{same_tuple}
use Rattle.packet_core.specs.declared.packet.FiveTuple.{FiveTuple}
use Rattle.journal_core.specs.declared.event.Event.{Event}
use Rattle.journal_core.specs.declared.event.Event.TheVariants as event
use Rattle.journal_core.specs.Happened.{Acceptance, acceptances}
use Rattle.journal_core.specs.Tallies.{tuple_of}
use Rattle.journal_core.specs.TupleRows.{first_of_each}
use Rattle.link_report.specs.declared.packets.Fate.{Fate}
use Rattle.link_report.specs.declared.packets.Fate.TheVariants.{Waiting, Sent, Dropped}
use Rattle.link_report.specs.declared.packets.PacketRecord.{PacketRecord}
use Rattle.link_report.specs.Packets.{number_of}

-- The fate that events give the packet with an id, where so many packets were sent before them. The first Sent or
-- Dropped that names the id gives it, and without one the packet waits.
abbrev pub fate_from : ℕ → List Event → ℕ → Fate
fate_from sent [] id = Waiting
fate_from sent (event.Accepted lane other moment flow packet ∷ events) id = fate_from sent events id
fate_from sent (event.Sent other moment ecn mark ∷ events) id =
    if other == id then Sent moment ecn mark sent else fate_from (sent + 1) events id
fate_from sent (event.Dropped other moment cause ∷ events) id =
    if other == id then Dropped moment cause else fate_from sent events id
fate_from sent (event.Closed moment ∷ events) id = fate_from sent events id

-- the fate that a journal has for the id
abbrev pub fate_in : List Event → ℕ → Fate
fate_in events id = fate_from 0 events id

-- the five-tuples of a journal, in the order of their first acceptances
abbrev pub tuples_in : List Event → List FiveTuple
tuples_in events = first_of_each same_tuple (map tuple_of (acceptances events))

-- the record of an accepted packet, with the fate that the journal has for its id
abbrev pub record_of : List Event → Acceptance → PacketRecord
record_of events a = record {
  id = a.id;
  tuple = number_of (tuples_in events) a.packet.tuple;
  flow = a.flow;
  len = a.packet.len;
  ecn = a.packet.ecn;
  arrived = a.moment;
  fate = fate_in events a.id;
}
