-- The table of packets.
use Rattle.std.specs.Prelude.{ℕ, ◌-◌, List, [], ◌∷◌, ◌++◌, Option, Some, None, codes}
use Rattle.std.specs.Fmt.{decimal}
use Rattle.std.specs.List.{flat_map}
use Rattle.journal_core.specs.declared.event.Event.{Event}
use Rattle.link_report.specs.declared.packets.Fate.{Fate}
use Rattle.link_report.specs.declared.packets.Fate.TheVariants.{Waiting, Sent, Dropped}
use Rattle.link_report.specs.declared.packets.PacketRecord.{PacketRecord}
use Rattle.link_report.specs.declared.table.Queue.{Queue}
use Rattle.link_report.specs.declared.table.Queue.TheVariants.{FqCodel, Fifo}
use Rattle.link_report.specs.Packets.{Known, known_of}
use Rattle.link_report.specs.QueueNames.{queue_name}
use Rattle.link_report.specs.Tables.{cause_name, ecn_digit, line_of, mark_name}

abbrev pub packets_header : List (List ℕ)
packets_header =
    codes "queue" ∷ codes "id" ∷ codes "tuple" ∷ codes "flow" ∷ codes "len" ∷ codes "ecn" ∷ codes "arrived"
    ∷ codes "fate" ∷ codes "at" ∷ codes "delay" ∷ codes "ecn_sent" ∷ codes "mark" ∷ codes "place" ∷ []

-- What became of a packet that arrived at a moment: the word, the moment, the time since the arrival, and of one that was
-- sent its field, what set that, and its place among those sent.
abbrev pub fate_fields : ℕ → Fate → List (List ℕ)
fate_fields arrived Waiting = [] ∷ [] ∷ [] ∷ [] ∷ [] ∷ [] ∷ []
fate_fields arrived (Sent at ecn mark place) =
    codes "sent" ∷ decimal at ∷ decimal (at - arrived) ∷ ecn_digit ecn ∷ mark_name mark ∷ decimal place ∷ []
fate_fields arrived (Dropped at cause) =
    cause_name cause ∷ decimal at ∷ decimal (at - arrived) ∷ [] ∷ [] ∷ [] ∷ []

-- the fields of a packet's row
abbrev pub packet_row : Queue → PacketRecord → List (List ℕ)
packet_row queue p =
    queue_name queue ∷ decimal p.id ∷ decimal p.tuple ∷ decimal p.flow ∷ decimal p.len ∷ ecn_digit p.ecn
    ∷ decimal p.arrived ∷ fate_fields p.arrived p.fate

abbrev pub packet_line : Queue → PacketRecord → List ℕ
packet_line queue p = line_of (packet_row queue p)

-- the rows of a queue's journal
abbrev pub packet_lines : Queue → List Event → List ℕ
packet_lines queue events = flat_map (packet_line queue) (known_of events).packets

-- The table: its header, a row for each packet of the scheduler's journal, by id, and then one for each packet of the
-- journal of the other queue, where there is one.
abbrev pub packets_text : List Event → Option (List Event) → List ℕ
packets_text events None = line_of packets_header ++ packet_lines FqCodel events
packets_text events (Some fifo) =
    (line_of packets_header ++ packet_lines FqCodel events) ++ packet_lines Fifo fifo

-- the same table of the packets of journals
abbrev pub known_packets_text : Known → Option Known → List ℕ
known_packets_text known None = line_of packets_header ++ flat_map (packet_line FqCodel) known.packets
known_packets_text known (Some fifo) =
    (line_of packets_header ++ flat_map (packet_line FqCodel) known.packets)
    ++ flat_map (packet_line Fifo) fifo.packets
