-- The packets of a journal, and what became of each.
use Rattle.std.specs.Prelude.{ℕ, zero, suc, ◌+◌, ◌-◌, Bool, true, false, List, [], ◌∷◌, ◌++◌, fold, Option, Some, None}
use Rattle.std.specs.List.{position_or_len}
use Rattle.codel_core.specs.declared.served.Mark.TheVariants.{NoMark, CodelMark, Threshold}
use Rattle.packet_core.specs.Packets.{PacketParts, same_tuple}
use Rattle.packet_core.specs.declared.packet.FiveTuple.{FiveTuple}
use Rattle.journal_core.specs.declared.event.Cause.TheVariants.{Codel, Overflow}
use Rattle.journal_core.specs.declared.event.Event.{Event}
use Rattle.journal_core.specs.declared.event.Event.TheVariants as event
use Rattle.journal_core.specs.TupleRows.{with_new}
use Rattle.link_report.specs.declared.packets.Fate.{Fate}
use Rattle.link_report.specs.declared.packets.Fate.TheVariants.{Waiting, Sent, Dropped}
use Rattle.link_report.specs.declared.packets.PacketRecord.{PacketRecord}

-- whether a packet with that fate was sent
abbrev pub is_sending : Fate → Bool
is_sending Waiting = false
is_sending (Sent at ecn mark place) = true
is_sending (Dropped at cause) = false

-- whether it was sent with a mark, of either kind
abbrev pub is_marking : Fate → Bool
is_marking Waiting = false
is_marking (Sent at ecn NoMark place) = false
is_marking (Sent at ecn CodelMark place) = true
is_marking (Sent at ecn Threshold place) = true
is_marking (Dropped at cause) = false

-- whether CoDel dropped it
abbrev pub is_codel : Fate → Bool
is_codel Waiting = false
is_codel (Sent at ecn mark place) = false
is_codel (Dropped at Codel) = true
is_codel (Dropped at Overflow) = false

-- whether it overflowed
abbrev pub is_overflow : Fate → Bool
is_overflow Waiting = false
is_overflow (Sent at ecn mark place) = false
is_overflow (Dropped at Codel) = false
is_overflow (Dropped at Overflow) = true

-- the moment of the sending, less that of the arrival
abbrev pub wait_of : ℕ → Fate → Option ℕ
wait_of arrived Waiting = None
wait_of arrived (Sent at ecn mark place) = Some (at - arrived)
wait_of arrived (Dropped at cause) = None

-- the length of what was sent
abbrev pub len_of : ℕ → Fate → ℕ
len_of len Waiting = 0
len_of len (Sent at ecn mark place) = len
len_of len (Dropped at cause) = 0

-- the moment of a fate, and that of the arrival where there is none yet
abbrev pub moment_of_fate : ℕ → Fate → ℕ
moment_of_fate arrived Waiting = arrived
moment_of_fate arrived (Sent at ecn mark place) = at
moment_of_fate arrived (Dropped at cause) = at

abbrev pub is_sent : PacketRecord → Bool
is_sent p = is_sending p.fate

abbrev pub is_marked : PacketRecord → Bool
is_marked p = is_marking p.fate

abbrev pub is_codel_drop : PacketRecord → Bool
is_codel_drop p = is_codel p.fate

abbrev pub is_overflow_drop : PacketRecord → Bool
is_overflow_drop p = is_overflow p.fate

-- how long a packet waited that was sent
abbrev pub delay_sent : PacketRecord → Option ℕ
delay_sent p = wait_of p.arrived p.fate

-- its length, where it was sent
abbrev pub sent_len : PacketRecord → ℕ
sent_len p = len_of p.len p.fate

abbrev pub last_moment : PacketRecord → ℕ
last_moment p = moment_of_fate p.arrived p.fate

-- the packets with that fate for the one at the place
abbrev pub with_fate : List PacketRecord → ℕ → Fate → List PacketRecord
with_fate [] id fate = []
with_fate (p ∷ packets) zero fate = record p { fate = fate } ∷ packets
with_fate (p ∷ packets) (suc id) fate = p ∷ with_fate packets id fate

-- the number of a five-tuple: its place in the order of first arrival
abbrev pub number_of : List FiveTuple → FiveTuple → ℕ
number_of tuples tuple = position_or_len (same_tuple tuple) tuples

-- What the events so far say: the five-tuples in the order of their first arrivals, the packets by their ids, and how
-- many were sent.
pub record Known : Type 0 where
  pub tuples : List FiveTuple
  pub packets : List PacketRecord
  pub sent : ℕ

abbrev pub nothing_known : Known
nothing_known = record { tuples = []; packets = []; sent = 0 }

-- with a packet that arrived, which waits
abbrev pub arrived : Known → ℕ → ℕ → ℕ → PacketParts → Known
arrived known id moment flow packet = record known {
  tuples = with_new same_tuple known.tuples packet.tuple;
  packets = known.packets ++ record {
    id = id;
    tuple = number_of known.tuples packet.tuple;
    flow = flow;
    len = packet.len;
    ecn = packet.ecn;
    arrived = moment;
    fate = Waiting;
  } ∷ [];
}

-- whether an event is a packet's arrival
abbrev pub is_arrival : Event → Bool
is_arrival (event.Accepted lane id moment flow packet) = true
is_arrival (event.Sent id moment ecn mark) = false
is_arrival (event.Dropped id moment cause) = false
is_arrival (event.Closed moment) = false

-- with an event more: an arrival adds its packet, and a fate is set at the packet with its id
abbrev pub known_with_event : Known → Event → Known
known_with_event known (event.Accepted lane id moment flow packet) = arrived known id moment flow packet
known_with_event known (event.Sent id moment ecn mark) = record known {
  packets = with_fate known.packets id (Sent moment ecn mark known.sent);
  sent = known.sent + 1;
}
known_with_event known (event.Dropped id moment cause) = record known { packets = with_fate known.packets id (Dropped moment cause) }
known_with_event known (event.Closed moment) = known

-- the packets of a journal
abbrev pub known_of : List Event → Known
known_of events = fold known_with_event nothing_known events
