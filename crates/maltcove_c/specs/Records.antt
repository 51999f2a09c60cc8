-- What the records mean that C reads and writes.
use Rattle.std.specs.Prelude.{◌≡◌, ℕ, ℤ, ◌-◌, ◌==◌, ◌++◌, Bool, true, false, List, [], ◌∷◌, take, Option, Some, None, unwrap_or, is_some, if◌then◌else◌}
use Rattle.packet_core.specs.Packets.{PacketParts, IsLengthInRange}
use Rattle.packet_core.specs.declared.packet.Ecn.{Ecn}
use Rattle.packet_core.specs.declared.packet.Ecn.TheVariants.{Ce, Ect0, Ect1, NotEct}
use Rattle.packet_core.specs.declared.packet.Ip.{Ip}
use Rattle.packet_core.specs.declared.packet.Ip.TheVariants.{V4, V6}
use Rattle.packet_core.specs.declared.params.Classify.{Classify}
use Rattle.packet_core.specs.declared.params.Classify.TheVariants.{Dport, Hash}
use Rattle.packet_core.specs.declared.params.EcnUse.{EcnUse}
use Rattle.packet_core.specs.declared.params.EcnUse.TheVariants as ecn_use
use Rattle.packet_core.specs.declared.params.ParamFields.{ParamFields}
use Rattle.packet_core.specs.declared.words.ParamFault.{ParamFault}
use Rattle.packet_core.specs.declared.words.ParamFault.TheVariants.{UnknownWord, MissingValue, NotANumber, OutOfRange}
use Rattle.codel_core.specs.declared.served.Mark.{Mark}
use Rattle.codel_core.specs.declared.served.Mark.TheVariants.{NoMark, CodelMark, Threshold}
use Rattle.journal_core.specs.declared.event.Cause.{Cause}
use Rattle.journal_core.specs.declared.event.Cause.TheVariants.{Codel, Overflow}
use Rattle.journal_core.specs.declared.step.Sent.{Sent}
use Rattle.fair_core.specs.declared.flow_view.FlowView.{FlowView}
use Rattle.header_core.specs.declared.header.Fragment.{Fragment}
use Rattle.header_core.specs.declared.header.Fragment.TheVariants as fragment
use Rattle.header_core.specs.declared.header.Header.{Header}
use Rattle.header_core.specs.declared.header.Ports.{Ports}
use Rattle.header_core.specs.declared.header.Ports.TheVariants as ports
use Rattle.header_core.specs.declared.link.Payload.{Payload}
use Rattle.header_core.specs.declared.link_types.Carried.{Carried}
use Rattle.header_core.specs.declared.link_types.Carried.TheVariants as carried
use Rattle.queue_disc_core.specs.declared.answers.Dropped.{Dropped}
use Rattle.queue_disc_core.specs.declared.answers.Enqueued.{Enqueued}
use Rattle.queue_disc_core.specs.declared.answers.Handle.{Handle}
use Rattle.queue_disc_core.specs.declared.totals.QueueDiscTotals.{QueueDiscTotals}
use Rattle.maltcove_c.specs.Places.{word_bytes, word_start}
use Rattle.maltcove_c.specs.Statuses.{verdict_code}
use Rattle.maltcove_c.specs.declared.records.MaltcoveAdmitted.{MaltcoveAdmitted}
use Rattle.maltcove_c.specs.declared.records.MaltcoveDropped.{MaltcoveDropped}
use Rattle.maltcove_c.specs.declared.records.MaltcoveFault.{MaltcoveFault}
use Rattle.maltcove_c.specs.declared.records.MaltcoveFlow.{MaltcoveFlow}
use Rattle.maltcove_c.specs.declared.records.MaltcoveFlushed.{MaltcoveFlushed}
use Rattle.maltcove_c.specs.declared.records.MaltcoveFound.{MaltcoveFound}
use Rattle.maltcove_c.specs.declared.records.MaltcovePacket.{MaltcovePacket}
use Rattle.maltcove_c.specs.declared.records.MaltcoveParams.{MaltcoveParams}
use Rattle.maltcove_c.specs.declared.records.MaltcoveSent.{MaltcoveSent}
use Rattle.maltcove_c.specs.declared.records.MaltcoveTotals.{MaltcoveTotals}
use Rattle.maltcove_c.specs.declared.records.MaltcoveWhere.{MaltcoveWhere}
use Rattle.maltcove_c.specs.declared.records.TheConstants.{MISSING_VALUE, NO_FAULT, NOT_A_NUMBER, NOT_TEXT, OUT_OF_RANGE, UNKNOWN_WORD}

-- the ECN field that two bits are (RFC 3168, section 5)
abbrev pub ecn_of_bits : ℕ → Option Ecn
ecn_of_bits bits =
    if bits == 0 then Some NotEct
    else if bits == 1 then Some Ect1
    else if bits == 2 then Some Ect0
    else if bits == 3 then Some Ce
    else None

-- the two bits of an ECN field
abbrev pub ecn_bits : Ecn → ℕ
ecn_bits NotEct = 0
ecn_bits Ect1 = 1
ecn_bits Ect0 = 2
ecn_bits Ce = 3

-- the address of that version of IP in sixteen bytes
abbrev pub address_of_bytes : ℕ → List ℕ → Option Ip
address_of_bytes version bytes =
    if version == 4 then Some (V4 (take 4 bytes)) else if version == 6 then Some (V6 bytes) else None

-- C's record says that packet: each field is the packet's, and has a value that a packet can have.
pub record Says (p : MaltcovePacket) (packet : PacketParts) : Type 0 where
  pub proto : packet.tuple.proto ≡ p.proto
  pub src : address_of_bytes p.version p.src ≡ Some packet.tuple.src
  pub dst : address_of_bytes p.version p.dst ≡ Some packet.tuple.dst
  pub sport : packet.tuple.sport ≡ p.sport
  pub dport : packet.tuple.dport ≡ p.dport
  pub len : packet.len ≡ p.len
  pub fits : IsLengthInRange p.len
  pub ecn : ecn_of_bits p.ecn ≡ Some packet.ecn
  pub tag : packet.tag ≡ p.tag

-- That packet goes to the flow of that number, by its destination port, and has that length, field and tag.
pub record SaysInFlow (flow len bits tag : ℕ) (packet : PacketParts) : Type 0 where
  pub flow_is : packet.tuple.dport ≡ flow
  pub len_is : packet.len ≡ len
  pub fits : IsLengthInRange len
  pub ecn : ecn_of_bits bits ≡ Some packet.ecn
  pub tag_is : packet.tag ≡ tag

-- twelve bytes that are 0
abbrev pub twelve_zeros : List ℕ
twelve_zeros = 0 ∷ 0 ∷ 0 ∷ 0 ∷ 0 ∷ 0 ∷ 0 ∷ 0 ∷ 0 ∷ 0 ∷ 0 ∷ 0 ∷ []

-- the sixteen bytes of an address: of IPv4 the first four, and the others are 0
abbrev pub bytes_of_address : Ip → List ℕ
bytes_of_address (V4 octets) = octets ++ twelve_zeros
bytes_of_address (V6 octets) = octets

-- the number of a part of a datagram
abbrev pub fragment_code : Fragment → ℕ
fragment_code fragment.Whole = 0
fragment_code fragment.Atomic = 1
fragment_code fragment.First = 2
fragment_code fragment.Later = 3

-- the number of a place of ports
abbrev pub ports_code : Ports → ℕ
ports_code ports.Absent = 0
ports_code ports.Found = 1
ports_code ports.Beyond = 2
ports_code ports.Cut = 3
ports_code ports.Fragment = 4

-- what C reads of a packet whose headers say that, with the tag that the caller gave it
abbrev pub packet_told : Header → ℕ → MaltcovePacket
packet_told header tag = record {
  tag = tag;
  len = header.len;
  sport = header.tuple.sport;
  dport = header.tuple.dport;
  src = bytes_of_address header.tuple.src;
  dst = bytes_of_address header.tuple.dst;
  proto = header.tuple.proto;
  ecn = ecn_bits header.ecn;
  version = header.version;
}

-- what C reads besides
abbrev pub where_told : Header → MaltcoveWhere
where_told header = record {
  transport = header.transport;
  flow_label = header.flow_label;
  verdict = verdict_code header.verdict;
  fragment = fragment_code header.fragment;
  ports = ports_code header.ports;
  dscp = header.dscp;
  ecn = ecn_bits header.ecn;
}

-- what C reads of what stands behind a link's header
abbrev pub payload_told : Payload → MaltcoveFound
payload_told payload = record { offset = payload.offset; tags = payload.tags; ethertype = payload.ethertype }

-- what C reads of what a link delivered
abbrev pub found_told : Carried → MaltcoveFound
found_told (carried.Packet payload) = payload_told payload
found_told (carried.Another payload) = payload_told payload
found_told carried.Cut = record { offset = 0; tags = 0; ethertype = 0 }
found_told carried.Unknown = record { offset = 0; tags = 0; ethertype = 0 }

-- what C reads of a packet that was accepted
abbrev pub admitted_told : Enqueued → MaltcoveAdmitted
admitted_told said = record { id = said.id; drops = said.drops; flow = said.flow }

-- the number of a mark
abbrev pub mark_code : Mark → ℕ
mark_code NoMark = 0
mark_code CodelMark = 1
mark_code Threshold = 2

-- what C reads of a packet that is sent, before which so many were dropped
abbrev pub sent_told : Sent → ℕ → MaltcoveSent
sent_told sent drops = record {
  tag = sent.packet.tag;
  id = sent.id;
  drops = drops;
  len = sent.packet.len;
  ecn = ecn_bits sent.packet.ecn;
  mark = mark_code sent.mark;
}

-- what C reads where no packet is sent
abbrev pub idle_told : ℕ → MaltcoveSent
idle_told drops = record { tag = 0; id = 0; drops = drops; len = 0; ecn = 0; mark = 0 }

-- the number of a cause
abbrev pub cause_code : Cause → ℕ
cause_code Codel = 0
cause_code Overflow = 1

-- what C reads of a packet that was dropped
abbrev pub dropped_told : Dropped → MaltcoveDropped
dropped_told d = record { tag = d.tag; id = d.id; cause = cause_code d.cause }

-- what C reads of a packet that was flushed
abbrev pub flushed_told : Handle → MaltcoveFlushed
flushed_told packet = record { tag = packet.tag; id = packet.id }

-- what C reads of the statistics
abbrev pub totals_told : QueueDiscTotals → MaltcoveTotals
totals_told t = record {
  accepted = t.accepted;
  accepted_bytes = t.accepted_bytes;
  sent = t.sent;
  sent_bytes = t.sent_bytes;
  dropped_codel = t.dropped_codel;
  dropped_overflow = t.dropped_overflow;
  dropped_bytes = t.dropped_bytes;
  flushed = t.flushed;
  flushed_bytes = t.flushed_bytes;
  marked = t.marked;
  threshold_marked = t.threshold_marked;
  queued = t.queued;
  queued_bytes = t.queued_bytes;
  closed = t.closed;
}

-- what C reads of a flow
abbrev pub flow_told : FlowView → MaltcoveFlow
flow_told v = record {
  queued = v.len;
  queued_bytes = v.bytes;
  credits = v.credits;
  first_above = unwrap_or v.codel.first_above 0;
  drop_next = v.codel.drop_next;
  count = v.codel.count;
  last_count = v.codel.lastcount;
  has_first_above = is_some v.codel.first_above;
  dropping = v.codel.dropping;
}

-- whether packets are marked
abbrev pub marks : EcnUse → Bool
marks ecn_use.Drop = false
marks ecn_use.Mark = true

-- whether flows are found by a hash
abbrev pub hashes : Classify → Bool
hashes Hash = true
hashes Dport = false

-- what C reads of the parameters
abbrev pub params_told : ParamFields → MaltcoveParams
params_told p = record {
  target = p.target;
  interval = p.interval;
  ce_threshold = unwrap_or p.ce_threshold 0;
  memory_limit = unwrap_or p.memory_limit 0;
  limit = p.limit;
  flows = p.flows;
  quantum = p.quantum;
  mtu = p.mtu;
  drop_batch = p.drop_batch;
  has_ce_threshold = is_some p.ce_threshold;
  has_memory_limit = is_some p.memory_limit;
  ecn = marks p.ecn;
  hash = hashes p.classify;
}

-- what C reads where the word at that place of a text, from 1, is wrong in that way: its place, where its bytes begin in
-- the text, and how many they are
abbrev pub word_told : List ℕ → ℕ → ℤ → MaltcoveFault
word_told text place kind = record {
  place = place;
  kind = kind;
  offset = word_start (place - 1) text;
  len = word_bytes (place - 1) text;
}

-- what C reads of a wrong word of a text
abbrev pub fault_told : List ℕ → ParamFault → MaltcoveFault
fault_told text (UnknownWord place) = word_told text place UNKNOWN_WORD
fault_told text (MissingValue place) = word_told text place MISSING_VALUE
fault_told text (NotANumber place) = word_told text place NOT_A_NUMBER
fault_told text (OutOfRange place) = word_told text place OUT_OF_RANGE

-- what C reads where the text isn't UTF-8
abbrev pub not_text_told : MaltcoveFault
not_text_told = record { place = 0; kind = NOT_TEXT; offset = 0; len = 0 }

-- what C reads where no word is wrong
abbrev pub nothing_told : MaltcoveFault
nothing_told = record { place = 0; kind = NO_FAULT; offset = 0; len = 0 }
