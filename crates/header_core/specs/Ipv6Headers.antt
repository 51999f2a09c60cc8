-- The header of IPv6 (RFC 8200, section 3): the rules that it must keep, and what it says with its extension headers.
use Rattle.std.specs.Prelude.{◌≡◌, ℕ, List, Bool, true, false, Option, Some, None, MatchOption, ◌+◌, ◌*◌, ◌/◌, ◌%◌, ◌==◌, ◌&&◌, length, take, drop, not, nat_lt, if◌then◌else◌}
use Rattle.packet_core.specs.PackedPackets.{ecn_in}
use Rattle.packet_core.specs.declared.packet.Ip.TheVariants.{V6}
use Rattle.header_core.specs.Chains.{EndsAt, ipv6_offset, kind_at}
use Rattle.header_core.specs.Fields.{byte_at, be16_at}
use Rattle.header_core.specs.Headers.{without_fields}
use Rattle.header_core.specs.Jumbograms.{JudgesJumbogram, is_jumbogram}
use Rattle.header_core.specs.PortFields.{ports_at, without_ports}
use Rattle.header_core.specs.declared.chain.Kind.{Kind}
use Rattle.header_core.specs.declared.chain.Kind.TheVariants as kind
use Rattle.header_core.specs.declared.chain.Place.{Place}
use Rattle.header_core.specs.declared.header.Fragment.TheVariants as fragment
use Rattle.header_core.specs.declared.header.Header.{Header}
use Rattle.header_core.specs.declared.header.InPlaceOfPorts.{InPlaceOfPorts}
use Rattle.header_core.specs.declared.header.Ports.TheVariants as ports
use Rattle.header_core.specs.declared.header.Verdict.{Verdict}
use Rattle.header_core.specs.declared.header.Verdict.TheVariants as verdict
use Rattle.header_core.specs.declared.ipv6.Tail.{Tail}
use Rattle.header_core.specs.declared.ports.PortPair.{PortPair}

-- how long the packet is, in bytes: what follows the fixed header is counted in it
abbrev pub ipv6_length : List ℕ → ℕ
ipv6_length bytes = 40 + be16_at bytes 4

-- the traffic class: ECN field and code point
abbrev pub traffic_class : List ℕ → ℕ
traffic_class bytes = be16_at bytes 0 / 16 % 256

abbrev pub flow_label : List ℕ → ℕ
flow_label bytes = byte_at bytes 1 % 16 * 65536 + be16_at bytes 2

-- The fixed header has 40 bytes on the link, and they were captured.
abbrev pub fixed_fault : List ℕ → ℕ → Option Verdict
fixed_fault bytes wire =
    if nat_lt wire 40 then Some verdict.Short
    else if nat_lt (length bytes) 40 then Some verdict.Cut
    else None

-- The link delivered all of the packet, and it is no longer than the length field of IPv4 can say.
abbrev pub length_fault : List ℕ → ℕ → Option Verdict
length_fault bytes wire =
    if nat_lt wire (ipv6_length bytes) then Some verdict.Overrun
    else if nat_lt 65535 (ipv6_length bytes) then Some verdict.TooLong
    else None

-- what an extension header says that is bad or cut
abbrev pub unread_tail : Verdict → Place → Tail
unread_tail judged p = record {
  verdict = judged;
  proto = p.proto;
  transport = p.at;
  fragment = fragment.Whole;
  ports = without_ports ports.Absent;
}

-- what the header at which the chain ends says
abbrev pub tail_by : List ℕ → InPlaceOfPorts → Place → Kind → Tail
tail_by bytes instead p kind.Upper = record {
  verdict = verdict.Fine;
  proto = p.proto;
  transport = p.at;
  fragment = if p.atomic then fragment.Atomic else fragment.Whole;
  ports = ports_at bytes p.proto p.at (ipv6_length bytes) instead.esp_spi;
}
tail_by bytes instead p kind.Part = record {
  verdict = verdict.Fine;
  proto = byte_at bytes p.at;
  transport = p.at + 8;
  fragment = if ipv6_offset bytes p == 0 then fragment.First else fragment.Later;
  ports = without_ports ports.Fragment;
}
tail_by bytes instead p kind.Beyond = unread_tail verdict.BadChain p
tail_by bytes instead p kind.Extension = unread_tail verdict.BadChain p
tail_by bytes instead p kind.Cut = unread_tail verdict.Cut p

unfoldable pub tail_of : List ℕ → InPlaceOfPorts → Place → Tail
tail_of bytes instead p = tail_by bytes instead p (kind_at bytes (ipv6_length bytes) p)

-- a flow label that the caller wants in place of the ports
abbrev pub takes_label : ℕ → InPlaceOfPorts → Bool
takes_label label instead = instead.flow_label && not (label == 0)

abbrev pub sport_or_label : ℕ → InPlaceOfPorts → PortPair → ℕ
sport_or_label label instead pair = if takes_label label instead then label / 65536 else pair.sport

abbrev pub dport_or_label : ℕ → InPlaceOfPorts → PortPair → ℕ
dport_or_label label instead pair = if takes_label label instead then label % 65536 else pair.dport

-- the fields of a packet, with what the end of its chain says
unfoldable pub ipv6_fields : List ℕ → InPlaceOfPorts → Tail → Header
ipv6_fields bytes instead tail = record {
  verdict = tail.verdict;
  version = 6;
  tuple = record {
    proto = tail.proto;
    src = V6 (take 16 (drop 8 bytes));
    dst = V6 (take 16 (drop 24 bytes));
    sport = sport_or_label (flow_label bytes) instead tail.ports;
    dport = dport_or_label (flow_label bytes) instead tail.ports;
  };
  ecn = ecn_in (traffic_class bytes % 4);
  dscp = traffic_class bytes / 4;
  len = ipv6_length bytes;
  transport = tail.transport;
  fragment = tail.fragment;
  ports = tail.ports.kind;
  flow_label = flow_label bytes;
}

-- A packet whose fixed header is whole and whose length is right says what its chain ends with.
abbrev pub FollowsChain : List ℕ → InPlaceOfPorts → Header → Type 0
FollowsChain bytes instead header =
    (p : Place) × EndsAt bytes (ipv6_length bytes) p × (header ≡ ipv6_fields bytes instead (tail_of bytes instead p))

-- a packet whose length stands in its fixed header
abbrev pub SaysPacket : List ℕ → ℕ → InPlaceOfPorts → Header → Type 0
SaysPacket bytes wire instead header =
    MatchOption (length_fault bytes wire) (FollowsChain bytes instead header) (λ broken. header ≡ without_fields broken)

abbrev pub SaysJumbogram : List ℕ → ℕ → Header → Type 0
SaysJumbogram bytes wire header =
    (judged : Verdict) × JudgesJumbogram bytes wire judged × (header ≡ without_fields judged)

abbrev pub SaysByKind : Bool → List ℕ → ℕ → InPlaceOfPorts → Header → Type 0
SaysByKind true bytes wire instead header = SaysJumbogram bytes wire header
SaysByKind false bytes wire instead header = SaysPacket bytes wire instead header

-- what a packet of IPv6 says
abbrev pub Ipv6Says : List ℕ → ℕ → InPlaceOfPorts → Header → Type 0
Ipv6Says bytes wire instead header =
    MatchOption (fixed_fault bytes wire)
    (SaysByKind (is_jumbogram bytes) bytes wire instead header)
    (λ broken. header ≡ without_fields broken)
