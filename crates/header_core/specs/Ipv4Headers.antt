-- The header of IPv4 (RFC 791, section 3.1): the rules that it must keep, and its fields by their offsets.
use Rattle.std.specs.Prelude.{ℕ, List, Option, Some, None, ◌*◌, ◌/◌, ◌%◌, ◌==◌, length, take, drop, not, nat_lt, if◌then◌else◌}
use Rattle.packet_core.specs.PackedPackets.{ecn_in}
use Rattle.packet_core.specs.declared.packet.Ip.TheVariants.{V4}
use Rattle.header_core.specs.Fields.{byte_at, be16_at}
use Rattle.header_core.specs.Headers.{unless_broken}
use Rattle.header_core.specs.PortFields.{ports_at, without_ports}
use Rattle.header_core.specs.declared.header.Fragment.{Fragment}
use Rattle.header_core.specs.declared.header.Fragment.TheVariants as fragment
use Rattle.header_core.specs.declared.header.Header.{Header}
use Rattle.header_core.specs.declared.header.InPlaceOfPorts.{InPlaceOfPorts}
use Rattle.header_core.specs.declared.header.Ports.TheVariants as ports
use Rattle.header_core.specs.declared.header.Verdict.{Verdict}
use Rattle.header_core.specs.declared.header.Verdict.TheVariants as verdict
use Rattle.header_core.specs.declared.ports.PortPair.{PortPair}

-- how long the header is, in words of four bytes
abbrev pub ihl : List ℕ → ℕ
ihl bytes = byte_at bytes 0 % 16

-- how long the packet is, in bytes
abbrev pub total_length : List ℕ → ℕ
total_length bytes = be16_at bytes 2

-- The first of the rules that a packet breaks (RFC 1812, section 5.2.2): it has 20 bytes on the link, and they were
-- captured; its header has five words; the packet is as long as its header; the link delivered all of it.
unfoldable pub ipv4_fault : List ℕ → ℕ → Option Verdict
ipv4_fault bytes wire =
    if nat_lt wire 20 then Some verdict.Short
    else if nat_lt (length bytes) 20 then Some verdict.Cut
    else if nat_lt (ihl bytes) 5 then Some verdict.BadIhl
    else if nat_lt (total_length bytes) (4 * ihl bytes) then Some verdict.BadLength
    else if nat_lt wire (total_length bytes) then Some verdict.Overrun
    else None

-- where in its datagram the packet's data begin, in words of eight bytes
abbrev pub fragment_offset : List ℕ → ℕ
fragment_offset bytes = be16_at bytes 6 % 0x2000

-- the bit that says that more fragments follow
abbrev pub more_fragments : List ℕ → ℕ
more_fragments bytes = be16_at bytes 6 / 0x2000 % 2

-- which part of a datagram the packet is (RFC 791, section 3.2)
unfoldable pub ipv4_fragment : List ℕ → Fragment
ipv4_fragment bytes =
    if not (fragment_offset bytes == 0) then fragment.Later
    else if more_fragments bytes == 1 then fragment.First
    else fragment.Whole

-- Only a whole datagram shows its ports: those of a first fragment would tell it from the later ones.
abbrev pub ports_by : Fragment → PortPair → PortPair
ports_by fragment.Whole pair = pair
ports_by fragment.Atomic pair = pair
ports_by fragment.First pair = without_ports ports.Fragment
ports_by fragment.Later pair = without_ports ports.Fragment

unfoldable pub ipv4_ports : List ℕ → InPlaceOfPorts → PortPair
ipv4_ports bytes instead =
    ports_by (ipv4_fragment bytes)
    (ports_at bytes (byte_at bytes 9) (4 * ihl bytes) (total_length bytes) instead.esp_spi)

-- the fields of a packet that keeps the rules
unfoldable pub ipv4_fields : List ℕ → InPlaceOfPorts → Header
ipv4_fields bytes instead = record {
  verdict = verdict.Fine;
  version = 4;
  tuple = record {
    proto = byte_at bytes 9;
    src = V4 (take 4 (drop 12 bytes));
    dst = V4 (take 4 (drop 16 bytes));
    sport = (ipv4_ports bytes instead).sport;
    dport = (ipv4_ports bytes instead).dport;
  };
  ecn = ecn_in (byte_at bytes 1 % 4);
  dscp = byte_at bytes 1 / 4;
  len = total_length bytes;
  transport = 4 * ihl bytes;
  fragment = ipv4_fragment bytes;
  ports = (ipv4_ports bytes instead).kind;
  flow_label = 0;
}

-- what a packet of IPv4 says
unfoldable pub ipv4_header : List ℕ → ℕ → InPlaceOfPorts → Header
ipv4_header bytes wire instead = unless_broken (ipv4_fault bytes wire) (ipv4_fields bytes instead)
