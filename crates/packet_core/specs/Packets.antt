use Rattle.std.specs.Prelude.{ℕ, List, ◌≤◌, Bool, true, false, ◌==◌, ◌&&◌}
use Rattle.std.specs.Str.{bytes_eq}
use Rattle.packet_core.specs.declared.packet.Ip.{Ip}
use Rattle.packet_core.specs.declared.packet.Ip.TheVariants.{V4, V6}
use Rattle.packet_core.specs.declared.packet.FiveTuple.{FiveTuple}
use Rattle.packet_core.specs.declared.packet.Ecn.{Ecn}

-- a packet as contracts see it; its length is in bytes, and its tag is the caller's own
pub record PacketParts : Type 0 where
  pub tuple : FiveTuple
  pub len : ℕ
  pub ecn : Ecn
  pub tag : ℕ

-- what the length field of an IPv4 header can say of a packet (RFC 791, section 3.1)
abbrev pub IsLengthInRange : ℕ → Type 0
IsLengthInRange len = (1 ≤ len) × (len ≤ 65535)

-- the bytes of an address, the first one first
abbrev pub ip_bytes : Ip → List ℕ
ip_bytes (V4 bytes) = bytes
ip_bytes (V6 bytes) = bytes

-- whether an address is one of IPv6
abbrev pub is_ipv6 : Ip → Bool
is_ipv6 (V4 bytes) = false
is_ipv6 (V6 bytes) = true

-- whether two addresses are the same: of one kind, and byte by byte
abbrev pub same_ip : Ip → Ip → Bool
same_ip (V4 a) (V4 b) = bytes_eq a b
same_ip (V6 a) (V6 b) = bytes_eq a b
same_ip (V4 a) (V6 b) = false
same_ip (V6 a) (V4 b) = false

-- whether two five-tuples are the same, part by part
abbrev pub same_tuple : FiveTuple → FiveTuple → Bool
same_tuple a b =
    (a.proto == b.proto) && same_ip a.src b.src && same_ip a.dst b.dst && (a.sport == b.sport) && (a.dport == b.dport)
