-- A packet in six whole words: two for each address, one for its other fields, and its tag.
use Rattle.std.specs.Prelude.{◌≡◌, ℕ, ◌+◌, ◌*◌, ◌/◌, ◌%◌, ◌^◌, ◌==◌, Bool, ◌++◌, drop, if◌then◌else◌}
use Rattle.std.specs.Int.{w32, w64, from_le_bytes, to_le_bytes}
use Rattle.packet_core.specs.Packets.{PacketParts, IsLengthInRange, is_ipv6}
use Rattle.packet_core.specs.declared.packet.Ip.{Ip}
use Rattle.packet_core.specs.declared.packet.Ip.TheVariants.{V4, V6}
use Rattle.packet_core.specs.declared.packet.Ecn.{Ecn}
use Rattle.packet_core.specs.declared.packet.Ecn.TheVariants.{Ce, Ect0, Ect1, NotEct}
use Rattle.packet_core.specs.declared.packet.Packet.TheInside.{Inside}

-- the bytes of an address in two words, the first byte lowest: above the four of IPv4 stand zeros
abbrev pub address_words : Ip → ℕ × ℕ
address_words (V4 bytes) = (from_le_bytes w32 bytes, 0)
address_words (V6 bytes) = (from_le_bytes w64 bytes, from_le_bytes w64 (drop 8 bytes))

-- the address of that kind in two words
abbrev pub address_in : Bool → ℕ × ℕ → Ip
address_in ipv6 words =
    if ipv6 then V6 (to_le_bytes w64 words.0 ++ to_le_bytes w64 words.1) else V4 (to_le_bytes w32 words.0)

-- the ECN field as the number that its two bits are (RFC 3168, section 5)
abbrev pub ecn_code : Ecn → ℕ
ecn_code NotEct = 0
ecn_code Ect1 = 1
ecn_code Ect0 = 2
ecn_code Ce = 3

-- the ECN field that two bits are
abbrev pub ecn_in : ℕ → Ecn
ecn_in code = if code == 0 then NotEct else (if code == 1 then Ect1 else (if code == 2 then Ect0 else Ce))

-- a bit for the kind of an address
abbrev pub kind_bit : Ip → ℕ
kind_bit address = if is_ipv6 address then 1 else 0

-- From the low bits up: the destination port 16, the length 16, the source port 16, the protocol 8, the ECN field 2,
-- and one for the kind of each address, the source first.
unfoldable pub fields_word : PacketParts → ℕ
fields_word p =
    let kinds = kind_bit p.tuple.dst * 2 + kind_bit p.tuple.src in
    let marks = kinds * 4 + ecn_code p.ecn in
    (((marks * 2 ^ 8 + p.tuple.proto) * 2 ^ 16 + p.tuple.sport) * 2 ^ 16 + p.len) * 2 ^ 16 + p.tuple.dport

-- each field stands in that word as it is in the packet
pub record SaysFields (word : ℕ) (p : PacketParts) : Type 0 where
  pub dport : word % 2 ^ 16 ≡ p.tuple.dport
  pub len : word / 2 ^ 16 % 2 ^ 16 ≡ p.len
  pub sport : word / 2 ^ 32 % 2 ^ 16 ≡ p.tuple.sport
  pub proto : word / 2 ^ 48 % 2 ^ 8 ≡ p.tuple.proto
  pub ecn : ecn_in (word / 2 ^ 56 % 4) ≡ p.ecn
  pub src : (word / 2 ^ 58 % 2 == 1) ≡ is_ipv6 p.tuple.src
  pub dst : (word / 2 ^ 59 % 2 == 1) ≡ is_ipv6 p.tuple.dst

-- a packet's words
unfoldable pub packed : PacketParts → Inside
packed p = record {
  src = address_words p.tuple.src;
  dst = address_words p.tuple.dst;
  fields = fields_word p;
  tag = p.tag;
}

-- what a packet's words say
unfoldable pub parts_of : Inside → PacketParts
parts_of words = record {
  tuple = record {
    proto = words.fields / 2 ^ 48 % 2 ^ 8;
    src = address_in (words.fields / 2 ^ 58 % 2 == 1) words.src;
    dst = address_in (words.fields / 2 ^ 59 % 2 == 1) words.dst;
    dport = words.fields % 2 ^ 16;
    sport = words.fields / 2 ^ 32 % 2 ^ 16;
  };
  len = words.fields / 2 ^ 16 % 2 ^ 16;
  ecn = ecn_in (words.fields / 2 ^ 56 % 4);
  tag = words.tag;
}

-- The words say all of a packet and nothing else: no bit is set that stands for nothing.
pub record IsPacked (words : Inside) : Type 0 where
  pub len : IsLengthInRange (parts_of words).len
  pub whole : packed (parts_of words) ≡ words
