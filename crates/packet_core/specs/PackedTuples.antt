-- A five-tuple in five whole words: those of a packet, but for its length, its ECN field and its tag.
use Rattle.std.specs.Prelude.{◌≡◌}
use Rattle.packet_core.specs.Packets.{PacketParts}
use Rattle.packet_core.specs.PackedPackets.{address_words, fields_word, parts_of}
use Rattle.packet_core.specs.declared.packet.FiveTuple.{FiveTuple}
use Rattle.packet_core.specs.declared.packet.Ecn.TheVariants.{NotEct}
use Rattle.packet_core.specs.declared.tuple_words.TupleWords.TheInside.{Inside}

-- a five-tuple, and nothing else of a packet
abbrev pub bare : FiveTuple → PacketParts
bare tuple = record { tuple = tuple; len = 0; ecn = NotEct; tag = 0 }

-- a five-tuple's words
unfoldable pub tuple_packed : FiveTuple → Inside
tuple_packed tuple = record {
  src = address_words tuple.src;
  dst = address_words tuple.dst;
  fields = fields_word (bare tuple);
}

-- the five-tuple that words say
abbrev pub tuple_in : Inside → FiveTuple
tuple_in words = (parts_of (record { src = words.src; dst = words.dst; fields = words.fields; tag = 0 })).tuple

-- The words say all of a five-tuple and nothing else: no bit is set that stands for nothing.
abbrev pub IsTuplePacked : Inside → Type 0
IsTuplePacked words = tuple_packed (tuple_in words) ≡ words
