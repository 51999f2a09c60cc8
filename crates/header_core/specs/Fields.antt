-- Fields by their offsets in bytes, the high byte first. Past the end stand zeros, which no answer depends on.
use Rattle.std.specs.Prelude.{ℕ, List, ◌+◌, ◌*◌, ◌/◌, slice_index}

-- the eight bits that begin at a byte
abbrev pub byte_at : List ℕ → ℕ → ℕ
byte_at bytes at = slice_index bytes at

-- the sixteen bits that begin at a byte
abbrev pub be16_at : List ℕ → ℕ → ℕ
be16_at bytes at = byte_at bytes at * 256 + byte_at bytes (at + 1)

-- the thirty-two bits that begin at a byte
abbrev pub be32_at : List ℕ → ℕ → ℕ
be32_at bytes at = be16_at bytes at * 65536 + be16_at bytes (at + 2)

-- the version of the Internet protocol: the high half of the first byte (RFC 791, section 3.1; RFC 8200, section 3)
abbrev pub version_at : List ℕ → ℕ
version_at bytes = byte_at bytes 0 / 16
