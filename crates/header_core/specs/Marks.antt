-- Congestion experienced, written into a packet in place (RFC 3168, section 5).
use Rattle.std.specs.Prelude.{◌≡◌, ◌≢◌, ℕ, ◌+◌, ◌*◌, ◌/◌, ◌%◌, ◌<◌, ◌==◌, ◌&&◌, ◌||◌, ◌++◌, ◌↔◌, Bool, false, List, length, take, not, nat_lt, slice_index, slice_set, if◌then◌else◌}
use Rattle.header_core.specs.Checksums.{HasRightSum, checksum_of, updated_checksum}
use Rattle.header_core.specs.Fields.{byte_at, be16_at, version_at}
use Rattle.header_core.specs.Ipv4Headers.{ihl}

-- the second byte's ECN field: the low two bits in IPv4, and in IPv6 the low two bits of its high half
abbrev pub ecn_code_at : List ℕ → ℕ
ecn_code_at bytes = if version_at bytes == 4 then byte_at bytes 1 % 4 else byte_at bytes 1 / 16 % 4

-- ECT(0) and ECT(1)
abbrev pub is_ect : ℕ → Bool
is_ect code = (code == 1) || (code == 2)

-- The fixed header was captured, and its sender takes part in ECN.
abbrev pub is_markable_ipv4 : List ℕ → Bool
is_markable_ipv4 bytes = not (nat_lt (length bytes) 20) && not (nat_lt (ihl bytes) 5) && is_ect (byte_at bytes 1 % 4)

abbrev pub is_markable_ipv6 : List ℕ → Bool
is_markable_ipv6 bytes = not (nat_lt (length bytes) 40) && is_ect (byte_at bytes 1 / 16 % 4)

abbrev pub is_markable : List ℕ → Bool
is_markable bytes =
    if version_at bytes == 4 then is_markable_ipv4 bytes
    else if version_at bytes == 6 then is_markable_ipv6 bytes
    else false

-- the second byte with CE in it
abbrev pub ipv4_ce : ℕ → ℕ
ipv4_ce byte = byte / 4 * 4 + 3

abbrev pub ipv6_ce : ℕ → ℕ
ipv6_ce byte = byte / 64 * 64 + 48 + byte % 16

-- the first word of the header with CE in it
abbrev pub ce_word : List ℕ → ℕ
ce_word bytes = byte_at bytes 0 * 256 + ipv4_ce (byte_at bytes 1)

abbrev pub ce_checksum : List ℕ → ℕ
ce_checksum bytes = updated_checksum (be16_at bytes 10) (be16_at bytes 0) (ce_word bytes)

unfoldable pub marked_ipv4 : List ℕ → List ℕ
marked_ipv4 bytes =
    slice_set (slice_set (slice_set bytes 1 (ipv4_ce (byte_at bytes 1))) 10 (ce_checksum bytes / 256)) 11
    (ce_checksum bytes % 256)

unfoldable pub marked_ipv6 : List ℕ → List ℕ
marked_ipv6 bytes = slice_set bytes 1 (ipv6_ce (byte_at bytes 1))

-- the bytes of a packet with the mark
abbrev pub marked : List ℕ → List ℕ
marked bytes = if version_at bytes == 4 then marked_ipv4 bytes else marked_ipv6 bytes

-- each number is a byte
abbrev pub AreBytes : List ℕ → Type 0
AreBytes bytes = (i : ℕ) → slice_index bytes i < 256

-- a byte that no mark changes: any but the second, and in IPv4 the two of the checksum
abbrev pub IsKept : List ℕ → ℕ → Type 0
IsKept bytes i = (i ≢ 1) × (version_at bytes ≡ 4 → (i ≢ 10) × (i ≢ 11))

-- the header of IPv4 that begins a packet
abbrev pub ipv4_bytes : List ℕ → List ℕ
ipv4_bytes bytes = take (4 * ihl bytes) bytes

-- What a mark does to a packet's captured bytes.
pub record Marks (old new : List ℕ) : Type 0 where
  -- the field is CE
  pub ce : ecn_code_at new ≡ 3
  -- the other bits of its byte are as they were
  pub beside : (version_at old ≡ 4 → byte_at new 1 / 4 ≡ byte_at old 1 / 4)
      × (version_at old ≡ 6 → (byte_at new 1 / 64 ≡ byte_at old 1 / 64) × (byte_at new 1 % 16 ≡ byte_at old 1 % 16))
  pub others : (i : ℕ) → IsKept old i → byte_at new i ≡ byte_at old i

-- What a mark does to the checksum of IPv4, whatever bytes follow the captured ones.
pub record KeepsSum (old new rest : List ℕ) : Type 0 where
  -- The header's sum is right afterwards exactly if it was before.
  pub right : HasRightSum (ipv4_bytes (old ++ rest)) ↔ HasRightSum (ipv4_bytes (new ++ rest))
  -- If it was, the checksum is the one that a full computation gives.
  pub computed : HasRightSum (ipv4_bytes (old ++ rest)) → be16_at new 10 ≡ checksum_of (ipv4_bytes (new ++ rest))

abbrev pub KeepsSums : List ℕ → List ℕ → Type 0
KeepsSums old new = version_at old ≡ 4 → (rest : List ℕ) → AreBytes rest → KeepsSum old new rest
