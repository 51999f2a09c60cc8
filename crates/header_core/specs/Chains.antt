-- The extension headers of IPv6, one behind another (RFC 8200, section 4).
use Rattle.std.specs.Prelude.{◌≡◌, ℕ, zero, suc, ◌+◌, ◌*◌, ◌/◌, ◌%◌, ◌<◌, ◌≤◌, ◌==◌, ◌&&◌, ◌||◌, Bool, false, List, length, not, nat_lt, if◌then◌else◌}
use Rattle.header_core.specs.Fields.{byte_at, be16_at}
use Rattle.header_core.specs.declared.chain.Kind.{Kind}
use Rattle.header_core.specs.declared.chain.Kind.TheVariants as kind
use Rattle.header_core.specs.declared.chain.Place.{Place}

-- Which numbers are extension headers here: routing 43, fragment 44, authentication 51 and destination options 60, and
-- hop-by-hop options 0 directly behind the fixed header. All others end the chain, ESP 50 and no next header 59 too.
abbrev pub is_extension : Place → Bool
is_extension p =
    (p.proto == 43) || (p.proto == 44) || (p.proto == 51) || (p.proto == 60) || ((p.proto == 0) && (p.at == 40))

-- How long an extension header is: 8 bytes for a fragment header (RFC 8200, section 4.5), four for each word of an
-- authentication header with two that aren't counted (RFC 4302, section 2.2), and eight for each unit of the others
-- with one that isn't counted.
abbrev pub extension_length : List ℕ → Place → ℕ
extension_length bytes p =
    if p.proto == 44 then 8
    else if p.proto == 51 then (byte_at bytes (p.at + 1) + 2) * 4
    else (byte_at bytes (p.at + 1) + 1) * 8

-- The length is one that such a header can have: an authentication header has 12 bytes at least.
abbrev pub is_long_enough : List ℕ → Place → Bool
is_long_enough bytes p = not ((p.proto == 51) && nat_lt (extension_length bytes p) 12)

-- a fragment header's offset, in words of eight bytes, and its bit for more fragments
abbrev pub ipv6_offset : List ℕ → Place → ℕ
ipv6_offset bytes p = be16_at bytes (p.at + 2) / 8

abbrev pub ipv6_more : List ℕ → Place → ℕ
ipv6_more bytes p = be16_at bytes (p.at + 2) % 2

-- The packet is one of several fragments: a fragment header with offset 0 and no more of them says nothing (RFC 6946).
abbrev pub is_part : List ℕ → Place → Bool
is_part bytes p = (p.proto == 44) && not ((ipv6_offset bytes p == 0) && (ipv6_more bytes p == 0))

-- what stands at a place of a packet of that length, of which those bytes were captured
unfoldable pub kind_at : List ℕ → ℕ → Place → Kind
kind_at bytes len p =
    if not (is_extension p) then kind.Upper
    else if nat_lt len (p.at + 8) then kind.Beyond
    else if nat_lt (length bytes) (p.at + 8) then kind.Cut
    else if not (is_long_enough bytes p) || nat_lt len (p.at + extension_length bytes p) then kind.Beyond
    else if is_part bytes p then kind.Part
    else kind.Extension

-- The header can be read, and the next one begins inside the packet.
abbrev pub HasRoom : List ℕ → ℕ → Place → Kind → Type 0
HasRoom bytes len p kind.Extension = (p.at + 8 ≤ length bytes) × (p.at + extension_length bytes p ≤ len)
HasRoom bytes len p kind.Part = (p.at + 8 ≤ length bytes) × (p.at + 8 ≤ len)
HasRoom bytes len p kind.Upper = Unit {0}
HasRoom bytes len p kind.Beyond = Unit {0}
HasRoom bytes len p kind.Cut = Unit {0}

-- the first header behind the fixed one
abbrev pub first_place : List ℕ → Place
first_place bytes = record { proto = byte_at bytes 6; at = 40; atomic = false }

-- the header behind an extension header
unfoldable pub place_behind : List ℕ → Place → Place
place_behind bytes p = record {
  proto = byte_at bytes p.at;
  at = p.at + extension_length bytes p;
  atomic = p.atomic || (p.proto == 44);
}

-- the header behind so many others
unfoldable pub place_of : List ℕ → ℕ → Place
place_of bytes zero = first_place bytes
place_of bytes (suc k) = place_behind bytes (place_of bytes k)

-- The chain ends at that header: k extension headers stand before it, and it is none itself, or no whole one.
pub record EndsBehind (bytes : List ℕ) (len : ℕ) (p : Place) (k : ℕ) : Type 0 where
  pub place : p ≡ place_of bytes k
  pub before : (j : ℕ) → j < k → kind_at bytes len (place_of bytes j) ≡ kind.Extension
  pub end : kind_at bytes len p ≡ kind.Extension → ⊥

abbrev pub EndsAt : List ℕ → ℕ → Place → Type 0
EndsAt bytes len p = (k : ℕ) × EndsBehind bytes len p k
