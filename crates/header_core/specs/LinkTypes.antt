-- Where the packet stands in what a link delivered, by the number that captures have for the link's type (LINKTYPE_ of
-- the registry that came with pcap).
use Rattle.std.specs.Prelude.{◌≡◌, ℕ, ◌+◌, ◌≤◌, ◌*◌, ◌==◌, ◌||◌, Bool, true, false, List, drop, length, nat_lt, not, if◌then◌else◌}
use Rattle.header_core.specs.Fields.{be16_at, be32_at, byte_at}
use Rattle.header_core.specs.Links.{CarriesBehind, IsCutBehind, ethertype_place, is_tag}
use Rattle.header_core.specs.declared.link.Payload.{Payload}
use Rattle.header_core.specs.declared.link_types.Carried.{Carried}
use Rattle.header_core.specs.declared.link_types.Carried.TheVariants as carried
use Rattle.header_core.specs.declared.link_types.LinkKind.{LinkKind}
use Rattle.header_core.specs.declared.link_types.LinkKind.TheVariants as kind

-- What is carried begins within the captured bytes.
abbrev pub BeginsWithin : List ℕ → Carried → Type 0
BeginsWithin bytes (carried.Packet p) = p.offset ≤ length bytes
BeginsWithin bytes (carried.Another p) = p.offset ≤ length bytes
BeginsWithin bytes carried.Cut = Unit {0}
BeginsWithin bytes carried.Unknown = Unit {0}

-- the kind of link that a number names: 101 is raw IP, which some systems write as 12 or 14
abbrev pub link_kind : ℕ → LinkKind
link_kind number =
    if number == 1 then kind.Ethernet
    else if (number == 101) || (number == 12) || (number == 14) then kind.Raw
    else if number == 228 then kind.Ipv4
    else if number == 229 then kind.Ipv6
    else if number == 113 then kind.Cooked
    else if number == 276 then kind.CookedTwo
    else if number == 0 then kind.Null
    else if number == 108 then kind.Loop
    else kind.Unknown

-- The ethertype is that of IPv4 or of IPv6.
abbrev pub is_ip : ℕ → Bool
is_ip ethertype = (ethertype == 0x0800) || (ethertype == 0x86DD)

abbrev pub carried_as : Payload → Carried
carried_as p = if is_ip p.ethertype then carried.Packet p else carried.Another p

-- a packet that begins at a byte, behind no tag
abbrev pub payload_at : ℕ → ℕ → Payload
payload_at offset ethertype = record { ethertype = ethertype; offset = offset; tags = 0 }

-- What is carried behind the header of a frame that begins at a byte, and as many tags of which stand before that.
pub record IsPayload (bytes : List ℕ) (from outer : ℕ) (p : Payload) : Type 0 where
  pub tags : ℕ
  pub behind : CarriesBehind (drop from bytes) tags
  pub ethertype : p.ethertype ≡ be16_at (drop from bytes) (ethertype_place tags)
  pub offset : p.offset ≡ from + (ethertype_place tags + 2)
  pub count : p.tags ≡ outer + tags

-- What a frame carries that is laid out as one of Ethernet from a byte on.
abbrev pub CarriesFrom : List ℕ → ℕ → ℕ → Carried → Type 0
CarriesFrom bytes from outer (carried.Packet p) = IsPayload bytes from outer p × (is_ip p.ethertype ≡ true)
CarriesFrom bytes from outer (carried.Another p) = IsPayload bytes from outer p × (is_ip p.ethertype ≡ false)
CarriesFrom bytes from outer carried.Cut = (tags : ℕ) × IsCutBehind (drop from bytes) tags
CarriesFrom bytes from outer carried.Unknown = ⊥

-- Linux's second cooked header has 20 bytes, of which the first two are the ethertype. Where that is a tag's, the rest
-- of the tag and the next ethertype follow the header: they stand as in a frame of Ethernet that begins at byte 10.
abbrev pub CarriesBehindTwenty : Bool → List ℕ → Carried → Type 0
CarriesBehindTwenty true bytes c = CarriesFrom bytes 10 1 c
CarriesBehindTwenty false bytes c = c ≡ carried_as (payload_at 20 (be16_at bytes 0))

abbrev pub CarriesIfCaptured : Bool → List ℕ → Carried → Type 0
CarriesIfCaptured true bytes c = CarriesBehindTwenty (is_tag (be16_at bytes 0)) bytes c
CarriesIfCaptured false bytes c = c ≡ carried.Cut

abbrev pub CarriesCookedTwo : List ℕ → Carried → Type 0
CarriesCookedTwo bytes c = CarriesIfCaptured (not (nat_lt (length bytes) 20)) bytes c

-- the four bytes at the beginning, the low one first
abbrev pub le32_at_start : List ℕ → ℕ
le32_at_start bytes =
    byte_at bytes 0 + byte_at bytes 1 * 256 + (byte_at bytes 2 + byte_at bytes 3 * 256) * 65536

-- The address family, in the byte order of the machine that captured: a number of more than sixteen bits is one that
-- was read in the other order.
abbrev pub family_of_null : List ℕ → ℕ
family_of_null bytes = if nat_lt (be32_at bytes 0) 65536 then be32_at bytes 0 else le32_at_start bytes

-- the address families of IPv6: Linux's, those of the BSDs, and macOS's
abbrev pub is_inet6 : ℕ → Bool
is_inet6 family = (family == 10) || (family == 24) || (family == 28) || (family == 30)

-- what a packet behind an address family is: 2 is IPv4's everywhere
abbrev pub carried_of_family : ℕ → Carried
carried_of_family family =
    if family == 2 then carried.Packet (payload_at 4 0x0800)
    else if is_inet6 family then carried.Packet (payload_at 4 0x86DD)
    else carried.Another (payload_at 4 0)

-- What bytes of a link of some kind carry. Linux's cooked header has 16 bytes, and its ethertype stands last in it: it
-- is laid out as the header of Ethernet from byte 2 on.
abbrev pub CarriesAs : LinkKind → List ℕ → Carried → Type 0
CarriesAs kind.Ethernet bytes c = CarriesFrom bytes 0 0 c
CarriesAs kind.Raw bytes c = c ≡ carried.Packet (payload_at 0 0)
CarriesAs kind.Ipv4 bytes c = c ≡ carried.Packet (payload_at 0 0x0800)
CarriesAs kind.Ipv6 bytes c = c ≡ carried.Packet (payload_at 0 0x86DD)
CarriesAs kind.Cooked bytes c = CarriesFrom bytes 2 0 c
CarriesAs kind.CookedTwo bytes c = CarriesCookedTwo bytes c
CarriesAs kind.Null bytes c =
    c ≡ (if nat_lt (length bytes) 4 then carried.Cut else carried_of_family (family_of_null bytes))
CarriesAs kind.Loop bytes c =
    c ≡ (if nat_lt (length bytes) 4 then carried.Cut else carried_of_family (be32_at bytes 0))
CarriesAs kind.Unknown bytes c = c ≡ carried.Unknown

-- What bytes carry that a link of the type of that number delivered.
abbrev pub Carries : List ℕ → ℕ → Carried → Type 0
Carries bytes number c = CarriesAs (link_kind number) bytes c
