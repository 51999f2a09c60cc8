-- What a captured packet says.
use Rattle.std.specs.Prelude.{◌≡◌, ℕ, ◌<◌, ◌≤◌, ◌==◌, ◌&&◌, Bool, true, List, Option, Some, None, length, take, nat_lt, if◌then◌else◌}
use Rattle.header_core.specs.Fields.{version_at}
use Rattle.header_core.specs.Headers.{without_fields}
use Rattle.header_core.specs.Ipv4Headers.{ipv4_header}
use Rattle.header_core.specs.Ipv6Headers.{Ipv6Says}
use Rattle.header_core.specs.declared.dissection.Network.{Network}
use Rattle.header_core.specs.declared.dissection.Network.TheVariants as network
use Rattle.header_core.specs.declared.header.Fragment.{Fragment}
use Rattle.header_core.specs.declared.header.Fragment.TheVariants as fragment
use Rattle.header_core.specs.declared.header.Header.{Header}
use Rattle.header_core.specs.declared.header.InPlaceOfPorts.{InPlaceOfPorts}
use Rattle.header_core.specs.declared.header.Verdict.{Verdict}
use Rattle.header_core.specs.declared.header.Verdict.TheVariants as verdict

-- The link says this ethertype, or none.
abbrev pub is_allowed : ℕ → Option ℕ → Bool
is_allowed number None = true
is_allowed number (Some ethertype) = ethertype == number

-- The version that a packet has and the link agrees with (RFC 1122, section 3.2.1.1).
unfoldable pub network_of : List ℕ → Option ℕ → Network
network_of bytes ethertype =
    if length bytes == 0 then network.Unseen
    else if (version_at bytes == 4) && is_allowed 0x0800 ethertype then network.Ipv4
    else if (version_at bytes == 6) && is_allowed 0x86DD ethertype then network.Ipv6
    else network.Another

-- the verdict on a packet of which no byte was captured: less than 20 bytes are too few for either version
abbrev pub unseen_verdict : ℕ → Verdict
unseen_verdict wire = if nat_lt wire 20 then verdict.Short else verdict.Cut

abbrev pub SaysAs : Network → List ℕ → ℕ → InPlaceOfPorts → Header → Type 0
SaysAs network.Unseen bytes wire instead header = header ≡ without_fields (unseen_verdict wire)
SaysAs network.Another bytes wire instead header = header ≡ without_fields verdict.NotIp
SaysAs network.Ipv4 bytes wire instead header = header ≡ ipv4_header bytes wire instead
SaysAs network.Ipv6 bytes wire instead header = Ipv6Says bytes wire instead header

-- What those bytes say, of which the link delivered so many, by its ethertype where it has one.
abbrev pub Says : List ℕ → ℕ → Option ℕ → InPlaceOfPorts → Header → Type 0
Says bytes wire ethertype instead header = SaysAs (network_of bytes ethertype) bytes wire instead header

-- The captured bytes have one meaning.
abbrev pub HasOneMeaning : Type 0
HasOneMeaning =
    (bytes : List ℕ) (wire : ℕ) (ethertype : Option ℕ) (instead : InPlaceOfPorts) (x y : Header)
    → Says bytes wire ethertype instead x → Says bytes wire ethertype instead y → x ≡ y

-- Bytes behind a packet's length change nothing (RFC 1812, section 5.2.2), however many the link delivered.
abbrev pub IgnoresPadding : Type 0
IgnoresPadding =
    (a b : List ℕ) (wire wider : ℕ) (ethertype : Option ℕ) (instead : InPlaceOfPorts) (x y : Header)
    → Says a wire ethertype instead x → Says b wider ethertype instead y
    → 0 < x.version → x.len ≤ wider → take x.len a ≡ take x.len b → x ≡ y

-- The packet is one of several fragments of a datagram.
abbrev pub IsPart : Fragment → Type 0
IsPart fragment.First = Unit {0}
IsPart fragment.Later = Unit {0}
IsPart fragment.Whole = ⊥
IsPart fragment.Atomic = ⊥

-- Two headers are of fragments of one datagram: these have the same addresses and the same protocol (RFC 791,
-- section 3.2; RFC 8200, section 4.5), and in IPv6 the same flow label.
pub record AreOfOneDatagram (x y : Header) : Type 0 where
  pub first_is_part : IsPart x.fragment
  pub second_is_part : IsPart y.fragment
  pub src : x.tuple.src ≡ y.tuple.src
  pub dst : x.tuple.dst ≡ y.tuple.dst
  pub proto : x.tuple.proto ≡ y.tuple.proto
  pub flow_label : x.flow_label ≡ y.flow_label

-- Fragments of one datagram have one five-tuple.
abbrev pub KeepsFragmentsTogether : Type 0
KeepsFragmentsTogether =
    (a b : List ℕ) (wire other : ℕ) (ethertype : Option ℕ) (instead : InPlaceOfPorts) (x y : Header)
    → Says a wire ethertype instead x → Says b other ethertype instead y
    → AreOfOneDatagram x y → x.tuple ≡ y.tuple
