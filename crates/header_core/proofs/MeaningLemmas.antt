-- The captured bytes have one meaning.
use Rattle.std.proofs.Common.{◌≡◌, ◌∙◌, ℕ, List, Bool, true, false, Option, Some, None, MatchOption, sym, ap}
use Rattle.header_core.specs.Dissections.{HasOneMeaning, SaysAs, network_of}
use Rattle.header_core.specs.Headers.{without_fields}
use Rattle.header_core.specs.Ipv6Headers.{FollowsChain, Ipv6Says, SaysByKind, SaysPacket, fixed_fault, ipv6_fields, ipv6_length, length_fault, tail_of}
use Rattle.header_core.specs.Jumbograms.{is_jumbogram}
use Rattle.header_core.specs.declared.chain.Place.{Place}
use Rattle.header_core.specs.declared.dissection.Network.{Network}
use Rattle.header_core.specs.declared.dissection.Network.TheVariants as network
use Rattle.header_core.specs.declared.header.Header.{Header}
use Rattle.header_core.specs.declared.header.InPlaceOfPorts.{InPlaceOfPorts}
use Rattle.header_core.specs.declared.header.Verdict.{Verdict}
use Rattle.header_core.proofs.ChainLemmas.{one_end}
use Rattle.header_core.proofs.JumboLemmas.{one_verdict}

-- what is said behind a rule that may be broken
abbrev Behind : Option Verdict → (Header → Type 0) → Header → Type 0
Behind fault Rest x = MatchOption fault (Rest x) (λ broken. x ≡ without_fields broken)

one_behind : (fault : Option Verdict) (Rest : Header → Type 0) (x y : Header) → (Rest x → Rest y → x ≡ y) → Behind fault Rest x → Behind fault Rest y → x ≡ y
one_behind (Some broken) Rest x y one a b = a ∙ sym b
one_behind None Rest x y one a b = one a b

one_chain : (bytes : List ℕ) (instead : InPlaceOfPorts) (x y : Header) → FollowsChain bytes instead x → FollowsChain bytes instead y → x ≡ y
one_chain bytes instead x y (p, ends, is) (q, also_ends, also) =
    is ∙ ap (λ (r : Place). ipv6_fields bytes instead (tail_of bytes instead r)) (one_end bytes (ipv6_length bytes) p q ends also_ends) ∙ sym also

one_packet : (bytes : List ℕ) (wire : ℕ) (instead : InPlaceOfPorts) (x y : Header) → SaysPacket bytes wire instead x → SaysPacket bytes wire instead y → x ≡ y
one_packet bytes wire instead x y = one_behind (length_fault bytes wire) (FollowsChain bytes instead) x y (one_chain bytes instead x y)

one_by_kind : (jumbo : Bool) (bytes : List ℕ) (wire : ℕ) (instead : InPlaceOfPorts) (x y : Header) → SaysByKind jumbo bytes wire instead x → SaysByKind jumbo bytes wire instead y → x ≡ y
one_by_kind true bytes wire instead x y (v, judges, is) (w, also_judges, also) =
    is ∙ ap without_fields (one_verdict bytes wire v w judges also_judges) ∙ sym also
one_by_kind false bytes wire instead x y a b = one_packet bytes wire instead x y a b

one_ipv6 : (bytes : List ℕ) (wire : ℕ) (instead : InPlaceOfPorts) (x y : Header) → Ipv6Says bytes wire instead x → Ipv6Says bytes wire instead y → x ≡ y
one_ipv6 bytes wire instead x y =
    one_behind (fixed_fault bytes wire) (SaysByKind (is_jumbogram bytes) bytes wire instead) x y
    (one_by_kind (is_jumbogram bytes) bytes wire instead x y)

one_as : (n : Network) (bytes : List ℕ) (wire : ℕ) (instead : InPlaceOfPorts) (x y : Header) → SaysAs n bytes wire instead x → SaysAs n bytes wire instead y → x ≡ y
one_as network.Unseen bytes wire instead x y a b = a ∙ sym b
one_as network.Another bytes wire instead x y a b = a ∙ sym b
one_as network.Ipv4 bytes wire instead x y a b = a ∙ sym b
one_as network.Ipv6 bytes wire instead x y a b = one_ipv6 bytes wire instead x y a b

pub has_one_meaning : HasOneMeaning
has_one_meaning bytes wire ethertype instead x y = one_as (network_of bytes ethertype) bytes wire instead x y
