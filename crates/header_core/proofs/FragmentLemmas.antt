-- Fragments of one datagram have one five-tuple: none of them shows its ports.
use Rattle.std.proofs.Common.{◌≡◌, ◌∙◌, ℕ, ◌&&◌, List, Bool, true, false, cond, Option, Some, None, MatchOption, refl, sym, ap, subst}
use Rattle.header_core.specs.Dissections.{IsPart, KeepsFragmentsTogether, SaysAs, network_of}
use Rattle.header_core.specs.Headers.{unless_broken, without_fields}
use Rattle.header_core.specs.Ipv4Headers.{ipv4_fault, ipv4_fields, ipv4_fragment, ipv4_header, ipv4_ports, ports_by}
use Rattle.header_core.specs.Ipv6Headers.{FollowsChain, SaysByKind, dport_or_label, fixed_fault, flow_label, ipv6_fields, ipv6_length, length_fault, sport_or_label, tail_by, tail_of}
use Rattle.header_core.specs.Jumbograms.{is_jumbogram}
use Rattle.header_core.specs.Chains.{kind_at}
use Rattle.header_core.specs.PortFields.{without_ports}
use Rattle.header_core.specs.declared.chain.Kind.{Kind}
use Rattle.header_core.specs.declared.chain.Kind.TheVariants as kind
use Rattle.header_core.specs.declared.chain.Place.{Place}
use Rattle.header_core.specs.declared.dissection.Network.{Network}
use Rattle.header_core.specs.declared.dissection.Network.TheVariants as network
use Rattle.header_core.specs.declared.header.Fragment.{Fragment}
use Rattle.header_core.specs.declared.header.Fragment.TheVariants as fragment
use Rattle.header_core.specs.declared.header.Header.{Header}
use Rattle.header_core.specs.declared.header.InPlaceOfPorts.{InPlaceOfPorts}
use Rattle.header_core.specs.declared.header.Ports.TheVariants as ports
use Rattle.header_core.specs.declared.header.Verdict.{Verdict}
use Rattle.header_core.specs.declared.ports.PortPair.{PortPair}

-- In place of the ports stands a flow label or nothing.
pub record HidesPorts (instead : InPlaceOfPorts) (x : Header) : Type 0 where
  pub sport : x.tuple.sport ≡ sport_or_label x.flow_label instead (without_ports ports.Fragment)
  pub dport : x.tuple.dport ≡ dport_or_label x.flow_label instead (without_ports ports.Fragment)

-- A fragment hides its ports.
abbrev Hides : InPlaceOfPorts → Header → Type 0
Hides instead x = IsPart x.fragment → HidesPorts instead x

no_fields : (instead : InPlaceOfPorts) (v : Verdict) → Hides instead (without_fields v)
no_fields instead v part = absurd part

along : (instead : InPlaceOfPorts) (x y : Header) → x ≡ y → Hides instead y → Hides instead x
along instead x y same = subst (λ (h : Header). Hides instead h) (sym same)

by_part : (f : Fragment) (pair : PortPair) → IsPart f → ports_by f pair ≡ without_ports ports.Fragment
by_part fragment.First pair part = refl
by_part fragment.Later pair part = refl
by_part fragment.Whole pair part = absurd part
by_part fragment.Atomic pair part = absurd part

no_label : (b : Bool) → ◌≡◌ {A = ℕ} 0 (cond (b && false) 0 0)
no_label true = refl
no_label false = refl

ipv4_hides : (fault : Option Verdict) (bytes : List ℕ) (instead : InPlaceOfPorts) → Hides instead (unless_broken fault (ipv4_fields bytes instead))
unfolding ipv4_fields ipv4_ports
ipv4_hides (Some broken) bytes instead part = absurd part
ipv4_hides None bytes instead part =
    let none = by_part (ipv4_fragment bytes) _ part in
    record {
      sport = ap (λ (pair : PortPair). pair.sport) none ∙ no_label instead.flow_label;
      dport = ap (λ (pair : PortPair). pair.dport) none ∙ no_label instead.flow_label;
    }

upper_is_no_part : (atomic : Bool) → IsPart (cond atomic fragment.Atomic fragment.Whole) → ⊥
upper_is_no_part true part = part
upper_is_no_part false part = part

tail_hides : (k : Kind) (bytes : List ℕ) (instead : InPlaceOfPorts) (p : Place) → IsPart (tail_by bytes instead p k).fragment → (tail_by bytes instead p k).ports ≡ without_ports ports.Fragment
tail_hides kind.Part bytes instead p part = refl
tail_hides kind.Upper bytes instead p part = absurd (upper_is_no_part p.atomic part)
tail_hides kind.Beyond bytes instead p part = absurd part
tail_hides kind.Extension bytes instead p part = absurd part
tail_hides kind.Cut bytes instead p part = absurd part

chain_hides : (bytes : List ℕ) (instead : InPlaceOfPorts) (p : Place) → Hides instead (ipv6_fields bytes instead (tail_of bytes instead p))
unfolding ipv6_fields tail_of
chain_hides bytes instead p part =
    let none = tail_hides (kind_at bytes (ipv6_length bytes) p) bytes instead p part in
    record {
      sport = ap (sport_or_label (flow_label bytes) instead) none;
      dport = ap (dport_or_label (flow_label bytes) instead) none;
    }

-- what is said behind a rule that may be broken
behind_hides : (fault : Option Verdict) (Rest : Header → Type 0) (instead : InPlaceOfPorts) (x : Header) → (Rest x → Hides instead x) → MatchOption fault (Rest x) (λ broken. x ≡ without_fields broken) → Hides instead x
behind_hides (Some broken) Rest instead x rest is = along instead x (without_fields broken) is (no_fields instead broken)
behind_hides None Rest instead x rest is = rest is

follows_hides : (bytes : List ℕ) (instead : InPlaceOfPorts) (x : Header) → FollowsChain bytes instead x → Hides instead x
follows_hides bytes instead x (p, ends, is) = along instead x (ipv6_fields bytes instead (tail_of bytes instead p)) is (chain_hides bytes instead p)

kind_hides : (jumbo : Bool) (bytes : List ℕ) (wire : ℕ) (instead : InPlaceOfPorts) (x : Header) → SaysByKind jumbo bytes wire instead x → Hides instead x
kind_hides true bytes wire instead x (v, judges, is) = along instead x (without_fields v) is (no_fields instead v)
kind_hides false bytes wire instead x says =
    behind_hides (length_fault bytes wire) (FollowsChain bytes instead) instead x (follows_hides bytes instead x) says

hides : (n : Network) (bytes : List ℕ) (wire : ℕ) (instead : InPlaceOfPorts) (x : Header) → SaysAs n bytes wire instead x → Hides instead x
unfolding ipv4_header
hides network.Unseen bytes wire instead x is = along instead x (without_fields _) is (no_fields instead _)
hides network.Another bytes wire instead x is = along instead x (without_fields _) is (no_fields instead _)
hides network.Ipv4 bytes wire instead x is =
    along instead x (ipv4_header bytes wire instead) is (ipv4_hides (ipv4_fault bytes wire) bytes instead)
hides network.Ipv6 bytes wire instead x says =
    behind_hides (fixed_fault bytes wire) (SaysByKind (is_jumbogram bytes) bytes wire instead) instead x
    (kind_hides (is_jumbogram bytes) bytes wire instead x) says

pub fragments_together : KeepsFragmentsTogether
fragments_together a b wire other ethertype instead x y says also one =
    let left = hides (network_of a ethertype) a wire instead x says one.first_is_part in
    let right = hides (network_of b ethertype) b other instead y also one.second_is_part in
    let sport : x.tuple.sport ≡ y.tuple.sport =
    left.sport ∙ ap (λ (n : ℕ). sport_or_label n instead (without_ports ports.Fragment)) one.flow_label ∙ sym right.sport in
    let dport : x.tuple.dport ≡ y.tuple.dport =
    left.dport ∙ ap (λ (n : ℕ). dport_or_label n instead (without_ports ports.Fragment)) one.flow_label ∙ sym right.dport in
    λ i. record { proto = one.proto i; src = one.src i; dst = one.dst i; sport = sport i; dport = dport i }
