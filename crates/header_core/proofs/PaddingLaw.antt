-- What a packet says stands in the bytes up to its length, so what follows these changes nothing.
use Rattle.std.proofs.Common.{◌≡◌, ◌∙◌, ℕ, ◌+◌, ◌*◌, ◌/◌, ◌%◌, ◌<◌, ◌≤◌, ◌&&◌, ◌==◌, List, Bool, true, false, cond, not, Option, Some, None, MatchOption, length, take, refl, sym, ap, subst, arith}
use Rattle.std.proofs.lemmas.Bool.{le-ltb, ltb-false}
use Rattle.packet_core.specs.PackedPackets.{ecn_in}
use Rattle.packet_core.specs.declared.packet.Ip.TheVariants.{V4, V6}
use Rattle.header_core.specs.Chains.{EndsAt, kind_at}
use Rattle.header_core.specs.Dissections.{IgnoresPadding, SaysAs, is_allowed, network_of}
use Rattle.header_core.specs.Fields.{byte_at}
use Rattle.header_core.specs.Headers.{unless_broken, without_fields}
use Rattle.header_core.specs.Ipv4Headers.{ihl, ipv4_fault, ipv4_fields, ipv4_fragment, ipv4_header, ipv4_ports, ports_by, total_length}
use Rattle.header_core.specs.Ipv6Headers.{FollowsChain, Ipv6Says, SaysByKind, SaysPacket, dport_or_label, fixed_fault, flow_label, ipv6_fields, ipv6_length, length_fault, sport_or_label, tail_by, tail_of}
use Rattle.header_core.specs.Jumbograms.{is_jumbogram}
use Rattle.header_core.specs.PortFields.{ports_at, without_ports}
use Rattle.header_core.specs.declared.chain.Kind.{Kind}
use Rattle.header_core.specs.declared.chain.Kind.TheVariants as kind
use Rattle.header_core.specs.declared.chain.Place.{Place}
use Rattle.header_core.specs.declared.dissection.Network.{Network}
use Rattle.header_core.specs.declared.dissection.Network.TheVariants as network
use Rattle.header_core.specs.declared.header.Fragment.TheVariants as fragment
use Rattle.header_core.specs.declared.header.Header.{Header}
use Rattle.header_core.specs.declared.header.InPlaceOfPorts.{InPlaceOfPorts}
use Rattle.header_core.specs.declared.header.Ports.TheVariants as ports
use Rattle.header_core.specs.declared.header.Verdict.{Verdict}
use Rattle.header_core.specs.declared.header.Verdict.TheVariants as verdict
use Rattle.header_core.proofs.ChainLemmas.{inside}
use Rattle.header_core.proofs.MeaningLemmas.{has_one_meaning}
use Rattle.header_core.proofs.PaddingLemmas.{same_be16, same_byte, same_bytes, same_emptiness, same_end, same_kind, same_length_test, same_ports}
use Rattle.header_core.proofs.TestLemmas.{passed, passes}

-- IPv4: the rules that a packet keeps, and that it keeps them if they hold
pub record KeepsIpv4 (bytes : List ℕ) (wire : ℕ) : Type 0 where
  pub captured : 20 ≤ length bytes
  pub words : 5 ≤ ihl bytes
  pub total : 4 * ihl bytes ≤ total_length bytes
  pub delivered : total_length bytes ≤ wire

keeps_ipv4 : (bytes : List ℕ) (wire : ℕ) → ipv4_fault bytes wire ≡ None → KeepsIpv4 bytes wire
unfolding ipv4_fault
keeps_ipv4 bytes wire none =
    let a = passed wire 20 verdict.Short _ none in
    let b = passed (length bytes) 20 verdict.Cut _ a.1 in
    let c = passed (ihl bytes) 5 verdict.BadIhl _ b.1 in
    let d = passed (total_length bytes) (4 * ihl bytes) verdict.BadLength _ c.1 in
    let e = passed wire (total_length bytes) verdict.Overrun _ d.1 in
    record { captured = b.0; words = c.0; total = d.0; delivered = e.0 }

no_ipv4_fault : (bytes : List ℕ) (wire : ℕ) → KeepsIpv4 bytes wire → ipv4_fault bytes wire ≡ None
unfolding ipv4_fault
no_ipv4_fault bytes wire keeps =
    passes wire 20 verdict.Short _ (omega (arith, keeps.words, keeps.total, keeps.delivered))
    (passes (length bytes) 20 verdict.Cut _ keeps.captured
    (passes (ihl bytes) 5 verdict.BadIhl _ keeps.words
    (passes (total_length bytes) (4 * ihl bytes) verdict.BadLength _ keeps.total
    (passes wire (total_length bytes) verdict.Overrun _ keeps.delivered refl))))

-- a header with fields is of a packet that breaks no rule
unbroken_ipv4 : (fault : Option Verdict) (x : Header) → 0 < (unless_broken fault x).version → fault ≡ None
unbroken_ipv4 (Some broken) x some = absurd (omega arith)
unbroken_ipv4 None x some = refl

same_ipv4 : (a b : List ℕ) (instead : InPlaceOfPorts) → take (total_length a) a ≡ take (total_length a) b → 20 ≤ total_length a → ipv4_fields a instead ≡ ipv4_fields b instead
unfolding ipv4_fields ipv4_fragment ipv4_ports
same_ipv4 a b instead agree long =
    let n = total_length a in
    let first = same_byte a b n agree 0 (omega arith) in
    let second = same_byte a b n agree 1 (omega arith) in
    let total = same_be16 a b n agree 2 (omega arith) in
    let part = same_be16 a b n agree 6 (omega arith) in
    let number = same_byte a b n agree 9 (omega arith) in
    let source = same_bytes a b n agree 12 4 (omega arith) in
    let destination = same_bytes a b n agree 16 4 (omega arith) in
    let fragments : ipv4_fragment a ≡ ipv4_fragment b =
    λ t. cond (not (part t % 8192 == 0)) fragment.Later (cond (part t / 8192 % 2 == 1) fragment.First fragment.Whole) in
    let pairs : ports_at a (byte_at a 9) (4 * ihl a) (total_length a) instead.esp_spi ≡ ports_at b (byte_at b 9) (4 * ihl b) (total_length b) instead.esp_spi =
    same_ports a b n agree (byte_at a 9) (4 * ihl a) instead.esp_spi
    ∙ (λ t. ports_at b (number t) (4 * (first t % 16)) (total t) instead.esp_spi) in
    let shown : ipv4_ports a instead ≡ ipv4_ports b instead = λ t. ports_by (fragments t) (pairs t) in
    λ t. record {
      verdict = verdict.Fine;
      version = 4;
      tuple = record {
        proto = number t;
        src = V4 (source t);
        dst = V4 (destination t);
        sport = (shown t).sport;
        dport = (shown t).dport;
      };
      ecn = ecn_in (second t % 4);
      dscp = second t / 4;
      len = total t;
      transport = 4 * (first t % 16);
      fragment = fragments t;
      ports = (shown t).kind;
      flow_label = 0;
    }

padded_ipv4 : (a b : List ℕ) (wire wider : ℕ) (instead : InPlaceOfPorts) → KeepsIpv4 a wire → take (total_length a) a ≡ take (total_length a) b → total_length a ≤ wider → ipv4_fields a instead ≡ ipv4_header b wider instead
unfolding ipv4_header
padded_ipv4 a b wire wider instead keeps agree delivered =
    let n = total_length a in
    let long : 20 ≤ n = omega (arith, keeps.words, keeps.total) in
    let first = same_byte a b n agree 0 (omega arith) in
    let total = same_be16 a b n agree 2 (omega arith) in
    let captured = same_length_test a b n agree 20 long in
    let header : ihl a ≡ ihl b = ap (λ (v : ℕ). v % 16) first in
    let kept : KeepsIpv4 b wider = record {
      captured = ltb-false (length b) 20 (sym captured ∙ le-ltb (length a) 20 keeps.captured);
      words = omega (arith, keeps.words, header);
      total = omega (arith, keeps.total, header, total);
      delivered = omega (arith, total, delivered);
    } in
    same_ipv4 a b instead agree long
    ∙ ap (λ (fault : Option Verdict). unless_broken fault (ipv4_fields b instead)) (sym (no_ipv4_fault b wider kept))

-- IPv6: what is said behind a rule that may be broken
abbrev Behind : Option Verdict → (Header → Type 0) → Header → Type 0
Behind fault Rest x = MatchOption fault (Rest x) (λ broken. x ≡ without_fields broken)

unbroken : (fault : Option Verdict) (Rest : Header → Type 0) (x : Header) → 0 < x.version → Behind fault Rest x → (fault ≡ None) × Rest x
unbroken (Some broken) Rest x some is =
    let none : x.version ≡ 0 = ap (λ (h : Header). h.version) is in
    absurd (omega arith)
unbroken None Rest x some is = (refl, is)

behind_none : (fault : Option Verdict) (Rest : Header → Type 0) (x : Header) → fault ≡ None → Rest x → Behind fault Rest x
behind_none (Some broken) Rest x none is = absurd cc
behind_none None Rest x none is = is

sized : (jumbo : Bool) (bytes : List ℕ) (wire : ℕ) (instead : InPlaceOfPorts) (x : Header) → 0 < x.version → SaysByKind jumbo bytes wire instead x → (jumbo ≡ false) × SaysPacket bytes wire instead x
sized true bytes wire instead x some (v, judges, is) =
    let none : x.version ≡ 0 = ap (λ (h : Header). h.version) is in
    absurd (omega arith)
sized false bytes wire instead x some says = (refl, says)

by_kind_false : (jumbo : Bool) (bytes : List ℕ) (wire : ℕ) (instead : InPlaceOfPorts) (x : Header) → jumbo ≡ false → SaysPacket bytes wire instead x → SaysByKind jumbo bytes wire instead x
by_kind_false true bytes wire instead x none says = absurd cc
by_kind_false false bytes wire instead x none says = says

same_tail_by : (a b : List ℕ) (instead : InPlaceOfPorts) (p : Place) (k : Kind) → take (ipv6_length a) a ≡ take (ipv6_length a) b → ipv6_length a ≡ ipv6_length b → (k ≡ kind.Part → p.at + 8 ≤ ipv6_length a) → tail_by a instead p k ≡ tail_by b instead p k
same_tail_by a b instead p kind.Upper agree len room =
    let pairs : ports_at a p.proto p.at (ipv6_length a) instead.esp_spi ≡ ports_at b p.proto p.at (ipv6_length b) instead.esp_spi =
    same_ports a b (ipv6_length a) agree p.proto p.at instead.esp_spi
    ∙ ap (λ (n : ℕ). ports_at b p.proto p.at n instead.esp_spi) len in
    λ t. record {
      verdict = verdict.Fine;
      proto = p.proto;
      transport = p.at;
      fragment = cond p.atomic fragment.Atomic fragment.Whole;
      ports = pairs t;
    }
same_tail_by a b instead p kind.Part agree len room =
    let within = room refl in
    let number = same_byte a b (ipv6_length a) agree p.at (omega arith) in
    let field = same_be16 a b (ipv6_length a) agree (p.at + 2) (omega arith) in
    λ t. record {
      verdict = verdict.Fine;
      proto = number t;
      transport = p.at + 8;
      fragment = cond (field t / 8 == 0) fragment.First fragment.Later;
      ports = without_ports ports.Fragment;
    }
same_tail_by a b instead p kind.Beyond agree len room = refl
same_tail_by a b instead p kind.Extension agree len room = refl
same_tail_by a b instead p kind.Cut agree len room = refl

same_tail : (a b : List ℕ) (instead : InPlaceOfPorts) (p : Place) → take (ipv6_length a) a ≡ take (ipv6_length a) b → ipv6_length a ≡ ipv6_length b → tail_of a instead p ≡ tail_of b instead p
unfolding tail_of
same_tail a b instead p agree len =
    let n = ipv6_length a in
    let kinds : kind_at a n p ≡ kind_at b (ipv6_length b) p =
    same_kind a b n agree p ∙ ap (λ (m : ℕ). kind_at b m p) len in
    same_tail_by a b instead p (kind_at a n p) agree len
    (λ is. inside a n p kind.Part is (λ h. cc) (λ h. cc))
    ∙ ap (tail_by b instead p) kinds

same_ipv6 : (a b : List ℕ) (instead : InPlaceOfPorts) (p : Place) → take (ipv6_length a) a ≡ take (ipv6_length a) b → ipv6_length a ≡ ipv6_length b → ipv6_fields a instead (tail_of a instead p) ≡ ipv6_fields b instead (tail_of b instead p)
unfolding ipv6_fields
same_ipv6 a b instead p agree len =
    let n = ipv6_length a in
    let tails = same_tail a b instead p agree len in
    let first = same_be16 a b n agree 0 (omega arith) in
    let second = same_byte a b n agree 1 (omega arith) in
    let low = same_be16 a b n agree 2 (omega arith) in
    let source = same_bytes a b n agree 8 16 (omega arith) in
    let destination = same_bytes a b n agree 24 16 (omega arith) in
    let label : flow_label a ≡ flow_label b = λ t. second t % 16 * 65536 + low t in
    λ t. record {
      verdict = (tails t).verdict;
      version = 6;
      tuple = record {
        proto = (tails t).proto;
        src = V6 (source t);
        dst = V6 (destination t);
        sport = sport_or_label (label t) instead (tails t).ports;
        dport = dport_or_label (label t) instead (tails t).ports;
      };
      ecn = ecn_in (first t / 16 % 256 % 4);
      dscp = first t / 16 % 256 / 4;
      len = len t;
      transport = (tails t).transport;
      fragment = (tails t).fragment;
      ports = (tails t).ports.kind;
      flow_label = label t;
    }

padded_chain : (a b : List ℕ) (instead : InPlaceOfPorts) (x : Header) → FollowsChain a instead x → take (ipv6_length a) a ≡ take (ipv6_length a) b → ipv6_length a ≡ ipv6_length b → FollowsChain b instead x
padded_chain a b instead x (p, ends, is) agree len = (
  p,
  subst (λ (n : ℕ). EndsAt b n p) len (same_end a b (ipv6_length a) agree (omega arith) p ends),
  is ∙ same_ipv6 a b instead p agree len,
)

-- the length that a packet of IPv6 with fields says
chain_length : (bytes : List ℕ) (instead : InPlaceOfPorts) (x : Header) → FollowsChain bytes instead x → x.len ≡ ipv6_length bytes
unfolding ipv6_fields
chain_length bytes instead x (p, ends, is) = ap (λ (h : Header). h.len) is

no_fixed_fault : (bytes : List ℕ) (wire : ℕ) → 40 ≤ wire → 40 ≤ length bytes → fixed_fault bytes wire ≡ None
no_fixed_fault bytes wire delivered captured =
    passes wire 40 verdict.Short _ delivered (passes (length bytes) 40 verdict.Cut _ captured refl)

no_length_fault : (bytes : List ℕ) (wire : ℕ) → ipv6_length bytes ≤ wire → ipv6_length bytes ≤ 65535 → length_fault bytes wire ≡ None
no_length_fault bytes wire delivered short =
    passes wire (ipv6_length bytes) verdict.Overrun _ delivered (passes 65535 (ipv6_length bytes) verdict.TooLong _ short refl)

padded_ipv6 : (a b : List ℕ) (wire wider : ℕ) (instead : InPlaceOfPorts) (x : Header) → 0 < x.version → Ipv6Says a wire instead x → x.len ≤ wider → take x.len a ≡ take x.len b → Ipv6Says b wider instead x
padded_ipv6 a b wire wider instead x some says delivered agree_x =
    let fixed = unbroken (fixed_fault a wire) (SaysByKind (is_jumbogram a) a wire instead) x some says in
    let plain = sized (is_jumbogram a) a wire instead x some fixed.1 in
    let right = unbroken (length_fault a wire) (FollowsChain a instead) x some plain.1 in
    let length_x = chain_length a instead x right.1 in
    let captured_a = passed (length a) 40 verdict.Cut _ (passed wire 40 verdict.Short _ fixed.0).1 in
    let short = passed 65535 (ipv6_length a) verdict.TooLong _ (passed wire (ipv6_length a) verdict.Overrun _ right.0).1 in
    let n = ipv6_length a in
    let agree : take n a ≡ take n b = subst (λ (m : ℕ). take m a ≡ take m b) length_x agree_x in
    let payload = same_be16 a b n agree 4 (omega arith) in
    let number = same_byte a b n agree 6 (omega arith) in
    let len : ipv6_length a ≡ ipv6_length b = ap (λ (m : ℕ). 40 + m) payload in
    let jumbo : is_jumbogram a ≡ is_jumbogram b = λ t. (payload t == 0) && (number t == 0) in
    let captured : 40 ≤ length b =
    ltb-false (length b) 40 (sym (same_length_test a b n agree 40 (omega arith)) ∙ le-ltb (length a) 40 captured_a.0) in
    behind_none (fixed_fault b wider) (SaysByKind (is_jumbogram b) b wider instead) x
    (no_fixed_fault b wider (omega (arith, length_x)) captured)
    (by_kind_false (is_jumbogram b) b wider instead x (sym jumbo ∙ plain.0)
    (behind_none (length_fault b wider) (FollowsChain b instead) x
    (no_length_fault b wider (omega (arith, length_x, len)) (omega (arith, len, short.0)))
    (padded_chain a b instead x right.1 agree len)))

ipv6_some : (a : List ℕ) (wire : ℕ) (instead : InPlaceOfPorts) (x : Header) → 0 < x.version → Ipv6Says a wire instead x → 1 ≤ x.len
ipv6_some a wire instead x some says =
    let fixed = unbroken (fixed_fault a wire) (SaysByKind (is_jumbogram a) a wire instead) x some says in
    let plain = sized (is_jumbogram a) a wire instead x some fixed.1 in
    let right = unbroken (length_fault a wire) (FollowsChain a instead) x some plain.1 in
    omega (arith, chain_length a instead x right.1)

same_network : (a b : List ℕ) (n : ℕ) (ethertype : Option ℕ) → take n a ≡ take n b → 1 ≤ n → network_of a ethertype ≡ network_of b ethertype
unfolding network_of
same_network a b n ethertype agree some =
    let empty = same_emptiness a b n agree some in
    let first = same_byte a b n agree 0 (omega arith) in
    λ t. cond (empty t) network.Unseen
    (cond ((first t / 16 == 4) && is_allowed 0x0800 ethertype) network.Ipv4
    (cond ((first t / 16 == 6) && is_allowed 0x86DD ethertype) network.Ipv6 network.Another))

ipv4_length_said : (a : List ℕ) (wire : ℕ) (instead : InPlaceOfPorts) (x : Header) → 0 < x.version → x ≡ ipv4_header a wire instead → (ipv4_fault a wire ≡ None) × (x ≡ ipv4_fields a instead) × (x.len ≡ total_length a)
unfolding ipv4_header ipv4_fields
ipv4_length_said a wire instead x some is =
    let version : x.version ≡ (unless_broken (ipv4_fault a wire) (ipv4_fields a instead)).version = ap (λ (h : Header). h.version) is in
    let none = unbroken_ipv4 (ipv4_fault a wire) (ipv4_fields a instead) (subst (λ (v : ℕ). 0 < v) version some) in
    let fields : x ≡ ipv4_fields a instead = is ∙ ap (λ (fault : Option Verdict). unless_broken fault (ipv4_fields a instead)) none in
    (none, fields, ap (λ (h : Header). h.len) fields)

padded_as : (m : Network) (a b : List ℕ) (wire wider : ℕ) (instead : InPlaceOfPorts) (x : Header) → 0 < x.version → SaysAs m a wire instead x → x.len ≤ wider → take x.len a ≡ take x.len b → SaysAs m b wider instead x × (1 ≤ x.len)
padded_as network.Unseen a b wire wider instead x some is delivered agree =
    let none : x.version ≡ 0 = ap (λ (h : Header). h.version) is in
    absurd (omega arith)
padded_as network.Another a b wire wider instead x some is delivered agree =
    let none : x.version ≡ 0 = ap (λ (h : Header). h.version) is in
    absurd (omega arith)
padded_as network.Ipv4 a b wire wider instead x some is delivered agree =
    let said = ipv4_length_said a wire instead x some is in
    let keeps = keeps_ipv4 a wire said.0 in
    let front : take (total_length a) a ≡ take (total_length a) b = subst (λ (m : ℕ). take m a ≡ take m b) said.2 agree in (
      said.1 ∙ padded_ipv4 a b wire wider instead keeps front (omega (arith, said.2)),
      omega (arith, said.2, keeps.words, keeps.total),
    )
padded_as network.Ipv6 a b wire wider instead x some says delivered agree =
    (padded_ipv6 a b wire wider instead x some says delivered agree, ipv6_some a wire instead x some says)

pub ignores_padding : IgnoresPadding
ignores_padding a b wire wider ethertype instead x y says also some delivered agree =
    let padded = padded_as (network_of a ethertype) a b wire wider instead x some says delivered agree in
    let same = same_network a b x.len ethertype agree padded.1 in
    has_one_meaning b wider ethertype instead x y (subst (λ (m : Network). SaysAs m b wider instead x) same padded.0) also
