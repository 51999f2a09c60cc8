-- The equality that is derived for five-tuples, by which the rows are found, is that of all their parts.
use Rattle.std.proofs.Common.{◌≡◌, ◌==◌, ◌&&◌, Bool, List, refl, sym, ap, ◌∙◌}
use Rattle.std.specs.List.{list_any}
use Rattle.std.proofs.Math.Bool.{and_assoc}
use Rattle.packet_core.specs.Packets.{same_ip, same_tuple}
use Rattle.packet_core.specs.declared.packet.Ip.{Ip}
use Rattle.packet_core.specs.declared.packet.Ip.TheVariants.{V4, V6}
use Rattle.packet_core.specs.declared.packet.FiveTuple.{FiveTuple}
use Rattle.packet_core.specs.contracts.packet.FiveTuplePartialEq.TheImpl as tuple_equality
use Rattle.packet_core.specs.contracts.packet.IpPartialEq.TheImpl as ip_equality

addresses_agree : (a b : Ip) → (ip_equality.ghosts).eq a b ≡ same_ip a b
addresses_agree (V4 a) (V4 b) = refl
addresses_agree (V6 a) (V6 b) = refl
addresses_agree (V4 a) (V6 b) = refl
addresses_agree (V6 a) (V4 b) = refl

five_tests : (a b c d e : Bool) → (a && (b && (c && (d && e)))) ≡ (a && b && c && d && e)
five_tests a b c d e = sym (and_assoc (a && b && c) d e ∙ and_assoc (a && b) c (d && e) ∙ and_assoc a b (c && (d && e)))

tuples_agree : (a b : FiveTuple) → (tuple_equality.ghosts).eq a b ≡ same_tuple a b
tuples_agree a b =
    let ports = (a.sport == b.sport) && (a.dport == b.dport) in
    ap (λ (src : Bool). (a.proto == b.proto) && (src && ((ip_equality.ghosts).eq a.dst b.dst && ports))) (addresses_agree a.src b.src)
    ∙ ap (λ (dst : Bool). (a.proto == b.proto) && (same_ip a.src b.src && (dst && ports))) (addresses_agree a.dst b.dst)
    ∙ five_tests (a.proto == b.proto) (same_ip a.src b.src) (same_ip a.dst b.dst) (a.sport == b.sport) (a.dport == b.dport)

-- A five-tuple is found among others by the one test exactly where it is by the other.
pub any_agree : (t : FiveTuple) (ts : List FiveTuple) → list_any ((tuple_equality.ghosts).eq t) ts ≡ list_any (same_tuple t) ts
any_agree t ts = ap (λ (test : FiveTuple → Bool). list_any test ts) (λ i. λ u. tuples_agree t u i)
