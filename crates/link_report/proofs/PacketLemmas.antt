-- The five-tuples of packets, and the packet whose fate is set.
use Rattle.std.proofs.Common.{◌≡◌, ◌==◌, ◌&&◌, ℕ, zero, suc, ◌+◌, ◌<◌, ◌≤◌, Bool, true, false, List, [], ◌∷◌, ◌++◌, get_or, inl, inr, set, length, fold, refl, sym, ap, ◌∙◌, arith}
use Rattle.std.specs.List.{IsDistinct, position_or_len}
use Rattle.std.proofs.Math.Bool.{and_assoc}
use Rattle.std.proofs.lemmas.Bool.{cases_Bool}
use Rattle.std.proofs.lemmas.List.{length_push}
use Rattle.std.proofs.lemmas.List.Elements.{All-from_recursion}
use Rattle.std.proofs.lemmas.List.Folds.{list_any_at}
use Rattle.packet_core.specs.Packets.{same_ip, same_tuple}
use Rattle.packet_core.specs.declared.packet.Ip.{Ip}
use Rattle.packet_core.specs.declared.packet.Ip.TheVariants.{V4, V6}
use Rattle.packet_core.specs.declared.packet.FiveTuple.{FiveTuple}
use Rattle.packet_core.specs.contracts.packet.FiveTuplePartialEq.TheImpl as tuple_equality
use Rattle.packet_core.specs.contracts.packet.IpPartialEq.TheImpl as ip_equality
use Rattle.journal_core.specs.TupleRows.{with_new}
use Rattle.journal_core.specs.declared.event.Event.{Event}
use Rattle.journal_core.specs.declared.event.Event.TheVariants as event
use Rattle.journal_core.proofs.LawsOfHistory.{same_tuple-Decides}
use Rattle.journal_core.proofs.TupleEquality.{any_agree}
use Rattle.link_report.specs.declared.packets.Fate.{Fate}
use Rattle.link_report.specs.declared.packets.Fate.TheVariants.{Waiting, Sent, Dropped}
use Rattle.link_report.specs.declared.packets.PacketRecord.{PacketRecord}
use Rattle.link_report.specs.Packets.{Known, known_of, nothing_known, number_of, known_with_event, with_fate}

-- The equality that is derived for five-tuples, by which the set finds them, is that of all their parts.
addresses_agree : (a b : Ip) → (ip_equality.ghosts).eq a b ≡ same_ip a b
addresses_agree (V4 a) (V4 b) = refl
addresses_agree (V6 a) (V6 b) = refl
addresses_agree (V4 a) (V6 b) = refl
addresses_agree (V6 a) (V4 b) = refl

five_tests : (a b c d e : Bool) → (a && (b && (c && (d && e)))) ≡ (a && b && c && d && e)
five_tests a b c d e = sym (and_assoc (a && b && c) d e ∙ and_assoc (a && b) c (d && e) ∙ and_assoc a b (c && (d && e)))

tuples_agree : (a b : FiveTuple) → (tuple_equality.ghosts).eq a b ≡ same_tuple a b
tuples_agree a b =
    let ports = (a.sport == b.sport) && (a.dport == b.dport) in
    ap (λ (src : Bool). (a.proto == b.proto) && (src && ((ip_equality.ghosts).eq a.dst b.dst && ports))) (addresses_agree a.src b.src)
    ∙ ap (λ (dst : Bool). (a.proto == b.proto) && (same_ip a.src b.src && (dst && ports))) (addresses_agree a.dst b.dst)
    ∙ five_tests (a.proto == b.proto) (same_ip a.src b.src) (same_ip a.dst b.dst) (a.sport == b.sport) (a.dport == b.dport)

-- the number that the set gives
pub numbers_agree : (t : FiveTuple) (ts : List FiveTuple) → position_or_len ((tuple_equality.ghosts).eq t) ts ≡ number_of ts t
numbers_agree t ts = ap (λ (test : FiveTuple → Bool). position_or_len test ts) (λ i. λ u. tuples_agree t u i)

-- Where a five-tuple is the same as one of others that are all different, that one is the first.
first_of_distinct : (t : FiveTuple) (ts : List FiveTuple) (i : ℕ) (d : FiveTuple) → IsDistinct (tuple_equality.ghosts).eq ts → i < length ts → (tuple_equality.ghosts).eq t (get_or ts i d) ≡ true
    → position_or_len ((tuple_equality.ghosts).eq t) ts ≡ i
unfolding IsDistinct
first_of_distinct t [] i d distinct low same = absurd (omega arith)
first_of_distinct t (u ∷ ts) zero d distinct low same = rw same refl
first_of_distinct t (u ∷ ts) (suc i) d distinct low same =
    let is : t ≡ get_or ts i d = (same_tuple-Decides t (get_or ts i d)).0 (sym (tuples_agree t (get_or ts i d)) ∙ same) in
    let apart : (tuple_equality.ghosts).eq u (get_or ts i d) ≡ false = All-from_recursion (λ (x : FiveTuple). (tuple_equality.ghosts).eq u x ≡ false) ts distinct.0 i d (omega arith) in
    let other : (tuple_equality.ghosts).eq t u ≡ false = elim (cases_Bool ((tuple_equality.ghosts).eq t u)) [
      | inl equal ↦
          let was : t ≡ u = (same_tuple-Decides t u).0 (sym (tuples_agree t u) ∙ equal) in
          cc (apart, is, was)
      | inr differ ↦ differ
    ] in
    let next : 1 + i ≡ suc i = omega arith in
    rw other (ap (λ n. 1 + n) (first_of_distinct t ts i d distinct.1 (omega arith) same) ∙ next)

-- so its place is its number,
pub number_at : (t : FiveTuple) (ts : List FiveTuple) (i : ℕ) (d : FiveTuple) → IsDistinct (tuple_equality.ghosts).eq ts → i < length ts → (tuple_equality.ghosts).eq t (get_or ts i d) ≡ true
    → number_of ts t ≡ i
number_at t ts i d distinct low same = sym (numbers_agree t ts) ∙ first_of_distinct t ts i d distinct low same

-- and it is none more.
pub known_at : (t : FiveTuple) (ts : List FiveTuple) (i : ℕ) (d : FiveTuple) → i < length ts → (tuple_equality.ghosts).eq t (get_or ts i d) ≡ true → with_new same_tuple ts t ≡ ts
known_at t ts i d low same = rw (sym (any_agree t ts) ∙ list_any_at ((tuple_equality.ghosts).eq t) ts i d low same) refl

-- setting the fate of the packet at a place
pub with_fate_at : (ps : List PacketRecord) (id : ℕ) (fate : Fate) (d : PacketRecord) → id < length ps → with_fate ps id fate ≡ set ps id (record (get_or ps id d) { fate = fate })
with_fate_at [] id fate d low = absurd (omega arith)
with_fate_at (p ∷ ps) zero fate d low = refl
with_fate_at (p ∷ ps) (suc id) fate d low = ap (λ l. p ∷ l) (with_fate_at ps id fate d (omega arith))

-- and of one that isn't there
pub with_fate_beyond : (ps : List PacketRecord) (id : ℕ) (fate : Fate) → length ps ≤ id → with_fate ps id fate ≡ ps
with_fate_beyond [] id fate high = refl
with_fate_beyond (p ∷ ps) zero fate high = absurd (omega arith)
with_fate_beyond (p ∷ ps) (suc id) fate high = ap (λ l. p ∷ l) (with_fate_beyond ps id fate (omega arith))

length-with_fate : (ps : List PacketRecord) (id : ℕ) (fate : Fate) → length (with_fate ps id fate) ≡ length ps
length-with_fate [] id fate = refl
length-with_fate (p ∷ ps) zero fate = refl
length-with_fate (p ∷ ps) (suc id) fate = ap (λ n. suc n) (length-with_fate ps id fate)

pushed : {X : Type 0} (xs : List X) (x : X) → length (xs ++ x ∷ []) ≤ length xs + 1
pushed xs x = omega (arith, length_push xs x)

-- each event is at most one packet more
one_packet : (known : Known) (e : Event) → length (known_with_event known e).packets ≤ length known.packets + 1
one_packet known (event.Accepted lane id moment flow packet) =
    let p : PacketRecord = record { id = id; tuple = number_of known.tuples packet.tuple; flow = flow; len = packet.len; ecn = packet.ecn; arrived = moment; fate = Waiting } in
    pushed known.packets p
one_packet known (event.Sent id moment ecn mark) = omega (arith, length-with_fate known.packets id (Sent moment ecn mark known.sent))
one_packet known (event.Dropped id moment cause) = omega (arith, length-with_fate known.packets id (Dropped moment cause))
one_packet known (event.Closed moment) = omega arith

few_from : (known : Known) (events : List Event) → length (fold known_with_event known events).packets ≤ length known.packets + length events
few_from known [] = omega arith
few_from known (e ∷ events) = omega (arith, one_packet known e, few_from (known_with_event known e) events)

-- there are no more packets than events
pub few_packets : (events : List Event) → length (known_of events).packets ≤ length events
few_packets events = omega (arith, few_from nothing_known events)

-- each event is at most one packet sent more
pub one_sent : (known : Known) (e : Event) → (known_with_event known e).sent ≤ known.sent + 1
one_sent known (event.Accepted lane id moment flow packet) = omega arith
one_sent known (event.Sent id moment ecn mark) = omega arith
one_sent known (event.Dropped id moment cause) = omega arith
one_sent known (event.Closed moment) = omega arith

sent_from : (known : Known) (events : List Event) → (fold known_with_event known events).sent ≤ known.sent + length events
sent_from known [] = omega arith
sent_from known (e ∷ events) = omega (arith, one_sent known e, sent_from (known_with_event known e) events)

-- no more were sent than there are events
pub few_sent : (events : List Event) → (known_of events).sent ≤ length events
few_sent events = omega (arith, sent_from nothing_known events)
