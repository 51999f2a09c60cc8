-- Packets by their five-tuples, one packet or one five-tuple more.
use Rattle.std.proofs.Common.{◌≡◌, ◌==◌, ℕ, zero, suc, ◌+◌, ◌<◌, ◌≤◌, Bool, true, false, cond, All, List, [], ◌∷◌, ◌++◌, append-nil, eqb, get_or, set, take, length, filter, refl, sym, ap, ◌∙◌, arith}
use Rattle.std.proofs.lemmas.Bool.{ne_eqb, eq-eqb}
use Rattle.std.proofs.lemmas.List.{length-take-le, take_more}
use Rattle.std.proofs.lemmas.List.Elements.{filter-append, All-cons}
use Rattle.std.proofs.lemmas.List.Sums.{count_by-le-length, length-filter}
use Rattle.packet_core.specs.declared.packet.FiveTuple.{FiveTuple}
use Rattle.link_report.specs.declared.packets.PacketRecord.{PacketRecord}
use Rattle.link_report.specs.Groups.{GroupParts, groups_from, with_packet}

-- the packets of a five-tuple
abbrev own_of : ℕ → List PacketRecord → List PacketRecord
own_of number packets = filter (λ (p : PacketRecord). p.tuple == number) packets

own_more : (number : ℕ) (packets : List PacketRecord) (p : PacketRecord) → p.tuple ≡ number → own_of number (packets ++ p ∷ []) ≡ own_of number packets ++ p ∷ []
own_more number packets p is =
    filter-append (λ (q : PacketRecord). q.tuple == number) packets (p ∷ []) ∙ ap (λ b. own_of number packets ++ cond b (p ∷ []) []) (eq-eqb p.tuple number is)

own_same : (number : ℕ) (packets : List PacketRecord) (p : PacketRecord) → (p.tuple ≡ number → ⊥) → own_of number (packets ++ p ∷ []) ≡ own_of number packets
own_same number packets p other =
    filter-append (λ (q : PacketRecord). q.tuple == number) packets (p ∷ []) ∙ ap (λ b. own_of number packets ++ cond b (p ∷ []) []) (ne_eqb p.tuple number other) ∙ append-nil _

-- a packet of a five-tuple before these is none of theirs
groups_others : (number : ℕ) (packets : List PacketRecord) (p : PacketRecord) (tuples : List FiveTuple) → p.tuple < number → groups_from number (packets ++ p ∷ []) tuples ≡ groups_from number packets tuples
groups_others number packets p [] before = refl
groups_others number packets p (tuple ∷ tuples) before =
    let same = own_same number packets p (λ e. omega arith) in
    let rest = groups_others (number + 1) packets p tuples (omega arith) in
    λ k. record { number = number; tuple = tuple; packets = same k } ∷ rest k

-- a packet more goes to the group of its five-tuple
pub groups_add : (number place : ℕ) (packets : List PacketRecord) (p : PacketRecord) (tuples : List FiveTuple) → p.tuple ≡ number + place → with_packet (groups_from number packets tuples) place p ≡ groups_from number (packets ++ p ∷ []) tuples
groups_add number place packets p [] is = refl
groups_add number zero packets p (tuple ∷ tuples) is =
    let more = own_more number packets p (omega arith) in
    let rest = groups_others (number + 1) packets p tuples (omega arith) in
    λ k. record { number = number; tuple = tuple; packets = sym more k } ∷ sym rest k
groups_add number (suc place) packets p (tuple ∷ tuples) is =
    let same = own_same number packets p (λ e. omega arith) in
    let rest = groups_add (number + 1) place packets p tuples (omega arith) in
    λ k. record { number = number; tuple = tuple; packets = sym same k } ∷ rest k

-- a five-tuple more has a group at the end
pub groups_push : (number last : ℕ) (tuples : List FiveTuple) (tuple : FiveTuple) → last ≡ number + length tuples → groups_from number [] tuples ++ record { number = last; tuple = tuple; packets = [] } ∷ [] ≡ groups_from number [] (tuples ++ tuple ∷ [])
groups_push number last [] tuple is = let same : last ≡ number = omega arith in λ k. record { number = same k; tuple = tuple; packets = [] } ∷ []
groups_push number last (t ∷ tuples) tuple is = ap (λ l. record { number = number; tuple = t; packets = [] } ∷ l) (groups_push (number + 1) last tuples tuple (omega arith))

-- a packet more in the group at a place
pub with_packet_at : (groups : List GroupParts) (place : ℕ) (p : PacketRecord) (d : GroupParts) → place < length groups → with_packet groups place p ≡ set groups place (record (get_or groups place d) { packets = (get_or groups place d).packets ++ p ∷ [] })
with_packet_at [] place p d low = absurd (omega arith)
with_packet_at (g ∷ groups) zero p d low = refl
with_packet_at (g ∷ groups) (suc place) p d low = ap (λ l. g ∷ l) (with_packet_at groups place p d (omega arith))

-- and where there is no such place
pub with_packet_beyond : (groups : List GroupParts) (place : ℕ) (p : PacketRecord) → length groups ≤ place → with_packet groups place p ≡ groups
with_packet_beyond [] place p high = refl
with_packet_beyond (g ∷ groups) zero p high = absurd (omega arith)
with_packet_beyond (g ∷ groups) (suc place) p high = ap (λ l. g ∷ l) (with_packet_beyond groups place p (omega arith))

-- no group has more packets than there are
pub few_of_each : (bound number : ℕ) (packets : List PacketRecord) (tuples : List FiveTuple) → length packets ≤ bound → All (λ (g : GroupParts). length g.packets ≤ bound) (groups_from number packets tuples)
few_of_each bound number packets [] few = λ i d low. absurd (omega arith)
few_of_each bound number packets (tuple ∷ tuples) few =
    All-cons (λ (g : GroupParts). length g.packets ≤ bound) _ _ (omega (arith, length-filter (λ (p : PacketRecord). p.tuple == number) packets, count_by-le-length (λ (p : PacketRecord). p.tuple == number) packets)) (few_of_each bound (number + 1) packets tuples few)

-- The turn of a loop over the five-tuples,
pub groups_grow : (tuples : List FiveTuple) (i : ℕ) (d : FiveTuple) (groups new : List GroupParts) (none : List PacketRecord) → i < length tuples → none ≡ [] → groups ≡ groups_from 0 [] (take i tuples)
    → new ≡ groups ++ record { number = i; tuple = get_or tuples i d; packets = none } ∷ [] → new ≡ groups_from 0 [] (take (i + 1) tuples)
groups_grow tuples i d groups new none low empty before after =
    after ∙ (λ k. before k ++ record { number = i; tuple = get_or tuples i d; packets = empty k } ∷ [])
    ∙ groups_push 0 i (take i tuples) (get_or tuples i d) (omega (arith, length-take-le i tuples (omega arith)))
    ∙ ap (λ ts. groups_from 0 [] ts) (sym (take_more tuples i d low))

-- and that of one over the packets.
pub groups_more : (packets : List PacketRecord) (tuples : List FiveTuple) (i : ℕ) (d : PacketRecord) (groups new : List GroupParts) → i < length packets → groups ≡ groups_from 0 (take i packets) tuples
    → new ≡ with_packet groups (get_or packets i d).tuple (get_or packets i d) → new ≡ groups_from 0 (take (i + 1) packets) tuples
groups_more packets tuples i d groups new low before after =
    let p = get_or packets i d in
    after ∙ ap (λ gs. with_packet gs p.tuple p) before ∙ groups_add 0 p.tuple (take i packets) p tuples (omega arith)
    ∙ ap (λ ps. groups_from 0 ps tuples) (sym (take_more packets i d low))
