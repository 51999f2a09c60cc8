-- The counts of five-tuples, one packet more.
use Rattle.std.proofs.Common.{◌≡◌, ◌==◌, ℕ, zero, suc, ◌+◌, ◌<◌, ◌≤◌, Bool, true, false, cond, All, List, [], ◌∷◌, ◌++◌, get_or, set, take, map, length, replicate, filter, refl, sym, ap, ◌∙◌, arith}
use Rattle.std.specs.Prelude.{count_by}
use Rattle.std.proofs.lemmas.List.{length-take-le}
use Rattle.std.proofs.lemmas.List.Elements.{All-cons}
use Rattle.std.proofs.lemmas.List.Sums.{count_by-le-length, length-filter, sum_by-append}
use Rattle.packet_core.specs.declared.packet.FiveTuple.{FiveTuple}
use Rattle.link_report.specs.declared.packets.PacketRecord.{PacketRecord}
use Rattle.link_report.specs.Groups.{GroupParts, groups_from, with_packet}
use Rattle.link_report.specs.Packets.{is_marked, is_sent}
use Rattle.link_report.proofs.GroupLemmas.{groups_more}
use Rattle.link_command.specs.Marks.{AreCountable, IsCountable, counted, counts_of, is_late, with_counted}
use Rattle.link_command.specs.declared.marks.Counts.{Counts}
use Rattle.link_command.specs.declared.marks.TheConstants.{NONE_SENT}

-- a member more is counted where it passes
count_more : (test : PacketRecord → Bool) (packets : List PacketRecord) (p : PacketRecord) → count_by test (packets ++ p ∷ []) ≡ cond (test p) (count_by test packets + 1) (count_by test packets)
count_more test packets p = go (test p) refl
  where
    more : count_by test (packets ++ p ∷ []) ≡ count_by test packets + count_by test (p ∷ [])
    more = sum_by-append (λ y. cond (test y) 1 0) packets (p ∷ [])

    go : (b : Bool) → test p ≡ b → count_by test (packets ++ p ∷ []) ≡ cond b (count_by test packets + 1) (count_by test packets)
    go true e = let one : count_by test (p ∷ []) ≡ 1 = rw e refl in omega (arith, more, one)
    go false e = let none : count_by test (p ∷ []) ≡ 0 = rw e refl in omega (arith, more, none)

-- so are the counts of a group
counts_more : (interval : ℕ) (g : GroupParts) (p : PacketRecord) → counts_of interval (record g { packets = g.packets ++ p ∷ [] }) ≡ counted interval (counts_of interval g) p
counts_more interval g p =
    let sent = count_more is_sent g.packets p in
    let marked = count_more is_marked g.packets p in
    let late = count_more (is_late interval) g.packets p in
    λ k. record { sent = sent k; marked = marked k; late = late k }

-- and those of the group at a place
counts_with : (interval : ℕ) (groups : List GroupParts) (place : ℕ) (p : PacketRecord) → map (counts_of interval) (with_packet groups place p) ≡ with_counted interval (map (counts_of interval) groups) place p
counts_with interval [] place p = refl
counts_with interval (g ∷ groups) zero p = ap (λ c. c ∷ map (counts_of interval) groups) (counts_more interval g p)
counts_with interval (g ∷ groups) (suc place) p = ap (λ l. counts_of interval g ∷ l) (counts_with interval groups place p)

-- The turn of a loop over packets.
pub counts_turn : (interval : ℕ) (packets : List PacketRecord) (tuples : List FiveTuple) (i : ℕ) (d : PacketRecord) (counts new : List Counts) → i < length packets
    → counts ≡ map (counts_of interval) (groups_from 0 (take i packets) tuples) → new ≡ with_counted interval counts (get_or packets i d).tuple (get_or packets i d)
    → new ≡ map (counts_of interval) (groups_from 0 (take (i + 1) packets) tuples)
counts_turn interval packets tuples i d counts new low before after =
    let p = get_or packets i d in
    let groups = groups_from 0 (take i packets) tuples in
    after ∙ ap (λ cs. with_counted interval cs p.tuple p) before ∙ sym (counts_with interval groups p.tuple p)
    ∙ ap (map (counts_of interval)) (groups_more packets tuples i d groups (with_packet groups p.tuple p) low refl refl)

-- as many counts of nothing as there are five-tuples
pub replicate_none : (tuples : List FiveTuple) → replicate (length tuples) NONE_SENT ≡ map (λ (t : FiveTuple). NONE_SENT) tuples
replicate_none [] = refl
replicate_none (t ∷ tuples) = ap (λ l. NONE_SENT ∷ l) (replicate_none tuples)

-- no packet is counted before it
pub counts_none : (interval number : ℕ) (tuples : List FiveTuple) → map (λ (t : FiveTuple). NONE_SENT) tuples ≡ map (counts_of interval) (groups_from number [] tuples)
counts_none interval number [] = refl
counts_none interval number (t ∷ tuples) = ap (λ l. NONE_SENT ∷ l) (counts_none interval (number + 1) tuples)

-- no count is above that of all packets
pub counts_few : (bound interval number : ℕ) (packets : List PacketRecord) (tuples : List FiveTuple) → length packets < bound → AreCountable bound (map (counts_of interval) (groups_from number packets tuples))
counts_few bound interval number packets [] few = λ i d low. absurd (omega arith)
counts_few bound interval number packets (t ∷ tuples) few =
    let own = filter (λ (p : PacketRecord). p.tuple == number) packets in
    let fewer : length own ≤ length packets = omega (arith, length-filter (λ (p : PacketRecord). p.tuple == number) packets, count_by-le-length (λ (p : PacketRecord). p.tuple == number) packets) in
    let first : IsCountable bound (counts_of interval (record { number = number; tuple = t; packets = own })) = record {
      sent = omega (arith, fewer, few, count_by-le-length is_sent own);
      marked = omega (arith, fewer, few, count_by-le-length is_marked own);
      late = omega (arith, fewer, few, count_by-le-length (is_late interval) own);
    } in
    All-cons (IsCountable bound) _ _ first (counts_few bound interval (number + 1) packets tuples few)

-- counts with a packet more at a place
pub with_counted_at : (interval : ℕ) (counts : List Counts) (place : ℕ) (p : PacketRecord) (d : Counts) → place < length counts → with_counted interval counts place p ≡ set counts place (counted interval (get_or counts place d) p)
with_counted_at interval [] place p d low = absurd (omega arith)
with_counted_at interval (c ∷ counts) zero p d low = refl
with_counted_at interval (c ∷ counts) (suc place) p d low = ap (λ l. c ∷ l) (with_counted_at interval counts place p d (omega arith))

-- and where there is no such place
pub with_counted_beyond : (interval : ℕ) (counts : List Counts) (place : ℕ) (p : PacketRecord) → length counts ≤ place → with_counted interval counts place p ≡ counts
with_counted_beyond interval [] place p high = refl
with_counted_beyond interval (c ∷ counts) zero p high = absurd (omega arith)
with_counted_beyond interval (c ∷ counts) (suc place) p high = ap (λ l. c ∷ l) (with_counted_beyond interval counts place p (omega arith))
