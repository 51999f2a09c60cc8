-- The counts of packets, one packet more.
use Rattle.std.proofs.Common.{◌≡◌, ◌∙◌, ℕ, ◌+◌, ◌-◌, ◌^◌, ◌<◌, ◌≤◌, Bool, true, false, cond, List, [], ◌∷◌, ◌++◌, min, get_or, take, length, sym, ap, arith}
use Rattle.std.specs.Prelude.{count_by}
use Rattle.std.proofs.lemmas.List.{take_more, length-take-le}
use Rattle.std.proofs.lemmas.List.Sums.{sum_by_push, count_by-le-length}
use Rattle.link_report.specs.declared.packets.PacketRecord.{PacketRecord}
use Rattle.link_report.specs.Packets.{is_codel_drop, is_marked, is_overflow_drop}
use Rattle.link_picture.specs.declared.counts.Counts.{Counts}
use Rattle.link_picture.specs.Counts.{counts_of}

at_most_one : (holds : Bool) → cond holds 1 0 ≤ 1
at_most_one true = omega arith
at_most_one false = omega arith

-- a count with a packet more
count_more : (test : PacketRecord → Bool) (packets : List PacketRecord) (p : PacketRecord) (old new : ℕ) → length packets < 2 ^ 63 → old ≡ count_by test packets → new ≡ min (old + cond (test p) 1 0) (2 ^ 64 - 1) → new ≡ count_by test (packets ++ p ∷ [])
count_more test packets p old new few is more =
    let some = count_by-le-length test packets in
    let count = sum_by_push (λ q. cond (test q) 1 0) packets p in
    let one = at_most_one (test p) in
    omega arith

-- all of them with a packet more
pub counts_more : (packets : List PacketRecord) (p : PacketRecord) (old : Counts) (codel overflow marks : ℕ) → length packets < 2 ^ 63 → old ≡ counts_of packets → codel ≡ min (old.codel_drops + cond (is_codel_drop p) 1 0) (2 ^ 64 - 1)
    → overflow ≡ min (old.overflow_drops + cond (is_overflow_drop p) 1 0) (2 ^ 64 - 1) → marks ≡ min (old.marks + cond (is_marked p) 1 0) (2 ^ 64 - 1) → record { codel_drops = codel; overflow_drops = overflow; marks = marks } ≡ counts_of (packets ++ p ∷ [])
counts_more packets p old codel overflow marks few is more_codel more_overflow more_marks =
    let by_codel = count_more is_codel_drop packets p old.codel_drops codel few (ap (λ (n : Counts). n.codel_drops) is) more_codel in
    let by_overflow = count_more is_overflow_drop packets p old.overflow_drops overflow few (ap (λ (n : Counts). n.overflow_drops) is) more_overflow in
    let marked = count_more is_marked packets p old.marks marks few (ap (λ (n : Counts). n.marks) is) more_marks in
    λ i. record { codel_drops = by_codel i; overflow_drops = by_overflow i; marks = marked i }

-- the turn of the loop over packets
pub counts_turn : (i : ℕ) (packets : List PacketRecord) (d : PacketRecord) (old new : Counts) → i < length packets → length packets ≤ 2 ^ 40 → old ≡ counts_of (take i packets)
    → ((before : List PacketRecord) → length before < 2 ^ 63 → old ≡ counts_of before → new ≡ counts_of (before ++ get_or packets i d ∷ [])) → new ≡ counts_of (take (i + 1) packets)
counts_turn i packets d old new low short are more =
    let few = length-take-le i packets (omega arith) in
    more (take i packets) (omega arith) are ∙ ap counts_of (sym (take_more packets i d low))
