-- Delays of packets, and how they lie.
use Rattle.std.proofs.Common.{◌≡◌, ◌∙◌, ℕ, ◌+◌, ◌/◌, ◌<◌, ◌≤◌, List, [], ◌∷◌, ◌++◌, Option, Some, None, get_or, length, take, sum, sym, ap, arith}
use Rattle.std.specs.List.{cons_option, filter_map}
use Rattle.std.specs.List.Sorted.{IsNonDecreasing, IsPermutation, IsSorted}
use Rattle.std.specs.Ordering.{nat_cmp}
use Rattle.std.proofs.lemmas.List.{take_more}
use Rattle.std.proofs.lemmas.List.Elements.{filter_map-append}
use Rattle.std.proofs.lemmas.List.Sorted.{IsNonDecreasingBy-from_sort}
use Rattle.link_report.specs.declared.packets.PacketRecord.{PacketRecord}
use Rattle.link_report.specs.declared.summary.Delays.{Delays}
use Rattle.link_report.specs.Packets.{delay_sent}
use Rattle.link_report.specs.Percentiles.{IsPercentile, percentile_of}
use Rattle.link_report.specs.Summaries.{delays_of, spread_of}
use Rattle.link_report.proofs.PercentileLemmas.{percentile_is, percentile_permuted}

-- a packet more
pub delays_more : (packets : List PacketRecord) (i : ℕ) (d : PacketRecord) (delay : Option ℕ) → i < length packets → delay ≡ delay_sent (get_or packets i d) → delays_of (take (i + 1) packets) ≡ delays_of (take i packets) ++ cons_option delay []
delays_more packets i d delay low is =
    ap delays_of (take_more packets i d low) ∙ filter_map-append delay_sent (take i packets) (get_or packets i d ∷ []) ∙ ap (λ o. delays_of (take i packets) ++ cons_option o []) (sym is)

-- there are no more delays than packets
pub few_delays : (packets : List PacketRecord) → length (delays_of packets) ≤ length packets
few_delays [] = omega arith
few_delays (p ∷ packets) = by (delay_sent p) (few_delays packets)
  where
    by : (o : Option ℕ) → length (delays_of packets) ≤ length packets → length (cons_option o (delays_of packets)) ≤ length (p ∷ packets)
    by None few = omega arith
    by (Some d) few = omega arith

-- sorted numbers ascend
pub sorted_up : (xs : List ℕ) → IsSorted nat_cmp xs → IsNonDecreasing xs
sorted_up xs sorted = IsNonDecreasingBy-from_sort (λ x. x) xs sorted

-- how delays lie, told from the same in another order
pub spread_is : (xs ys : List ℕ) (least mean half late later most : ℕ) → 0 < length xs → IsPermutation xs ys → mean ≡ sum xs / length xs → IsPercentile 0 ys least → IsPercentile 50 ys half → IsPercentile 95 ys late → IsPercentile 99 ys later
    → IsPercentile 100 ys most → Some (record { min = least; mean = mean; p50 = half; p95 = late; p99 = later; max = most }) ≡ spread_of xs
spread_is [] ys least mean half late later most some moves is of_0 of_50 of_95 of_99 of_100 = absurd (omega arith)
spread_is (x ∷ xs) ys least mean half late later most some moves is of_0 of_50 of_95 of_99 of_100 =
    let all = x ∷ xs in
    let p0 = percentile_is 0 all least (percentile_permuted 0 all ys least moves of_0) in
    let p50 = percentile_is 50 all half (percentile_permuted 50 all ys half moves of_50) in
    let p95 = percentile_is 95 all late (percentile_permuted 95 all ys late moves of_95) in
    let p99 = percentile_is 99 all later (percentile_permuted 99 all ys later moves of_99) in
    let p100 = percentile_is 100 all most (percentile_permuted 100 all ys most moves of_100) in
    λ k. Some (record { min = sym p0 k; mean = is k; p50 = sym p50 k; p95 = sym p95 k; p99 = sym p99 k; max = sym p100 k })
