-- The first percentiles, one more.
use Rattle.std.proofs.Common.{◌≡◌, ◌∙◌, ℕ, ◌+◌, ◌<◌, List, [], ◌∷◌, ◌++◌, length, map, refl, ap, arith}
use Rattle.std.specs.List.{range_with_len}
use Rattle.std.specs.List.Sorted.{IsPermutation}
use Rattle.std.proofs.lemmas.List.FromFn.{map-range_with_len_more}
use Rattle.link_report.specs.Percentiles.{IsPercentile, percentile_of}
use Rattle.link_report.proofs.PercentileLemmas.{percentile_is, percentile_permuted}
use Rattle.link_picture.specs.Percentages.{percentiles_of}

pub none_of_none : (count : ℕ) (delays : List ℕ) → length delays ≡ 0 → percentiles_of count delays ≡ []
unfolding percentiles_of
none_of_none count [] none = refl
none_of_none count (x ∷ xs) none = absurd (omega arith)

pub none_yet : (delays : List ℕ) → percentiles_of 0 delays ≡ []
unfolding percentiles_of
none_yet [] = refl
none_yet (x ∷ xs) = refl

pub one_more : (count value : ℕ) (delays sorted : List ℕ) → 0 < length delays → IsPermutation delays sorted → IsPercentile count sorted value → percentiles_of (count + 1) delays ≡ percentiles_of count delays ++ value ∷ []
unfolding percentiles_of
one_more count value [] sorted some moves is = absurd (omega arith)
one_more count value (x ∷ xs) sorted some moves is =
    map-range_with_len_more (λ percent. percentile_of percent (x ∷ xs)) 0 count count (omega arith)
    ∙ ap (λ v. map (λ percent. percentile_of percent (x ∷ xs)) (range_with_len 0 count) ++ v ∷ []) (percentile_is count (x ∷ xs) value (percentile_permuted count (x ∷ xs) sorted value moves is))
