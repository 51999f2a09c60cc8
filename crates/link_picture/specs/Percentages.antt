-- What a picture shows of a line, and the percentiles of its delays.
use Rattle.std.specs.Prelude.{ℕ, List, [], ◌∷◌, map}
use Rattle.std.specs.List.{range_with_len}
use Rattle.link_report.specs.Percentiles.{percentile_of}
use Rattle.link_picture.specs.declared.bins.Bin.{Bin}
use Rattle.link_picture.specs.declared.counts.Counts.{Counts}

pub record CurveParts : Type 0 where
  pub bins : List Bin
  pub percentiles : List ℕ
  pub counts : Counts

-- the first so many percentiles, from 0 on, and none of no numbers
unfoldable pub percentiles_of : ℕ → List ℕ → List ℕ
percentiles_of count [] = []
percentiles_of count (x ∷ xs) = map (λ percent. percentile_of percent (x ∷ xs)) (range_with_len 0 count)
