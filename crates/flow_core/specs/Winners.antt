-- The bytes that wait in each flow, and which flow has the most of them.
use Rattle.std.specs.Prelude.{ℕ, ◌+◌, ◌*◌, ◌^◌, ◌<◌, ◌≤◌, List, length, slice_index}

-- The bytes of each flow, that of flow 0 first, and how often two such counts were compared since the last clear.
pub record ByteCounts : Type 0 where
  pub bytes : List ℕ
  pub comparisons : ℕ

-- The flow has the most bytes, and of those that have as many it has the least number. It has some.
pub record HasMostBytes (bytes : List ℕ) (flow : ℕ) : Type 0 where
  pub within : flow < length bytes
  pub waits : 0 < slice_index bytes flow
  pub greatest : (other : ℕ) → slice_index bytes other ≤ slice_index bytes flow
  pub least : (other : ℕ) → other < flow → slice_index bytes other < slice_index bytes flow

-- The levels of a tree over so many flows: the least number of times that one leaf has to be doubled to give each flow
-- a leaf.
pub record IsLevels (flows levels : ℕ) : Type 0 where
  pub enough : flows ≤ 2 ^ levels
  pub least : (fewer : ℕ) → flows ≤ 2 ^ fewer → levels ≤ fewer

-- From one count of comparisons to the next none was lost, and for each of so many changes of one flow's bytes no more
-- came than a tree over so many flows has levels.
pub record CountsFew (flows changes old new : ℕ) : Type 0 where
  pub none_lost : old ≤ new
  pub most : (levels : ℕ) → IsLevels flows levels → new ≤ old + changes * levels
