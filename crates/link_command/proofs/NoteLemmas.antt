-- How notes are written.
use Rattle.std.proofs.Common.{◌⊎◌, Result, Ok, Err, inl, inr}
use Rattle.std.specs.Prelude.{OnErr, OnOk}

-- A text was written whole, or its last call failed behind a front of it.
pub written_or_failed : {T E : Type 0} (r : Result T E) (Whole Failed Front : Type 0) → OnOk r Whole → OnErr r Failed → OnErr r Front
    → Whole ⊎ (Failed × Front)
written_or_failed (Ok u) Whole Failed Front whole failed front = inl whole
written_or_failed (Err e) Whole Failed Front whole failed front = inr (failed, front)
