use Rattle.std.proofs.Common.{arith, inl, inr}
use Rattle.std.proofs.lemmas.Result.{IfErr-weaker}
use Rattle.test_runs.proofs.embedders.run_onto.Goals as goal

pub returns : goal.returns
returns c =
    IfErr-weaker c.run_between.result _ _ (λ fault gave is.
    let end = gave is in
    elim end.ends [
      | inl none ↦ let some = rw none at end.answered in absurd (omega arith)
      | inr failed ↦ rw failed.1 at end.answered
    ]) c.run_between.ensures.write
