use Rattle.std.proofs.lemmas.List.{length_push}
use Rattle.fair_core.proofs.ComparisonLemmas.{counts_idle}
use Rattle.sched_core.proofs.KeptScheduler.{few_compared, kept_closes}
use Rattle.sched_core.proofs.sched.Sched.end.Goals as goal

pub invariant_of-self : goal.invariant_of-self
invariant_of-self g c =
    record {
      book = rw (c.clear_comparisons.ensures, c.close.ensures) (kept_closes _ _ c.args.moment (rw (← c.self.view_is) at c.requires) c.self.invariant.book);
      classifier = c.self.invariant.classifier;
      made_for = rw c.close.ensures c.self.invariant.made_for;
    }

pub returns-clause-few_comparisons : goal.returns-clause-few_comparisons
returns-clause-few_comparisons g c =
    rw (← c.self.view_is, c.clear_comparisons.ensures, c.close.ensures) (few_compared _ _ 1 (length_push _ _) (counts_idle _ 1))
