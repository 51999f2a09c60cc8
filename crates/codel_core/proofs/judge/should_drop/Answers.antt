use Rattle.std.proofs.lemmas.Bool.{both_ways}
use Rattle.codel_core.specs.Verdict.{given_up, stays}
use Rattle.codel_core.proofs.judge.should_drop.Goals as goal

pub returns-then-not-is_late-clause-first_above : goal.returns-then-not-is_late-clause-first_above
returns-then-not-is_late-clause-first_above c =
    given_up (λ late. both_ways c.is_late.result c.if-not-is_late.true (c.is_late.ensures.1 late))

pub returns-in-None-clause-first_above : goal.returns-in-None-clause-first_above
returns-in-None-clause-first_above c =
    rw (c.in-None.is, ← c.interval.ensures.value) (stays (c.is_late.ensures.0 (cc)))

pub returns-in-Some-clause-first_above : goal.returns-in-Some-clause-first_above
returns-in-Some-clause-first_above c = rw c.in-Some.is (stays (c.is_late.ensures.0 (cc)))
