use Rattle.fair_core.specs.FqCodel.{fq_codel_policy}
use Rattle.fair_core.proofs.ServingChains.{chain_bound, chain_once, chain_there}
use Rattle.fair_core.proofs.FqCodelPolicy.{VerdictLaws, policy_decided}
use Rattle.sched_core.proofs.FqCodelRuns.{fq_codel_sound}
use Rattle.sched_core.proofs.ShortPackets.{short_packets_few_turns}
use Rattle.sched_core.proofs.laws.serving_chains_end.Goals as goal
use Rattle.sched_core.proofs.laws.serving_chains_end.Goals.{After-one_verdict}

verdict_laws : After-one_verdict → VerdictLaws
verdict_laws c = record { exists = c.one_verdict.ensures.exists; unique = c.one_verdict.ensures.unique; gives = c.one_verdict.ensures.gives }

pub returns-clause-sound : goal.returns-clause-sound
returns-clause-sound c = λ p seed range steps made new r. (fq_codel_sound p seed range steps made new r).sound

pub returns-clause-there : goal.returns-clause-there
returns-clause-there c = λ p range now old sound. chain_there (fq_codel_policy p) (policy_decided (verdict_laws (goal.at.returns-clause-there c).After-one_verdict) p range) now old sound

pub returns-clause-once : goal.returns-clause-once
returns-clause-once c = λ p range turns turns' now old new new' a b. chain_once (fq_codel_policy p) (policy_decided (verdict_laws (goal.at.returns-clause-once c).After-one_verdict) p range) now turns turns' old new new' a b

pub returns-clause-bound : goal.returns-clause-bound
returns-clause-bound c = λ p range turns now old new sound a. chain_bound (fq_codel_policy p) range.quantum.0 now turns old new sound a

pub returns-clause-short : goal.returns-clause-short
returns-clause-short c = λ p seed range steps made new r accepts turns now next a. short_packets_few_turns p seed range steps made new r accepts turns now next a
