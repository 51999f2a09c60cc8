use Rattle.codel_core.proofs.VerdictLemmas.{verdict_apart, verdict_exists, verdict_gives, verdict_honest, verdict_threshold, verdict_unique, verdict_unmarked}
use Rattle.codel_core.proofs.laws.one_verdict.Goals as goal

pub returns : goal.returns
returns c = record {
  exists = verdict_exists;
  unique = verdict_unique;
  gives = λ p now q old k mark new v. verdict_gives p now q old v.verdict;
  honest = verdict_honest;
  threshold = verdict_threshold;
  unmarked = verdict_unmarked;
  apart = verdict_apart;
}
