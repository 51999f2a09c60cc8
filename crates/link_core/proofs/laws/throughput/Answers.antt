use Rattle.std.proofs.Common.{◌<◌, arith}
use Rattle.journal_core.specs.Runs.{journal_of}
use Rattle.fair_core.specs.FqCodel.{fq_codel}
use Rattle.link_core.specs.LinkLaws.{sendings}
use Rattle.link_core.proofs.Throughput.{link_apart, rate_between}
use Rattle.link_core.proofs.laws.throughput.Goals as goal

pub returns-clause-apart : goal.returns-clause-apart
returns-clause-apart c = λ p seed link range arrivals are steps made last run. link_apart (fq_codel p seed) link range arrivals are steps made last run

pub returns-clause-rate : goal.returns-clause-rate
returns-clause-rate c = λ p seed link range arrivals are steps made last run before between behind one later is.
    let some : 0 < link.rate = let r = range.rate in omega arith in
    rate_between link some arrivals (sendings (journal_of made)) before between behind one later is (link_apart (fq_codel p seed) link range arrivals are steps made last run)
