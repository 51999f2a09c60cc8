use Rattle.std.proofs.Common.{sym, subst}
use Rattle.journal_core.specs.Runs.{journal_of}
use Rattle.fair_core.specs.FqCodel.{fq_codel}
use Rattle.link_core.specs.Fifo.{fifo}
use Rattle.link_core.specs.LinkLaws.{end_of}
use Rattle.link_report.specs.FlowTables.{RatesAreWithin}
use Rattle.link_report.specs.Packets.{known_of}
use Rattle.link_report.proofs.RateLemmas.{rates_within}
use Rattle.link_report.proofs.laws.rates_within_link.Goals as goal

pub returns-clause-scheduler : goal.returns-clause-scheduler
returns-clause-scheduler c = λ p seed link range arrivals are steps made last run. rates_within (fq_codel p seed) link range arrivals are steps made last run

pub returns-clause-fifo : goal.returns-clause-fifo
returns-clause-fifo c = λ p seed link range arrivals are events h.
    subst (λ es. RatesAreWithin link.rate (end_of link arrivals es) (known_of es)) (sym h.journal)
    (rates_within (fifo p seed) link range arrivals are h.steps h.made h.last h.run)
