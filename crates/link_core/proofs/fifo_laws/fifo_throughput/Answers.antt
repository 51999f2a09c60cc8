use Rattle.std.proofs.Common.{◌<◌, arith}
use Rattle.link_core.specs.LinkLaws.{sendings}
use Rattle.link_core.proofs.FifoRunLaws.{fifo_apart}
use Rattle.link_core.proofs.Throughput.{rate_between}
use Rattle.link_core.proofs.fifo_laws.fifo_throughput.Goals as goal

pub returns-clause-apart : goal.returns-clause-apart
returns-clause-apart c = λ p seed link range arrivals are events h. fifo_apart p seed link arrivals range are events h

pub returns-clause-rate : goal.returns-clause-rate
returns-clause-rate c = λ p seed link range arrivals are events h before between behind one later is.
    let some : 0 < link.rate = let r = range.rate in omega arith in
    rate_between link some arrivals (sendings events) before between behind one later is (fifo_apart p seed link arrivals range are events h)
