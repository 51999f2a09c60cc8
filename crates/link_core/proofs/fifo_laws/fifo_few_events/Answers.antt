use Rattle.link_core.proofs.FifoRunLaws.{fifo_few}
use Rattle.link_core.proofs.fifo_laws.fifo_few_events.Goals as goal

pub returns : goal.returns
returns c = λ p seed link arrivals events h. fifo_few p seed link arrivals events h
