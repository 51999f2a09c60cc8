use Rattle.link_core.proofs.FifoRunLaws.{fifo_none_early}
use Rattle.link_core.proofs.fifo_laws.fifo_causal.Goals as goal

pub returns : goal.returns
returns c = λ p seed link arrivals events h. fifo_none_early p seed link arrivals events h
