use Rattle.link_core.proofs.FifoRunLaws.{fifo_follow, fifo_ids, fifo_once}
use Rattle.link_core.proofs.fifo_laws.fifo_fates.Goals as goal

pub returns-clause-ids : goal.returns-clause-ids
returns-clause-ids c = λ p seed link arrivals events h. fifo_ids p seed link arrivals events h

pub returns-clause-follow : goal.returns-clause-follow
returns-clause-follow c = λ p seed link arrivals events h. fifo_follow p seed link arrivals events h

pub returns-clause-once : goal.returns-clause-once
returns-clause-once c = λ p seed link arrivals events h. fifo_once p seed link arrivals events h
