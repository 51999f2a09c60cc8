use Rattle.std.proofs.Common.{refl}
use Rattle.link_core.specs.LinkLaw.LinkState.{idle}
use Rattle.link_core.proofs.FifoRunLaws.{fifo_all_fated, fifo_none_waits}
use Rattle.link_core.proofs.fifo_laws.fifo_works.Goals as goal

pub returns-clause-never_idle : goal.returns-clause-never_idle
returns-clause-never_idle c = λ p seed link arrivals coming steps made at run. fifo_none_waits p seed link arrivals steps made (record { state = idle; coming = coming }) at run refl

pub returns-clause-end : goal.returns-clause-end
returns-clause-end c = λ p seed link arrivals events h. fifo_all_fated p seed link arrivals events h
