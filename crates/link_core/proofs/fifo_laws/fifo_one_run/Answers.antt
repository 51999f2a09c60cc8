use Rattle.link_core.proofs.FifoRunLaws.{fifo_journal_once, fifo_run_once}
use Rattle.link_core.proofs.fifo_laws.fifo_one_run.Goals as goal

pub returns-clause-run : goal.returns-clause-run
returns-clause-run c = λ p seed link arrivals steps steps' made made' last last' run run'. fifo_run_once p seed link arrivals steps steps' made made' last last' run run'

pub returns-clause-journal : goal.returns-clause-journal
returns-clause-journal c = λ p seed link arrivals events events' h h'. fifo_journal_once p seed link arrivals events events' h h'
