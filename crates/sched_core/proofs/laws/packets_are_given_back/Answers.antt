use Rattle.fair_core.specs.FairQueues.{queue_of}
use Rattle.journal_core.proofs.KnownPackets.{answers_accepted}
use Rattle.sched_core.specs.Schedulers.{discipline_of}
use Rattle.sched_core.proofs.FqCodelRuns.{run_gives_back}
use Rattle.sched_core.proofs.KeptScheduler.{fifo}
use Rattle.sched_core.proofs.laws.packets_are_given_back.Goals as goal

pub returns-clause-once : goal.returns-clause-once
returns-clause-once c = λ p seed range steps made new r. run_gives_back p seed range steps made new r

pub returns-clause-sent : goal.returns-clause-sent
returns-clause-sent c = λ old new moment sent laws waiting served. answers_accepted (discipline_of old) queue_of (fifo old.params old.seed) old.standing new.standing moment sent laws.ids_in_order waiting served.gives
