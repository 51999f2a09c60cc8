use Rattle.sched_core.proofs.FqCodelRuns.{queued_bytes_are_waiting, queued_is_waiting}
use Rattle.sched_core.proofs.laws.journal_tells_what_waits.Goals as goal

pub returns-clause-packets : goal.returns-clause-packets
returns-clause-packets c = λ p seed range steps made new r. queued_is_waiting p seed range steps made new r

pub returns-clause-bytes : goal.returns-clause-bytes
returns-clause-bytes c = λ p seed range steps made new r. queued_bytes_are_waiting p seed range steps made new r
