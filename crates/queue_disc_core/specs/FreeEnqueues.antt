-- How many enqueues a queue disc reserves of the memory that it was opened with.
use Rattle.std.specs.Prelude.{ℕ, ◌+◌, ◌-◌}
use Rattle.flow_core.specs.FlowLists.{waiting_in}
use Rattle.sched_core.specs.Schedulers.{Scheduler, flows_of}

-- how many packets may come before `limit` and one more wait: there is memory for these
abbrev pub free_enqueues : Scheduler → ℕ
free_enqueues s = s.params.limit + 1 - waiting_in (flows_of s).lists
