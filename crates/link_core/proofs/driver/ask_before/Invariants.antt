use Rattle.std.proofs.Common.{◌≡◌, ◌+◌, ◌-◌, ◌*◌, length}
use Rattle.link_core.specs.QueueDisciplines.{sent_count}
use Rattle.link_core.specs.Underway.{HasSentBy, IsOnLink, busy_count}
use Rattle.link_core.proofs.driver.ask_before.Given as goal

-- the link has gone on
abbrev pub invariant-loop-busy : goal.invariant-loop-busy
invariant-loop-busy g l = record {
  on_link : IsOnLink (g.D.QueueDiscipline.rules (g.D.QueueDiscipline.kept l.initial.discipline)) l.link l.arrivals (g.D.QueueDiscipline.so_far l.discipline) l.busy l.coming;
  sent : HasSentBy l.link l.arrivals (g.D.QueueDiscipline.so_far l.discipline).standing.events l.busy l.coming l.done;
  kept : g.D.QueueDiscipline.kept l.discipline ≡ g.D.QueueDiscipline.kept l.initial.discipline;
}

-- what is not sent yet, and whether the link is busy
abbrev pub decreases-loop-busy : goal.decreases-loop-busy
decreases-loop-busy g l = 2 * (length l.arrivals - sent_count (g.D.QueueDiscipline.so_far l.discipline).standing.events) + busy_count l.busy
