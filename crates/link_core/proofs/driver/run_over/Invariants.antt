use Rattle.std.proofs.Common.{◌≡◌, drop}
use Rattle.link_core.specs.Underway.{HasSentBy, IsOnLink}
use Rattle.link_core.proofs.driver.run_over.Given as goal

-- the arrivals so far were met
abbrev pub invariant-loop-i : goal.invariant-loop-i
invariant-loop-i g l = record {
  on_link : IsOnLink (g.D.QueueDiscipline.rules (g.D.QueueDiscipline.kept l.fn.discipline)) l.link l.arrivals (g.D.QueueDiscipline.so_far l.discipline) l.busy (drop l.i l.arrivals);
  sent : HasSentBy l.link l.arrivals (g.D.QueueDiscipline.so_far l.discipline).standing.events l.busy (drop l.i l.arrivals) l.done;
  kept : g.D.QueueDiscipline.kept l.discipline ≡ g.D.QueueDiscipline.kept l.fn.discipline;
}
