use Rattle.monitor_core.proofs.BatchLemmas.{begin_one_joined}
use Rattle.monitor_core.proofs.shown.Shown.beside.Goals as goal

pub returns : goal.returns
returns g c = rw (← c.self.view_is, ← c.other.view_is) (begin_one_joined c.self.inside.front c.other.inside.front c.beside.ensures)
