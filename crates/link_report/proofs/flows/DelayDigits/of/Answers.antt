use Rattle.std.proofs.Common.{◌≡◌}
use Rattle.link_report.proofs.flows.DelayDigits.of.Goals as goal

pub returns-in-Some : goal.returns-in-Some
returns-in-Some c = rw c.in-Some.is cc

pub returns-in-None : goal.returns-in-None
returns-in-None c = rw c.in-None.is cc
