use Rattle.journal_core.specs.declared.step.Step.TheVariants.{Close}
use Rattle.port_core.specs.LockedCalls.{IsClosedBy, IsRefusedBy}
use Rattle.run_core.proofs.ClosingLemmas.{closes}
use Rattle.run_core.proofs.locked.close.Goals as goal

pub returns : goal.returns
returns g c =
    let is = closes (IsClosedBy c.args.moment) (IsRefusedBy Close c.args.moment) c.close.result c.closed_once.result c.closed_once.ensures c.close.ensures.made c.close.ensures.order in
    record { made = is.made; refused = is.refused; other = is.other }
