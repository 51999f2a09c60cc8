use Rattle.std.proofs.Common.{rules}
use Rattle.std.proofs.lemmas.Result.{err_from_is_err_and}
use Rattle.run_core.proofs.SeeingLemmas.{watching_fault}
use Rattle.run_core.proofs.lanes.run_watched.Goals as goal

pub returns-in_err-seen-clause-fault : goal.returns-in_err-seen-clause-fault
returns-in_err-seen-clause-fault g c =
    let p = err_from_is_err_and c.from_residual-in_err-seen.result c.from_residual-in_err-seen.ensures.1 in
    rw (p.1, p.2) (watching_fault _ _ _ _ _ _ (search rules) c.in_err-seen.ensures.fault)
