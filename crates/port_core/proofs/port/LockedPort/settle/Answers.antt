use Rattle.port_core.proofs.port.LockedPort.settle.Goals as goal

pub returns-in-Ok-clause-told : goal.returns-in-Ok-clause-told
returns-in-Ok-clause-told g c = rw c.in-Ok.ensures.engine c.in-Ok.ensures.agrees.told.each
