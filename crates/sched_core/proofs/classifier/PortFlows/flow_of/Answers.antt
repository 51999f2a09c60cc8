use Rattle.packet_core.proofs.PowerLemmas.{mask_of_one_bit}
use Rattle.sched_core.proofs.classifier.PortFlows.flow_of.Goals as goal

pub returns-then-self-clause-value : goal.returns-then-self-clause-value
returns-then-self-clause-value c =
    rw (← c.self.view_is, c.from-port.ensures) (mask_of_one_bit c.args.port c.self.inside.flows (c.self.invariant.1 c.if-self.true))
