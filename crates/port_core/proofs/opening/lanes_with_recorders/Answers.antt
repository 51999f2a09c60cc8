use Rattle.port_core.proofs.DeviceLemmas.{keeps_new}
use Rattle.port_core.proofs.opening.lanes_with_recorders.Goals as goal

pub new-requires-clause-lanes : goal.new-requires-clause-lanes
new-requires-clause-lanes g c = keeps_new c.in_ok-senders.senders.items c.in_ok-senders.lanes.items c.args.layout.lanes c.args.layout.capacity c.in_ok-senders.ensures
