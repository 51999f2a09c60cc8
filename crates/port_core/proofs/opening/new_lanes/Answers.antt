use Rattle.port_core.proofs.LaneLemmas.{lanes_more}
use Rattle.port_core.proofs.opening.new_lanes.Goals as goal

pub loop-next-preserved : goal.loop-next-preserved
loop-next-preserved c = rw (c.in_ok-push.ensures.items, c.in_ok-push-2.ensures.items) (lanes_more c.loop-next.senders.items c.loop-next.lanes.items c.in_ok-sender.sender c.in_ok-sender.lane c.loop-next.next c.args.capacity c.loop-next.invariant c.in_ok-sender.ensures)
