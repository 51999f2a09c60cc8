use Rattle.std.proofs.Common.{◌≡◌, ◌+◌, Some, [], drop, get_or, slice_get, arith}
use Rattle.codel_core.specs.Queue.{bytes_of}
use Rattle.flow_core.proofs.ByteLemmas.{bytes_behind, bytes_seen}
use Rattle.flow_core.proofs.flows.Flows.bytes_behind.Goals.{After-from}
use Rattle.flow_core.proofs.flows.Flows.bytes_behind.Goals as goal

-- the flow's bytes are those behind its head, and the head's
bytes_split : (c : After-from) → c.bytes.result ≡ bytes_of (drop 1 (get_or c.self.inside.chains.queues c.args.flow [])) + c.from.result
bytes_split c =
    let queues = c.self.inside.chains.queues in
    let queue = get_or queues c.args.flow [] in
    let head : Some c.args.head.now ≡ slice_get queue 0 = rw (← c.self.view_is) at c.requires.head in
    let bytes = rw c.self.invariant.bytes at c.bytes.ensures in
    omega (arith, bytes, bytes_seen queues c.args.flow, bytes_behind queue c.args.head.now head, c.from.ensures, c.len.ensures.value)

pub overflow_sub-result : goal.overflow_sub-result
overflow_sub-result c = omega (arith, bytes_split (goal.at.overflow_sub-result c).After-from)

pub returns : goal.returns
returns c = rw (← c.self.view_is) (omega (arith, bytes_split (goal.at.returns c).After-from))
