use Rattle.std.proofs.Common.{◌+◌, ◌-◌, ◌≤◌, arith}
use Rattle.flow_core.proofs.ChainLemmas.{grown}
use Rattle.flow_core.proofs.linked_queues.LinkedQueues.reserve.Goals as goal

pub invariant_of-self : goal.invariant_of-self
invariant_of-self c =
    let kept = c.self.invariant in
    rw c.reserve.ensures.rest_kept (grown c.self.inside kept c.reserve.new.self.capacity c.self.inside.capacity c.reserve.ensures.capacity (omega (arith, kept.fits, c.reserve.ensures.capacity)))

pub invariant_of-self-else-self-capacity : goal.invariant_of-self-else-self-capacity
invariant_of-self-else-self-capacity c =
    let kept = c.self.invariant in
    rw c.reserve.ensures.rest_kept (grown c.self.inside kept c.reserve.new.self.capacity c.self.inside.capacity c.reserve.ensures.capacity (omega (arith, kept.fits, c.reserve.ensures.capacity)))

pub invariant_of-self-then-self-capacity : goal.invariant_of-self-then-self-capacity
invariant_of-self-then-self-capacity c =
    let kept = c.self.invariant in
    let capacity = c.len.result - c.self.inside.free.len + c.args.pushes in
    let len = rw c.reserve.ensures.rest_kept at c.len.ensures in
    let room = rw c.reserve.ensures.rest_kept at c.in_ok-reserve.ensures.room in
    let fits : capacity ≤ c.reserve.new.self.capacity = omega (arith, len, room, kept.counted, c.saturating_sub.ensures) in
    rw c.reserve.ensures.rest_kept (grown c.self.inside kept c.reserve.new.self.capacity capacity c.reserve.ensures.capacity fits)
