use Rattle.std.proofs.Common.{◌≡◌, ◌-◌, Some, [], length, get_or, map, drop, slice_get, sym, ◌∙◌, arith}
use Rattle.std.proofs.lemmas.List.{length-drop, length-set}
use Rattle.std.proofs.lemmas.List.Elements.{All-drop, All-set}
use Rattle.std.proofs.lemmas.List.Sums.{sum_by-set}
use Rattle.packet_core.specs.Packets.{IsLengthInRange}
use Rattle.packet_core.specs.declared.packet.Waiting.{Waiting}
use Rattle.codel_core.specs.Queue.{bytes_of}
use Rattle.flow_core.proofs.ByteLemmas.{AreInRange, bytes_behind, bytes_seen, bytes_set, in_range_at}
use Rattle.flow_core.proofs.flows.Flows.pop.Goals as goal

pub overflow_sub-self : goal.overflow_sub-self
overflow_sub-self c =
    let queues = c.self.inside.chains.queues in
    let queue = get_or queues c.args.flow [] in
    let within = rw (← c.self.view_is) at c.requires in
    let head : Some c.in-Some.waiting ≡ slice_get queue 0 = sym c.in-Some.is ∙ c.pop-popped.ensures.head in
    omega (arith, sum_by-set bytes_of queues c.args.flow [] [] within, bytes_behind queue c.in-Some.waiting head, c.from-bytes.ensures, c.len.ensures.value, c.self.invariant.total)

pub invariant_of-self : goal.invariant_of-self
invariant_of-self c =
    let kept = c.self.invariant in
    let queues = c.self.inside.chains.queues in
    let flow = c.args.flow in
    let queue = get_or queues flow [] in
    let within = rw (← c.self.view_is) at c.requires in
    let head : Some c.in-Some.waiting ≡ slice_get queue 0 = sym c.in-Some.is ∙ c.pop-popped.ensures.head in
    let count = length-set queues flow (drop 1 queue) in
    let bytes : get_or (map bytes_of queues) flow 0 - c.from-bytes.result ≡ bytes_of (drop 1 queue) =
    omega (arith, bytes_seen queues flow, bytes_behind queue c.in-Some.waiting head, c.from-bytes.ensures, c.len.ensures.value) in
    rw c.pop-popped.ensures.rest (record {
      least = omega (arith, kept.least, count);
      most = omega (arith, kept.most, count);
      flows = kept.flows ∙ sym count;
      bytes = rw (c.take.ensures.bytes, kept.bytes) (bytes_set queues flow (drop 1 queue) _ bytes);
      lengths = All-set AreInRange queues flow (drop 1 queue) (All-drop (λ (x : Waiting). IsLengthInRange x.packet.len) 1 queue (in_range_at queues flow kept.lengths)) kept.lengths;
      few = omega (arith, sum_by-set length queues flow (drop 1 queue) [] within, length-drop 1 queue, kept.few);
      total = omega (arith, sum_by-set bytes_of queues flow (drop 1 queue) [] within, bytes_behind queue c.in-Some.waiting head, c.from-bytes.ensures, c.len.ensures.value, kept.total);
    })
