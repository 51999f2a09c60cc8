use Rattle.std.proofs.Common.{◌≡◌, ◌+◌, [], ◌∷◌, ◌++◌, length, get_or, map, sym, ◌∙◌, arith}
use Rattle.std.proofs.lemmas.List.{length-append, length-set}
use Rattle.std.proofs.lemmas.List.Elements.{All-push, All-set}
use Rattle.std.proofs.lemmas.List.Sums.{sum_by-set, sum_by_push}
use Rattle.packet_core.specs.Packets.{IsLengthInRange}
use Rattle.packet_core.specs.declared.packet.Waiting.{Waiting}
use Rattle.codel_core.specs.Queue.{bytes_of}
use Rattle.flow_core.proofs.ByteLemmas.{AreInRange, bytes_seen, bytes_set, few_bytes, few_in_all, in_range_at}
use Rattle.flow_core.proofs.ReadLemmas.{length-at}
use Rattle.flow_core.proofs.flows.Flows.push.Goals as goal

pub add-requires-clause-fits : goal.add-requires-clause-fits
add-requires-clause-fits c =
    let kept = c.self.invariant in
    let queues = c.self.inside.chains.queues in
    rw (kept.bytes, bytes_seen queues c.args.flow) (omega (arith, few_bytes queues c.args.flow kept.lengths, length-at queues c.args.flow, kept.few, c.from-bytes.ensures, c.len.ensures.value, c.len.ensures.range))

pub overflow_add-self : goal.overflow_add-self
overflow_add-self c =
    let kept = c.self.invariant in
    omega (arith, few_in_all c.self.inside.chains.queues kept.lengths, kept.few, kept.total, c.from-bytes.ensures, c.len.ensures.value, c.len.ensures.range)

pub invariant_of-self : goal.invariant_of-self
invariant_of-self c =
    let kept = c.self.invariant in
    let queues = c.self.inside.chains.queues in
    let flow = c.args.flow in
    let w = c.args.waiting in
    let queue = get_or queues flow [] in
    let range : IsLengthInRange w.packet.len = rw c.len.ensures.value at c.len.ensures.range in
    let within = rw (← c.self.view_is) at c.requires.flow in
    let size = rw (← c.self.view_is) at c.requires.size in
    let count = length-set queues flow (queue ++ w ∷ []) in
    let bytes : get_or (map bytes_of queues) flow 0 + c.from-bytes.result ≡ bytes_of (queue ++ w ∷ []) =
    omega (arith, bytes_seen queues flow, c.from-bytes.ensures, c.len.ensures.value, sum_by_push (λ (x : Waiting). x.packet.len) queue w) in
    rw c.push.ensures.queues (record {
      least = omega (arith, kept.least, count);
      most = omega (arith, kept.most, count);
      flows = kept.flows ∙ sym count;
      bytes = rw (c.add.ensures.bytes, kept.bytes) (bytes_set queues flow (queue ++ w ∷ []) _ bytes);
      lengths = All-set AreInRange queues flow (queue ++ w ∷ []) (All-push (λ (x : Waiting). IsLengthInRange x.packet.len) queue w (in_range_at queues flow kept.lengths) range) kept.lengths;
      few = omega (arith, sum_by-set length queues flow (queue ++ w ∷ []) [] within, length-append queue (w ∷ []), size);
      total = omega (arith, sum_by-set bytes_of queues flow (queue ++ w ∷ []) [] within, sum_by_push (λ (x : Waiting). x.packet.len) queue w, c.from-bytes.ensures, c.len.ensures.value, kept.total);
    })
