use Rattle.std.proofs.Common.{List, [], length, sym, arith}
use Rattle.std.proofs.lemmas.List.{length-replicate}
use Rattle.std.proofs.lemmas.List.Elements.{All-nil, All-replicate}
use Rattle.std.proofs.lemmas.List.Folds.{sum_by-replicate}
use Rattle.packet_core.specs.Packets.{IsLengthInRange}
use Rattle.packet_core.specs.declared.packet.Waiting.{Waiting}
use Rattle.codel_core.specs.Queue.{bytes_of}
use Rattle.flow_core.proofs.ReadLemmas.{map-replicate}
use Rattle.flow_core.proofs.ByteLemmas.{AreInRange}
use Rattle.flow_core.proofs.flows.Flows.try_new.Goals as goal

pub invariant_of-result : goal.invariant_of-result
invariant_of-result c =
    let queues = (c.in_ok-try_new.ensures {u = tt}).0 in
    let listed = c.in_ok-try_new-2.ensures {u = tt} in
    let winners = c.in_ok-try_new-3.ensures {u = tt} in
    let count = length-replicate {A = List Waiting} c.args.flows [] in
    rw (queues, listed, winners) (record {
      least = omega (arith, count, c.requires.least);
      most = omega (arith, count, c.requires.most);
      flows = sym count;
      bytes = sym (map-replicate bytes_of c.args.flows []);
      lengths = All-replicate AreInRange c.args.flows [] (All-nil (λ (w : Waiting). IsLengthInRange w.packet.len));
      few = omega (arith, sum_by-replicate (length {A = Waiting}) c.args.flows []);
      total = omega (arith, sum_by-replicate bytes_of c.args.flows []);
    })
