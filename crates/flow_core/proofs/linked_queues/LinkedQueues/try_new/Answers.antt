use Rattle.std.proofs.Common.{◌≡◌, [], length, refl, replicate, rules, arith}
use Rattle.std.proofs.lemmas.List.Folds.{sum_by-replicate}
use Rattle.packet_core.specs.declared.packet.Waiting.{Waiting}
use Rattle.flow_core.specs.Chains.{no_packets, packets_of}
use Rattle.flow_core.proofs.ReadLemmas.{map-replicate, replicate-at}
use Rattle.flow_core.proofs.linked_queues.LinkedQueues.try_new.Goals as goal

pub invariant_of-result : goal.invariant_of-result
invariant_of-result c =
    let items : c.in_ok-chains.chains.items ≡ replicate c.args.flows no_packets = c.in_ok-chains.ensures.items_if_clones_equal (λ y h. search rules) in
    record {
      each = λ flow. record { placed = []; is = rw (items, replicate-at c.args.flows flow no_packets) (omega arith); linked = tt; once = tt };
      apart = λ flow other key has _. absurd has;
      freed = record { left = []; first = refl; len = refl; linked = tt; once = tt };
      unused = λ flow key has _. has;
      counted = rw (items, map-replicate (packets_of c.new.result) c.args.flows no_packets, c.new.ensures.empty) (omega (arith, sum_by-replicate (length {A = Waiting}) c.args.flows []));
      flows = omega (arith, c.in_ok-chains.ensures.len, c.requires);
      few = rw c.new.ensures.empty (omega arith);
      held = rw c.new.ensures.empty (omega arith);
      fits = omega arith;
    }

pub returns : goal.returns
returns c =
    let items : c.in_ok-chains.chains.items ≡ replicate c.args.flows no_packets = c.in_ok-chains.ensures.items_if_clones_equal (λ y h. search rules) in
    (rw items (map-replicate (packets_of c.new.result) c.args.flows no_packets), refl)
