use Rattle.std.proofs.Common.{◌≡◌, ◌-◌, ◌+◌, List, Some, [], ap, drop, get_or, set, slice_get}
use Rattle.std.specs.Vec.{with_item}
use Rattle.packet_core.specs.declared.packet.Waiting.{Waiting}
use Rattle.slab.specs.Slab.{with_value}
use Rattle.flow_core.specs.Chains.{HasEnds, queues_of}
use Rattle.flow_core.specs.Queues.{Queues}
use Rattle.flow_core.proofs.ChainLemmas.{AreSeenAs, ends_read, ends_written, popped}
use Rattle.flow_core.proofs.PlacedLemmas.{head_there}
use Rattle.flow_core.proofs.linked_queues.LinkedQueues.pop.Goals.{After-index_mut-chain, After-index_mut-slot}
use Rattle.flow_core.proofs.linked_queues.LinkedQueues.pop.Goals as goal

ends : (c : After-index_mut-chain) → HasEnds (c.self.invariant.each c.args.flow).placed c.index_mut-chain.result.now
ends c = ends_read c.self.inside c.self.invariant c.args.flow (rw (← c.self.view_is) at c.requires) c.index_mut-chain.result.now c.index_mut-chain.ensures.value

gone : (c : After-index_mut-slot) → let f = c.self.inside in let chain = c.index_mut-chain.result.now in let link = c.index_mut-slot.result.now in let queue = get_or (queues_of f).queues c.args.flow [] in
    AreSeenAs
    (record {
      slots = with_value f.slots chain.first (record { waiting = link.waiting; next = f.free.first });
      chains = with_item f.chains c.args.flow (record { first = link.next; last = chain.last; len = chain.len - 1 });
      free = record { first = chain.first; len = f.free.len + 1 };
      capacity = f.capacity;
    })
    (set (queues_of f).queues c.args.flow (drop 1 queue))
    × (Some link.waiting ≡ slice_get queue 0)
gone c =
    let within = rw (← c.self.view_is) at c.requires in
    popped c.self.inside c.self.invariant c.args.flow within c.index_mut-chain.result.now c.index_mut-slot.result.now
    (ends_read c.self.inside c.self.invariant c.args.flow within c.index_mut-chain.result.now c.index_mut-chain.ensures.value) c.if-chain-eq0.false c.index_mut-slot.ensures.value

pub invariant_of-self : goal.invariant_of-self
invariant_of-self c =
    ends_written c.self.inside c.self.invariant c.args.flow (rw (← c.self.view_is) at c.requires) c.index_mut-chain.result.now c.index_mut-chain.ensures.value

pub index_mut-slot-requires : goal.index_mut-slot-requires
index_mut-slot-requires c =
    let own = c.self.invariant.each c.args.flow in
    head_there c.self.inside.slots own.placed c.index_mut-chain.result.now (ends (goal.at.index_mut-slot-requires c).After-index_mut-chain) c.if-chain-eq0.false own.linked

pub invariant_of-self-2 : goal.invariant_of-self-2
invariant_of-self-2 c = (gone (goal.at.invariant_of-self-2 c).After-index_mut-slot).0.kept

pub returns-clause-head : goal.returns-clause-head
returns-clause-head c = rw (← c.self.view_is) (gone (goal.at.returns-clause-head c).After-index_mut-slot).1

pub returns-clause-rest : goal.returns-clause-rest
returns-clause-rest c =
    rw (← c.self.view_is) (ap (λ (queues : List (List Waiting)). let left : Queues = record { queues = queues; capacity = c.self.inside.capacity } in left) (gone (goal.at.returns-clause-rest c).After-index_mut-slot).0.seen)
