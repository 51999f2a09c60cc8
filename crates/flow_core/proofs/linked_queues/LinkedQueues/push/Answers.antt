use Rattle.std.proofs.Common.{◌≡◌, ◌≢◌, ◌+◌, ◌<◌, ◌∷◌, ◌++◌, Some, [], get_or, length, set, arith}
use Rattle.std.specs.Vec.{with_item}
use Rattle.slab.specs.Slab.{get, with_value}
use Rattle.flow_core.specs.declared.linked_queues.Link.{Link}
use Rattle.flow_core.specs.Chains.{HasEnds, Placed, queues_of}
use Rattle.flow_core.proofs.ChainLemmas.{AreSeenAs, Arrives, arrives, ends_read, few_held, pushed_behind, pushed_first}
use Rattle.flow_core.proofs.PlacedLemmas.{ends_len, last_there}
use Rattle.flow_core.proofs.linked_queues.LinkedQueues.push.Goals.{After-index_mut-chain}
use Rattle.flow_core.proofs.linked_queues.LinkedQueues.push.Goals as goal

-- the packet and its slot
abbrev added : After-index_mut-chain → Placed
added c = record { key = c.place-key.result; waiting = c.args.waiting }

placed : (c : After-index_mut-chain) → Arrives c.self.inside c.self.invariant c.place-key.new.slots c.place-key.new.self (added c)
placed c =
    arrives c.self.inside c.self.invariant c.place-key.new.slots c.place-key.new.self (added c) c.place-key.ensures.inserted c.place-key.ensures.reused
    (rw (← c.self.view_is) at c.requires.size) (rw (← c.self.view_is) at c.requires.capacity)

within : (c : After-index_mut-chain) → c.args.flow < length (queues_of c.self.inside).queues
within c = rw (← c.self.view_is) at c.requires.flow

ends : (c : After-index_mut-chain) → HasEnds (c.self.invariant.each c.args.flow).placed c.index_mut-chain.result.now
ends c = ends_read c.self.inside c.self.invariant c.args.flow (within c) c.index_mut-chain.result.now c.index_mut-chain.ensures.value

pub overflow_add-chain : goal.overflow_add-chain
overflow_add-chain c =
    let before = (goal.at.overflow_add-chain c).After-index_mut-chain in
    let own = ends_len (c.self.invariant.each c.args.flow).placed c.index_mut-chain.result.now (ends before) in
    omega (arith, own, few_held c.self.inside c.self.invariant c.args.flow (within before), c.self.invariant.few)

pub index_mut-requires : goal.index_mut-requires
index_mut-requires c =
    let before = (goal.at.index_mut-requires c).After-index_mut-chain in
    let own = c.self.invariant.each c.args.flow in
    let there = placed before in
    last_there c.self.inside.slots c.place-key.new.slots own.placed c.index_mut-chain.result.now (added before) (ends before) c.if-chain-eq0.false own.linked (there.absent c.args.flow) there.updates

-- it comes behind the last one, or to an empty flow
behind : (c : After-index_mut-chain) (link : Link) → c.index_mut-chain.result.now.len ≢ 0 → get c.place-key.new.slots c.index_mut-chain.result.now.last ≡ Some link
    → AreSeenAs
    (record {
      slots = with_value c.place-key.new.slots c.index_mut-chain.result.now.last (record { waiting = link.waiting; next = c.place-key.result });
      chains = with_item c.self.inside.chains c.args.flow (record { first = c.index_mut-chain.result.now.first; last = c.place-key.result; len = c.index_mut-chain.result.now.len + 1 });
      free = c.place-key.new.self;
      capacity = c.self.inside.capacity;
    })
    (set (queues_of c.self.inside).queues c.args.flow (get_or (queues_of c.self.inside).queues c.args.flow [] ++ c.args.waiting ∷ []))
behind c link some found =
    pushed_behind c.self.inside c.self.invariant c.args.flow (within c) c.place-key.new.slots c.place-key.new.self (added c) c.index_mut-chain.result.now link (placed c) (ends c) some found

first : (c : After-index_mut-chain) → c.index_mut-chain.result.now.len ≡ 0
    → AreSeenAs
    (record {
      slots = c.place-key.new.slots;
      chains = with_item c.self.inside.chains c.args.flow (record { first = c.place-key.result; last = c.place-key.result; len = 1 });
      free = c.place-key.new.self;
      capacity = c.self.inside.capacity;
    })
    (set (queues_of c.self.inside).queues c.args.flow (get_or (queues_of c.self.inside).queues c.args.flow [] ++ c.args.waiting ∷ []))
first c empty =
    pushed_first c.self.inside c.self.invariant c.args.flow (within c) c.place-key.new.slots c.place-key.new.self (added c) c.index_mut-chain.result.now (placed c) (ends c) empty

pub invariant_of-self : goal.invariant_of-self
invariant_of-self c = rw c.of_one.ensures (first (goal.at.invariant_of-self c).After-index_mut-chain c.if-chain-eq0.true).kept

pub returns-then-chain-eq0-clause-queues : goal.returns-then-chain-eq0-clause-queues
returns-then-chain-eq0-clause-queues c =
    rw (c.of_one.ensures, ← c.self.view_is) (first (goal.at.returns-then-chain-eq0-clause-queues c).After-index_mut-chain c.if-chain-eq0.true).seen

pub invariant_of-self-2 : goal.invariant_of-self-2
invariant_of-self-2 c = (behind (goal.at.invariant_of-self-2 c).After-index_mut-chain c.index_mut.result.now c.if-chain-eq0.false c.index_mut.ensures.value).kept

pub returns-clause-queues : goal.returns-clause-queues
returns-clause-queues c =
    rw (← c.self.view_is) (behind (goal.at.returns-clause-queues c).After-index_mut-chain c.index_mut.result.now c.if-chain-eq0.false c.index_mut.ensures.value).seen
