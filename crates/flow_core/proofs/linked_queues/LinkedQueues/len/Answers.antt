use Rattle.std.proofs.Common.{◌≡◌, ◌≤◌, [], get_or, length, arith}
use Rattle.codel_core.specs.declared.limits.TheConstants.{MAX_WAITING}
use Rattle.flow_core.specs.Chains.{queues_of}
use Rattle.flow_core.proofs.ChainLemmas.{ends_read, few_held, length_seen}
use Rattle.flow_core.proofs.PlacedLemmas.{ends_len}
use Rattle.flow_core.proofs.linked_queues.LinkedQueues.len.Goals.{After-index}
use Rattle.flow_core.proofs.linked_queues.LinkedQueues.len.Goals as goal

len : (c : After-index) → (c.index.result.now.len ≡ length (get_or (queues_of c.self.inside).queues c.args.flow [])) × (c.index.result.now.len ≤ MAX_WAITING)
len c =
    let f = c.self.inside in
    let kept = c.self.invariant in
    let within = rw (← c.self.view_is) at c.requires in
    let own = ends_len (kept.each c.args.flow).placed c.index.result.now (ends_read f kept c.args.flow within c.index.result.now c.index.ensures) in
    (omega (arith, own, length_seen f kept c.args.flow within), omega (arith, own, few_held f kept c.args.flow within, kept.few))

pub returns-clause-value : goal.returns-clause-value
returns-clause-value c = rw (← c.self.view_is) (len (goal.at.returns-clause-value c).After-index).0

pub returns-clause-size : goal.returns-clause-size
returns-clause-size c = (len (goal.at.returns-clause-size c).After-index).1
