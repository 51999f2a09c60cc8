use Rattle.std.proofs.Common.{ℕ, map}
use Rattle.std.proofs.lemmas.Option.{IfSome_then}
use Rattle.codel_core.specs.Queue.{bytes_of}
use Rattle.flow_core.specs.Winners.{HasMostBytes}
use Rattle.flow_core.proofs.ByteLemmas.{fattest_seen, no_bytes, none_waits}
use Rattle.flow_core.proofs.flows.Flows.fattest.Goals as goal

pub returns-clause-none : goal.returns-clause-none
returns-clause-none c =
    let kept = c.self.invariant in
    let none = rw kept.bytes at c.winner.ensures.none in
    rw (← c.self.view_is) (
      λ is. none_waits c.self.inside.chains.queues kept.lengths (none.0 is),
      λ empty. none.1 (no_bytes c.self.inside.chains.queues kept.lengths empty),
    )

pub returns-clause-fattest : goal.returns-clause-fattest
returns-clause-fattest c =
    let kept = c.self.invariant in
    let winner = rw kept.bytes at c.winner.ensures.winner in
    rw (← c.self.view_is) (IfSome_then c.winner.result winner (λ (flow : ℕ) (most : HasMostBytes (map bytes_of c.self.inside.chains.queues) flow). fattest_seen c.self.inside.chains.queues flow most))
