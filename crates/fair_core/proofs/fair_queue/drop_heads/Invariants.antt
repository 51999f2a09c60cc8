use Rattle.fair_core.specs.HeldQueues.{DropsHeads}
use Rattle.fair_core.proofs.fair_queue.drop_heads.Given as goal

-- so many packets are dropped, with few comparisons for each
abbrev pub invariant-loop : goal.invariant-loop
invariant-loop g l = DropsHeads l.flow l.counter l.moment l.initial.flows l.initial.journal l.flows l.journal
