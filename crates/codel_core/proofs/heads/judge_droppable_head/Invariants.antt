use Rattle.std.proofs.Common.{length}
use Rattle.codel_core.proofs.ServeLemmas.{WalksOn}
use Rattle.codel_core.proofs.heads.judge_droppable_head.Given as goal

abbrev pub invariant-loop-state : goal.invariant-loop-state
invariant-loop-state g l = WalksOn g.L.Judged.judged g.L.Judged.advanced g.S.DropSink.taken g.S.DropSink.room l.params l.now l.fn.state l.fn.line l.fn.sink l.state l.line l.sink

abbrev pub decreases-loop-state : goal.decreases-loop-state
decreases-loop-state g l = length (g.L.Judged.judged l.line)
