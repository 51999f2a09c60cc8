use Rattle.std.proofs.Common.{◌+◌, ◌<◌, ◌↔◌, ◌∙◌, IsTrue, List, length, refl, ap, subst, arith}
use Rattle.std.proofs.lemmas.Bool.{iff_false}
use Rattle.std.proofs.lemmas.List.{length-drop}
use Rattle.packet_core.specs.declared.packet.Waiting.{Waiting}
use Rattle.codel_core.specs.declared.served.Mark.TheVariants.{NoMark, CodelMark}
use Rattle.codel_core.specs.declared.state.CodelState.{CodelState}
use Rattle.codel_core.specs.Queue.{IsDroppable, IsLate}
use Rattle.codel_core.specs.Verdict.{FirstAbove, Verdict, first_mark, first_drop}
use Rattle.codel_core.specs.Heads.{Stands}
use Rattle.codel_core.proofs.ServeLemmas.{drops_at, drops_none, entered_from, fate_at, fate_of_droppable, first_above_kept, judged_behind, judges_head, leaves_at, marks_at, stands_at, stands_first, stands_next, unmarkable_at, waits_at}
use Rattle.codel_core.proofs.VerdictLemmas.{one_behind}
use Rattle.codel_core.proofs.heads.judge_droppable_head.Given as given
use Rattle.codel_core.proofs.heads.judge_droppable_head.Goals as goal
use Rattle.codel_core.proofs.heads.judge_droppable_head.Goals.{Start, After-drop_head-in-loop-state, After-judge_head-in-loop-state}

-- nothing was dropped yet
unmoved : (g : given.Over) (c : Start g) → Stands g.L.Judged.judged g.L.Judged.advanced g.S.DropSink.taken c.args.line.now c.args.sink.now 0 c.args.line.now c.args.sink.now
unmoved g c = stands_first g.met.L.Judged.advanced_none g.met.S.DropSink.taken_none

pub loop-state-init : goal.loop-state-init
loop-state-init g c = record {
  drops = 0;
  stands = unmoved g (goal.at.loop-state-init g c).Start;
  way = drops_none c.args.params.now c.args.now (g.L.Judged.judged c.args.line.now) c.args.state.now c.requires.droppable c.if-not-state.false;
  fits = c.requires.room;
}

pub returns-then-may_mark : goal.returns-then-may_mark
returns-then-may_mark g c =
    let p = c.args.params.now in
    let q = g.L.Judged.judged c.args.line.now in
    let old = c.args.state.now in
    let d = c.requires.droppable in
    judges_head CodelMark (unmoved g (goal.at.returns-then-may_mark g c).Start) c.head_of.ensures refl
    (rw (ap (λ (s : CodelState). s.first_above) c.enter.ensures) (fate_of_droppable old.first_above d.0 d.1))
    (subst (λ (s : CodelState). Verdict p c.args.now q old 0 CodelMark s) (entered_from p c.args.now old old c.enter.new.state refl c.enter.ensures)
    (first_mark d (cc) (rw (← c.head_of.ensures) (cc))))

pub returns-then-not-state : goal.returns-then-not-state
returns-then-not-state g c =
    let p = c.args.params.now in
    let q = g.L.Judged.judged c.args.line.now in
    let old = c.args.state.now in
    let s = stands_next g.met.L.Judged.advanced_more g.met.S.DropSink.taken_more (unmoved g (goal.at.returns-then-not-state g c).Start) c.drop_head.ensures.dropped in
    let told = judged_behind p c.args.now q (g.L.Judged.judged c.drop_head.new.line) 1 s.rest refl c.judge_head.ensures.droppable c.judge_head.ensures.first_above in
    judges_head NoMark s c.mark_head.ensures.head_is c.mark_head.ensures.mark_is
    (rw (ap (λ (s : CodelState). s.first_above) c.enter-then-not-state.ensures) told.0)
    (subst (λ (s : CodelState). Verdict p c.args.now q old 1 NoMark s)
    (entered_from p c.args.now old c.judge_head.new.state c.enter-then-not-state.new.state c.judge_head.ensures.rest c.enter-then-not-state.ensures)
    (first_drop c.requires.droppable (cc) (unmarkable_at p q 0 c.head_of.result.now c.head_of.ensures (cc))))

pub returns-then-may_mark-2 : goal.returns-then-may_mark-2
returns-then-may_mark-2 g c =
    let w = c.loop-state.invariant in
    let is = stands_at w.stands c.head_of-head.ensures in
    judges_head CodelMark w.stands c.head_of-head.ensures refl (fate_at w.way)
    (marks_at w.way c.spacing.result c.loop-state-test.true (rw (← is) (cc)) c.interval-interval.ensures.value c.spacing.ensures)

-- a packet is left behind one that is dropped
one_left : (g : given.Over) (c : After-drop_head-in-loop-state g) → 0 < length (g.L.Judged.judged c.drop_head-in-loop-state.new.line)
one_left g c =
    let w = c.loop-state.invariant in
    let q = g.L.Judged.judged c.args.line.now in
    let before = ap (λ (l : List Waiting). length l) w.stands.rest ∙ length-drop w.drops q in
    let after = ap (λ (l : List Waiting). length l) c.drop_head-in-loop-state.ensures.dropped.leaves.rest ∙ length-drop 1 (g.L.Judged.judged c.loop-state.line) in
    omega (arith, before, after, one_behind c.args.params.now c.args.now q c.args.state.now w.drops w.way.droppable.0)

pub judge_head-requires-in-loop-state-clause-some : goal.judge_head-requires-in-loop-state-clause-some
judge_head-requires-in-loop-state-clause-some g c = one_left g (goal.at.judge_head-requires-in-loop-state-clause-some g c).After-drop_head-in-loop-state

pub mark_head-requires-then-not-judge_head : goal.mark_head-requires-then-not-judge_head
mark_head-requires-then-not-judge_head g c = one_left g (goal.at.mark_head-requires-then-not-judge_head g c).After-drop_head-in-loop-state

-- one packet more was dropped
next_stands : (g : given.Over) (c : After-judge_head-in-loop-state g)
    → Stands g.L.Judged.judged g.L.Judged.advanced g.S.DropSink.taken c.args.line.now c.args.sink.now (c.loop-state.invariant.drops + 1) c.drop_head-in-loop-state.new.line c.drop_head-in-loop-state.new.sink
next_stands g c = stands_next g.met.L.Judged.advanced_more g.met.S.DropSink.taken_more c.loop-state.invariant.stands c.drop_head-in-loop-state.ensures.dropped

-- and the next one was judged
next_judged : (g : given.Over) (c : After-judge_head-in-loop-state g)
    → FirstAbove (IsLate c.args.params.now c.args.now (g.L.Judged.judged c.args.line.now) (c.loop-state.invariant.drops + 1)) c.args.params.now.interval c.args.now c.args.state.now.first_above c.judge_head-in-loop-state.new.state.first_above
    × (IsTrue c.judge_head-in-loop-state.result ↔ IsDroppable c.args.params.now c.args.now (g.L.Judged.judged c.args.line.now) c.args.state.now.first_above (c.loop-state.invariant.drops + 1))
next_judged g c =
    let w = c.loop-state.invariant in
    judged_behind c.args.params.now c.args.now (g.L.Judged.judged c.args.line.now) (g.L.Judged.judged c.drop_head-in-loop-state.new.line) (w.drops + 1) (next_stands g c).rest
    (ap (λ (s : CodelState). s.first_above) w.way.state_is) c.judge_head-in-loop-state.ensures.droppable c.judge_head-in-loop-state.ensures.first_above

pub returns-then-not-judge_head : goal.returns-then-not-judge_head
returns-then-not-judge_head g c =
    let at = (goal.at.returns-then-not-judge_head g c).After-judge_head-in-loop-state in
    let w = c.loop-state.invariant in
    let told = next_judged g at in
    let is = stands_at w.stands c.head_of-head.ensures in
    let cannot = unmarkable_at c.args.params.now (g.L.Judged.judged c.args.line.now) w.drops c.head_of-head.result.now is (cc) in
    judges_head NoMark (next_stands g at) c.mark_head-then-not-judge_head.ensures.head_is c.mark_head-then-not-judge_head.ensures.mark_is told.0
    (leaves_at w.way c.judge_head-in-loop-state.new.state c.loop-state-test.true cannot (iff_false told.1 (cc)) c.judge_head-in-loop-state.ensures.rest)

pub loop-state-preserved : goal.loop-state-preserved
loop-state-preserved g c =
    let at = (goal.at.loop-state-preserved g c).After-judge_head-in-loop-state in
    let w = c.loop-state.invariant in
    let told = next_judged g at in
    let is = stands_at w.stands c.head_of-head.ensures in
    let cannot = unmarkable_at c.args.params.now (g.L.Judged.judged c.args.line.now) w.drops c.head_of-head.result.now is (cc) in
    let judged = c.judge_head-in-loop-state.ensures.droppable.0 (cc) in
    let kept = first_above_kept c.judge_head-in-loop-state.ensures.first_above judged.0 judged.1 in
    let after = ap (λ (l : List Waiting). length l) c.drop_head-in-loop-state.ensures.dropped.leaves.rest ∙ length-drop 1 (g.L.Judged.judged c.loop-state.line) in
    record {
      drops = w.drops + 1;
      stands = next_stands g at;
      way = drops_at w.way c.judge_head-in-loop-state.new.state c.spacing-in-loop-state.result c.loop-state-test.true cannot (told.1.0 (cc)) kept
          c.judge_head-in-loop-state.ensures.rest c.interval-interval.ensures.value c.spacing-in-loop-state.ensures;
      fits = omega (arith, after, w.fits, c.drop_head-in-loop-state.ensures.room);
    }

pub returns : goal.returns
returns g c =
    let w = c.loop-state.invariant in
    judges_head NoMark w.stands c.mark_head-2.ensures.head_is c.mark_head-2.ensures.mark_is (fate_at w.way) (waits_at w.way c.loop-state-test.false)
