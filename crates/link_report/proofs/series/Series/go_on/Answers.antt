use Rattle.std.proofs.Common.{◌≡◌, ◌∙◌, ◌+◌, ◌-◌, arith, length}
use Rattle.std.proofs.lemmas.Bool.Decides.{nat_tests}
use Rattle.std.proofs.lemmas.Grind.{common_steps}
use Rattle.std.proofs.lemmas.List.{nil_from_length}
use Rattle.link_report.proofs.SeriesLemmas.{bins_end, bins_stop, bins_turn}
use Rattle.link_report.proofs.series.Series.go_on.Goals as goal
use Rattle.link_report.proofs.series.Series.go_on.Goals.{else-loop-turn-test, then-loop-turn-test+then-is_empty}

pub loop-turn-preserved : goal.loop-turn-preserved
loop-turn-preserved c =
    let told = c.in_ok-write.ensures {u = tt} in
    let first = c.args.self.now.bin in
    let turn = c.loop-turn._turn in
    let kept : c.write.new.self.bin ≡ turn = told.bin ∙ c.loop-turn.invariant.bin in
    let next : c.saturating_add-self.result ≡ turn + 1 = omega (arith, c.saturating_add-self.ensures, c.ranges.bin.fits, c.loop-turn-test.true) in
    record {
      queue = told.queue ∙ c.loop-turn.invariant.queue;
      every = told.every ∙ c.loop-turn.invariant.every;
      bin = next;
      most = omega (arith, c.loop-turn-test.true);
      walk = λ before walk at. bins_turn before c.write.new.self c.write.new.table walk first turn c.saturating_add-self.result (omega arith) kept next (told.walk before _ (c.loop-turn.invariant.walk before walk at));
    }

pub returns-clause-walk : goal.returns-clause-walk
returns-clause-walk c = λ before walk at.
    let place = at.place in
    let first = c.args.self.now.bin in
    let turn = c.loop-turn._turn in
    let most = c.loop-turn.invariant.most in
    let here = c.loop-turn.invariant.walk before walk at in
    elim c.loop-turn-test.branch [
      | else-loop-turn-test w ↦
          let past = w.loop-turn-test.false in
          let last : turn - first ≡ c.args.bin - first = omega arith in
          bins_end before c.loop-turn.self c.loop-turn.table walk first turn c.args.bin place.bin last here
      | then-loop-turn-test+then-is_empty w ↦
          let below = w.loop-turn-test.true in
          let ok = c.loop-turn.self.rows.ok in
          let none : length c.loop-turn.self.rows.items ≡ 0 = grind (arith, common_steps, nat_tests) in
          bins_stop before c.loop-turn.self c.loop-turn.table walk first turn c.args.bin place.bin (omega arith) (omega arith) (nil_from_length _ none) here
    ]
