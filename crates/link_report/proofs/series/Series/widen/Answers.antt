use Rattle.std.proofs.Common.{◌≡◌, ◌∙◌, ◌-◌, ◌++◌, ◌∷◌, [], arith, length, refl}
use Rattle.link_report.proofs.BinLemmas.{room_begins, room_more, series_wider}
use Rattle.link_report.proofs.series.Series.widen.Goals as goal

pub loop-number-init : goal.loop-number-init
loop-number-init c =
    let ok = c.args.self.now.happenings.ok in
    let first : c.len-number.result ≡ length c.args.self.now.happenings.items = omega (arith, c.len-number.ensures) in
    record {
      queue = refl;
      every = refl;
      bin = refl;
      rows = refl;
      least = omega arith;
      most = omega arith;
      happenings = room_begins c.args.self.now.happenings.items c.len-number.result first;
    }

pub loop-number-preserved : goal.loop-number-preserved
loop-number-preserved c =
    let so = c.loop-number.invariant in
    let below = c.loop-number-test.true in
    let least = so.least in
    record {
      queue = so.queue;
      every = so.every;
      bin = so.bin;
      rows = so.rows;
      least = omega arith;
      most = omega arith;
      happenings = room_more c.args.self.now.happenings.items c.loop-number.self.happenings.items c.push.new.self.items c.loop-number._number so.least so.happenings ((c.in_ok-push.ensures {u = tt}).items ∙ (λ i. c.loop-number.self.happenings.items ++ c.none.ensures i ∷ []));
    }

pub returns-clause-walk : goal.returns-clause-walk
returns-clause-walk c =
    let so = c.loop-number.invariant in
    let past = c.loop-number-test.false in
    let least = so.least in
    let most = so.most in
    let hs = c.args.self.now.happenings.items in
    let count : c.loop-number._number - length hs ≡ c.args.tuples - length hs = omega arith in
    λ walk at. series_wider c.args.self.now c.loop-number.self c.args.tuples (c.loop-number._number - length hs) so.queue so.every so.bin so.rows so.happenings count walk at
