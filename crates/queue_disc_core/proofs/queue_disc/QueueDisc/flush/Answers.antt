use Rattle.std.proofs.Common.{◌≡◌, ℕ, ◌+◌, ◌<◌, length, arith, inr, subst, ◌∙◌}
use Rattle.queue_disc_core.specs.QueueDiscs.{KeepsSent, totals_of}
use Rattle.queue_disc_core.proofs.Readings.{Flushing, flushes_none, flushes_on, kept_on}
use Rattle.queue_disc_core.proofs.queue_disc.QueueDisc.flush.Goals as goal

pub loop-place-init : goal.loop-place-init
loop-place-init c = flushes_none c.args.self.now c.args.out.now

pub loop-place-preserved : goal.loop-place-preserved
loop-place-preserved c =
    let within : c.loop-place.place < length c.loop-place.out = omega arith in
    flushes_on c.args.self.now c.args.out.now c.loop-place.place c.loop-place.out c.loop-place.self c.flush_next.new.self c.in-Some.packet c.loop-place.invariant c.in-Some.ensures.one within c.in-Some.ensures.totals

pub returns : goal.returns
returns c =
    let all : c.loop-place.place ≡ length c.loop-place.out = omega arith in
    let f = subst (λ (n : ℕ). Flushing c.args.self.now c.args.out.now n c.loop-place.out c.loop-place.self) all c.loop-place.invariant in
    record {
      many = omega arith;
      flushed = λ _. f.flushes;
      fewer = λ less. absurd (omega arith);
      none = λ idle. absurd (c.if-queued-eq0.false (c.queued.ensures ∙ idle));
      rest = f.rest;
      totals = f.totals;
    }

pub returns-in_default : goal.returns-in_default
returns-in_default c =
    let f = c.loop-place.invariant in
    let same : c.loop-place.place + 0 ≡ c.loop-place.place = omega arith in
    record {
      many = omega arith;
      flushed = λ all. absurd (omega arith);
      fewer = λ _. record { mid = c.loop-place.self; flushes = f.flushes; ends = inr c.in_default.ensures.one };
      none = λ idle. absurd (c.if-queued-eq0.false (c.queued.ensures ∙ idle));
      rest = f.rest;
      totals = subst (λ (n : ℕ). KeepsSent (totals_of c.args.self.now) n (totals_of c.flush_next.new.self)) same
          (kept_on c.args.self.now c.loop-place.self c.flush_next.new.self c.loop-place.place 0 f.totals c.in_default.ensures.totals);
    }
