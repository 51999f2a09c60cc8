-- Steps of a queue disc's scheduler, and the room for more.
use Rattle.std.proofs.Common.{◌≡◌, ℕ, ◌+◌, ◌≤◌, Ok, Err, length, sym, subst, arith}
use Rattle.std.specs.Prelude.{OnErr, OnOk, Result}
use Rattle.journal_core.specs.declared.outcome.Answer.{Answer}
use Rattle.journal_core.specs.declared.outcome.Answer.TheVariants as answer
use Rattle.journal_core.specs.declared.step.Step.{Step}
use Rattle.journal_core.specs.declared.step.Step.TheVariants.{Close}
use Rattle.sched_core.specs.Schedulers.{IsAdvanced, Scheduler, discipline_of}
use Rattle.queue_disc_core.specs.Drops.{causes_of, settled_drops}
use Rattle.queue_disc_core.proofs.StepDrops.{close_settles}

-- A step says nothing of the room.
pub advanced_with_room : {old mid new : Scheduler} {step : Step} {said : Answer} → IsAdvanced old step said mid → new ≡ record mid { room = new.room } → IsAdvanced old step said new
advanced_with_room {old} {mid} {new} {step} {said} a same =
    subst (λ (s : Scheduler). IsAdvanced old step said s) (sym same) (record { advances = a.advances; params = a.params; seed = a.seed; turns = a.turns; capacity = a.capacity; made_for = a.made_for })

-- so many drops came after the last acceptance
abbrev pub Reach : ℕ → Scheduler → Type 0
Reach n s = n + settled_drops s.standing.events ≤ length (causes_of s.standing.events)

-- A close leaves the drops.
pub close_reaches : {A E : Type 0} (r : Result A E) (old new : Scheduler) (moment n : ℕ) → OnOk r (IsAdvanced old (Close moment) answer.Closed new) → OnErr r (new ≡ old) → Reach n old → Reach n new
close_reaches (Ok a) old new moment n made same reach =
    let settles = close_settles (discipline_of old) old.standing new.standing moment made.advances in
    omega (arith, settles.more, settles.settled)
close_reaches (Err e) old new moment n made same reach = subst (Reach n) (sym same) reach
