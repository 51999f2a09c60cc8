-- What a call of the engine adds to the statistics, which the books follow.
use Rattle.std.proofs.Common.{◌≡◌, ℕ, Option, Some, None, Result, Ok, Err, OnOk, OnErr, true, refl, sym, subst, arith}
use Rattle.std.specs.Option.{is_some}
use Rattle.packet_core.specs.Packets.{PacketParts}
use Rattle.journal_core.specs.declared.outcome.Answer.TheVariants as answer
use Rattle.journal_core.specs.declared.step.Refusal.{Refusal}
use Rattle.journal_core.specs.declared.step.Sent.{Sent}
use Rattle.journal_core.specs.declared.step.Step.TheVariants.{Enqueue, Close}
use Rattle.journal_core.proofs.StepTotals.{Adds, adds_accepted, adds_closed, adds_sent, given_count}
use Rattle.sched_core.specs.Engines.{Running}
use Rattle.sched_core.specs.Schedulers.{IsAdvanced, IsServed, discipline_of}

-- so much does a call of an engine add
abbrev pub EngineAdds : ℕ → ℕ → Running → Running → Type 0
EngineAdds accepted sent old new = Adds accepted sent old.sched.standing.events new.sched.standing.events

adds_nothing : (old new : Running) → new ≡ old → EngineAdds 0 0 old new
adds_nothing old new same = subst (EngineAdds 0 0 old) (sym same) (record { accepted_more = omega arith; sent_more = omega arith })

pub close_adds : (old new : Running) (moment : ℕ) (r : Result Unit Refusal) → OnOk r (IsAdvanced old.sched (Close moment) answer.Closed new.sched) → OnErr r (new ≡ old) → EngineAdds 0 0 old new
close_adds old new moment (Ok _) made same = adds_closed (discipline_of old.sched) old.sched.standing new.sched.standing moment made.advances
close_adds old new moment (Err why) made same = adds_nothing old new same

pub enqueue_adds : (old new : Running) {moment lane : ℕ} {packet : PacketParts} → IsAdvanced old.sched (Enqueue moment lane packet) answer.Accepted new.sched → EngineAdds 1 0 old new
enqueue_adds old new {moment} {lane} {packet} made = adds_accepted (discipline_of old.sched) old.sched.standing new.sched.standing moment lane packet made.advances

pub dequeue_adds : (old new : Running) (moment : ℕ) (sent : Option Sent) → IsServed old.sched moment sent new.sched → EngineAdds 0 (given_count sent) old new
dequeue_adds old new moment sent made = adds_sent (discipline_of old.sched) old.sched.standing new.sched.standing moment sent made.gives

pub given_one : (sent : Option Sent) → true ≡ is_some sent → given_count sent ≡ 1
given_one None e = absurd cc
given_one (Some s) e = refl
