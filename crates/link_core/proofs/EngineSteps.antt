-- What an engine gives, and how many packets it sent.
use Rattle.std.proofs.Common.{◌≡◌, ℕ, ◌+◌, ◌<◌, ◌≤◌, ◌++◌, All, List, length, Option, Some, None, IfSome, refl, arith}
use Rattle.journal_core.specs.declared.event.Cause.TheVariants as cause
use Rattle.journal_core.specs.declared.step.Sent.{Sent}
use Rattle.journal_core.specs.declared.step.Step.{Step}
use Rattle.journal_core.specs.Happened.{fate_ids, without_fate}
use Rattle.journal_core.specs.Runs.{IsRunOf}
use Rattle.sched_core.specs.Schedulers.{IsServed, Scheduler, discipline_of}
use Rattle.link_core.specs.QueueDisciplines.{sent_count}
use Rattle.link_core.proofs.SentIds.{given_known, given_of, history_of, sent_few}

-- the id of a packet that an engine gives is one of those that came
sent_within : (old new : Scheduler) (steps : List Step) (moment : ℕ) (o : Option Sent) (s : Sent) → IsServed old moment o new → IsRunOf (discipline_of new) steps new.standing → o ≡ Some s → s.id < old.standing.state.next_id
sent_within old new steps moment o s serves run is =
    let g = serves.gives in
    let one = given_of moment g.given o s g.told is in
    let h = history_of new.params new.seed steps run.made new.standing.state run.runs in
    let all : All (λ id. id < new.standing.state.next_id) (fate_ids (old.standing.events ++ g.made)) = rw (← g.journal, run.journal) h.known in
    let below = given_known (λ id. id < new.standing.state.next_id) old.standing.events g.made moment cause.Codel g.serves.dropped one.packet (rw one.gives at g.serves.told) all in
    let named = one.named in
    let next = g.serves.next_id in
    omega (arith, below)

-- so where it gives one
pub all_within : (old new : Scheduler) (steps : List Step) (moment : ℕ) (o : Option Sent) → IsServed old moment o new → IsRunOf (discipline_of new) steps new.standing → IfSome o (λ (s : Sent). s.id < old.standing.state.next_id)
all_within old new steps moment None serves run = tt
all_within old new steps moment (Some s) serves run = sent_within old new steps moment (Some s) s serves run refl

-- no more were sent than came
pub sent_within_ids : (new : Scheduler) (steps : List Step) → IsRunOf (discipline_of new) steps new.standing → sent_count new.standing.events ≤ new.standing.state.next_id
sent_within_ids new steps run = rw run.journal (sent_few new.params new.seed steps run.made new.standing.state run.runs)

-- and each that came waits or has its fate
pub waiting_rest : (s : Scheduler) (steps : List Step) → IsRunOf (discipline_of s) steps s.standing → length (without_fate s.standing.events) + length (fate_ids s.standing.events) ≡ s.standing.state.next_id
waiting_rest s steps run = rw run.journal (history_of s.params s.seed steps run.made s.standing.state run.runs).left
