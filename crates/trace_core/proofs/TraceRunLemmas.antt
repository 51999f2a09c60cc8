-- A text's steps, made as its rows are taken.
use Rattle.std.proofs.Common.{◌≡◌, ◌≤◌, ◌⊎◌, ◌∙◌, subst, inl, inr, ℕ, List, [], ◌∷◌, ◌++◌, Option, Some, None, Result, Ok, Err, length, map, drop, refl, sym, ap, arith, ◌-◌, take, append-nil, append_assoc, length-append}
use Rattle.std.specs.Prelude.{IfOk, IfSome, MatchOption, OnOk}
use Rattle.std.specs.List.{flat_map}
use Rattle.std.proofs.Math.Seq.{drop-append_seam}
use Rattle.std.proofs.lemmas.List.{flat_map_more, map-append, take_all}
use Rattle.std.proofs.lemmas.List.Elements.{filter_map-append}
use Rattle.std.proofs.lemmas.Result.{on_ok_weaker}
use Rattle.journal_core.specs.Runs.{Takes, journal_of}
use Rattle.journal_core.specs.Tallies.{HasSeen}
use Rattle.journal_core.specs.declared.tally.Tally.{Tally}
use Rattle.sched_core.specs.Schedulers.{Scheduler, discipline_of}
use Rattle.packet_core.specs.Packets.{PacketParts}
use Rattle.journal_core.specs.declared.event.Cause.TheVariants.{Codel, Overflow}
use Rattle.journal_core.specs.declared.event.Event.{Event}
use Rattle.journal_core.specs.declared.note.Note.{Note}
use Rattle.journal_core.specs.declared.outcome.Answer.{Answer}
use Rattle.journal_core.specs.declared.outcome.Answer.TheVariants as answer
use Rattle.journal_core.specs.declared.step.Refusal.{Refusal}
use Rattle.journal_core.specs.declared.step.Step.{Step}
use Rattle.journal_core.specs.declared.step.Step.TheVariants.{Dequeue, Close}
use Rattle.journal_core.specs.Disciplines.{Discipline, Given}
use Rattle.journal_core.specs.Happened.{Acceptance, acceptance_of, acceptances}
use Rattle.journal_core.specs.Notes.{note_of}
use Rattle.journal_core.specs.State.{State, refusal_of}
use Rattle.journal_core.specs.Steps.{Admits, Makes, Steps, drop_event, sent_events}
use Rattle.journal_core.proofs.LossLemmas.{drops_accept_none}
use Rattle.journal_core.proofs.RunLemmas.{journal_push, runs_push}
use Rattle.trace_core.proofs.ReportLemmas.{adds_both, adds_none, noted_lines}
use Rattle.trace_core.specs.Report.{AddsToReport, RunsStep, RunsSteps, answer_lines, made_lines, note_line}
use Rattle.trace_core.specs.declared.report.Rows.{Rows}

-- no step is made yet
pub runs_none : (sched : Scheduler) (report : Rows) → RunsSteps [] sched sched report report
runs_none sched report = record { made = []; runs = refl; journal = sym (append-nil sched.standing.events); params = refl; seed = refl; told = adds_none report }

-- what stands in a list after its front
behind : {X : Type 0} (front made all own : List X) → all ≡ front ++ made → own ≡ take (length all - length front) (drop (length front) all) → own ≡ made
behind front made all own joined is =
    let size : length all - length front ≡ length made = omega (arith, ap length joined, length-append front made) in
    let rest : drop (length front) all ≡ made = ap (drop (length front)) joined ∙ drop-append_seam front made in
    is ∙ rw (size, rest) (take_all (length made) made (omega arith))

-- a step's own notes are those after the notes so far
pub own_notes : (old new made : List Event) (own : List Note) → new ≡ old ++ made
    → own ≡ take (length (map note_of new) - length (map note_of old)) (drop (length (map note_of old)) (map note_of new)) → own ≡ map note_of made
own_notes old new made own joined = behind (map note_of old) (map note_of made) (map note_of new) own (ap (map note_of) joined ∙ map-append note_of old made)

-- and what they tell is what the step's events tell
pub step_told : {E : Type 0} (r : Result (Unit {0}) E) (step : Step) (said : Answer) (old new : Scheduler) (before after : Rows) (own : List Note)
    → (takes : Takes (discipline_of old) old.standing step said new.standing) → new.params ≡ old.params → new.seed ≡ old.seed → own ≡ map note_of takes.made
    → OnOk r (AddsToReport before after (flat_map note_line own ++ answer_lines said)) → OnOk r (RunsStep step old new before after)
step_told r step said old new before after own takes params seed same told =
    let lines = ap (flat_map note_line) same ∙ noted_lines takes.made in
    on_ok_weaker r (λ t. record { made = record { answer = said; events = takes.made }; steps = takes.steps; journal = takes.journal; params = params; seed = seed; told = rw lines at t }) told

-- one step more
pub runs_more : (steps : List Step) (step : Step) (old mid new : Scheduler) (before between after : Rows)
    → RunsSteps steps old mid before between → RunsStep step mid new between after → RunsSteps (steps ++ step ∷ []) old new before after
runs_more steps step old mid new before between after run more =
    let d = discipline_of old in
    let events = old.standing.events in
    record {
      made = run.made ++ more.made ∷ [];
      runs = runs_push d old.standing.state mid.standing.state new.standing.state steps run.made step more.made run.runs (rw (run.params, run.seed) at more.steps);
      journal = more.journal ∙ ap (λ es. es ++ more.made.events) run.journal ∙ append_assoc events (journal_of run.made) more.made.events
          ∙ ap (λ es. events ++ es) (sym (journal_push d run.made more.made));
      params = more.params ∙ run.params;
      seed = more.seed ∙ run.seed;
      told = rw (← flat_map_more made_lines [] run.made more.made) (adds_both _ _ _ (flat_map made_lines run.made) (made_lines more.made) run.told more.told);
    }

-- a dequeue accepts nothing
sent_accepts_none : (moment : ℕ) (given : Option Given) → acceptances (sent_events moment given) ≡ []
sent_accepts_none moment None = refl
sent_accepts_none moment (Some g) = refl

dequeue_makes_none : {Q : Type 0} (d : Discipline Q) (old : State Q) (moment : ℕ) (said : Answer) (made : List Event) (new : State Q)
    → Makes d old (Dequeue moment) said made new → acceptances made ≡ []
dequeue_makes_none d old moment said made new (given, _, serves) =
    ap acceptances serves.told ∙ filter_map-append acceptance_of (map (drop_event moment Codel) serves.dropped) (sent_events moment given)
    ∙ (λ i. drops_accept_none moment Codel serves.dropped i ++ sent_accepts_none moment given i)

pub dequeue_accepts_none : {Q : Type 0} (d : Discipline Q) (old : State Q) (moment : ℕ) (said : Answer) (made : List Event) (new : State Q)
    → Steps d old (Dequeue moment) said made new → acceptances made ≡ []
dequeue_accepts_none d old moment said made new = by (refusal_of old (Dequeue moment))
  where
    by : (refusal : Option Refusal) → MatchOption refusal (Makes d old (Dequeue moment) said made new) (λ r. (said ≡ answer.Refused r) × (made ≡ []) × (new ≡ old)) → acceptances made ≡ []
    by None makes = dequeue_makes_none d old moment said made new makes
    by (Some r) refused = ap acceptances refused.1

-- and a close neither
pub close_accepts_none : {Q : Type 0} (d : Discipline Q) (old : State Q) (moment : ℕ) (said : Answer) (made : List Event) (new : State Q)
    → Steps d old (Close moment) said made new → acceptances made ≡ []
close_accepts_none d old moment said made new = by (refusal_of old (Close moment))
  where
    by : (refusal : Option Refusal) → MatchOption refusal (Makes d old (Close moment) said made new) (λ r. (said ≡ answer.Refused r) × (made ≡ []) × (new ≡ old)) → acceptances made ≡ []
    by None makes = ap acceptances makes.1.told
    by (Some r) refused = ap acceptances refused.1

-- an enqueue that isn't refused accepts its packet, into the flow of its five-tuple
pub enqueue_accepts : {Q : Type 0} (d : Discipline Q) (old : State Q) (moment lane : ℕ) (packet : PacketParts) (made : List Event) (new : State Q)
    → Admits d old moment lane packet made new
    → (a : Acceptance) × (acceptances made ≡ a ∷ []) × (a.packet ≡ packet) × (a.flow ≡ d.flow_of packet.tuple)
enqueue_accepts d old moment lane packet made new admits =
    let a : Acceptance = record { id = old.next_id; moment = moment; lane = lane; flow = d.flow_of packet.tuple; packet = packet } in
    (a, ap acceptances admits.told ∙ ap (λ more. a ∷ more) (drops_accept_none moment Overflow admits.lost), refl, refl)

-- the acceptances of a journal that a step's events were added to
pub accepted_more : (old new made : List Event) (more : List Acceptance) → new ≡ old ++ made → acceptances made ≡ more → acceptances new ≡ acceptances old ++ more
accepted_more old new made more joined are = ap acceptances joined ∙ filter_map-append acceptance_of old made ∙ ap (λ more. acceptances old ++ more) are

-- and those where it accepts nothing
pub accepted_same : (old new made : List Event) → new ≡ old ++ made → acceptances made ≡ [] → acceptances new ≡ acceptances old
accepted_same old new made joined none = accepted_more old new made [] joined none ∙ append-nil (acceptances old)

-- where a step accepts nothing, all packets that were accepted have come to the tally still
pub none_seen : {E : Type 0} (r : Result Answer E) (tally : Tally) (step : Step) (old new : Scheduler)
    → IfOk r (λ said. Takes (discipline_of old) old.standing step said new.standing)
    → ((said : Answer) (made : List Event) → Steps (discipline_of old) old.standing.state step said made new.standing.state → acceptances made ≡ [])
    → HasSeen tally (acceptances old.standing.events) → OnOk r (HasSeen tally (acceptances new.standing.events))
none_seen (Ok said) tally step old new takes none seen = rw (accepted_same old.standing.events new.standing.events takes.made takes.journal (none said takes.made takes.steps)) seen
none_seen (Err e) tally step old new takes none seen = tt

-- so where a dequeue is made,
pub dequeue_seen : {E : Type 0} (r : Result Answer E) (tally : Tally) (moment : ℕ) (old new : Scheduler)
    → IfOk r (λ said. Takes (discipline_of old) old.standing (Dequeue moment) said new.standing)
    → HasSeen tally (acceptances old.standing.events) → OnOk r (HasSeen tally (acceptances new.standing.events))
dequeue_seen r tally moment old new takes seen =
    none_seen r tally (Dequeue moment) old new takes (λ said made steps. dequeue_accepts_none (discipline_of old) old.standing.state moment said made new.standing.state steps) seen

-- and where a close is
pub close_seen : {E : Type 0} (r : Result Answer E) (tally : Tally) (moment : ℕ) (old new : Scheduler)
    → IfOk r (λ said. Takes (discipline_of old) old.standing (Close moment) said new.standing)
    → HasSeen tally (acceptances old.standing.events) → OnOk r (HasSeen tally (acceptances new.standing.events))
close_seen r tally moment old new takes seen =
    none_seen r tally (Close moment) old new takes (λ said made steps. close_accepts_none (discipline_of old) old.standing.state moment said made new.standing.state steps) seen

-- and where either is
pub other_seen : {E : Type 0} (r : Result Answer E) (tally : Tally) (step : Step) (old new : Scheduler)
    → ((moment : ℕ) × (step ≡ Dequeue moment)) ⊎ ((moment : ℕ) × (step ≡ Close moment))
    → IfOk r (λ said. Takes (discipline_of old) old.standing step said new.standing)
    → HasSeen tally (acceptances old.standing.events) → OnOk r (HasSeen tally (acceptances new.standing.events))
other_seen r tally step old new (inl (moment, is)) takes seen = dequeue_seen r tally moment old new (rw is at takes) seen
other_seen r tally step old new (inr (moment, is)) takes seen = close_seen r tally moment old new (rw is at takes) seen

-- what holds holds of an Ok
pub always : {T E A : Type 0} (r : Result T E) → A → OnOk r A
always (Ok x) a = a
always (Err e) a = tt

-- the bytes that were read are no more than the text has
pub bytes_bound : (known : Option (List ℕ)) (text : List ℕ) (most : ℕ) → IfSome known (λ bytes. text ≡ bytes) → length text ≤ most
    → IfSome known (λ bytes. length bytes ≤ most)
bytes_bound (Some bytes) text most same few = subst (λ all. length all ≤ most) same few
bytes_bound None text most same few = tt
