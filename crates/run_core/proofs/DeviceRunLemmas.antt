-- What the steps say of the last moment and of the close, and the steps of a device, one call later.
use Rattle.std.proofs.Common.{◌≡◌, ◌∙◌, ℕ, zero, suc, ◌+◌, ◌<◌, Bool, true, false, List, [], ◌∷◌, ◌++◌, MatchBool, MatchOption, None, Option, Some, add-one, append_assoc, ap, arith, get_or, length, map, refl, replicate, subst, sym, take}
use Rattle.std.proofs.lemmas.Bool.{true≢false}
use Rattle.std.proofs.lemmas.List.{map-append, replicate-append-replicate, take_more}
use Rattle.packet_core.specs.Packets.{PacketParts}
use Rattle.journal_core.specs.Disciplines.{Discipline}
use Rattle.journal_core.specs.Calls.{Standing}
use Rattle.journal_core.specs.Runs.{IsRunOf, Made, Runs, is_refused}
use Rattle.journal_core.specs.State.{State, opening_state, refusal_of}
use Rattle.journal_core.specs.Steps.{Makes, Steps}
use Rattle.journal_core.specs.declared.outcome.Answer.{Answer}
use Rattle.journal_core.specs.declared.event.Event.{Event}
use Rattle.journal_core.specs.declared.step.Refusal.{Refusal}
use Rattle.journal_core.specs.declared.step.Step.{Step}
use Rattle.journal_core.specs.declared.step.Step.TheVariants.{Enqueue, Dequeue, Close}
use Rattle.sender_core.specs.Interleavings.{moment_after}
use Rattle.run_core.specs.DeviceRuns.{Dequeues, EmptiesLane, Finishes, HasServed, IsAny, IsBurst, IsDeviceRun, PumpsAll, PumpsLanes, ServesRow, ServesRows, closed_after, closed_at, has_close, last_moment}

-- after some steps and then others
moment_append : (last : ℕ) (some more : List Step) → moment_after last (some ++ more) ≡ moment_after (moment_after last some) more
moment_append last [] more = refl
moment_append last (Enqueue moment lane packet ∷ some) more = moment_append moment some more
moment_append last (Dequeue moment ∷ some) more = moment_append moment some more
moment_append last (Close moment ∷ some) more = moment_append moment some more

pub closed_append : (closed : Bool) (some more : List Step) → closed_after closed (some ++ more) ≡ closed_after (closed_after closed some) more
closed_append closed [] more = refl
closed_append closed (Enqueue moment lane packet ∷ some) more = closed_append closed some more
closed_append closed (Dequeue moment ∷ some) more = closed_append closed some more
closed_append closed (Close moment ∷ some) more = closed_append true some more

-- packets that are accepted at one moment
moment_pumped : (now lane : ℕ) (packets : List PacketParts) → moment_after now (map (Enqueue now lane) packets) ≡ now
moment_pumped now lane [] = refl
moment_pumped now lane (packet ∷ packets) = moment_pumped now lane packets

closed_pumped : (closed : Bool) (now lane : ℕ) (packets : List PacketParts) → closed_after closed (map (Enqueue now lane) packets) ≡ closed
closed_pumped closed now lane [] = refl
closed_pumped closed now lane (packet ∷ packets) = closed_pumped closed now lane packets

closed_dequeued : (closed : Bool) (now n : ℕ) → closed_after closed (replicate n (Dequeue now)) ≡ closed
closed_dequeued closed now zero = refl
closed_dequeued closed now (suc n) = closed_dequeued closed now n

-- a close stays
pub closed_stays : (steps : List Step) → closed_after true steps ≡ true
closed_stays [] = refl
closed_stays (Enqueue moment lane packet ∷ steps) = closed_stays steps
closed_stays (Dequeue moment ∷ steps) = closed_stays steps
closed_stays (Close moment ∷ steps) = closed_stays steps

-- what a step that isn't refused does to the last moment and the close
step_kept : {Q : Type 0} (d : Discipline Q) (old new : State Q) (step : Step) (said : Answer) (events : List Event) → Makes d old step said events new
    → (new.last ≡ moment_after old.last (step ∷ [])) × (new.closed ≡ closed_after old.closed (step ∷ []))
step_kept d old new (Enqueue moment lane packet) said events makes = (makes.1.last, makes.1.closed)
step_kept d old new (Dequeue moment) said events makes = (makes.2.last, makes.2.closed)
step_kept {Q} d old new (Close moment) said events makes = (ap (λ (s : State Q). s.last) makes.1.state, ap (λ (s : State Q). s.closed) makes.1.state)

makes_of : {Q : Type 0} (d : Discipline Q) (old new : State Q) (step : Step) (said : Answer) (events : List Event) → Steps d old step said events new → is_refused said ≡ false
    → Makes d old step said events new
makes_of d old new step said events s made = go (refusal_of old step) s
  where
    go : (o : Option Refusal) → MatchOption o (Makes d old step said events new) (λ r. (said ≡ Rattle.journal_core.specs.declared.outcome.Answer.TheVariants.Refused r) × (events ≡ []) × (new ≡ old)) → Makes d old step said events new
    go None m = m
    go (Some r) m = absurd (true≢false (sym (ap is_refused m.0) ∙ made))

runs_kept : {Q : Type 0} (d : Discipline Q) (old new : State Q) (steps : List Step) (made : List Made) → Runs d old steps made new
    → ((k : ℕ) (m : Made) → k < length made → is_refused (get_or made k m).answer ≡ false)
    → (new.last ≡ moment_after old.last steps) × (new.closed ≡ closed_after old.closed steps)
runs_kept {Q} d old new [] [] runs none = (ap (λ (s : State Q). s.last) runs, ap (λ (s : State Q). s.closed) runs)
runs_kept d old new [] (m ∷ made) runs none = absurd runs
runs_kept d old new (step ∷ steps) [] runs none = absurd runs
runs_kept d old new (step ∷ steps) (m ∷ made) runs none =
    let one = step_kept d old runs.0 step m.answer m.events (makes_of d old runs.0 step m.answer m.events runs.1 (none 0 m (omega arith))) in
    let rest = runs_kept d runs.0 new steps made runs.2 (λ k other less. none (suc k) other (omega (arith, less))) in (
      rest.0 ∙ ap (λ last. moment_after last steps) one.0 ∙ sym (moment_append old.last (step ∷ []) steps),
      rest.1 ∙ ap (λ closed. closed_after closed steps) one.1 ∙ sym (closed_append old.closed (step ∷ []) steps),
    )

-- the last moment of a run, and whether it was closed, by its steps
pub moment_of_run : {Q : Type 0} (d : Discipline Q) (steps : List Step) (s : Standing Q) → IsRunOf d steps s → s.state.last ≡ last_moment steps
moment_of_run d steps s run = (runs_kept d (opening_state d.opening) s.state steps run.made run.runs run.none_refused).0

pub close_of_run : {Q : Type 0} (d : Discipline Q) (steps : List Step) (s : Standing Q) → IsRunOf d steps s → s.state.closed ≡ has_close steps
close_of_run d steps s run = (runs_kept d (opening_state d.opening) s.state steps run.made run.runs run.none_refused).1

-- a lane more is pumped
pub pumps_next : (May : ℕ → Type 0) (now lane : ℕ) (old mid new : List Step) (packets : List PacketParts) → PumpsLanes May now old lane mid → May (length packets)
    → new ≡ mid ++ map (Enqueue now lane) packets → PumpsLanes May now old (lane + 1) new
pumps_next May now lane old mid new packets pumps may made = rw (add-one lane) (mid, packets, pumps, may, made)

-- pumps close nothing, and at the last moment they leave it as it is
pub pumps_open : (May : ℕ → Type 0) (now : ℕ) (old : List Step) (lanes : ℕ) (new : List Step) → PumpsLanes May now old lanes new → has_close new ≡ has_close old
pumps_open May now old zero new same = ap has_close same
pumps_open May now old (suc lane) new p =
    ap has_close p.4 ∙ closed_append false p.0 (map (Enqueue now lane) p.1) ∙ closed_pumped (has_close p.0) now lane p.1 ∙ pumps_open May now old lane p.0 p.2

pub pumps_at : (May : ℕ → Type 0) (now : ℕ) (old : List Step) (lanes : ℕ) (new : List Step) → last_moment old ≡ now → PumpsLanes May now old lanes new → last_moment new ≡ now
pumps_at May now old zero new last same = ap last_moment same ∙ last
pumps_at May now old (suc lane) new last p =
    ap last_moment p.4 ∙ moment_append 0 p.0 (map (Enqueue now lane) p.1) ∙ ap (λ moment. moment_after moment (map (Enqueue now lane) p.1)) (pumps_at May now old lane p.0 last p.2)
    ∙ moment_pumped now lane p.1

-- the lanes aren't pumped after a close, and are before
pub pumps_none : (May : ℕ → Type 0) (now : ℕ) (old new : List Step) (lanes : ℕ) → has_close old ≡ true → new ≡ old → PumpsAll May now old lanes new
pumps_none May now old new lanes closed same = rw closed same

pub pumps_all : (May : ℕ → Type 0) (now : ℕ) (old new : List Step) (lanes : ℕ) → has_close old ≡ false → PumpsLanes May now old lanes new → PumpsAll May now old lanes new
pumps_all May now old new lanes open' pumps = rw open' pumps

-- a row more
pub rows_next : (lanes now : ℕ) (old : List Step) (rows : List Step) (at : ℕ) (mid : List Step) (row : Step) (later : ℕ) (new : List Step)
    → ServesRows lanes now old rows at mid → ServesRow lanes at mid row later new → ServesRows lanes now old (rows ++ row ∷ []) later new
rows_next lanes now old [] at mid row later new before one =
    (later, new, subst (λ m. ServesRow lanes now m row later new) before.1 (subst (λ t. ServesRow lanes t mid row later new) before.0 one), (refl, refl))
rows_next lanes now old (first ∷ rows) at mid row later new before one =
    (before.0, before.1, before.2, rows_next lanes before.0 before.1 rows at mid row later new before.3 one)

pub rows_taken : (lanes : ℕ) (old rows : List Step) (k now later : ℕ) (row : Step) (mid new : List Step) → k < length rows → row ≡ get_or rows k row
    → ServesRows lanes 0 old (take k rows) now mid → ServesRow lanes now mid row later new → ServesRows lanes 0 old (take (k + 1) rows) later new
rows_taken lanes old rows k now later row mid new within stands before one =
    let more : take (k + 1) rows ≡ take k rows ++ row ∷ [] = take_more rows k row within ∙ ap (λ x. take k rows ++ x ∷ []) (sym stands) in
    subst (λ taken. ServesRows lanes 0 old taken later new) (sym more) (rows_next lanes 0 old (take k rows) now mid row later new before one)

-- a dequeue more
pub dequeues_next : (base mid new : List Step) (now n : ℕ) → mid ≡ base ++ replicate n (Dequeue now) → new ≡ mid ++ Dequeue now ∷ [] → new ≡ base ++ replicate (n + 1) (Dequeue now)
dequeues_next base mid new now n before made =
    made ∙ ap (λ l. l ++ Dequeue now ∷ []) before ∙ append_assoc base (replicate n (Dequeue now)) (Dequeue now ∷ [])
    ∙ ap (λ l. base ++ l) (replicate-append-replicate n 1 (Dequeue now))

-- a run that came to its end is closed
closed_at_closes : (now : ℕ) (steps : List Step) → has_close (closed_at now steps) ≡ true
closed_at_closes now steps = go (has_close steps) refl
  where
    go : (b : Bool) → has_close steps ≡ b → has_close (closed_at now steps) ≡ true
    go true is = rw is is
    go false is = rw is (closed_append false steps (Close now ∷ []))

pub run_closed : (lanes : ℕ) (rows old new : List Step) → IsDeviceRun lanes rows old new → has_close new ≡ true
run_closed lanes rows old new r =
    let e = r.ends in
    let n = e.finishes.0 in
    let now = last_moment e.emptied in
    ap has_close e.finishes.1 ∙ closed_append false (closed_at now e.emptied) (replicate n (Dequeue now)) ∙ closed_dequeued (has_close (closed_at now e.emptied)) now n
    ∙ closed_at_closes now e.emptied

-- so its journal is
pub journal_closed : {Q : Type 0} (d : Discipline Q) (lanes : ℕ) (rows old new : List Step) (s : Standing Q) (b : Bool) → b ≡ s.state.closed → IsRunOf d new s
    → IsDeviceRun lanes rows old new → b ≡ true
journal_closed d lanes rows old new s b is run r = is ∙ close_of_run d new s run ∙ run_closed lanes rows old new r

-- no lane is pumped yet
pub pumps_start : (May : ℕ → Type 0) (now : ℕ) (old : List Step) → PumpsAll May now old 0 old
pumps_start May now old = go (has_close old)
  where
    go : (b : Bool) → MatchBool b (old ≡ old) (PumpsLanes May now old 0 old)
    go true = refl
    go false = refl

-- a device that is open stays so
pub pumps_keep : (May : ℕ → Type 0) (old new : List Step) (lanes : ℕ) → PumpsAll May (last_moment old) old lanes new → has_close old ≡ false → has_close new ≡ false
pumps_keep May old new lanes pumps open' = pumps_open May (last_moment old) old lanes new (rw open' at pumps) ∙ open'

-- a lane more is emptied
pub empties_next : (old mid new : List Step) (lane : ℕ) → PumpsAll IsAny (last_moment old) old lane mid → EmptiesLane lane mid new
    → PumpsAll IsAny (last_moment old) old (lane + 1) new
empties_next old mid new lane before one = go (has_close old) refl before
  where
    go : (b : Bool) → has_close old ≡ b → MatchBool b (mid ≡ old) (PumpsLanes IsAny (last_moment old) old lane mid) → PumpsAll IsAny (last_moment old) old (lane + 1) new
    go true is same =
        let still : new ≡ mid = rw (ap has_close same ∙ is) at one in
        pumps_none IsAny (last_moment old) old new (lane + 1) is (still ∙ same)
    go false is pumps =
        let more : (packets : List PacketParts) × (new ≡ mid ++ map (Enqueue (last_moment mid) lane) packets) =
        rw (pumps_open IsAny (last_moment old) old lane mid pumps ∙ is) at one in
        let made : new ≡ mid ++ map (Enqueue (last_moment old) lane) more.0 = more.1 ∙ ap (λ now. mid ++ map (Enqueue now lane) more.0) (pumps_at IsAny (last_moment old) old lane mid refl pumps) in
        pumps_all IsAny (last_moment old) old new (lane + 1) is (pumps_next IsAny (last_moment old) lane old mid new more.0 pumps tt made)

-- one lane is emptied, or not after a close
pub empties_none : (lane : ℕ) (old new : List Step) → has_close old ≡ true → new ≡ old → EmptiesLane lane old new
empties_none lane old new closed same = rw closed same

pub empties_open : (lane : ℕ) (old new : List Step) (packets : List PacketParts) (now : ℕ) → has_close old ≡ false → now ≡ last_moment old
    → new ≡ old ++ map (Enqueue now lane) packets → EmptiesLane lane old new
empties_open lane old new packets now open' is made = rw open' (packets, made ∙ ap (λ moment. old ++ map (Enqueue moment lane) packets) is)

-- the close and the dequeues at the end
pub finished : (old mid new : List Step) (now : ℕ) → now ≡ last_moment old → mid ≡ closed_at now old → Dequeues now mid new → Finishes old new
finished old mid new now is closed made = (
  made.0,
  made.1 ∙ ap (λ l. l ++ replicate made.0 (Dequeue now)) closed ∙ ap (λ moment. closed_at moment old ++ replicate made.0 (Dequeue moment)) is,
)

-- pumps of one lane at one moment are joined
pub pumped_also : (old mid new : List Step) (now lane : ℕ) (packets more : List PacketParts) → mid ≡ old ++ map (Enqueue now lane) packets
    → new ≡ mid ++ map (Enqueue now lane) more → new ≡ old ++ map (Enqueue now lane) (packets ++ more)
pumped_also old mid new now lane packets more before made =
    made ∙ ap (λ l. l ++ map (Enqueue now lane) more) before ∙ append_assoc old (map (Enqueue now lane) packets) (map (Enqueue now lane) more)
    ∙ ap (λ l. old ++ l) (sym (map-append (Enqueue now lane) packets more))

-- a device that is open after the rows was asked for no close
row_closes : (lanes now : ℕ) (old : List Step) (row : Step) (later : ℕ) (new : List Step) → ServesRow lanes now old row later new → has_close new ≡ closed_after (has_close old) (row ∷ [])
row_closes lanes now old (Enqueue moment lane packet) later new s = ap has_close s.1
row_closes lanes now old (Dequeue moment) later new s =
    ap has_close s.3 ∙ closed_append false s.1 (Dequeue later ∷ []) ∙ go (has_close old) refl s.2
  where
    go : (b : Bool) → has_close old ≡ b → MatchBool b (s.1 ≡ old) (PumpsLanes IsBurst later old lanes s.1) → has_close s.1 ≡ has_close old
    go true is same = ap has_close same
    go false is pumps = pumps_open IsBurst later old lanes s.1 pumps
row_closes lanes now old (Close moment) later new s = ap has_close s.1 ∙ closed_at_closes later old ∙ sym (closed_stays [])

rows_close : (lanes now : ℕ) (old rows : List Step) (later : ℕ) (new : List Step) → ServesRows lanes now old rows later new → has_close new ≡ closed_after (has_close old) rows
rows_close lanes now old [] later new s = ap has_close s.1
rows_close lanes now old (row ∷ rows) later new s =
    rows_close lanes s.0 s.1 rows later new s.3 ∙ ap (λ b. closed_after b rows) (row_closes lanes now old row s.0 s.1 s.2) ∙ sym (closed_append (has_close old) (row ∷ []) rows)

pub served_open : (lanes : ℕ) (old rows new : List Step) → has_close old ≡ false → has_close rows ≡ false → HasServed lanes old rows new → has_close new ≡ false
served_open lanes old rows new open' none s = rows_close lanes 0 old rows s.0 new s.1 ∙ ap (λ b. closed_after b rows) open' ∙ none
