-- What holds after every list of calls.
use Rattle.std.proofs.Common.{◌≡◌, ℕ, ◌+◌, ◌≤◌, Bool, false, List, [], ◌∷◌, ◌++◌, length, map, sum_by, Option, Some, None, option_map, ◌==◌, ◌&&◌, refl, ap, subst, sym, inl, inr, arith, append-nil}
use Rattle.std.specs.Prelude.{IfSome}
use Rattle.std.proofs.lemmas.Bool.{and_parts, eq-eqb, eqb-true}
use Rattle.std.proofs.lemmas.List.Elements.{All-nil}
use Rattle.std.specs.List.Sorted.{IsPermutation}
use Rattle.std.proofs.lemmas.List.Sums.{sum_by-append, sum_by-cons}
use Rattle.packet_core.specs.Packets.{PacketParts}
use Rattle.packet_core.specs.Params.{AreInRange}
use Rattle.packet_core.specs.declared.flow.Seed.{Seed}
use Rattle.packet_core.specs.declared.params.ParamFields.{ParamFields}
use Rattle.journal_core.specs.JournalLaws.{JournalLaws}
use Rattle.journal_core.specs.Runs.{IsRunOf, Made, is_refused}
use Rattle.journal_core.specs.Losses.{AreGivenBackOnce, IsOfAccepted, lost_packets}
use Rattle.journal_core.specs.JournalLaws.{WaitWithoutFate}
use Rattle.journal_core.specs.declared.event.Event.{Event}
use Rattle.journal_core.specs.declared.step.Sent.{Sent}
use Rattle.journal_core.specs.declared.step.Step.{Step}
use Rattle.fair_core.specs.FairQueues.{queue_of}
use Rattle.sched_core.specs.Schedulers.{IsServed, Scheduler, discipline_of, flows_of}
use Rattle.sched_core.proofs.EngineRuns.{advanced_on, served_on}
use Rattle.sched_core.proofs.FqCodelRuns.{fq_codel_laws, run_gives_back}
use Rattle.queue_disc_core.specs.declared.answers.Dequeued.{Dequeued}
use Rattle.queue_disc_core.specs.declared.answers.Dropped.{Dropped}
use Rattle.queue_disc_core.specs.declared.answers.Enqueued.{Enqueued}
use Rattle.queue_disc_core.specs.declared.answers.Handle.{Handle}
use Rattle.queue_disc_core.specs.Calls.{AreCalled, Call, IsCalled, answered, given_back, given_back_by, handed_in, handed_in_by}
use Rattle.queue_disc_core.specs.Calls.Call.{enqueued, dequeued, read, flushed, closed}
use Rattle.queue_disc_core.specs.Laws.{IsLawful}
use Rattle.queue_disc_core.specs.QueueDiscKept.{AreBalanced}
use Rattle.queue_disc_core.specs.QueueDiscs.{AreFlushed, AreRead, FindsNone, IsDiscAccepted, IsDiscClosed, IsDiscDequeued, IsDue, IsEnqueued, DiscState, drop_handle, events_of, handle_of, lost_of, new_disc, renewed, renumbered, sent_handle, sent_handles, unread_packets, unrenewed, waiting_packets}
use Rattle.queue_disc_core.proofs.Balanced.{gone_sum, sum_push}
use Rattle.queue_disc_core.proofs.Multisets.{Tells, same_sums}
use Rattle.queue_disc_core.proofs.Renewals.{none_queued, renewed_balanced}
use Rattle.queue_disc_core.proofs.SoundSteps.{accept_balanced, close_balanced, read_balanced, served_balanced, still_read}
use Rattle.queue_disc_core.proofs.StepMoves.{close_loses}

-- A scheduler that is a run has its laws.
lawful_run : (s : Scheduler) (steps : List Step) → AreInRange s.params → IsRunOf (discipline_of s) steps s.standing → IsLawful s
lawful_run s steps range r =
    let held = fq_codel_laws s.params s.seed steps r.made s.standing.state r.runs in
    let once = run_gives_back s.params s.seed range steps r.made s.standing.state r.runs in
    record {
      laws = subst (λ (es : List Event). JournalLaws (discipline_of s).flow_of es) (sym r.journal) held.0;
      waiting = subst (λ (es : List Event). WaitWithoutFate (queue_of (flows_of s)) es) (sym r.journal) held.1;
      once = subst (λ (es : List Event). AreGivenBackOnce (flows_of s).lists.queues (lost_packets es) es) (sym r.journal) once;
    }

-- What holds of a queue disc after calls.
pub record IsSteady (s : DiscState) : Type 0 where
  steps : List Step
  run : IsRunOf (discipline_of s.sched) steps s.sched.standing
  range : AreInRange s.sched.params
  few : s.unread ≤ length (lost_of s)
  balanced : AreBalanced s

steady_lawful : (s : DiscState) → IsSteady s → IsLawful s.sched
steady_lawful s steady = lawful_run s.sched steady.steps steady.range steady.run

-- What a call hands in and gives back.
record Step' (old : DiscState) (handed given : List Handle) (new : DiscState) : Type 0 where
  steady : IsSteady new
  accepted : (f : Handle → ℕ) → sum_by f new.packets.accepted ≡ sum_by f old.packets.accepted + sum_by f handed
  gone : (f : Handle → ℕ) → gone_sum f new ≡ gone_sum f old + sum_by f given

stays : (s : DiscState) → IsSteady s → Step' s [] [] s
stays s steady = record { steady = steady; accepted = λ f. omega arith; gone = λ f. omega arith }

joins : (old mid new : DiscState) (handed handed' given given' : List Handle) → Step' old handed given mid → Step' mid handed' given' new → Step' old (handed ++ handed') (given ++ given') new
joins old mid new handed handed' given given' a b = record {
  steady = b.steady;
  accepted = λ f. omega (arith, a.accepted f, b.accepted f, sum_by-append f handed handed');
  gone = λ f. omega (arith, a.gone f, b.gone f, sum_by-append f given given');
}

accepts : (old new : DiscState) (moment : ℕ) (packet : PacketParts) (said : Enqueued) → IsSteady old → IsDiscAccepted old moment packet said new → Step' old (record { tag = packet.tag; id = said.id } ∷ []) [] new
accepts old new moment packet said steady a =
    let handle : Handle = record { tag = packet.tag; id = said.id } in
    let run = advanced_on steady.run a.advances in
    let range : AreInRange new.sched.params = subst AreInRange (sym a.advances.params) steady.range in
    let after = lawful_run new.sched (steady.steps ++ _ ∷ []) range run in
    record {
      steady = record {
        steps = steady.steps ++ _ ∷ [];
        run = run;
        range = range;
        few = omega (arith, a.unread, a.drops);
        balanced = accept_balanced old new moment packet said (steady_lawful old steady) after steady.balanced a;
      };
      accepted = λ f. omega (arith, ap (λ (s : DiscState). sum_by f s.packets.accepted) a.rest, sum_by-append f old.packets.accepted (handle ∷ []));
      gone = λ f. omega (arith, ap (gone_sum f) a.rest);
    }

renews : (old : DiscState) → IsSteady old → IsDue old → Step' old [] [] (renewed old)
renews old steady due = record {
  steady = record {
    steps = [];
    run = record { made = []; runs = refl; journal = refl; none_refused = All-nil {X = Made} (λ m. is_refused m.answer ≡ false) };
    range = steady.range;
    few = let read = due.read in omega arith;
    balanced = renewed_balanced old due steady.balanced;
  };
  accepted = λ f. omega arith;
  gone = λ f. omega arith;
}

-- what is noted of a renewal that wasn't made
notes : (old : DiscState) (moment : ℕ) → IsSteady old → Step' old [] [] (unrenewed old moment)
notes old moment steady = record {
  steady = record { steps = steady.steps; run = steady.run; range = steady.range; few = steady.few; balanced = steady.balanced };
  accepted = λ f. omega arith;
  gone = λ f. omega arith;
}

enqueues : (old new : DiscState) (moment : ℕ) (packet : PacketParts) (said : Enqueued) → IsSteady old → IsEnqueued old moment packet said new → Step' old (record { tag = packet.tag; id = said.id } ∷ []) [] new
enqueues old new moment packet said steady e =
    elim e.renewal [
      | inl same ↦ accepts old new moment packet said steady (subst (λ (s : DiscState). IsDiscAccepted s moment packet said new) same.1 e.accepts)
      | inr due ↦
          elim due.1 [
            | inl anew ↦ after (renewed old) (renews old steady due.0) anew
            | inr late ↦ after (unrenewed old moment) (notes old moment steady) late
          ]
    ]
  where
    after : (ready : DiscState) → Step' old [] [] ready → e.ready ≡ ready → Step' old (record { tag = packet.tag; id = said.id } ∷ []) [] new
    after ready first same =
        joins old ready new [] (record { tag = packet.tag; id = said.id } ∷ []) [] [] first
        (accepts ready new moment packet said first.steady (subst (λ (s : DiscState). IsDiscAccepted s moment packet said new) same e.accepts))

closes : (old new : DiscState) (moment : ℕ) → IsSteady old → IsDiscClosed old moment new → Step' old [] [] new
closes old new moment steady a =
    let before = steady_lawful old steady in
    let run = advanced_on steady.run a.advances in
    let range : AreInRange new.sched.params = subst AreInRange (sym a.advances.params) steady.range in
    let after = lawful_run new.sched (steady.steps ++ _ ∷ []) range run in
    let few = steady.few in
    record {
      steady = record {
        steps = steady.steps ++ _ ∷ [];
        run = run;
        range = range;
        few = omega (arith, ap length (close_loses old.sched new.sched moment before a.advances), ap (λ (s : DiscState). s.unread) a.rest);
        balanced = close_balanced old new moment before after steady.balanced a;
      };
      accepted = λ f. omega (arith, ap (λ (s : DiscState). sum_by f s.packets.accepted) a.rest);
      gone = λ f. omega (arith, ap (gone_sum f) a.rest);
    }

-- a dequeue of the scheduler
serves : (old new : DiscState) (moment : ℕ) (sent : Option Sent) → IsSteady old → IsServed old.sched moment sent new.sched → IfSome sent (IsOfAccepted (events_of old)) → new.unread + length (lost_of old) ≡ old.unread + length (lost_of new)
    → new.past.accepted ≡ old.past.accepted → new.packets.accepted ≡ old.packets.accepted → ((f : Handle → ℕ) → gone_sum f new ≡ gone_sum f old + sum_by f (sent_handles old.past.accepted sent))
    → Step' old [] (sent_handles old.past.accepted sent) new
serves old new moment sent steady s packet drops ids accepted gone =
    let before = steady_lawful old steady in
    let run = served_on steady.run s in
    let range : AreInRange new.sched.params = subst AreInRange (sym s.params) steady.range in
    let after = lawful_run new.sched (steady.steps ++ _ ∷ []) range run in
    let few = steady.few in
    record {
      steady = record {
        steps = steady.steps ++ _ ∷ [];
        run = run;
        range = range;
        few = omega (arith, drops);
        balanced = served_balanced old new moment sent before after steady.balanced s packet (still_read (length (lost_of old)) (length (lost_of new)) old.unread new.unread few drops) ids accepted gone;
      };
      accepted = λ f. omega (arith, ap (sum_by f) accepted);
      gone = gone;
    }

-- what a dequeue answers
answers : (before : ℕ) (sent said : Option Sent) → said ≡ option_map (renumbered before) sent → answered said ≡ sent_handles before sent
answers before None said told = rw told refl
answers before (Some s) said told = rw told refl

dequeues : (old new : DiscState) (moment : ℕ) (said : Dequeued) → IsSteady old → IsDiscDequeued old moment said new → Step' old [] (answered said.sent) new
dequeues old new moment said steady d =
    subst (λ (l : List Handle). Step' old [] l new) (sym (answers old.past.accepted d.sent said.sent d.told))
    (serves old new moment d.sent steady d.serves d.packet (omega (arith, d.unread, d.drops)) (ap (λ (s : DiscState). s.past.accepted) d.rest) (ap (λ (s : DiscState). s.packets.accepted) d.rest)
    (λ f. omega (arith, ap (gone_sum f) d.rest, sum_by-append f old.packets.sent (sent_handles old.past.accepted d.sent))))

flushes : (old new : DiscState) (packets : List Handle) → IsSteady old → AreFlushed old packets new → Step' old [] packets new
flushes old new [] steady same = subst (λ (s : DiscState). Step' old [] [] s) (sym same) (stays old steady)
flushes old new (packet ∷ packets) steady made =
    let mid = made.0 in
    let d = made.1 in
    let one : Step' old [] (sent_handle old.past.accepted d.sent ∷ []) mid =
    serves old mid old.sched.standing.state.last (Some d.sent) steady d.serves d.accepted d.drops (ap (λ (s : DiscState). s.past.accepted) d.rest) (ap (λ (s : DiscState). s.packets.accepted) d.rest)
    (λ f. omega (arith, ap (gone_sum f) d.rest, sum_push f old.packets.flushed packet, sum_by-cons f (sent_handle old.past.accepted d.sent) [], ap f d.handle)) in
    let first : Step' old [] (packet ∷ []) mid = subst (λ (p : Handle). Step' old [] (p ∷ []) mid) (sym d.handle) one in
    joins old mid new [] [] (packet ∷ []) packets first (flushes mid new packets one.steady made.2)

finds_none : (old new : DiscState) → IsSteady old → FindsNone old new → Step' old [] [] new
finds_none old new steady finds =
    elim finds [
      | inl same ↦ subst (λ (s : DiscState). Step' old [] [] s) (sym same.1) (stays old steady)
      | inr d ↦
          serves old new old.sched.standing.state.last None steady d.serves tt d.drops (ap (λ (s : DiscState). s.past.accepted) d.rest) (ap (λ (s : DiscState). s.packets.accepted) d.rest) (λ f. omega (arith, ap (gone_sum f) d.rest))
    ]

reads : (old new : DiscState) (drops : List Dropped) → IsSteady old → AreRead old drops new → Step' old [] (map drop_handle drops) new
reads old new [] steady same = subst (λ (s : DiscState). Step' old [] [] s) (sym same) (stays old steady)
reads old new (d ∷ drops) steady made =
    let mid = made.0 in
    let r = made.1 in
    let few = steady.few in
    let unread = r.unread in
    let same : mid.sched ≡ old.sched = ap (λ (s : DiscState). s.sched) r.rest in
    let lost : length (lost_of mid) ≡ length (lost_of old) = ap (λ (s : Scheduler). length (lost_packets s.standing.events)) same in
    let one : Step' old [] (drop_handle d ∷ []) mid = record {
      steady = record {
        steps = steady.steps;
        run = subst (λ (s : Scheduler). IsRunOf (discipline_of s) steady.steps s.standing) (sym same) steady.run;
        range = subst (λ (s : Scheduler). AreInRange s.params) (sym same) steady.range;
        few = omega arith;
        balanced = read_balanced old mid d few steady.balanced r;
      };
      accepted = λ f. omega (arith, ap (λ (s : DiscState). sum_by f s.packets.accepted) r.rest);
      gone = λ f. omega (arith, ap (gone_sum f) r.rest, sum_push f old.packets.read (drop_handle d), sum_by-cons f (drop_handle d) []);
    } in
    joins old mid new [] [] (drop_handle d ∷ []) (map drop_handle drops) one (reads mid new drops one.steady made.2)

called : (old new : DiscState) (call : Call) → IsSteady old → IsCalled old call new → Step' old (handed_in_by call) (given_back_by call) new
called old new (enqueued moment packet said) steady e = enqueues old new moment packet said steady e
called old new (dequeued moment said) steady d = dequeues old new moment said steady d
called old new (read drops) steady made = reads old new drops steady made
called old new (flushed packets) steady made =
    elim made [
      | inl f ↦ flushes old new packets steady f
      | inr f ↦
          let first = flushes old f.mid packets steady f.flushes in
          subst (λ (l : List Handle). Step' old [] l new) (append-nil packets) (joins old f.mid new [] [] packets [] first (finds_none f.mid new first.steady f.ends))
    ]
called old new (closed moment) steady c = closes old new moment steady c

all_called : (old new : DiscState) (calls : List Call) → IsSteady old → AreCalled old calls new → Step' old (handed_in calls) (given_back calls) new
all_called old new [] steady same = subst (λ (s : DiscState). Step' old [] [] s) (sym same) (stays old steady)
all_called old new (call ∷ calls) steady made =
    let first = called old made.0 call steady made.1 in
    joins old made.0 new (handed_in_by call) (handed_in calls) (given_back_by call) (given_back calls) first (all_called made.0 new calls first.steady made.2)

opens : (p : ParamFields) (seed : Seed) (renew_after : ℕ) → AreInRange p → IsSteady (new_disc p seed renew_after)
opens p seed renew_after range = record {
  steps = [];
  run = record { made = []; runs = refl; journal = refl; none_refused = All-nil {X = Made} (λ m. is_refused m.answer ≡ false) };
  range = range;
  few = omega arith;
  balanced = λ f. let none = ap (λ ws. sum_by f (map (handle_of 0) ws)) (none_queued p.flows) in omega arith;
}

-- one handle or another
abbrev pub same_handle : Handle → Handle → Bool
same_handle a b = (a.tag == b.tag) && (a.id == b.id)

pub tells_handles : Tells same_handle
tells_handles = record {
  yes = λ a b same. let parts = and_parts (a.tag == b.tag) (a.id == b.id) same in λ i. record { tag = eqb-true a.tag b.tag parts.0 i; id = eqb-true a.id b.id parts.1 i };
  itself = λ a. rw (eq-eqb a.tag a.tag refl, eq-eqb a.id a.id refl) refl;
}

pub given_back_after : (p : ParamFields) (seed : Seed) (renew_after : ℕ) → AreInRange p → (calls : List Call) (s : DiscState) → AreCalled (new_disc p seed renew_after) calls s
    → IsPermutation (handed_in calls) (given_back calls ++ unread_packets s ++ waiting_packets s)
given_back_after p seed renew_after range calls s made =
    let all = all_called (new_disc p seed renew_after) s calls (opens p seed renew_after range) made in
    same_sums same_handle tells_handles (handed_in calls) (given_back calls ++ unread_packets s ++ waiting_packets s)
    (λ f.
    let balanced = all.steady.balanced f in
    omega (arith, all.accepted f, all.gone f, sum_by-append f (given_back calls ++ unread_packets s) (waiting_packets s), sum_by-append f (given_back calls) (unread_packets s)))
