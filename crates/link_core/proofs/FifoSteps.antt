-- A FIFO's next step: what an arrival and a dequeue leave.
use Rattle.std.proofs.Common.{◌≡◌, ℕ, ◌+◌, ◌<◌, ◌≤◌, All, List, [], ◌∷◌, ◌++◌, drop, get_or, length, map, Option, Some, None, IfSome, option_map, refl, sym, ap, subst, ◌∙◌, inl, inr, arith, length-append}
use Rattle.std.specs.List.{AllByRecursion}
use Rattle.std.proofs.lemmas.List.{append-nil, length_push}
use Rattle.std.proofs.lemmas.List.Elements.{All-from_recursion, All-nil, All-push, All-weaker, filter_map-append, recursion_from_All}
use Rattle.std.proofs.lemmas.List.Sums.{fold-append}
use Rattle.packet_core.specs.FlowNumber.{flow_number}
use Rattle.packet_core.specs.Packets.{PacketParts}
use Rattle.packet_core.specs.declared.flow.Seed.{Seed}
use Rattle.packet_core.specs.declared.packet.Waiting.{Waiting}
use Rattle.packet_core.specs.declared.params.ParamFields.{ParamFields}
use Rattle.codel_core.specs.declared.served.Mark.TheVariants.{NoMark}
use Rattle.journal_core.specs.declared.event.Cause.TheVariants as cause
use Rattle.journal_core.specs.declared.event.Event.{Event}
use Rattle.journal_core.specs.declared.event.Event.TheVariants.{Accepted}
use Rattle.journal_core.specs.declared.step.Sent.{Sent}
use Rattle.journal_core.specs.declared.step.Step.{Step}
use Rattle.journal_core.specs.declared.step.Step.TheVariants.{Enqueue, Dequeue}
use Rattle.journal_core.specs.Calls.{sent_at}
use Rattle.journal_core.specs.Disciplines.{Given, given_packet}
use Rattle.journal_core.specs.Happened.{fate_ids, fate_of}
use Rattle.journal_core.specs.MadeFor.{MadeFor}
use Rattle.journal_core.specs.State.{refusal_of}
use Rattle.journal_core.specs.Steps.{drop_event, sent_event, sent_events}
use Rattle.sched_core.specs.Choosing.{Choosing}
use Rattle.link_core.specs.Fifo.{GivesHead, TakesIn, fifo}
use Rattle.link_core.specs.Fifos.{FifoQueue, IsKept, last_of, progress_of, step_moment}
use Rattle.link_core.specs.QueueDisciplines.{HasArrived, HasServed, sent_count}
use Rattle.link_core.proofs.NamedPackets.{gives_named, takes_named}
use Rattle.link_core.proofs.SentIds.{sent_among_fates}

-- what holds of all holds of the first, and of the rest
all_first : {X : Type 0} (P : X → Type 0) (xs rest : List X) (x : X) → xs ≡ x ∷ rest → All P xs → P x × All P rest
all_first P xs rest x is all =
    let each : AllByRecursion P (x ∷ rest) = subst (AllByRecursion P) is (recursion_from_All P xs all) in
    (each.0, All-from_recursion P rest each.1)

-- the moment of the last step
last_push : (steps : List Step) (step : Step) → last_of (steps ++ step ∷ []) ≡ step_moment step
last_push steps step = fold-append (λ (last : ℕ) (s : Step). step_moment s) 0 steps (step ∷ [])

-- fates add up
fates_more : (events made : List Event) → length (fate_ids (events ++ made)) ≡ length (fate_ids events) + length (fate_ids made)
fates_more events made = ap length (filter_map-append fate_of events made) ∙ length-append (fate_ids events) (fate_ids made)

-- no more were sent than came
few_sent : (p : ParamFields) (chooser : Choosing) (came : ℕ) (queue : List Waiting) (events : List Event) (sent lost : List Waiting) → IsKept p chooser came queue events sent lost → sent_count events ≤ came
few_sent p chooser came queue events sent lost kept =
    let among = sent_among_fates events in
    let many = kept.many in
    omega arith

-- where nothing waits
pub no_queue : (queue : List Waiting) (n : ℕ) → n ≡ length queue → (0 < n → ⊥) → queue ≡ []
no_queue [] n is none = refl
no_queue (w ∷ rest) n is none = absurd (none (omega arith))

-- the head of what waits
pub head_first : (queue : List Waiting) (n : ℕ) (w : Waiting) → n ≡ length queue → 0 < n → w ≡ get_or queue 0 w → queue ≡ w ∷ drop 1 queue
head_first [] n w is some its = absurd (omega arith)
head_first (x ∷ rest) n w is some its = ap (λ (y : Waiting). y ∷ rest) (sym its)

module _ (p : ParamFields) (chooser : Choosing) (came : ℕ) (queue : List Waiting) (events : List Event) (sent lost : List Waiting) (kept : IsKept p chooser came queue events sent lost) where
  -- as callers see it
  abbrev seen : Seed → MadeFor → List Step → FifoQueue
  seen seed made_for steps = record { setting = record { params = p; seed = seed; made_for = made_for }; so_far = progress_of queue came steps events }

  -- WHAT IT GIVES

  gives_few : (P : Waiting → Type 0) (moment : ℕ) (queue queue' : List Waiting) (given : Option Given) → GivesHead queue [] given queue' → All P queue → All P queue' × (length (fate_ids (sent_events moment given)) + length queue' ≡ length queue)
  gives_few P moment [] queue' given g all = rw (g.1, g.2) (All-nil P, refl)
  gives_few P moment (w ∷ rest) queue' given g all = rw (g.1, g.2) ((all_first P (w ∷ rest) rest w refl all).1, omega arith)

  served_kept : (moment : ℕ) (queue' : List Waiting) (given : Option Given) → GivesHead queue [] given queue' → IsKept p chooser came queue' (events ++ sent_events moment given) (sent ++ given_packet given) lost
  served_kept moment queue' given g =
      let rest = gives_few (λ w. w.id < came) moment queue queue' given g kept.known in
      let more = fates_more events (sent_events moment given) in
      let less = rest.1 in
      let many = kept.many in
      record {
        chooses = kept.chooses;
        known = rest.0;
        many = omega arith;
        named = gives_named came moment events queue queue' sent lost given g (recursion_from_All (λ (w : Waiting). w.id < came) queue kept.known) kept.named;
      }

  its_known : (moment : ℕ) (queue queue' : List Waiting) (given : Option Given) → GivesHead queue [] given queue' → All (λ w. w.id < came) queue → IfSome (option_map (sent_at moment) given) (λ (s : Sent). s.id < came)
  its_known moment [] queue' given g all = rw g.1 tt
  its_known moment (w ∷ rest) queue' given g all = rw g.1 (all_first (λ w. w.id < came) (w ∷ rest) rest w refl all).0

  has_served : (seed : Seed) (steps : List Step) (moment : ℕ) (queue' : List Waiting) (given : Option Given) → GivesHead queue [] given queue' → refusal_of (progress_of queue came steps events).standing.state (Dequeue moment) ≡ None
      → HasServed (fifo p seed) (progress_of queue came steps events) moment (option_map (sent_at moment) given) (progress_of queue' came (steps ++ Dequeue moment ∷ []) (events ++ sent_events moment given))
  has_served seed steps moment queue' given g fits = record {
    gives = record {
      fits = fits;
      given = given;
      made = sent_events moment given;
      serves = record { dropped = []; queues = g; told = refl; next_id = refl; last = last_push steps (Dequeue moment); closed = refl };
      journal = refl;
      told = refl;
    };
    steps = refl;
    known = its_known moment queue queue' given g kept.known;
    few = few_sent p chooser came queue' (events ++ sent_events moment given) (sent ++ given_packet given) lost (served_kept moment queue' given g);
  }

  -- so where it gives none
  pub serves_none : (v : FifoQueue) (seed : Seed) (made_for : MadeFor) (steps steps' : List Step) (moment : ℕ) → v ≡ seen seed made_for steps → queue ≡ [] → steps' ≡ steps ++ Dequeue moment ∷ []
      → refusal_of v.so_far.standing.state (Dequeue moment) ≡ None → HasServed (fifo v.setting.params v.setting.seed) v.so_far moment None (progress_of queue came steps' events)
  serves_none v seed made_for steps steps' moment is none made fits =
      let fits' : refusal_of (progress_of queue came steps events).standing.state (Dequeue moment) ≡ None = subst (λ (x : FifoQueue). refusal_of x.so_far.standing.state (Dequeue moment) ≡ None) is fits in
      let gives : GivesHead queue [] None queue = subst (λ (q : List Waiting). GivesHead q [] None q) (sym none) (refl, refl, refl) in
      rw (is, made) (subst (λ (es : List Event). HasServed (fifo p seed) (progress_of queue came steps events) moment None (progress_of queue came (steps ++ Dequeue moment ∷ []) es)) (append-nil events) (has_served seed steps moment queue None gives fits'))

  -- and where it gives its head
  module _ (queue' : List Waiting) (head : Waiting) (moment : ℕ) (events' : List Event) (first : queue ≡ head ∷ queue') (told : events' ≡ events ++ sent_event moment NoMark head ∷ []) where
    abbrev its : Given
    its = record { waiting = head; mark = NoMark }

    its_head : GivesHead queue [] (Some its) queue'
    its_head = subst (λ (q : List Waiting). GivesHead q [] (Some its) queue') (sym first) (refl, refl, refl)

    pub head_kept : (sent' lost' : List Waiting) → sent' ≡ sent ++ head ∷ [] → lost' ≡ lost → IsKept p chooser came queue' events' sent' lost'
    head_kept sent' lost' left gone = rw (told, left, gone) (served_kept moment queue' (Some its) its_head)

    pub serves_head : (v : FifoQueue) (seed : Seed) (made_for : MadeFor) (steps steps' : List Step) → v ≡ seen seed made_for steps → steps' ≡ steps ++ Dequeue moment ∷ []
        → refusal_of v.so_far.standing.state (Dequeue moment) ≡ None
        → HasServed (fifo v.setting.params v.setting.seed) v.so_far moment (Some (sent_at moment its)) (progress_of queue' came steps' events')
    serves_head v seed made_for steps steps' is made fits =
        let fits' : refusal_of (progress_of queue came steps events).standing.state (Dequeue moment) ≡ None = subst (λ (x : FifoQueue). refusal_of x.so_far.standing.state (Dequeue moment) ≡ None) is fits in
        rw (is, made, told) (has_served seed steps moment queue' (Some its) its_head fits')

  -- WHAT IT TAKES IN

  abbrev arriving : ℕ → PacketParts → Waiting
  arriving moment packet = record { id = came; stamp = moment; packet = packet }

  abbrev arrival_events : ℕ → ℕ → PacketParts → List Waiting → List Event
  arrival_events moment flow packet gone = Accepted 0 came moment flow packet ∷ map (drop_event moment cause.Overflow) gone

  takes_all : (P : Waiting → Type 0) (moment : ℕ) (queue queue' gone : List Waiting) (w : Waiting) → TakesIn p.limit queue w gone queue' → All P queue → P w
      → All P queue' × (length (fate_ids (map (drop_event moment cause.Overflow) gone)) + length queue' ≡ length queue + 1)
  takes_all P moment queue queue' gone w (inl t) all its = let more = length_push queue w in rw (t.1, t.2) (All-push P queue w all its, omega arith)
  takes_all P moment queue queue' gone w (inr t) all its = rw (t.1, t.2) (all, omega arith)

  arrived_kept : (moment flow : ℕ) (packet : PacketParts) (queue' gone : List Waiting) → TakesIn p.limit queue (arriving moment packet) gone queue'
      → IsKept p chooser (came + 1) queue' (events ++ arrival_events moment flow packet gone) sent (lost ++ gone)
  arrived_kept moment flow packet queue' gone takes =
      let before = All-weaker (λ (w : Waiting). w.id < came) (λ w. w.id < came + 1) (λ w low. omega arith) queue kept.known in
      let its : (arriving moment packet).id < came + 1 = omega arith in
      let all = takes_all (λ w. w.id < came + 1) moment queue queue' gone (arriving moment packet) takes before its in
      let more = fates_more events (arrival_events moment flow packet gone) in
      let one = all.1 in
      let many = kept.many in
      record {
        chooses = kept.chooses;
        known = all.0;
        many = omega arith;
        named = takes_named came moment flow packet events queue sent lost kept.named p.limit queue' gone takes;
      }

  has_arrived : (seed : Seed) (steps : List Step) (moment : ℕ) (packet : PacketParts) (queue' gone : List Waiting) → TakesIn p.limit queue (arriving moment packet) gone queue'
      → refusal_of (progress_of queue came steps events).standing.state (Enqueue moment 0 packet) ≡ None
      → HasArrived (fifo p seed) (progress_of queue came steps events) moment packet
      (progress_of queue' (came + 1) (steps ++ Enqueue moment 0 packet ∷ []) (events ++ arrival_events moment (flow_number p.classify p.flows seed packet.tuple) packet gone))
  has_arrived seed steps moment packet queue' gone takes fits = record {
    advances = record {
      fits = fits;
      made = arrival_events moment (flow_number p.classify p.flows seed packet.tuple) packet gone;
      makes = (refl, record { lost = gone; queues = takes; told = refl; next_id = refl; last = last_push steps (Enqueue moment 0 packet); closed = refl });
      journal = refl;
    };
    steps = refl;
  }

-- What an arrival leaves of a FIFO: the packet waits, or is lost, and the recorder was told so.
pub record Took (p p' : ParamFields) (chooser chooser' : Choosing) (came came' moment flow : ℕ) (packet : PacketParts) (queue queue' : List Waiting) (events events' : List Event) (sent sent' lost lost' : List Waiting) : Type 0 where
  pub gone : List Waiting
  pub takes : TakesIn p.limit queue (record { id = came; stamp = moment; packet = packet }) gone queue'
  pub told : events' ≡ events ++ Accepted 0 came moment flow packet ∷ map (drop_event moment cause.Overflow) gone
  pub left : sent' ≡ sent
  pub dropped : lost' ≡ lost ++ gone
  pub params : p' ≡ p
  pub choosing : chooser' ≡ chooser
  pub count : came' ≡ came

module _ (p p' : ParamFields) (chooser chooser' : Choosing) (came came' moment flow : ℕ) (packet : PacketParts) (queue queue' : List Waiting) (events events' : List Event) (sent sent' lost lost' : List Waiting)
    (took : Took p p' chooser chooser' came came' moment flow packet queue queue' events events' sent sent' lost lost') (kept : IsKept p chooser came queue events sent lost) where
  pub took_kept : IsKept p' chooser' (came' + 1) queue' events' sent' lost'
  took_kept = rw (took.params, took.choosing, took.count, took.told, took.left, took.dropped) (arrived_kept p chooser came queue events sent lost kept moment flow packet queue' took.gone took.takes)

  pub took_in : (v : FifoQueue) (seed : Seed) (made_for : MadeFor) (steps steps' : List Step) → flow ≡ flow_number p.classify p.flows seed packet.tuple
      → v ≡ record { setting = record { params = p; seed = seed; made_for = made_for }; so_far = progress_of queue came steps events } → steps' ≡ steps ++ Enqueue moment 0 packet ∷ []
      → refusal_of v.so_far.standing.state (Enqueue moment 0 packet) ≡ None
      → HasArrived (fifo v.setting.params v.setting.seed) v.so_far moment packet (progress_of queue' (came' + 1) steps' events')
  took_in v seed made_for steps steps' chosen is made fits =
      let fits' : refusal_of (progress_of queue came steps events).standing.state (Enqueue moment 0 packet) ≡ None = subst (λ (x : FifoQueue). refusal_of x.so_far.standing.state (Enqueue moment 0 packet) ≡ None) is fits in
      rw (is, made, took.count, took.told, chosen) (has_arrived p chooser came queue events sent lost kept seed steps moment packet queue' took.gone took.takes fits')
