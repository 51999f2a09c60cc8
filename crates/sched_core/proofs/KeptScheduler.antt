-- How an acceptance, a dequeue and a close keep the flows and their journal.
use Rattle.std.proofs.Common.{◌≡◌, ℕ, zero, suc, ◌+◌, ◌-◌, ◌<◌, ◌≤◌, ◌^◌, Bool, true, false, not, All, List, [], ◌∷◌, ◌++◌, map, get_or, length, sum_by, Option, Some, None, option_map, refl, sym, ap, subst, ◌∙◌, inl, inr, arith, append_assoc, append-nil, length-append}
use mir.Val.{bool_byte}
use Rattle.std.specs.List.{AllByRecursion, flat_map}
use Rattle.std.proofs.Math.Nat.{mul_comm, one-le-pow, pow-suc}
use Rattle.std.proofs.lemmas.Bool.{cases_lt, eq-eqb}
use Rattle.std.proofs.lemmas.List.{length-map, length-set}
use Rattle.std.proofs.lemmas.List.Elements.{All-filter, filter_map-append, recursion_from_All}
use Rattle.std.proofs.lemmas.List.FromFn.{length-range_with_len}
use Rattle.packet_core.specs.Packets.{PacketParts}
use Rattle.packet_core.specs.declared.flow.Seed.{Seed}
use Rattle.packet_core.specs.declared.packet.Waiting.{Waiting}
use Rattle.packet_core.specs.declared.params.ParamFields.{ParamFields}
use Rattle.codel_core.specs.Verdict.{sent_ecn}
use Rattle.codel_core.specs.declared.served.Served.{Served}
use Rattle.flow_core.specs.FlowLists.{queue_at, waiting_in}
use Rattle.flow_core.specs.Winners.{CountsFew, IsLevels}
use Rattle.journal_core.specs.MadeFor.{MadeFor}
use Rattle.journal_core.specs.declared.event.Cause.{Cause}
use Rattle.journal_core.specs.declared.event.Cause.TheVariants as cause
use Rattle.journal_core.specs.declared.event.Event.{Event}
use Rattle.journal_core.specs.declared.event.Event.TheVariants.{Accepted, Sent, Closed}
use Rattle.journal_core.specs.declared.outcome.Answer.{Answer}
use Rattle.journal_core.specs.declared.outcome.Answer.TheVariants as answer
use Rattle.journal_core.specs.declared.step.Step.{Step}
use Rattle.journal_core.specs.declared.step.Step.TheVariants.{Enqueue, Dequeue, Close}
use Rattle.fair_core.specs.HeldQueues.{DropsOverflow, Held, MakesChain, leaving, shown_service, with_arrival_listed}
use Rattle.journal_core.specs.Books.{Book, count_accepted, count_drops, count_sent, with_departure, with_event}
use Rattle.journal_core.specs.Calls.{Advances, Standing, sent_at}
use Rattle.journal_core.specs.Disciplines.{Batch, Given, IsFifoByFlow, given_packet, heads, packets_of, with_arrival}
use Rattle.fair_core.specs.FairQueueing.{Arrives, ServesNext, dropped_in, given_in}
use Rattle.fair_core.specs.FairQueues.{AreSound, FairQueues, queue_of}
use Rattle.journal_core.specs.JournalDrops.{with_drops}
use Rattle.fair_core.specs.FqCodel.{fq_codel, fq_codel_policy}
use Rattle.journal_core.specs.Happened.{Acceptance, acceptance_of, acceptances, fate_ids, fate_of, is_among, without_fate}
use Rattle.journal_core.specs.History.{AreCounts, IsHistory}
use Rattle.journal_core.specs.JournalLaws.{JournalLaws, WaitWithoutFate}
use Rattle.journal_core.specs.Losses.{AreGivenBackOnce, departed_packets, lost_packets, with_field}
use Rattle.sched_core.specs.declared.sched.Sched.TheInside.{Inside}
use Rattle.sched_core.specs.Kept.{IsBookKept, IsSchedulerKept, closes_left, scheduler_of}
use Rattle.fair_core.specs.Overflow.{Overflow}
use Rattle.sched_core.specs.EnqueueRooms.{TakesMemory}
use Rattle.sched_core.specs.Schedulers.{ComparesFew, IsMadeFor, IsServed, Scheduler, discipline_of, flows_of}
use Rattle.journal_core.specs.State.{State, arrival, refusal_of}
use Rattle.journal_core.specs.Statistics.{length_named, statistics}
use Rattle.journal_core.specs.Steps.{Serves, dequeue_answer, drop_event, sent_events}
use Rattle.fair_core.specs.Turns.{Service, service_in}
use Rattle.flow_core.proofs.NodeLemmas.{levels_least}
use Rattle.flow_core.proofs.ReadLemmas.{length-at}
use Rattle.journal_core.proofs.CountLemmas.{counts_accept, counts_close, counts_drops, counts_send}
use Rattle.sched_core.proofs.EventCounts.{number_of_events}
use Rattle.journal_core.proofs.EventLemmas.{all_found}
use Rattle.journal_core.proofs.HistoryEvents.{history_accepts}
use Rattle.journal_core.proofs.HistoryRuns.{keeps_makes}
use Rattle.journal_core.proofs.KnownPackets.{IsKnown, known_length, waiting_known}
use Rattle.journal_core.proofs.LawsOfHistory.{laws_of_history, waits_of_history}
use Rattle.journal_core.proofs.ListLemmas.{ByRecursion-append, ByRecursion-parts, ByRecursion-weaker, length_as_sum}
use Rattle.journal_core.proofs.LossLemmas.{departures_accept, departures_drops, departures_same, departures_send, drops_accepted, losses_accept, losses_drops, losses_same}
use Rattle.journal_core.proofs.PacketsGivenBack.{given_back_once}
use Rattle.journal_core.proofs.RefusalLemmas.{close_open, dequeue_next, enqueue_open}
use Rattle.journal_core.proofs.WaitingPackets.{by_queues}
use Rattle.fair_core.proofs.ComparisonLemmas.{counts_on}
use Rattle.fair_core.proofs.FairFifo.{fair_is_fifo}
use Rattle.fair_core.proofs.FqCodelPolicy.{policy_drops}
use Rattle.fair_core.proofs.NewFlowsFirst.{new_flows_first}
use Rattle.fair_core.proofs.ServingChains.{chain_bound}
use Rattle.fair_core.proofs.SoundFlows.{makes_as_many}
use Rattle.fair_core.proofs.CreditRanges.{credits_weaker, makes_credits, short_bound}
use Rattle.fair_core.proofs.RunInvariants.{AcceptsFitting}
use Rattle.fair_core.specs.Credits.{AreCreditsKept}
use Rattle.sched_core.specs.Shares.{longest}
use Rattle.sched_core.proofs.FqCodelRuns.{flow_below}
use Rattle.sched_core.proofs.LongestPackets.{longest_grows, longest_least, longest_most}

-- the least number of doublings that gives each flow a leaf
levels_over : (flows : ℕ) → (levels : ℕ) × IsLevels flows levels
levels_over zero = (0, record { enough = omega arith; least = λ fewer few. omega arith })
levels_over (suc n) =
    let tree = levels_over n in
    elim (cases_lt (2 ^ tree.0) (suc n)) [
      | inl full ↦ (suc tree.0, levels_least (suc n) (suc tree.0) (omega (arith, pow-suc 2 tree.0, tree.1.enough, one-le-pow tree.0 2 (omega arith))) (omega (arith, pow-suc 2 tree.0)))
      | inr wide ↦ (tree.0, record { enough = wide; least = λ fewer few. tree.1.least fewer (omega arith) })
    ]

-- A step whose comparisons are few for so many changes, and which has as many events.
pub few_compared : (old new : Scheduler) (changes : ℕ) → length new.standing.events ≡ length old.standing.events + changes → CountsFew old.params.flows changes 0 new.comparisons → ComparesFew old new
few_compared old new changes events few =
    let tree = levels_over old.params.flows in
    let made : length new.standing.events - length old.standing.events ≡ changes = omega arith in
    record { levels = tree.0; over_flows = tree.1; most = rw made (omega (arith, few.most tree.0 tree.1, mul_comm tree.0 changes)) }

-- the state of flows at that moment
abbrev pub state_of : Held → ℕ → Bool → State FairQueues
state_of held last closed = record { queues = held.queues; next_id = held.arrived; last = last; closed = closed }

abbrev standing_of : State FairQueues → Book → Standing FairQueues
standing_of s book = record { state = s; events = book.events }

-- The journal names the packet, as it waits.
abbrev IsNamed : List Event → Waiting → Type 0
IsNamed events w = IsKnown (acceptances events) w

-- and then its length
lengths_named : (events : List Event) (ws : List Waiting) → AllByRecursion (IsNamed events) ws → AllByRecursion (λ (w : Waiting). length_named (acceptances events) w.id ≡ w.packet.len) ws
lengths_named events ws named = ByRecursion-weaker (IsNamed events) (λ (w : Waiting). length_named (acceptances events) w.id ≡ w.packet.len) ws (known_length (acceptances events)) named

-- each drop is a fate, and so is what is sent
all_fates : (moment : ℕ) (why : Cause) (ws : List Waiting) (given : Option Given) → let made = map (drop_event moment why) ws ++ sent_events moment given in
    length (fate_ids made) ≡ length made
all_fates moment why [] None = refl
all_fates moment why [] (Some g) = refl
all_fates moment why (w ∷ ws) given = ap suc (all_fates moment why ws given)

module _ (p : ParamFields) (seed : Seed) where
  abbrev pub fifo : IsFifoByFlow (fq_codel p seed) queue_of
  fifo = fair_is_fifo (fq_codel_policy p) (policy_drops p) p.flows (fq_codel p seed).flow_of

  -- as many wait as have no fate
  pub waits_at : (s : State FairQueues) (events : List Event) → 0 < p.flows → length s.queues.lists.queues ≡ p.flows
      → IsHistory (fq_codel p seed).flow_of (queue_of s.queues) events s.next_id s.last s.closed → waiting_in s.queues.lists ≡ length (without_fate events)
  waits_at s events some flows h =
      let queues = s.queues.lists.queues in
      let waits = waits_of_history (fq_codel p seed).flow_of (queue_of s.queues) events s.next_id s.last s.closed h in
      let Among = λ (a : Acceptance). (0 ≤ a.flow) × (a.flow < 0 + length queues) in
      let among : All Among (acceptances events) = λ i a under.
      let named = h.flows i a under in
      let below = flow_below p.classify p.flows seed ((get_or (acceptances events) i a).packet.tuple) some in
      omega arith in
      (λ j. sum_by (λ q. length_as_sum q j) queues)
      ∙ by_queues (λ _. 1) 0 queues (without_fate events) (λ i under. rw (let e : 0 + i ≡ i = omega arith in e) (waits i))
      (recursion_from_All Among (without_fate events) (All-filter (λ a. not (is_among (fate_ids events) a.id)) Among (acceptances events) among))
      ∙ sym (length_as_sum (without_fate events))

  -- A step that is made, whose events took their room and are counted, and whose losses were told: each event is a fate,
  -- the acceptance or the close.
  kept_on : {old new : State FairQueues} {capacity capacity' enqueue_room enqueue_room' : ℕ} {book book' : Book} (step : Step) (said : Answer) → IsBookKept p seed old capacity book enqueue_room
      → (a : Advances (fq_codel p seed) (standing_of old book) step said (standing_of new book')) → book'.room ≡ book.room - length a.made → AreCounts book'.counts book'.events → book'.sent ≡ departed_packets book'.events → book'.lost ≡ lost_packets book'.events
      → length a.made + old.next_id + closes_left new.closed ≡ length (fate_ids a.made) + new.next_id + closes_left old.closed → new.next_id ≤ 2 ^ 40 → new.last < 2 ^ 60
      → capacity ≤ capacity' → enqueue_room' + new.next_id ≡ enqueue_room + old.next_id → IsBookKept p seed new capacity' book' enqueue_room'
  kept_on {old} {new} {capacity} {capacity'} {enqueue_room} {enqueue_room'} {book} {book'} step said h a taken counts sent lost each few soon more spares =
      let d = fq_codel p seed in
      let flows = makes_as_many (fq_codel_policy p) (policy_drops p) p.flows d.flow_of old new step said a.made a.makes ∙ h.flows in
      let history : IsHistory d.flow_of (queue_of new.queues) book'.events new.next_id new.last new.closed =
      rw a.journal (keeps_makes d queue_of fifo old new step said a.made book.events a.fits a.makes h.history) in
      let waits = waits_at old book.events h.some h.flows h.history in
      let waits' = waits_at new book'.events h.some flows history in
      let fates = ap (λ (es : List Event). length (fate_ids es)) a.journal ∙ ap length (filter_map-append fate_of book.events a.made) ∙ length-append (fate_ids book.events) (fate_ids a.made) in
      let grown = ap length a.journal ∙ length-append book.events a.made in
      let ids = sym (length-map (acceptances book'.events) (λ (a : Acceptance). a.id)) ∙ ap length history.ids ∙ length-range_with_len 0 new.next_id in
      record {
        some = h.some;
        flows = flows;
        space = omega (arith, h.space, h.history.left, history.left);
        reserved = omega (arith, h.reserved, h.history.left, history.left);
        long = omega (arith, h.long, h.history.left, history.left);
        accepted = counts.accepted ∙ ids;
        few = few;
        soon = soon;
        history = history;
        sent = sent;
        lost = lost;
        counts = counts;
        credits = makes_credits (fq_codel_policy p) (policy_drops p) (longest (acceptances book'.events)) p.flows d.flow_of old new step said a.made a.makes (fitting a) (credits_weaker p.quantum (longest (acceptances book.events)) (longest (acceptances book'.events)) old.queues (longer a) h.credits);
      }
    where
      -- no packet so far was longer than the longest, which grows
      fitting : (a : Advances (fq_codel p seed) (standing_of old book) step said (standing_of new book')) → AcceptsFitting (λ packet. packet.len ≤ longest (acceptances book'.events)) a.made
      fitting a = (ByRecursion-parts (λ (x : Acceptance). x.packet.len ≤ longest (acceptances book'.events)) (acceptances book.events) (acceptances a.made) (rw (← filter_map-append acceptance_of book.events a.made, ← a.journal) (longest_most (acceptances book'.events)))).1

      longer : (a : Advances (fq_codel p seed) (standing_of old book) step said (standing_of new book')) → longest (acceptances book.events) ≤ longest (acceptances book'.events)
      longer a = rw (a.journal, filter_map-append acceptance_of book.events a.made) (longest_grows (acceptances book.events) (acceptances a.made))

  -- a close
  pub kept_closes : {s : State FairQueues} {capacity enqueue_room : ℕ} {book : Book} (moment : ℕ) → refusal_of s (Close moment) ≡ None
      → IsBookKept p seed s capacity book enqueue_room → IsBookKept p seed (record s { last = moment; closed = true }) capacity (with_event book (Closed moment) book.counts) enqueue_room
  kept_closes {s} {book = book} moment fits h =
      let open' = close_open s moment fits in
      let one : closes_left s.closed ≡ 1 = ap closes_left open'.open' in
      kept_on (Close moment) answer.Closed h (record { fits = fits; made = Closed moment ∷ []; makes = (refl, record { told = refl; state = refl }); journal = refl })
      refl (counts_close book.counts book.events moment h.counts) (h.sent ∙ sym (departures_same book.events (Closed moment) refl (λ _. refl))) (h.lost ∙ sym (losses_same book.events (Closed moment) refl refl)) (omega arith) h.few open'.next.soon (omega arith) refl

-- one close at most is still to come
one_close : (closed : Bool) → closes_left closed ≤ 1
one_close true = omega arith
one_close false = omega arith

-- what is kept with the memory that is taken
pub kept_takes : {p : ParamFields} {seed : Seed} {held held' : Held} {book book' : Book} {last enqueue_room enqueue_room' : ℕ} {closed : Bool} (m : TakesMemory enqueue_room held book enqueue_room' held' book')
    → IsBookKept p seed (state_of held last closed) held.capacity book enqueue_room
    → IsBookKept p seed (state_of held last closed) m.capacity (record book { room = m.events }) enqueue_room'
kept_takes {closed = closed} m h =
    let enough = m.enough (closes_left closed) (one_close closed) (record { places = h.reserved; events = h.space }) in
    record {
      some = h.some;
      flows = h.flows;
      space = rw (m.in_flows, m.in_journal) at enough.events;
      reserved = rw m.in_flows at enough.places;
      long = h.long;
      accepted = h.accepted;
      few = h.few;
      soon = h.soon;
      history = h.history;
      sent = h.sent;
      lost = h.lost;
      counts = h.counts;
      credits = h.credits;
    }

-- what holds at the heads of all queues holds of each batch that leaves them
all_in_batches : (P : Waiting → Type 0) (batches : List Batch)
    → ((f : ℕ) → AllByRecursion P (flat_map (λ (b : Batch). heads b.flow b.gone f) batches)) → AllByRecursion P (packets_of batches)
all_in_batches P [] each = tt
all_in_batches P (b ∷ batches) each =
    let parts = λ (f : ℕ). ByRecursion-parts P (heads b.flow b.gone f) (flat_map (λ (c : Batch). heads c.flow c.gone f) batches) (each f) in
    ByRecursion-append P b.gone (packets_of batches) (rw (eq-eqb b.flow b.flow refl) at ((parts b.flow).0)) (all_in_batches P batches (λ f. (parts f).1))

-- the event of an acceptance, and the journal with it
abbrev accepted : ParamFields → Seed → Held → ℕ → ℕ → PacketParts → Event
accepted p seed held moment lane packet = Accepted lane held.arrived moment ((fq_codel p seed).flow_of packet.tuple) packet

abbrev recorded : ParamFields → Seed → Held → Book → ℕ → ℕ → PacketParts → Book
recorded p seed held book moment lane packet = with_event book (accepted p seed held moment lane packet) (count_accepted book.counts packet.len)

-- What the code does with a packet that is accepted: it arrives, which is recorded, and what overflows is dropped.
pub record Accepts (p : ParamFields) (seed : Seed) (held mid new : Held) (book book' : Book) (last moment lane enqueue_room : ℕ) (packet : PacketParts) (closed : Bool) : Type 0 where
  pub fits : refusal_of (state_of held last closed) (Enqueue moment lane packet) ≡ None
  pub some : 0 < enqueue_room
  pub kept : IsBookKept p seed (state_of held last closed) held.capacity book enqueue_room
  pub listed : mid.queues ≡ with_arrival_listed p held.queues ((fq_codel p seed).flow_of packet.tuple) (arrival (state_of held last closed) moment packet)
  pub arrived : mid.arrived ≡ held.arrived + 1
  pub reserved : mid.capacity ≡ held.capacity
  pub few_comparisons : CountsFew (length held.queues.lists.queues) 1 0 mid.comparisons
  pub drops : DropsOverflow p moment mid (recorded p seed held book moment lane packet) new book'

module _ {p : ParamFields} {seed : Seed} {held mid new : Held} {book book' : Book} {last moment lane enqueue_room : ℕ} {packet : PacketParts} {closed : Bool}
    (a : Accepts p seed held mid new book book' last moment lane enqueue_room packet closed) where
  abbrev flow : ℕ
  flow = (fq_codel p seed).flow_of packet.tuple

  abbrev w : Waiting
  w = arrival (state_of held last closed) moment packet

  abbrev lost : List Waiting
  lost = packets_of a.drops.batches

  pub arrives : Arrives (fq_codel_policy p) held.queues flow w lost new.queues
  arrives = record {
    within = rw a.kept.flows (flow_below p.classify p.flows seed packet.tuple a.kept.some);
    batches = a.drops.batches;
    overflow = subst (λ (s : FairQueues). Overflow p s.lists.queues a.drops.batches new.queues.lists.queues) a.listed a.drops.overflow;
    lost_in_order = refl;
    rest = ap (λ (h : Held). h.queues) a.drops.rest ∙ ap (λ (s : FairQueues). record s { lists = record (s.lists) { queues = new.queues.lists.queues } }) a.listed;
  }

  abbrev pub advances : Advances (fq_codel p seed) (standing_of (state_of held last closed) book) (Enqueue moment lane packet) answer.Accepted (standing_of (state_of new moment closed) book')
  advances = record {
    fits = a.fits;
    made = accepted p seed held moment lane packet ∷ map (drop_event moment cause.Overflow) lost;
    makes = (refl, record { lost = lost; queues = arrives; told = refl; next_id = ap (λ (h : Held). h.arrived) a.drops.rest ∙ a.arrived; last = refl; closed = refl });
    journal = ap (λ (b : Book). b.events) a.drops.journal
        ∙ append_assoc book.events (accepted p seed held moment lane packet ∷ []) (map (drop_event moment cause.Overflow) lost);
  }

  -- the journal names what overflows
  named : AllByRecursion (IsNamed (recorded p seed held book moment lane packet).events) lost
  named =
      let events = (recorded p seed held book moment lane packet).events in
      let known = (enqueue_open (state_of held last closed) moment lane packet a.fits).0 in
      let before = rw known.open' at a.kept.history in
      let history = history_accepts (fq_codel p seed).flow_of book.events held.arrived last (queue_of held.queues) moment lane packet before known.next.later in
      let waiting = waiting_known (fq_codel p seed).flow_of (with_arrival (queue_of held.queues) flow w) events (held.arrived + 1) moment false history in
      let leave = (fifo p seed).admits held.queues w lost new.queues arrives in
      rw leave.1 (all_in_batches (IsNamed events) leave.0
      (λ f. (ByRecursion-parts (IsNamed events) _ (queue_of new.queues f) (subst (AllByRecursion (IsNamed events)) (leave.2 f) (waiting f))).0))

  pub kept_admits : IsBookKept p seed (state_of new moment closed) new.capacity book' (enqueue_room - 1)
  kept_admits =
      let h = a.kept in
      let found = all_found (acceptances book.events) held.arrived (fate_ids book.events) h.history.ids (recursion_from_All (λ id. id < held.arrived) (fate_ids book.events) h.history.known) in
      let first = counts_accept book.counts book.events held.arrived moment lane flow packet found h.counts in
      let entered = recorded p seed held book moment lane packet in
      let counts = counts_drops cause.Overflow moment _ _ lost (lengths_named entered.events lost named) first in
      let told : entered.lost ++ lost ≡ lost_packets (with_drops entered moment cause.Overflow lost).events =
      ap (λ l. l ++ lost) (h.lost ∙ sym (losses_accept book.events held.arrived moment lane flow packet found)) ∙ sym (losses_drops moment cause.Overflow entered.events lost named) in
      let departed : entered.sent ≡ departed_packets (with_drops entered moment cause.Overflow lost).events =
      h.sent ∙ sym (departures_accept book.events held.arrived moment lane flow packet found) ∙ sym (departures_drops moment cause.Overflow entered.events lost) in
      let left = ap (λ (b : Book). b.room) a.drops.journal in
      let each = length-map lost (drop_event moment cause.Overflow) in
      let memory_is : new.capacity ≡ mid.capacity = ap (λ (x : Held). x.capacity) a.drops.rest in
      let next : new.arrived ≡ held.arrived + 1 = ap (λ (h : Held). h.arrived) a.drops.rest ∙ a.arrived in
      let open' = enqueue_open (state_of held last closed) moment lane packet a.fits in
      let drops = map (drop_event moment cause.Overflow) lost in
      let fates : length (fate_ids drops) ≡ length drops = rw append-nil at (all_fates moment cause.Overflow lost None) in
      kept_on p seed (Enqueue moment lane packet) answer.Accepted h advances (omega arith) (rw a.drops.journal counts) (rw a.drops.journal departed) (rw a.drops.journal told)
      (omega arith) (omega (arith, open'.1)) open'.0.next.soon (omega (arith, memory_is, a.reserved)) (omega (arith, a.some))

  -- the comparisons since the arrival, and the events
  pub few_admitted : CountsFew p.flows (1 + length lost) 0 new.comparisons
  few_admitted =
      let flows : length mid.queues.lists.queues ≡ p.flows =
      ap (λ (s : FairQueues). length s.lists.queues) a.listed ∙ length-set held.queues.lists.queues flow (queue_at held.queues.lists flow ++ w ∷ []) ∙ a.kept.flows in
      counts_on p.flows 1 (length lost) 0 mid.comparisons new.comparisons (rw a.kept.flows at a.few_comparisons) (rw flows at a.drops.few_comparisons)

  pub grown : length book'.events ≡ length book.events + (1 + length lost)
  grown = omega (arith, ap length advances.journal, length-append book.events advances.made, length-map lost (drop_event moment cause.Overflow))

-- The dequeue: the journal, once the packet that is served is sent, if one is.
abbrev pub with_sent : Book → ℕ → Option Served → Book
with_sent book moment None = book
with_sent book moment (Some s) = with_departure book (Sent s.waiting.id moment s.waiting.packet.ecn s.mark) (count_sent book.counts s.waiting.packet.len s.mark) s.waiting

abbrev served_book : Book → ℕ → Option Service → Book
served_book book moment service = with_sent (with_drops book moment cause.Codel (dropped_in service)) moment (option_map shown_service service)

abbrev served_events : ℕ → Option Service → List Event
served_events moment service = map (drop_event moment cause.Codel) (dropped_in service) ++ sent_events moment (given_in service)

abbrev packets_in : Option Service → List Waiting
packets_in service = dropped_in service ++ given_packet (given_in service)

-- one event for each packet that leaves, which took its room
served_grown : (book : Book) (moment : ℕ) (service : Option Service) → (served_book book moment service).events ≡ book.events ++ served_events moment service
served_grown book moment None = refl
served_grown book moment (Some s) = append_assoc book.events (map (drop_event moment cause.Codel) s.dropped) (sent_events moment (Some s.given))

served_length : (moment : ℕ) (service : Option Service) → length (served_events moment service) ≡ leaving service
served_length moment None = refl
served_length moment (Some s) =
    length-append (map (drop_event moment cause.Codel) s.dropped) (sent_events moment (Some s.given)) ∙ ap (λ n. n + 1) (length-map s.dropped (drop_event moment cause.Codel))

served_room : (book : Book) (moment : ℕ) (service : Option Service) → (served_book book moment service).room ≡ book.room - length (served_events moment service)
served_room book moment None = refl
served_room book moment (Some s) = let many = served_length moment (Some s) in omega arith

-- and which is counted
served_counts : (book : Book) (moment : ℕ) (service : Option Service) → AllByRecursion (IsNamed book.events) (packets_in service) → AreCounts book.counts book.events
    → AreCounts (served_book book moment service).counts (served_book book moment service).events
served_counts book moment None named h = counts_drops cause.Codel moment book.counts book.events [] tt h
served_counts book moment (Some s) named h =
    let drops = map (drop_event moment cause.Codel) s.dropped in
    let parts = ByRecursion-parts (IsNamed book.events) s.dropped (s.given.waiting ∷ []) named in
    counts_send (count_drops cause.Codel book.counts s.dropped) (book.events ++ drops) s.given.waiting.id moment (sent_ecn s.given.mark s.given.waiting.packet.ecn) s.given.mark s.given.waiting.packet.len
    (rw (drops_accepted moment cause.Codel book.events s.dropped) (known_length (acceptances book.events) s.given.waiting parts.1.0))
    (counts_drops cause.Codel moment book.counts book.events s.dropped (lengths_named book.events s.dropped parts.0) h)

-- and which is lost where it is dropped
served_losses : (book : Book) (moment : ℕ) (service : Option Service) → AllByRecursion (IsNamed book.events) (packets_in service) → book.lost ≡ lost_packets book.events
    → (served_book book moment service).lost ≡ lost_packets (served_book book moment service).events
served_losses book moment None named h = ap (λ l. l ++ []) h ∙ sym (losses_drops moment cause.Codel book.events [] tt)
served_losses book moment (Some s) named h =
    let parts = ByRecursion-parts (IsNamed book.events) s.dropped (s.given.waiting ∷ []) named in
    ap (λ l. l ++ s.dropped) h
    ∙ sym (losses_same (book.events ++ map (drop_event moment cause.Codel) s.dropped) (Sent s.given.waiting.id moment (sent_ecn s.given.mark s.given.waiting.packet.ecn) s.given.mark) refl refl ∙ losses_drops moment cause.Codel book.events s.dropped parts.0)

-- and which departs where it is sent
served_departures : (book : Book) (moment : ℕ) (service : Option Service) → AllByRecursion (IsNamed book.events) (packets_in service) → book.sent ≡ departed_packets book.events
    → (served_book book moment service).sent ≡ departed_packets (served_book book moment service).events
served_departures book moment None named h = h ∙ sym (departures_drops moment cause.Codel book.events [])
served_departures book moment (Some s) named h =
    let drops = map (drop_event moment cause.Codel) s.dropped in
    let ecn = sent_ecn s.given.mark s.given.waiting.packet.ecn in
    let parts = ByRecursion-parts (IsNamed book.events) s.dropped (s.given.waiting ∷ []) named in
    ap (λ l. l ++ with_field ecn s.given.waiting ∷ []) (h ∙ sym (departures_drops moment cause.Codel book.events s.dropped))
    ∙ sym (departures_send (book.events ++ drops) s.given.waiting moment ecn s.given.mark (rw (drops_accepted moment cause.Codel book.events s.dropped) parts.1.0))

-- a packet that is given
one_given : (served : Served) (service : Option Service) → Some served ≡ option_map shown_service service → length (given_packet (given_in service)) ≡ 1
one_given served None e = absurd cc
one_given served (Some s) e = refl

module _ (p : ParamFields) (seed : Seed) where
  abbrev seen : State FairQueues → Book → ℕ → ℕ → ℕ → ℕ → Scheduler
  seen s book turns comparisons room capacity = record { params = p; seed = seed; standing = standing_of s book; turns = turns; comparisons = comparisons; room = room; capacity = capacity; made_for = book.made_for }

  module _ {held held' : Held} {book book' : Book} {moment turns : ℕ} {answer : Option Served} (s : MakesChain p moment held book turns answer held' book') where
    abbrev served_next : ServesNext (fq_codel_policy p) moment held.queues (dropped_in (service_in s.turns)) (given_in (service_in s.turns)) held'.queues
    served_next = record { turns = s.turns; chain = s.chain; dropped_by = refl; given_by = refl }

    book_is : with_sent book' moment answer ≡ served_book book moment (service_in s.turns)
    book_is = ap (with_sent book' moment) s.answered.given ∙ ap (λ b. with_sent b moment (option_map shown_service (service_in s.turns))) s.answered.journal

    journal_is : (with_sent book' moment answer).events ≡ book.events ++ served_events moment (service_in s.turns)
    journal_is = ap (λ (b : Book). b.events) book_is ∙ served_grown book moment (service_in s.turns)

    -- what the code does in a dequeue is one of the definition
    abbrev served : (last : ℕ) (closed : Bool) → held'.arrived ≡ held.arrived
        → Serves (fq_codel p seed) (state_of held last closed) moment (given_in (service_in s.turns)) (served_events moment (service_in s.turns)) (state_of held' moment closed)
    served last closed arrived = record { dropped = dropped_in (service_in s.turns); queues = served_next; told = refl; next_id = arrived; last = refl; closed = refl }

    -- what leaves stood at the head of one queue
    left_head : (flow : ℕ) × (queue_of held.queues flow ≡ packets_in (service_in s.turns) ++ queue_of held'.queues flow)
    left_head =
        let leaves = ((fifo p seed).serves held.queues moment (dropped_in (service_in s.turns)) (given_in (service_in s.turns)) held'.queues served_next).0 in
        (leaves.0, rw (eq-eqb leaves.0 leaves.0 refl) at (leaves.1 leaves.0))

  -- a dequeue
  pub kept_serves : (held held' : Held) (book book' : Book) (last moment turns room : ℕ) (closed : Bool) (answer : Option Served) → MakesChain p moment held book turns answer held' book'
      → held'.arrived ≡ held.arrived → held'.capacity ≡ held.capacity → refusal_of (state_of held last closed) (Dequeue moment) ≡ None
      → IsBookKept p seed (state_of held last closed) held.capacity book room → IsBookKept p seed (state_of held' moment closed) held'.capacity (with_sent book' moment answer) room
  kept_serves held held' book book' last moment turns room closed answer s arrived same_memory fits h =
      let left = left_head s in
      let waiting = waiting_known (fq_codel p seed).flow_of (queue_of held.queues) book.events held.arrived last closed h.history left.0 in
      let named = (ByRecursion-parts (IsNamed book.events) (packets_in (service_in s.turns)) (queue_of held'.queues left.0) (rw left.1 at waiting)).0 in
      kept_on p seed (Dequeue moment) (dequeue_answer (given_in (service_in s.turns))) h (record { fits = fits; made = served_events moment (service_in s.turns); makes = (given_in (service_in s.turns), refl, served s last closed arrived); journal = journal_is s })
      (rw (book_is s) (served_room book moment (service_in s.turns))) (rw (book_is s) (served_counts book moment (service_in s.turns) named h.counts))
      (rw (book_is s) (served_departures book moment (service_in s.turns) named h.sent)) (rw (book_is s) (served_losses book moment (service_in s.turns) named h.lost))
      (omega (arith, all_fates moment cause.Codel (dropped_in (service_in s.turns)) (given_in (service_in s.turns)))) (rw arrived h.few) (dequeue_next (state_of held last closed) moment fits).soon (omega (arith, same_memory)) (ap (λ n. room + n) arrived)

  -- what is answered to a dequeue
  pub is_served : (held held' : Held) (book book' : Book) (last moment turns0 turns before after room : ℕ) (closed : Bool) (answer : Option Served) (s : MakesChain p moment held book turns answer held' book')
      → held'.arrived ≡ held.arrived → held'.capacity ≡ held.capacity → AreSound held.queues → 0 < p.quantum → AreCreditsKept p.quantum (longest (acceptances book.events)) held.queues → refusal_of (state_of held last closed) (Dequeue moment) ≡ None
      → IsServed (seen (state_of held last closed) book turns0 before room held.capacity) moment (option_map (λ (s : Service). sent_at moment s.given) (service_in s.turns))
      (seen (state_of held' moment closed) (with_sent book' moment answer) turns after room held'.capacity)
  is_served held held' book book' last moment turns0 turns before after room closed answer s arrived same_memory sound some credits fits =
      let made = served_events moment (service_in s.turns) in
      record {
        gives = record { fits = fits; given = given_in (service_in s.turns); made = made; serves = served s last closed arrived; journal = journal_is s; told = told (service_in s.turns) };
        turns = s.count_is;
        bound = rw s.count_is (chain_bound (fq_codel_policy p) some moment s.turns held.queues held'.queues sound s.chain);
        short = λ shorter. rw s.count_is (
            let bound = chain_bound (fq_codel_policy p) some moment s.turns held.queues held'.queues sound s.chain in
            let few = short_bound p.quantum (longest (acceptances book.events)) held.queues some (longest_least p.quantum (acceptances book.events) some shorter) credits in
            omega arith
            );
        new_first = λ flow first. new_flows_first (fq_codel_policy p) some moment s.turns held.queues held'.queues flow sound first s.chain;
        params = refl;
        seed = refl;
        room = refl;
        capacity = same_memory;
        made_for = with_sent_made_for book' moment answer ∙ ap (λ (b : Book). b.made_for) s.answered.journal;
      }
    where
      with_sent_made_for : (b : Book) (at : ℕ) (given : Option Served) → (with_sent b at given).made_for ≡ b.made_for
      with_sent_made_for b at None = refl
      with_sent_made_for b at (Some s) = refl

      told : (service : Option Service) → option_map (λ (s : Service). sent_at moment s.given) service ≡ option_map (sent_at moment) (given_in service)
      told None = refl
      told (Some s) = refl

  -- the comparisons of a dequeue
  pub few_served : (held held' : Held) (book book' : Book) (last moment turns0 turns before room : ℕ) (closed : Bool) (answer : Option Served) → MakesChain p moment held book turns answer held' book'
      → length held.queues.lists.queues ≡ p.flows → held.comparisons ≡ 0
      → ComparesFew (seen (state_of held last closed) book turns0 before room held.capacity) (seen (state_of held' moment closed) (with_sent book' moment answer) turns held'.comparisons room held'.capacity)
  few_served held held' book book' last moment turns0 turns before room closed answer s flows zero_before =
      let grown = ap length (journal_is s) ∙ length-append book.events (served_events moment (service_in s.turns)) ∙ ap (λ n. length book.events + n) (served_length moment (service_in s.turns)) in
      few_compared _ _ (leaving (service_in s.turns)) grown (rw (flows, zero_before) at s.answered.few_comparisons)

  -- an answer that is there, and one that is not
  pub told_none : (moment : ℕ) (service : Option Service) → None ≡ option_map shown_service service → None ≡ option_map (λ (s : Service). sent_at moment s.given) service
  told_none moment None e = refl
  told_none moment (Some s) e = absurd cc

  pub told_some : (moment : ℕ) (service : Option Service) (served : Served) → Some served ≡ option_map shown_service service
      → Some (record { id = served.waiting.id; moment = moment; packet = served.waiting.packet; mark = served.mark }) ≡ option_map (λ (s : Service). sent_at moment s.given) service
  told_some moment None served e = absurd cc
  told_some moment (Some s) served e = let same : served ≡ shown_service s = cc in ap (λ (v : Served). Some (record { id = v.waiting.id; moment = moment; packet = v.waiting.packet; mark = v.mark })) same

  -- a packet that is given has room for its fate
  pub room_for_sent : (held held' : Held) (book book' : Book) (last moment turns room : ℕ) (closed : Bool) (served : Served) → MakesChain p moment held book turns (Some served) held' book'
      → IsBookKept p seed (state_of held last closed) held.capacity book room → 0 < book'.room
  room_for_sent held held' book book' last moment turns room closed served s h =
      let left = left_head s in
      let parts = ap length left.1 ∙ length-append (packets_in (service_in s.turns)) (queue_of held'.queues left.0) in
      let gone = length-append (dropped_in (service_in s.turns)) (given_packet (given_in (service_in s.turns))) in
      let room_is : book'.room ≡ book.room - length (dropped_in (service_in s.turns)) = ap (λ (b : Book). b.room) s.answered.journal in
      omega (arith, h.space, one_given served (service_in s.turns) s.answered.given, length-at held.queues.lists.queues left.0)

  -- what is kept says nothing of comparisons
  pub kept_counted : (held : Held) (book : Book) (last room comparisons : ℕ) (closed : Bool) → IsBookKept p seed (state_of held last closed) held.capacity book room
      → IsBookKept p seed (state_of (record held { comparisons = comparisons }) last closed) held.capacity book room
  kept_counted held book last room comparisons closed h = h

-- turns leave the recorder made for as many packets as it was
pub kept_made_for : (limit : ℕ) {p : ParamFields} {held held' : Held} {book book' : Book} {moment turns : ℕ} {answer : Option Served} → MakesChain p moment held book turns answer held' book'
    → IsMadeFor limit book.made_for → IsMadeFor limit book'.made_for
kept_made_for limit s h =
    subst (λ (m : MadeFor). IsMadeFor limit m) (sym (ap (λ (b : Book). b.made_for) s.answered.journal)) h

-- what a scheduler's invariant says of the scheduler as callers see it
pub seen_laws : {K : Type 0} (s : Inside K) (v : Scheduler) → scheduler_of s ≡ v → IsSchedulerKept s → JournalLaws (discipline_of v).flow_of v.standing.events
seen_laws s v e h = rw (← e) (laws_of_history (fq_codel s.params s.seed).flow_of (queue_of s.fair_queue.queues) s.journal.events s.fair_queue.arrived s.last_moment s.is_closed h.book.history)

pub seen_waits : {K : Type 0} (s : Inside K) (v : Scheduler) → scheduler_of s ≡ v → IsSchedulerKept s → WaitWithoutFate (queue_of (flows_of v)) v.standing.events
seen_waits s v e h = rw (← e) (waits_of_history (fq_codel s.params s.seed).flow_of (queue_of s.fair_queue.queues) s.journal.events s.fair_queue.arrived s.last_moment s.is_closed h.book.history)

pub seen_queued : {K : Type 0} (s : Inside K) (v : Scheduler) → scheduler_of s ≡ v → IsSchedulerKept s → (statistics v.standing.events).queued ≡ waiting_in (flows_of v).lists
seen_queued s v e h = rw (← e) (sym (waits_at s.params s.seed ((scheduler_of s).standing.state) s.journal.events h.book.some h.book.flows h.book.history))

pub seen_number : {K : Type 0} (s : Inside K) (v : Scheduler) → scheduler_of s ≡ v → IsSchedulerKept s
    → s.journal.counts.accepted + (s.journal.counts.sent + s.journal.counts.dropped_codel + s.journal.counts.dropped_overflow) + bool_byte s.is_closed ≡ length v.standing.events
seen_number s v e h = rw (← e) (
    omega (arith, number_of_events s.journal.events h.book.history.closed_for_good, h.book.counts.accepted, h.book.counts.fates, ap (λ b. bool_byte b) h.book.history.close)
    )

pub seen_balance : {K : Type 0} (s : Inside K) (v : Scheduler) → scheduler_of s ≡ v → IsSchedulerKept s
    → let t = statistics v.standing.events in t.accepted ≡ t.sent + t.dropped_codel + t.dropped_overflow + t.queued
seen_balance s v e h =
    let counts = h.book.counts in
    rw (← e) (omega (arith, h.book.history.left, h.book.accepted, counts.accepted, counts.fates, counts.sent, counts.dropped_codel, counts.dropped_overflow))

pub seen_departures : {K : Type 0} (s : Inside K) (v : Scheduler) → scheduler_of s ≡ v → IsSchedulerKept s → s.journal.sent ≡ departed_packets v.standing.events
seen_departures s v e h = rw (← e) h.book.sent

pub seen_losses : {K : Type 0} (s : Inside K) (v : Scheduler) → scheduler_of s ≡ v → IsSchedulerKept s → s.journal.lost ≡ lost_packets v.standing.events
seen_losses s v e h = rw (← e) h.book.lost

pub seen_once : {K : Type 0} (s : Inside K) (v : Scheduler) → scheduler_of s ≡ v → IsSchedulerKept s → AreGivenBackOnce (flows_of v).lists.queues s.journal.lost v.standing.events
seen_once s v e h =
    rw (← e, h.book.lost)
    (given_back_once (fq_codel s.params s.seed).flow_of s.fair_queue.queues.lists.queues s.journal.events (λ tuple. rw h.book.flows (flow_below s.params.classify s.params.flows s.seed tuple h.book.some)) (seen_laws s (scheduler_of s) refl h) (seen_waits s (scheduler_of s) refl h))
