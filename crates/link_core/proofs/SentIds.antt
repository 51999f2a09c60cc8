-- What a step sends: its ids are known, and there are no more than were accepted.
use Rattle.std.proofs.Common.{◌≡◌, ℕ, ◌+◌, ◌≤◌, All, List, [], ◌∷◌, ◌++◌, length, map, Option, Some, None, option_map, refl, ap, subst, ◌∙◌, arith, length-append}
use Rattle.journal_core.proofs.Words.{AllByRecursion, filter_map, filter_map-append, PacketParts, Given, fate_of, fate_ids, sent_of, IsHistory, State, opening_state, Made, Runs, journal_of, drop_event, sent_events, recursion_from_All}
use Rattle.packet_core.specs.declared.packet.Waiting.{Waiting}
use Rattle.journal_core.specs.declared.event.Cause.{Cause}
use Rattle.journal_core.specs.declared.event.Event.{Event}
use Rattle.journal_core.specs.declared.event.Event.TheVariants.{Accepted, Sent, Dropped, Closed}
use Rattle.journal_core.specs.declared.step.Step.{Step}
use Rattle.journal_core.specs.declared.step.Sent.{Sent as SentPacket}
use Rattle.journal_core.specs.Calls.{sent_at}
use Rattle.journal_core.proofs.HistoryRuns.{keeps_opening, keeps_runs}
use Rattle.journal_core.proofs.ListLemmas.{ByRecursion-parts}
use Rattle.packet_core.specs.FlowNumber.{flow_number}
use Rattle.packet_core.specs.declared.flow.Seed.{Seed}
use Rattle.packet_core.specs.declared.params.ParamFields.{ParamFields}
use Rattle.fair_core.specs.FairQueues.{FairQueues, no_queues, queue_of}
use Rattle.fair_core.specs.FqCodel.{fq_codel, fq_codel_policy}
use Rattle.fair_core.proofs.FairFifo.{fair_is_fifo}
use Rattle.fair_core.proofs.FqCodelPolicy.{policy_drops}
use Rattle.link_core.specs.QueueDisciplines.{sent_count}

-- the id of the packet that is given, as a list
abbrev pub given_ids : Option Given → List ℕ
given_ids None = []
given_ids (Some g) = g.waiting.id ∷ []

sent_of_drops : (moment : ℕ) (why : Cause) (gone : List Waiting) → filter_map sent_of (map (drop_event moment why) gone) ≡ []
sent_of_drops moment why [] = refl
sent_of_drops moment why (w ∷ gone) = sent_of_drops moment why gone

sent_of_given : (moment : ℕ) (given : Option Given) → filter_map sent_of (sent_events moment given) ≡ given_ids given
sent_of_given moment None = refl
sent_of_given moment (Some g) = refl

-- what a dequeue sends
pub sent_ids_of : (moment : ℕ) (why : Cause) (gone : List Waiting) (given : Option Given) → filter_map sent_of (map (drop_event moment why) gone ++ sent_events moment given) ≡ given_ids given
sent_ids_of moment why gone given = filter_map-append sent_of (map (drop_event moment why) gone) (sent_events moment given) ∙ rw (sent_of_drops moment why gone) (sent_of_given moment given)

-- and an enqueue sends nothing
pub sent_ids_none : (lane id moment flow : ℕ) (packet : PacketParts) (why : Cause) (gone : List Waiting) → filter_map sent_of (Accepted lane id moment flow packet ∷ map (drop_event moment why) gone) ≡ []
sent_ids_none lane id moment flow packet why gone = sent_of_drops moment why gone

-- one packet more, where one is given
pub sent_more : (events made : List Event) → sent_count (events ++ made) ≡ sent_count events + length (filter_map sent_of made)
sent_more events made = ap length (filter_map-append sent_of events made) ∙ length-append (filter_map sent_of events) (filter_map sent_of made)

pub sent_among_fates : (events : List Event) → sent_count events ≤ length (fate_ids events)
sent_among_fates [] = omega arith
sent_among_fates (Accepted lane id moment flow packet ∷ events) = sent_among_fates events
sent_among_fates (Sent id moment ecn mark ∷ events) = let ih = sent_among_fates events in omega arith
sent_among_fates (Dropped id moment why ∷ events) = let ih = sent_among_fates events in omega arith
sent_among_fates (Closed moment ∷ events) = sent_among_fates events

module _ (p : ParamFields) (seed : Seed) where
  pub history_of : (steps : List Step) (made : List Made) (new : State FairQueues) → Runs (fq_codel p seed) (opening_state (no_queues p.flows)) steps made new
      → IsHistory (fq_codel p seed).flow_of (queue_of new.queues) (journal_of made) new.next_id new.last new.closed
  history_of steps made new r =
      let fifo = fair_is_fifo (fq_codel_policy p) (policy_drops p) p.flows (flow_number p.classify p.flows seed) in
      keeps_runs (fq_codel p seed) queue_of fifo (opening_state (no_queues p.flows)) new steps made [] r (keeps_opening (fq_codel p seed) queue_of fifo)

  -- no more are sent than were accepted
  pub sent_few : (steps : List Step) (made : List Made) (new : State FairQueues) → Runs (fq_codel p seed) (opening_state (no_queues p.flows)) steps made new
      → sent_count (journal_of made) ≤ new.next_id
  sent_few steps made new r = let among = sent_among_fates (journal_of made) in let left = (history_of steps made new r).left in omega arith

pub fates_behind : (P : ℕ → Type 0) (events made : List Event) → AllByRecursion P (fate_ids (events ++ made)) → AllByRecursion P (fate_ids made)
fates_behind P events made all = (ByRecursion-parts P (fate_ids events) (fate_ids made) (subst (AllByRecursion P) (filter_map-append fate_of events made) all)).1

-- what holds of every id with a fate holds of the packet that is given
pub given_known : (P : ℕ → Type 0) (events made : List Event) (moment : ℕ) (why : Cause) (gone : List Waiting) (g : Given) → made ≡ map (drop_event moment why) gone ++ sent_events moment (Some g)
    → All P (fate_ids (events ++ made)) → P g.waiting.id
given_known P events made moment why gone g told all =
    let behind : AllByRecursion P (fate_ids made) = fates_behind P events made (recursion_from_All P (fate_ids (events ++ made)) all) in
    let last = fates_behind P (map (drop_event moment why) gone) (sent_events moment (Some g)) (subst (λ es. AllByRecursion P (fate_ids es)) told behind) in
    last.0

-- the packet of which a dequeue tells
pub record IsGiven (given : Option Given) (id : ℕ) : Type 0 where
  pub packet : Given
  pub gives : given ≡ Some packet
  pub named : id ≡ packet.waiting.id

pub given_of : (moment : ℕ) (given : Option Given) (o : Option SentPacket) (s : SentPacket) → o ≡ option_map (sent_at moment) given → o ≡ Some s → IsGiven given s.id
given_of moment None o s told is = absurd cc
given_of moment (Some g) o s told is =
    let same : s ≡ sent_at moment g = cc in
    record { packet = g; gives = refl; named = ap (λ (x : SentPacket). x.id) same }

pub none_given : (moment : ℕ) (given : Option Given) (o : Option SentPacket) → o ≡ option_map (sent_at moment) given → o ≡ None → given ≡ None
none_given moment None o told is = refl
none_given moment (Some g) o told is = absurd cc
