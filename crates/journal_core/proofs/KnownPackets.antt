-- What waits is known: the journal names it, as it waits.
use Rattle.std.proofs.Common.{◌≡◌, ℕ, Bool, not, List, [], ◌∷◌, ◌++◌, length, filter, IsSomeAnd, Option, Some, None, option_map, ◌==◌, refl, sym, ap, subst}
use Rattle.std.specs.Option.{option_map_or}
use Rattle.codel_core.specs.Verdict.{sent_ecn}
use Rattle.journal_core.specs.Calls.{Gives, Standing, sent_at}
use Rattle.journal_core.specs.Losses.{IsOfAccepted, waited_as}
use Rattle.journal_core.specs.declared.step.Sent.{Sent}
use Rattle.journal_core.proofs.Words.{AllByRecursion, eq-eqb, FiveTuple, Waiting, Event, Acceptance, Discipline, Given, IsFifoByFlow, waiting_of, acceptances, fate_ids, is_among, named, without_fate, IdsInOrder, WaitWithoutFate, IsHistory, length_of, length_named}
use Rattle.journal_core.proofs.IdLemmas.{Rises-range, named_itself}
use Rattle.journal_core.proofs.LawsOfHistory.{laws_of_history, waits_of_history}
use Rattle.journal_core.proofs.ListLemmas.{ByRecursion-filter, ByRecursion-map, ByRecursion-parts, ByRecursion-weaker}

-- The packet was accepted as it waits, under its id.
abbrev pub IsKnown : List Acceptance → Waiting → Type 0
IsKnown accepted w = waited_as accepted w.id ≡ Some w

-- each packet in a flow's queue is known
pub waits_known : (queue_of : ℕ → List Waiting) (events : List Event) → IdsInOrder events → WaitWithoutFate queue_of events → (flow : ℕ) → AllByRecursion (IsKnown (acceptances events)) (queue_of flow)
waits_known queue_of events ids waiting flow =
    let accepted = acceptances events in
    let P = λ (a : Acceptance). named accepted a.id ≡ Some a in
    let all = ByRecursion-filter P (λ a. not (is_among (fate_ids events) a.id)) accepted (named_itself 0 accepted (Rises-range 0 (length accepted) accepted ids)) in
    let own = filter (λ a. a.flow == flow) (without_fate events) in
    rw (waiting flow)
    (ByRecursion-map waiting_of (IsKnown accepted) own
    (ByRecursion-weaker P (λ a. IsKnown accepted (waiting_of a)) own (λ a e. ap (option_map waiting_of) e) (ByRecursion-filter P (λ a. a.flow == flow) (without_fate events) all)))

pub waiting_known : (flow_of : FiveTuple → ℕ) (queue_of : ℕ → List Waiting) (events : List Event) (next_id last : ℕ) (closed : Bool) → IsHistory flow_of queue_of events next_id last closed
    → (flow : ℕ) → AllByRecursion (IsKnown (acceptances events)) (queue_of flow)
waiting_known flow_of queue_of events next_id last closed h =
    waits_known queue_of events (laws_of_history flow_of queue_of events next_id last closed h).ids_in_order (waits_of_history flow_of queue_of events next_id last closed h)

-- a packet that is known has the length that its id names
pub known_length : (accepted : List Acceptance) (w : Waiting) → IsKnown accepted w → length_named accepted w.id ≡ w.packet.len
known_length accepted w known = of_found (named accepted w.id) known
  where
    of_found : (o : Option Acceptance) → option_map waiting_of o ≡ Some w → option_map_or length_of o 0 ≡ w.packet.len
    of_found None e = absurd cc
    of_found (Some a) e = let same : waiting_of a ≡ w = cc in ap (λ (v : Waiting). v.packet.len) same

-- and what is answered of it is of the accepted packet
known_answered : (events : List Event) (moment : ℕ) (g : Given) → IsKnown (acceptances events) g.waiting → IsOfAccepted events (sent_at moment g)
known_answered events moment g known = of_found (named (acceptances events) g.waiting.id) known
  where
    of_found : (o : Option Acceptance) → option_map waiting_of o ≡ Some g.waiting → IsSomeAnd o (λ a. (sent_at moment g).packet ≡ record a.packet { ecn = sent_ecn g.mark a.packet.ecn })
    of_found None e = absurd cc
    of_found (Some a) e = let same : waiting_of a ≡ g.waiting = cc in ap (λ (v : Waiting). record v.packet { ecn = sent_ecn g.mark v.packet.ecn }) (sym same)

-- So what a dequeue answers is of a packet that was accepted.
pub answers_accepted : {Q : Type 0} (d : Discipline Q) (queue_of : Q → ℕ → List Waiting) → IsFifoByFlow d queue_of → (old new : Standing Q) (moment : ℕ) (sent : Sent) → IdsInOrder old.events
    → WaitWithoutFate (queue_of old.state.queues) old.events → Gives d old moment (Some sent) new → IsOfAccepted old.events sent
answers_accepted d queue_of fifo old new moment sent ids waiting gives = of_given gives.given gives.serves.queues gives.told
  where
    of_given : (given : Option Given) → d.serves old.state.queues moment gives.serves.dropped given new.state.queues → Some sent ≡ option_map (sent_at moment) given → IsOfAccepted old.events sent
    of_given None serves told = absurd cc
    of_given (Some g) serves told =
        let Known = IsKnown (acceptances old.events) in
        let dropped = gives.serves.dropped in
        let leaves = (fifo.serves old.state.queues moment dropped (Some g) new.state.queues serves).0 in
        let flow = leaves.0 in
        let queue : queue_of old.state.queues flow ≡ (dropped ++ g.waiting ∷ []) ++ queue_of new.state.queues flow = rw (eq-eqb flow flow refl) at (leaves.1 flow) in
        let known = subst (AllByRecursion Known) queue (waits_known (queue_of old.state.queues) old.events ids waiting flow) in
        let left = (ByRecursion-parts Known (dropped ++ g.waiting ∷ []) (queue_of new.state.queues flow) known).0 in
        let given_known = (ByRecursion-parts Known dropped (g.waiting ∷ []) left).1.0 in
        let same : sent ≡ sent_at moment g = cc in
        subst (IsOfAccepted old.events) (sym same) (known_answered old.events moment g given_known)
