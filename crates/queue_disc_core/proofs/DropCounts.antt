-- How many drops a journal tells.
use Rattle.std.proofs.Common.{◌≡◌, ℕ, ◌+◌, ◌<◌, cond, List, [], ◌∷◌, get_or, length, option_map, refl, ap, subst, ◌∙◌, arith}
use Rattle.std.specs.Prelude.{All, count_by}
use Rattle.std.specs.List.{AllByRecursion, Contains, filter_map, range_with_len}
use Rattle.std.proofs.lemmas.List.{take_all}
use Rattle.std.proofs.lemmas.List.Elements.{recursion_from_All}
use Rattle.std.proofs.lemmas.List.FromFn.{get_or-range_with_len, length-range_with_len}
use Rattle.std.proofs.lemmas.List.Sums.{sum_by-cons}
use Rattle.packet_core.specs.declared.packet.FiveTuple.{FiveTuple}
use Rattle.journal_core.specs.declared.event.Cause.TheVariants.{Codel, Overflow}
use Rattle.journal_core.specs.declared.event.Event.{Event}
use Rattle.journal_core.specs.declared.event.Event.TheVariants.{Accepted, Sent, Dropped, Closed}
use Rattle.journal_core.specs.Happened.{Acceptance, acceptances, accepted_ids, fate_ids, waiting_of}
use Rattle.journal_core.specs.JournalLaws.{JournalLaws}
use Rattle.journal_core.specs.Losses.{lost_packets, waited_as}
use Rattle.journal_core.specs.Statistics.{dropped_of, is_codel_drop, is_overflow_drop}
use Rattle.journal_core.proofs.EventLemmas.{all_found}
use Rattle.journal_core.proofs.FlowShares.{AreFound}
use Rattle.journal_core.proofs.ListLemmas.{ByRecursion-weaker}
use Rattle.queue_disc_core.specs.Drops.{causes_of}
use Rattle.queue_disc_core.proofs.SettledDrops.{causes_from}

one_cause : (e : Event) → cond (is_codel_drop e) 1 0 + cond (is_overflow_drop e) 1 0 ≡ length (causes_of (e ∷ []))
one_cause (Accepted lane id moment flow packet) = refl
one_cause (Sent id moment ecn mark) = refl
one_cause (Dropped id moment Codel) = refl
one_cause (Dropped id moment Overflow) = refl
one_cause (Closed moment) = refl

-- Each drop has one of the two causes.
pub drops_counted : (events : List Event) → count_by is_codel_drop events + count_by is_overflow_drop events ≡ length (causes_of events)
drops_counted [] = refl
drops_counted (e ∷ events) =
    omega (arith, drops_counted events, one_cause e, causes_from e events, sum_by-cons (λ x. cond (is_codel_drop x) 1 0) e events, sum_by-cons (λ x. cond (is_overflow_drop x) 1 0) e events)

lost_where_found : (accepted : List Acceptance) (events : List Event) → AreFound accepted (fate_ids events)
    → length (filter_map (waited_as accepted) (filter_map dropped_of events)) ≡ length (causes_of events)
lost_where_found accepted [] found = refl
lost_where_found accepted (Accepted lane id moment flow packet ∷ events) found = lost_where_found accepted events found
lost_where_found accepted (Sent id moment ecn mark ∷ events) found = lost_where_found accepted events found.1
lost_where_found accepted (Dropped id moment cause ∷ events) found =
    let there : waited_as accepted id ≡ _ = ap (option_map waiting_of) found.0.1 in
    rw there (omega (arith, lost_where_found accepted events found.1))
lost_where_found accepted (Closed moment ∷ events) found = lost_where_found accepted events found

below : (n : ℕ) (xs : List ℕ) → xs ≡ range_with_len 0 n → (x : ℕ) → Contains xs x → x < n
below n xs is x (k, within, at) =
    let size : length xs ≡ n = ap length is ∙ length-range_with_len 0 n in
    let value : get_or xs k x ≡ 0 + k = ap (λ l. get_or l k x) is ∙ get_or-range_with_len 0 n k x (omega arith) in
    omega (arith, value, at)

-- Each fate names a packet that was accepted.
pub fates_found : (flow_of : FiveTuple → ℕ) (events : List Event) → JournalLaws flow_of events → AreFound (acceptances events) (fate_ids events)
fates_found flow_of events laws =
    let n : ℕ = length (acceptances events) in
    let all : All (Contains (accepted_ids events)) (fate_ids events) =
    subst (λ (l : List Event). All (Contains (accepted_ids l)) (fate_ids l)) (take_all (length events) events (omega arith)) (laws.fates_follow (length events)) in
    let known : AllByRecursion (λ id. id < n) (fate_ids events) =
    ByRecursion-weaker (Contains (accepted_ids events)) (λ id. id < n) (fate_ids events) (below n (accepted_ids events) laws.ids_in_order) (recursion_from_All (Contains (accepted_ids events)) (fate_ids events) all) in
    all_found (acceptances events) n (fate_ids events) laws.ids_in_order known

-- Each drop is of a packet that was accepted.
pub lost_counted : (flow_of : FiveTuple → ℕ) (events : List Event) → JournalLaws flow_of events → length (lost_packets events) ≡ length (causes_of events)
lost_counted flow_of events laws = lost_where_found (acceptances events) events (fates_found flow_of events laws)
