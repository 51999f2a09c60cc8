-- The journal of a plain queue names what waits, what left and what was lost.
use Rattle.std.proofs.Common.{◌≡◌, ℕ, ◌+◌, ◌<◌, List, [], ◌∷◌, ◌++◌, map, Option, Some, None, option_map, refl, sym, ap, subst, ◌∙◌, inl, inr, arith, append_assoc}
use Rattle.std.specs.List.{AllByRecursion, range_with_len}
use Rattle.std.proofs.lemmas.List.{append-nil, map-append}
use Rattle.packet_core.specs.Packets.{PacketParts}
use Rattle.packet_core.specs.declared.packet.Waiting.{Waiting}
use Rattle.codel_core.specs.declared.served.Mark.TheVariants.{NoMark}
use Rattle.journal_core.specs.declared.event.Cause.TheVariants as cause
use Rattle.journal_core.specs.declared.event.Event.{Event}
use Rattle.journal_core.specs.declared.event.Event.TheVariants.{Accepted, Sent}
use Rattle.journal_core.specs.Disciplines.{Given, given_packet}
use Rattle.journal_core.specs.Happened.{Acceptance, acceptance_of, acceptances, accepted_ids, fate_ids, fate_of, named, waiting_of}
use Rattle.journal_core.specs.Losses.{waited_as}
use Rattle.journal_core.specs.Steps.{drop_event, sent_events}
use Rattle.journal_core.proofs.EventLemmas.{all_found, filter_map_push, filter_map_same, range_next}
use Rattle.journal_core.proofs.IdLemmas.{Rises-range, id_of, named_itself}
use Rattle.journal_core.proofs.ListLemmas.{ByRecursion-append, ByRecursion-parts, ByRecursion-weaker}
use Rattle.journal_core.proofs.LossLemmas.{departures_accept, departures_drops, departures_send, losses_accept, losses_drops, losses_same, waited_still}
use Rattle.link_core.specs.Fifo.{GivesHead, TakesIn}
use Rattle.link_core.specs.Fifos.{AreNamed}

-- A packet that is known stays so as more are accepted.
known_still : (accepted more : List Acceptance) (w : Waiting) → waited_as accepted w.id ≡ Some w → waited_as (accepted ++ more) w.id ≡ Some w
known_still accepted more w known = go (named accepted w.id) refl known
  where
    go : (o : Option Acceptance) → named accepted w.id ≡ o → option_map waiting_of o ≡ Some w → waited_as (accepted ++ more) w.id ≡ Some w
    go None is there = absurd (cc there)
    go (Some a) is there = waited_still accepted more w.id a is ∙ known

-- what a queue gives
pub gives_named : (n moment : ℕ) (events : List Event) (queue queue' sent lost : List Waiting) (given : Option Given) → GivesHead queue [] given queue' → AllByRecursion (λ (w : Waiting). w.id < n) queue
    → AreNamed n events queue sent lost → AreNamed n (events ++ sent_events moment given) queue' (sent ++ given_packet given) lost
gives_named n moment events [] queue' sent lost given g low h =
    rw (g.1, g.2) (subst (λ (es : List Event). AreNamed n es [] (sent ++ []) lost) (sym (append-nil events)) (subst (λ (ws : List Waiting). AreNamed n events [] ws lost) (sym (append-nil sent)) h))
gives_named n moment events (w ∷ rest) queue' sent lost given g low h =
    let e : Event = Sent w.id moment w.packet.ecn NoMark in
    let same = filter_map_same acceptance_of events e refl in
    rw (g.1, g.2) (record {
      ids = ap (map id_of) same ∙ h.ids;
      fates = subst (AllByRecursion (λ id. id < n)) (sym (filter_map_push fate_of events e w.id refl)) (ByRecursion-append (λ id. id < n) (fate_ids events) (w.id ∷ []) h.fates (low.0, tt));
      waits = subst (λ (accepted : List Acceptance). AllByRecursion (λ (v : Waiting). waited_as accepted v.id ≡ Some v) rest) (sym same) h.waits.1;
      departed = ap (λ (ws : List Waiting). ws ++ w ∷ []) h.departed ∙ sym (departures_send events w moment w.packet.ecn NoMark h.waits.0);
      gone = h.gone ∙ sym (losses_same events e refl refl);
    })

-- an acceptance
module _ (n moment flow : ℕ) (packet : PacketParts) (events : List Event) (queue sent lost : List Waiting) (h : AreNamed n events queue sent lost) where
  abbrev e : Event
  e = Accepted 0 n moment flow packet

  abbrev a : Acceptance
  a = record { id = n; moment = moment; lane = 0; flow = flow; packet = packet }

  abbrev w : Waiting
  w = record { id = n; stamp = moment; packet = packet }

  accepted_are : acceptances (events ++ e ∷ []) ≡ acceptances events ++ a ∷ []
  accepted_are = filter_map_push acceptance_of events e a refl

  ids_are : accepted_ids (events ++ e ∷ []) ≡ range_with_len 0 (n + 1)
  ids_are = ap (map id_of) accepted_are ∙ map-append id_of (acceptances events) (a ∷ []) ∙ ap (λ (ids : List ℕ). ids ++ n ∷ []) h.ids ∙ range_next n

  its_known : waited_as (acceptances (events ++ e ∷ [])) n ≡ Some w
  its_known =
      let all = named_itself 0 (acceptances (events ++ e ∷ [])) (Rises-range 0 (n + 1) (acceptances (events ++ e ∷ [])) ids_are) in
      let P = λ (b : Acceptance). named (acceptances (events ++ e ∷ [])) b.id ≡ Some b in
      ap (option_map waiting_of) (ByRecursion-parts P (acceptances events) (a ∷ []) (subst (AllByRecursion P) accepted_are all)).1.0

  -- what holds once it is accepted, with what waited before
  pub accepts_named : AreNamed (n + 1) (events ++ e ∷ []) queue sent lost
  accepts_named =
      let found = all_found (acceptances events) n (fate_ids events) h.ids h.fates in
      record {
        ids = ids_are;
        fates = subst (AllByRecursion (λ id. id < n + 1)) (sym (filter_map_same fate_of events e refl)) (ByRecursion-weaker (λ id. id < n) (λ id. id < n + 1) (fate_ids events) (λ id low. omega arith) h.fates);
        waits = subst (λ (accepted : List Acceptance). AllByRecursion (λ (v : Waiting). waited_as accepted v.id ≡ Some v) queue) (sym accepted_are)
            (ByRecursion-weaker (λ (v : Waiting). waited_as (acceptances events) v.id ≡ Some v) (λ v. waited_as (acceptances events ++ a ∷ []) v.id ≡ Some v) queue (λ v known. known_still (acceptances events) (a ∷ []) v known) h.waits);
        departed = h.departed ∙ sym (departures_accept events n moment 0 flow packet found);
        gone = h.gone ∙ sym (losses_accept events n moment 0 flow packet found);
      }

  pub takes_named : (limit : ℕ) (queue' gone : List Waiting) → TakesIn limit queue w gone queue' → AreNamed (n + 1) (events ++ e ∷ map (drop_event moment cause.Overflow) gone) queue' sent (lost ++ gone)
  takes_named limit queue' gone (inl t) =
      let h' = accepts_named in
      rw (t.1, t.2) (subst (λ (ws : List Waiting). AreNamed (n + 1) (events ++ e ∷ []) (queue ++ w ∷ []) sent ws) (sym (append-nil lost)) (record {
        ids = h'.ids;
        fates = h'.fates;
        waits = ByRecursion-append (λ (v : Waiting). waited_as (acceptances (events ++ e ∷ [])) v.id ≡ Some v) queue (w ∷ []) h'.waits (its_known, tt);
        departed = h'.departed;
        gone = h'.gone;
      }))
  takes_named limit queue' gone (inr t) =
      let h' = accepts_named in
      let before = events ++ e ∷ [] in
      let d : Event = drop_event moment cause.Overflow w in
      let same = filter_map_same acceptance_of before d refl in
      rw (t.1, t.2) (subst (λ (es : List Event). AreNamed (n + 1) es queue sent (lost ++ w ∷ [])) (append_assoc events (e ∷ []) (d ∷ [])) (record {
        ids = ap (map id_of) same ∙ h'.ids;
        fates = subst (AllByRecursion (λ id. id < n + 1)) (sym (filter_map_push fate_of before d n refl)) (ByRecursion-append (λ id. id < n + 1) (fate_ids before) (n ∷ []) h'.fates (omega arith, tt));
        waits = subst (λ (accepted : List Acceptance). AllByRecursion (λ (v : Waiting). waited_as accepted v.id ≡ Some v) queue) (sym same) h'.waits;
        departed = h'.departed ∙ sym (departures_drops moment cause.Overflow before (w ∷ []));
        gone = ap (λ (ws : List Waiting). ws ++ w ∷ []) h'.gone ∙ sym (losses_drops moment cause.Overflow before (w ∷ []) (its_known, tt));
      }))
