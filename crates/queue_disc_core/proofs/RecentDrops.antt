-- What the recorder of drops keeps, as it is told more.
use Rattle.std.proofs.Common.{◌≡◌, ℕ, ◌+◌, ◌-◌, ◌<◌, ◌≤◌, List, [], ◌∷◌, ◌++◌, map, get_or, length, take, Option, Some, None, option_map, refl, sym, ap, ◌∙◌, append_assoc, arith}
use Rattle.std.specs.Prelude.{IsSomeAnd, slice_get}
use Rattle.std.proofs.lemmas.List.{append-nil, get_or-append-add, length-append, length-map, length-take, map-append, take-append-le, take_all}
use Rattle.std.proofs.lemmas.Option.{get_or_from_slice_get, slice_get-get_or, slice_get-map, slice_get_within}
use Rattle.packet_core.specs.Packets.{PacketParts}
use Rattle.packet_core.specs.declared.packet.Ecn.{Ecn}
use Rattle.packet_core.specs.declared.packet.Waiting.{Waiting}
use Rattle.codel_core.specs.declared.served.Mark.{Mark}
use Rattle.journal_core.specs.declared.event.Cause.{Cause}
use Rattle.journal_core.specs.declared.event.Event.{Event}
use Rattle.journal_core.specs.declared.event.Event.TheVariants.{Accepted, Sent, Dropped, Closed}
use Rattle.journal_core.proofs.EventLemmas.{filter_map_push, filter_map_same}
use Rattle.queue_disc_core.specs.declared.answers.Dropped.{Dropped as Drop}
use Rattle.queue_disc_core.specs.declared.answers.Handle.{Handle}
use Rattle.queue_disc_core.specs.Drops.{AreRecent, IsDropAt, cause_of, causes_of, loss_of, drop_handle_of, settled_drops}
use Rattle.queue_disc_core.proofs.SettledDrops.{settled_accept, settled_stays}

module _ (drops : List Drop) (told : List Event) (lost : List Waiting) (r : AreRecent drops told lost) where
  -- where an event comes that drops nothing, and after which as many drops are settled
  stays : (e : Event) → cause_of e ≡ None → settled_drops (told ++ e ∷ []) ≡ settled_drops told → AreRecent drops (told ++ e ∷ []) lost
  stays e none same = record {
    past_losses = r.past_losses;
    past_causes = r.past_causes;
    losses_are = r.losses_are;
    causes_are = filter_map_same cause_of told e none ∙ r.causes_are;
    as_many = r.as_many;
    settled = r.settled ∙ sym same;
  }

  pub recent_sent : (id moment : ℕ) (ecn : Ecn) (mark : Mark) → AreRecent drops (told ++ Sent id moment ecn mark ∷ []) lost
  recent_sent id moment ecn mark = stays (Sent id moment ecn mark) refl (settled_stays told (Sent id moment ecn mark ∷ []) refl)

  pub recent_closed : (moment : ℕ) → AreRecent drops (told ++ Closed moment ∷ []) lost
  recent_closed moment = stays (Closed moment) refl (settled_stays told (Closed moment ∷ []) refl)

  -- At an acceptance all drops are settled, and forgotten.
  pub recent_accepted : (lane id moment flow : ℕ) (packet : PacketParts) → AreRecent [] (told ++ Accepted lane id moment flow packet ∷ []) lost
  recent_accepted lane id moment flow packet =
      let e : Event = Accepted lane id moment flow packet in
      let handles = map drop_handle_of drops in
      let causes = map (λ (d : Drop). d.cause) drops in
      record {
        past_losses = r.past_losses ++ handles;
        past_causes = r.past_causes ++ causes;
        losses_are = r.losses_are ∙ sym (append-nil (r.past_losses ++ handles));
        causes_are = filter_map_same cause_of told e refl ∙ r.causes_are ∙ sym (append-nil (r.past_causes ++ causes));
        as_many = length-append r.past_losses handles ∙ (λ i. r.as_many i + (length-map drops drop_handle_of ∙ sym (length-map drops (λ (d : Drop). d.cause))) i) ∙ sym (length-append r.past_causes causes);
        settled = ap length (sym r.causes_are) ∙ sym (settled_accept lane id moment flow packet [] told refl);
      }

  pub recent_lost : (w : Waiting) (moment : ℕ) (cause : Cause) → AreRecent (drops ++ record { tag = w.packet.tag; id = w.id; cause = cause } ∷ []) (told ++ Dropped w.id moment cause ∷ []) (lost ++ w ∷ [])
  recent_lost w moment cause =
      let d : Drop = record { tag = w.packet.tag; id = w.id; cause = cause } in
      record {
        past_losses = r.past_losses;
        past_causes = r.past_causes;
        losses_are = map-append loss_of lost (w ∷ []) ∙ ap (λ l. l ++ loss_of w ∷ []) r.losses_are ∙ append_assoc r.past_losses (map drop_handle_of drops) (loss_of w ∷ []) ∙ ap (λ l. r.past_losses ++ l) (sym (map-append drop_handle_of drops (d ∷ [])));
        causes_are = filter_map_push cause_of told (Dropped w.id moment cause) cause refl ∙ ap (λ l. l ++ cause ∷ []) r.causes_are ∙ append_assoc r.past_causes (map (λ (d : Drop). d.cause) drops) (cause ∷ []) ∙ ap (λ l. r.past_causes ++ l) (sym (map-append (λ (d : Drop). d.cause) drops (d ∷ [])));
        as_many = r.as_many;
        settled = r.settled ∙ sym (settled_stays told (Dropped w.id moment cause ∷ []) refl);
      }

  -- Those packets alone that were lost before the last acceptance are forgotten.
  pub losses_kept : length lost ≡ length drops + settled_drops told
  losses_kept =
      let size : length lost ≡ length r.past_losses + length drops = sym (length-map lost loss_of) ∙ ap length r.losses_are ∙ length-append r.past_losses (map drop_handle_of drops) ∙ ap (λ n. length r.past_losses + n) (length-map drops drop_handle_of) in
      omega (arith, r.as_many, r.settled)

-- The first ones of a list that fits are all of it.
pub first_all : (most : ℕ) (kept all : List Drop) → kept ≡ take most all → length all ≤ most → kept ≡ all
first_all most kept all first fits = first ∙ take_all most all fits

-- One more comes to the end of those that are kept, where there is a place.
pub first_pushed : (most : ℕ) (kept all : List Drop) (d : Drop) → kept ≡ take most all → length kept < most → kept ++ d ∷ [] ≡ take most (all ++ d ∷ [])
first_pushed most kept all d first place =
    let few : length all ≤ most = omega (arith, ap length first, length-take most all) in
    ap (λ l. l ++ d ∷ []) (first_all most kept all first few) ∙ sym (take_all most (all ++ d ∷ []) (omega (arith, length-append all (d ∷ []), ap length first, length-take most all)))

-- Where there is none, those that are kept stay the first ones.
pub first_full : (most : ℕ) (kept all : List Drop) (d : Drop) → kept ≡ take most all → most ≤ length kept → kept ≡ take most (all ++ d ∷ [])
first_full most kept all d first full = first ∙ sym (take-append-le most all (d ∷ []) (omega (arith, ap length first, length-take most all)))

-- What stands at a place from the end of a list stands there in a longer one that ends with it.
at_end : {X : Type 0} (all past xs : List X) (back : ℕ) (x : X) → all ≡ past ++ xs → back ≤ length xs
    → slice_get xs (length xs - back) ≡ Some x → slice_get all (length all - back) ≡ Some x
at_end all past xs back x ends few there =
    let n : ℕ = length xs - back in
    let within : n < length xs = slice_get_within xs n x there in
    let size : length all ≡ length past + length xs = ap length ends ∙ length-append past xs in
    let place : length all - back ≡ length past + n = omega arith in
    let value : get_or all (length past + n) x ≡ x = ap (λ l. get_or l (length past + n) x) ends ∙ get_or-append-add past xs n x ∙ get_or_from_slice_get xs n x x there in
    ap (slice_get all) place ∙ slice_get-get_or all (length past + n) x (omega arith) ∙ ap Some value

mapped_there : {X : Type 0} (f : Drop → X) (drops : List Drop) (back : ℕ) (d : Drop) → slice_get drops (length drops - back) ≡ Some d → slice_get (map f drops) (length (map f drops) - back) ≡ Some (f d)
mapped_there f drops back d there = ap (λ k. slice_get (map f drops) (k - back)) (length-map drops f) ∙ slice_get-map f drops (length drops - back) ∙ ap (option_map f) there

known_by : (o : Option Waiting) (loss : Handle) → option_map loss_of o ≡ Some loss → IsSomeAnd o (λ w. (loss.tag ≡ w.packet.tag) × (loss.id ≡ w.id))
known_by None loss is = absurd (cc is)
known_by (Some w) loss is = let same : loss_of w ≡ loss = cc in (sym (ap (λ (l : Handle). l.tag) same), sym (ap (λ (l : Handle). l.id) same))

module _ (drops : List Drop) (told : List Event) (lost : List Waiting) (r : AreRecent drops told lost)
    (back : ℕ) (recent : back + settled_drops told ≤ length (causes_of told)) (as_many : length lost ≡ length (causes_of told)) where
  pub reach : back ≤ length drops
  reach = let kept = losses_kept drops told lost r in omega arith

  pub recent_drop : (d : Drop) (n : ℕ) → 0 < back → n ≡ length drops → d ≡ get_or drops (n - back) d → IsDropAt told lost (length lost - back) d
  recent_drop d n some n_is at =
      let few = reach in
      let there : slice_get drops (length drops - back) ≡ Some d = slice_get-get_or drops (length drops - back) d (omega arith) ∙ ap Some (ap (λ k. get_or drops (k - back) d) (sym n_is) ∙ sym at) in
      let known : slice_get (map loss_of lost) (length (map loss_of lost) - back) ≡ Some (drop_handle_of d) =
      at_end (map loss_of lost) r.past_losses (map drop_handle_of drops) back (drop_handle_of d) r.losses_are (rw (length-map drops drop_handle_of) few) (mapped_there drop_handle_of drops back d there) in
      let place : length (map loss_of lost) - back ≡ length lost - back = ap (λ n. n - back) (length-map lost loss_of) in
      record {
        packet = known_by (slice_get lost (length lost - back)) (drop_handle_of d) (sym (slice_get-map loss_of lost (length lost - back)) ∙ ap (slice_get (map loss_of lost)) (sym place) ∙ known);
        cause = ap (λ n. slice_get (causes_of told) (n - back)) as_many
            ∙ at_end (causes_of told) r.past_causes (map (λ (d : Drop). d.cause) drops) back d.cause r.causes_are (rw (length-map drops (λ (d : Drop). d.cause)) few) (mapped_there (λ (d : Drop). d.cause) drops back d there);
      }
