-- What the pass over the journal has met of each seat's list.
use Rattle.std.proofs.Common.{◌≡◌, ◌≢◌, ◌∙◌, ◌==◌, ℕ, zero, suc, ◌+◌, ◌<◌, ◌≤◌, Bool, true, false, List, [], ◌∷◌, ◌++◌, filter, get_or, set, length, take, slice_index_or, replicate, refl, ap, sym, subst, append-nil, append_assoc, arith, All, Some, drop, slice_get, ◌⊎◌, ⊎_elim, inl, inr}
use Rattle.std.proofs.Math.Seq.{take-length}
use Rattle.std.proofs.lemmas.Bool.Decides.{eqb_tells}
use Rattle.std.proofs.lemmas.Bool.{eq-eqb, eqb-true, ne_eqb, true≢false}
use Rattle.std.proofs.lemmas.Grind.{get_or-set_at}
use Rattle.std.proofs.lemmas.List.{get_or_default, get_or-set_other, length-take, length-take-le, take-append-drop, take_more}
use Rattle.std.proofs.lemmas.List.Elements.{filter-append}
use Rattle.journal_core.specs.declared.event.Event.{Event}
use Rattle.port_core.specs.Ports.{Seat, is_of, of_lane}
use Rattle.port_core.specs.Settling.{AreAllTold, AreMet, AreTheirPlaces, FitsNext, HaveLanes, IsMet, IsOfNone}

-- an event that isn't from the lane
of_lane_same : (lane : ℕ) (events : List Event) (e : Event) → is_of lane e ≡ false → of_lane lane (events ++ e ∷ []) ≡ of_lane lane events
of_lane_same lane events e other = filter-append (is_of lane) events (e ∷ []) ∙ ap (λ r. of_lane lane events ++ r) (let one : filter (is_of lane) (e ∷ []) ≡ [] = rw other in one) ∙ append-nil (of_lane lane events)

of_lane_push : (lane : ℕ) (events : List Event) (e : Event) → is_of lane e ≡ true → of_lane lane (events ++ e ∷ []) ≡ of_lane lane events ++ e ∷ []
of_lane_push lane events e own = filter-append (is_of lane) events (e ∷ []) ∙ ap (λ r. of_lane lane events ++ r) (let one : filter (is_of lane) (e ∷ []) ≡ e ∷ [] = rw own in one)

-- an event that is no acceptance
pub met_other : (seats : List Seat) (met : List ℕ) (events : List Event) (e : Event) → ((lane : ℕ) → is_of lane e ≡ false) → AreMet seats met events → AreMet seats met (events ++ e ∷ [])
met_other seats met events e other h = record {
  each = λ k d within.
      let s = slice_index_or seats k d in
      record { begins = of_lane_same s.lane events e (other s.lane) ∙ (h.each k d within).begins; within = (h.each k d within).within };
  no_other = λ lane none. of_lane_same lane events e (other lane) ∙ h.no_other lane none;
}

-- before the first event
pub met_none : (seats : List Seat) (n : ℕ) → AreMet seats (replicate n 0) []
met_none seats n = record {
  each = λ k d within.
      let s = slice_index_or seats k d in
      record { begins = subst (λ (m : ℕ). [] ≡ take m s.told) (sym (zeros n s.lane)) refl; within = subst (λ (m : ℕ). m ≤ length s.told) (sym (zeros n s.lane)) (omega arith) };
  no_other = λ lane none. refl;
}
  where
    zeros : (n i : ℕ) → get_or {A = ℕ} (replicate n 0) i 0 ≡ 0
    zeros zero i = refl
    zeros (suc n) zero = refl
    zeros (suc n) (suc i) = zeros n i

-- what is met of one seat's list, where the next acceptance is that of its lane's seat
met_seat : (met : List ℕ) (events : List Event) (e : Event) (lane : ℕ) (s t : Seat)
    → ((from : ℕ) → is_of from e ≡ (lane == from)) → (lane ≡ t.lane → s ≡ t) → lane < length met
    → get_or met lane 0 < length s.told → get_or s.told (get_or met lane 0) e ≡ e
    → IsMet t met events → IsMet t (set met lane (get_or met lane 0 + 1)) (events ++ e ∷ [])
met_seat met events e lane s t from one fits within next old = go (lane == t.lane) refl
  where
    go : (own : Bool) → (lane == t.lane) ≡ own → IsMet t (set met lane (get_or met lane 0 + 1)) (events ++ e ∷ [])
    go false other =
        let apart : t.lane ≢ lane = λ same. absurd (true≢false (sym (eq-eqb lane t.lane (sym same)) ∙ other)) in
        let met_is : get_or (set met lane (get_or met lane 0 + 1)) t.lane 0 ≡ get_or met t.lane 0 = get_or-set_other met lane t.lane (get_or met lane 0 + 1) 0 apart in
        record {
          begins = of_lane_same t.lane events e (from t.lane ∙ other) ∙ subst (λ m. of_lane t.lane events ≡ take m t.told) (sym met_is) old.begins;
          within = subst (λ m. m ≤ length t.told) (sym met_is) old.within;
        }
    go true own =
        let same : lane ≡ t.lane = eqb-true lane t.lane own in
        let seat : s ≡ t = one same in
        let met_is : get_or (set met lane (get_or met lane 0 + 1)) t.lane 0 ≡ get_or met t.lane 0 + 1 = get_or-set_at met lane t.lane (get_or met lane 0 + 1) 0 (sym same) fits ∙ ap (λ l. get_or met l 0 + 1) same in
        let short : get_or met t.lane 0 < length t.told = subst (λ (u : Seat). get_or met t.lane 0 < length u.told) seat (subst (λ l. get_or met l 0 < length s.told) same within) in
        let is_next : get_or t.told (get_or met t.lane 0) e ≡ e = subst (λ (u : Seat). get_or u.told (get_or met t.lane 0) e ≡ e) seat (subst (λ l. get_or s.told (get_or met l 0) e ≡ e) same next) in
        record {
          begins = of_lane_push t.lane events e (from t.lane ∙ own) ∙ ap (λ l. l ++ e ∷ []) old.begins ∙ ap (λ x. take (get_or met t.lane 0) t.told ++ x ∷ []) (sym is_next)
              ∙ sym (take_more t.told (get_or met t.lane 0) e short) ∙ ap (λ m. take m t.told) (sym met_is);
          within = subst (λ m. m ≤ length t.told) (sym met_is) (omega (arith, short));
        }

-- an acceptance that the seat of its lane was told of next
pub met_next : (seats : List Seat) (places met : List ℕ) (events : List Event) (e : Event) (lane : ℕ) (s : Seat)
    → AreTheirPlaces seats places → ((from : ℕ) → is_of from e ≡ (lane == from))
    → s ≡ slice_index_or seats (get_or places lane 0) s → lane < length met → lane < length places → get_or places lane 0 < length seats
    → get_or met lane 0 < length s.told → get_or s.told (get_or met lane 0) e ≡ e
    → AreMet seats met events → AreMet seats (set met lane (get_or met lane 0 + 1)) (events ++ e ∷ [])
met_next seats places met events e lane s placed from stands fits on_table there within next h = record {
  each = λ k d less.
      met_seat met events e lane s (slice_index_or seats k d) from
      (λ same. stands ∙ ap (λ i. slice_index_or seats i s) (ap (λ l. get_or places l 0) same ∙ (placed.each k d less).1) ∙ get_or_default seats k s d less)
      fits within next (h.each k d less);
  no_other = λ other none.
      let apart : lane ≢ other = λ same. none (get_or places lane 0) s there (placed.no_other lane s on_table there ∙ same) in
      of_lane_same other events e (from other ∙ ne_eqb lane other apart) ∙ h.no_other other none;
}

-- what it takes for an acceptance to be what its seat was told of next
pub fits_one : (seats : List Seat) (places met : List ℕ) (e : Event) (lane : ℕ) (s : Seat)
    → AreTheirPlaces seats places → ((from : ℕ) → is_of from e ≡ (lane == from))
    → s ≡ slice_index_or seats (get_or places lane 0) s → lane < length places → get_or places lane 0 < length seats
    → slice_get s.told (get_or met lane 0) ≡ Some e → FitsNext seats met e
fits_one seats places met e lane s placed from stands on_table there next other own =
    let same : lane ≡ other = eqb-true lane other (sym (from other) ∙ own) in
    let seat : (d : Seat) → slice_index_or seats (get_or places lane 0) d ≡ s = λ d. get_or_default seats (get_or places lane 0) d s there ∙ sym stands in
    record {
      place = get_or places lane 0;
      within = there;
      own = λ d. placed.no_other lane d on_table there ∙ same;
      next = λ d. ap (λ (t : Seat). slice_get t.told (get_or met other 0)) (seat d) ∙ subst (λ l. slice_get s.told (get_or met l 0) ≡ Some e) same next;
    }

-- and then its lane has a place, and the seat there was told of it next
pub fits_place : (seats : List Seat) (places met : List ℕ) (e : Event) (lane : ℕ) (d : Seat)
    → AreTheirPlaces seats places → is_of lane e ≡ true → FitsNext seats met e
    → (lane < length places) × (get_or places lane 0 < length seats) × (slice_get (slice_index_or seats (get_or places lane 0) d).told (get_or met lane 0) ≡ Some e)
fits_place seats places met e lane d placed own fits =
    let h = fits lane own in
    let at = placed.each h.place d h.within in
    let place : get_or places lane 0 ≡ h.place = ap (λ l. get_or places l 0) (sym (h.own d)) ∙ at.1 in (
      subst (λ l. l < length places) (h.own d) at.0,
      subst (λ k. k < length seats) (sym place) h.within,
      ap (λ k. slice_get (slice_index_or seats k d).told (get_or met lane 0)) place ∙ h.next d,
    )

record HasSeat (seats : List Seat) (lane : ℕ) : Type 0 where
  place : ℕ
  within : place < length seats
  own : (d : Seat) → (slice_index_or seats place d).lane ≡ lane

none_more : (s : Seat) (seats : List Seat) (lane : ℕ) → s.lane ≢ lane → IsOfNone seats lane → IsOfNone (s ∷ seats) lane
none_more s seats lane apart none zero d less = apart
none_more s seats lane apart none (suc k) d less = none k d (omega (arith, less))

-- a lane is some seat's, or no seat's
seat_of : (seats : List Seat) (lane : ℕ) → HasSeat seats lane ⊎ IsOfNone seats lane
seat_of [] lane = inr (λ k d less. absurd (omega (arith, less)))
seat_of (s ∷ seats) lane =
    ⊎_elim
    (λ t. inl (record { place = 0; within = omega arith; own = λ d. t.1 }))
    (λ t.
    ⊎_elim
    (λ h. inl (record { place = suc h.place; within = omega (arith, h.within); own = λ d. h.own d }))
    (λ none. inr (none_more s seats lane t.1 none))
    (seat_of seats lane))
    (eqb_tells s.lane lane)

get_middle : (a b : List Event) (e : Event) → slice_get (a ++ e ∷ b) (length a) ≡ Some e
get_middle [] b e = refl
get_middle (x ∷ a) b e = get_middle a b e

no_middle : (a b : List Event) (e : Event) → a ++ e ∷ b ≡ [] → ⊥
no_middle [] b e none = cc
no_middle (x ∷ a) b e none = cc

-- the acceptances of a lane, where one of them stands at an index
lane_split : (events : List Event) (i lane : ℕ) (e : Event) → i < length events → e ≡ get_or events i e → is_of lane e ≡ true
    → of_lane lane events ≡ of_lane lane (take i events) ++ e ∷ of_lane lane (drop (i + 1) events)
lane_split events i lane e within stands own =
    let split : events ≡ take (i + 1) events ++ drop (i + 1) events = sym (take-append-drop (i + 1) events) in
    let more : take (i + 1) events ≡ take i events ++ e ∷ [] = take_more events i e within ∙ ap (λ x. take i events ++ x ∷ []) (sym stands) in
    ap (of_lane lane) split ∙ filter-append (is_of lane) (take (i + 1) events) (drop (i + 1) events)
    ∙ ap (λ l. l ++ of_lane lane (drop (i + 1) events)) (ap (of_lane lane) more ∙ of_lane_push lane (take i events) e own)
    ∙ append_assoc (of_lane lane (take i events)) (e ∷ []) (of_lane lane (drop (i + 1) events))

-- Where the journal has what the seats were told, its next acceptance is what its seat was told of next.
pub told_next : (seats : List Seat) (met : List ℕ) (events : List Event) (i : ℕ) (e : Event)
    → AreMet seats met (take i events) → AreAllTold events seats → i < length events → e ≡ get_or events i e → FitsNext seats met e
told_next seats met events i e h all within stands lane own =
    let parts = lane_split events i lane e within stands own in
    ⊎_elim
    (λ seat.
    record {
      place = seat.place;
      within = seat.within;
      own = seat.own;
      next = λ d.
          let s = slice_index_or seats seat.place d in
          let m = h.each seat.place d seat.within in
          let begins : of_lane lane (take i events) ≡ take (get_or met lane 0) s.told = subst (λ l. of_lane l (take i events) ≡ take (get_or met l 0) s.told) (seat.own d) m.begins in
          let short : get_or met lane 0 ≤ length s.told = subst (λ l. get_or met l 0 ≤ length s.told) (seat.own d) m.within in
          let told : s.told ≡ of_lane lane events = sym (all.each seat.place d seat.within) ∙ ap (λ l. of_lane l events) (seat.own d) in
          let so_many : length (of_lane lane (take i events)) ≡ get_or met lane 0 = ap length begins ∙ length-take-le (get_or met lane 0) s.told short in
          ap (λ l. slice_get l (get_or met lane 0)) (told ∙ parts)
          ∙ ap (λ n. slice_get (of_lane lane (take i events) ++ e ∷ of_lane lane (drop (i + 1) events)) n) (sym so_many)
          ∙ get_middle (of_lane lane (take i events)) (of_lane lane (drop (i + 1) events)) e;
    })
    (λ none. absurd (no_middle (of_lane lane (take i events)) (of_lane lane (drop (i + 1) events)) e (sym parts ∙ all.no_other lane none)))
    (seat_of seats lane)

-- and at its end each list is met to its end
pub told_done : (seats : List Seat) (met : List ℕ) (events : List Event) → AreMet seats met events → AreAllTold events seats
    → All (λ s. (s.lane < 65) × (get_or met s.lane 0 ≡ length s.told)) seats
told_done seats met events h all k d less =
    let s = slice_index_or seats k d in
    let m = h.each k d less in
    let told : s.told ≡ take (get_or met s.lane 0) s.told = sym (all.each k d less) ∙ m.begins in
    (all.lanes.below k d less, omega (arith, ap length told, length-take (get_or met s.lane 0) s.told, m.within))

-- And where each list is met to its end, the seats were told of all.
pub done_told : (seats : List Seat) (met : List ℕ) (events : List Event) → HaveLanes seats → AreMet seats met events
    → All (λ s. (s.lane < 65) × (get_or met s.lane 0 ≡ length s.told)) seats → AreAllTold events seats
done_told seats met events lanes h done = record {
  lanes = lanes;
  each = λ k d less.
      let s = slice_index_or seats k d in
      (h.each k d less).begins ∙ ap (λ n. take n s.told) (done k d less).1 ∙ take-length s.told;
  no_other = h.no_other;
}
