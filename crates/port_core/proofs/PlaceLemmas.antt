-- The table of the seats' places, seat by seat.
use Rattle.std.proofs.Common.{◌≡◌, ◌≢◌, ◌∙◌, ℕ, zero, suc, ◌+◌, ◌<◌, ◌≤◌, List, get_or, set, length, slice_index_or, replicate, refl, ap, sym, arith, ◌⊎◌, ⊎_elim, inl, inr, length-set}
use Rattle.std.proofs.lemmas.Bool.Decides.{eqb_tells}
use Rattle.std.proofs.lemmas.Grind.{get_or-set_at}
use Rattle.std.proofs.lemmas.List.{get_or_default, get_or-set_other}
use Rattle.port_core.specs.Ports.{Seat}
use Rattle.port_core.specs.Settling.{AreTheirPlaces, HaveLanes}

-- Each of the first seats has its place in the table, by its lane, and whatever else stands there is the number that is
-- no place.
pub record ArePlacesSoFar (seats : List Seat) (places : List ℕ) (never n : ℕ) : Type 0 where
  pub size : length places ≡ 65
  pub each : (k : ℕ) (d : Seat) → k < n
      → ((slice_index_or seats k d).lane < length places) × (get_or places ((slice_index_or seats k d).lane) 0 ≡ k)
  pub others : (lane : ℕ) (d : Seat) → lane < length places
      → (get_or places lane 0 ≡ never) ⊎ ((get_or places lane 0 < n) × ((slice_index_or seats (get_or places lane 0) d).lane ≡ lane))

pub places_none : (seats : List Seat) (never : ℕ) → ArePlacesSoFar seats (replicate 65 never) never 0
places_none seats never = record { size = so_many 65; each = λ k d less. absurd (omega (arith, less)); others = λ lane d less. inl (all 65 lane less) }
  where
    so_many : (len : ℕ) → length {A = ℕ} (replicate len never) ≡ len
    so_many zero = refl
    so_many (suc len) = omega (arith, so_many len)

    all : (len lane : ℕ) → lane < length (replicate len never) → get_or {A = ℕ} (replicate len never) lane 0 ≡ never
    all zero lane less = absurd (omega (arith, less))
    all (suc len) zero less = refl
    all (suc len) (suc lane) less = all len lane (omega (arith, less))

-- one seat more
pub places_more : (seats : List Seat) (places : List ℕ) (never n : ℕ) (s : Seat) → n < length seats → s ≡ slice_index_or seats n s → s.lane < length places
    → get_or places s.lane 0 ≡ never → n ≤ never → ArePlacesSoFar seats places never n → ArePlacesSoFar seats (set places s.lane n) never (n + 1)
places_more seats places never n s there stands fits free below h = record {
  size = length-set places s.lane n ∙ h.size;
  each = λ k d less.
      ⊎_elim
      (λ t.
      let seat : slice_index_or seats k d ≡ s = ap (λ i. slice_index_or seats i d) t.1 ∙ get_or_default seats n d s there ∙ sym stands in
      let lane : (slice_index_or seats k d).lane ≡ s.lane = ap (λ (x : Seat). x.lane) seat in
      (omega (arith, lane, fits, length-set places s.lane n), ap (λ l. get_or (set places s.lane n) l 0) lane ∙ get_or-set_at places s.lane s.lane n 0 refl fits ∙ sym t.1))
      (λ t.
      let old = h.each k d (omega (arith, less, t.1)) in
      let lane = (slice_index_or seats k d).lane in
      let apart : lane ≢ s.lane = λ same. absurd (omega (arith, old.1, ap (λ l. get_or places l 0) same, free, below, less, t.1)) in
      (omega (arith, old.0, length-set places s.lane n), get_or-set_other places s.lane lane n 0 apart ∙ old.1))
      (eqb_tells k n);
  others = λ lane d less.
      ⊎_elim
      (λ t.
      let place : get_or (set places s.lane n) lane 0 ≡ n = get_or-set_at places s.lane lane n 0 t.1 fits in
      let seat : slice_index_or seats (get_or (set places s.lane n) lane 0) d ≡ s = ap (λ i. slice_index_or seats i d) place ∙ get_or_default seats n d s there ∙ sym stands in
      inr (omega (arith, place), ap (λ (x : Seat). x.lane) seat ∙ sym t.1))
      (λ t.
      let place : get_or (set places s.lane n) lane 0 ≡ get_or places lane 0 = get_or-set_other places s.lane lane n 0 t.1 in
      ⊎_elim
      (λ none. inl (place ∙ none))
      (λ old. inr (omega (arith, place, old.0), ap (λ i. (slice_index_or seats i d).lane) place ∙ old.1))
      (h.others lane d (omega (arith, less, length-set places s.lane n))))
      (eqb_tells lane s.lane);
}

-- a lane below the table's end has its seat's place alone
pub places_taken : (seats : List Seat) (places : List ℕ) (never n : ℕ) (s : Seat) → n < length seats → s ≡ slice_index_or seats n s → s.lane < length places
    → get_or places s.lane 0 ≢ never → ArePlacesSoFar seats places never n → HaveLanes seats → ⊥
places_taken seats places never n s there stands fits taken h lanes =
    ⊎_elim
    (λ none. taken none)
    (λ old. lanes.apart (get_or places s.lane 0) n s old.0 there (old.1 ∙ ap (λ (x : Seat). x.lane) stands))
    (h.others s.lane s fits)

pub their_places : (seats : List Seat) (places : List ℕ) (never : ℕ) → length seats ≤ never → ArePlacesSoFar seats places never (length seats) → AreTheirPlaces seats places
their_places seats places never below h = record {
  each = h.each;
  no_other = λ lane d on_table there. ⊎_elim (λ none. absurd (omega (arith, none, there, below))) (λ old. old.1) (h.others lane d on_table);
}

-- each of the seats has a lane of its own
pub have_lanes : (seats : List Seat) (places : List ℕ) → length places ≡ 65 → AreTheirPlaces seats places → HaveLanes seats
have_lanes seats places size h = record {
  below = λ k d less. omega (arith, (h.each k d less).0, size);
  apart = λ i k d before less same.
      let one = (h.each i d (omega (arith, before, less))).1 in
      let other = (h.each k d less).1 in
      absurd (omega (arith, one, other, before, ap (λ l. get_or places l 0) same));
}
