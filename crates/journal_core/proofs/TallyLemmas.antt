-- How an acceptance and an event carry a tally on, and what its rows are where all events are counted.
use Rattle.std.proofs.Common.{◌≡◌, ℕ, zero, suc, ◌+◌, ◌-◌, ◌<◌, ◌≤◌, Bool, true, false, cond, ◌||◌, All, List, [], ◌∷◌, ◌++◌, eqb, length, map, get_or, set, Option, Some, None, slice_get, refl, sym, ap, subst, ◌∙◌, inl, inr, arith}
use Rattle.std.specs.Cmp.{IsEquivalence}
use Rattle.std.proofs.lemmas.Map.Keys.{IsDistinct-push, apart_from_distinct}
use Rattle.std.proofs.lemmas.List.Folds.{list_any_at}
use Rattle.std.proofs.lemmas.Option.{get_or_from_slice_get, slice_get_within}
use Rattle.journal_core.specs.declared.note.Note.{Note}
use Rattle.journal_core.specs.declared.tuple_rows.TupleRow.{TupleRow}
use Rattle.journal_core.specs.Notes.{IsNotedAt, counted_by, note_of, noted_id}
use Rattle.journal_core.specs.TupleRows.{first_of_each, of_one_tuple, row_of, tuple_rows, with_new}
use Rattle.journal_core.proofs.Words.{count_by, Decides-like, nat_tests, same_from_decides, AllByRecursion, AllZip, Contains, IsDistinct, cons_option, filter_map, list_any, range_with_len, cases_eq, same_lists, length-set, length-map, get_or-map, get_or-set_same, get_or-set_other, map-append, append-nil, take_all, All-contains, All-from_recursion, All-map, All-weaker, recursion_from_All, count_by-le-length, fold-append, PacketParts, same_tuple, FiveTuple, Event, Accepted, Sent, Dropped, Closed, Acceptance, acceptance_of, fate_of, packet_id_of, acceptances, accepted_ids, fate_ids, named, passes, without_fate, AreDistinct, FatesFollow, IdsInOrder, sent_of, dropped_of, AreTallied, IsBalanced, counted, row_so_far, settled, tuple_of, with_row}
use Rattle.journal_core.proofs.EventLemmas.{sum_more}
use Rattle.journal_core.proofs.FatelessPackets.{count_fated, sum_fates, sum_left}
use Rattle.journal_core.proofs.IdLemmas.{Rises-range, id_of, ids_below, named_at, named_itself, named_within, passes_at}
use Rattle.journal_core.proofs.LawsOfHistory.{same_tuple-Decides}

pub same_tuple-IsEquivalence : IsEquivalence same_tuple
same_tuple-IsEquivalence = record {
  refl = λ t. (same_tuple-Decides t t).1 refl;
  symm = λ t u. same_from_decides (same_tuple t u) (same_tuple u t) (Decides-like (same_tuple t u) sym sym (same_tuple-Decides t u)) (same_tuple-Decides u t);
  congr = λ t u v e. ap (λ x. same_tuple x v) ((same_tuple-Decides t u).0 e);
}

-- the first acceptance of each five-tuple
abbrev pub firsts_of : List Acceptance → List Acceptance
firsts_of accepted = first_of_each of_one_tuple accepted

-- Whatever f tells of the first ones: with one acceptance more it tells of that one last, where its five-tuple is new.
firsts_push : {R : Type 0} (f : Acceptance → R) (accepted : List Acceptance) (a : Acceptance) → map f (firsts_of (accepted ++ a ∷ []))
    ≡ cond (list_any (same_tuple (tuple_of a)) (map tuple_of (firsts_of accepted))) (map f (firsts_of accepted)) (map f (firsts_of accepted) ++ f a ∷ [])
firsts_push f accepted a =
    let firsts = firsts_of accepted in
    ap (map f) (fold-append (with_new of_one_tuple) [] accepted (a ∷ [])) ∙ by (list_any (of_one_tuple a) firsts)
    ∙ ap (λ b. cond b (map f firsts) (map f firsts ++ f a ∷ [])) (has_tuple firsts)
  where
    by : (b : Bool) → map f (cond b (firsts_of accepted) (firsts_of accepted ++ a ∷ [])) ≡ cond b (map f (firsts_of accepted)) (map f (firsts_of accepted) ++ f a ∷ [])
    by true = refl
    by false = map-append f (firsts_of accepted) (a ∷ [])

    has_tuple : (firsts : List Acceptance) → list_any (of_one_tuple a) firsts ≡ list_any (same_tuple (tuple_of a)) (map tuple_of firsts)
    has_tuple [] = refl
    has_tuple (b ∷ firsts) = ap (λ r. of_one_tuple a b || r) (has_tuple firsts)

-- what stands at a place still does behind more elements
pub slice_get-append : {X : Type 0} (xs ys : List X) (place : ℕ) (x : X) → slice_get xs place ≡ Some x → slice_get (xs ++ ys) place ≡ Some x
slice_get-append [] ys place x e = absurd cc
slice_get-append (y ∷ xs) ys zero x e = e
slice_get-append (y ∷ xs) ys (suc place) x e = slice_get-append xs ys place x e

-- The place of each packet's five-tuple
abbrev pub ArePlaced : List FiveTuple → List ℕ → List Acceptance → Type 0
ArePlaced tuples places accepted = AllZip (λ place a. slice_get tuples place ≡ Some (tuple_of a)) places accepted

-- is its own with one packet more, whose five-tuple may be new.
pub placed_push : (tuples more : List FiveTuple) (places : List ℕ) (accepted : List Acceptance) (place : ℕ) (a : Acceptance) → slice_get (tuples ++ more) place ≡ Some (tuple_of a)
    → ArePlaced tuples places accepted → ArePlaced (tuples ++ more) (places ++ place ∷ []) (accepted ++ a ∷ [])
placed_push tuples more [] [] place a at h = (at, tt)
placed_push tuples more [] (b ∷ accepted) place a at h = absurd h
placed_push tuples more (p ∷ places) [] place a at h = absurd h
placed_push tuples more (p ∷ places) (b ∷ accepted) place a at h = (slice_get-append tuples more p (tuple_of b) h.0, placed_push tuples more places accepted place a at h.1)

-- and what stands at the place of each
pub placed_at : (tuples : List FiveTuple) (places : List ℕ) (accepted : List Acceptance) (i d : ℕ) (a : Acceptance) → i < length accepted → ArePlaced tuples places accepted
    → (i < length places) × (slice_get tuples (get_or places i d) ≡ Some (tuple_of (get_or accepted i a)))
placed_at tuples [] [] i d a low z = absurd (omega arith)
placed_at tuples [] (b ∷ accepted) i d a low z = absurd z
placed_at tuples (p ∷ places) [] i d a low z = absurd z
placed_at tuples (p ∷ places) (b ∷ accepted) zero d a low z = (omega arith, z.0)
placed_at tuples (p ∷ places) (b ∷ accepted) (suc i) d a low z = let rest = placed_at tuples places accepted i d a (omega arith) z.1 in let within = rest.0 in (omega arith, rest.1)

-- One packet more is accepted.
pub tallied_adds : (tuples : List FiveTuple) (rows : List TupleRow) (places : List ℕ) (accepted : List Acceptance) (a : Acceptance) (place : ℕ) → slice_get (with_new same_tuple tuples (tuple_of a)) place ≡ Some (tuple_of a)
    → AreTallied tuples rows places accepted [] → AreTallied (with_new same_tuple tuples (tuple_of a)) (with_row tuples rows (tuple_of a) a.flow) (places ++ place ∷ []) (accepted ++ a ∷ []) []
tallied_adds tuples rows places accepted a place at h = record {
  tuples_are = ap (λ ts. with_new same_tuple ts (tuple_of a)) h.tuples_are ∙ sym (firsts_push tuple_of accepted a);
  apart = apart (list_any (same_tuple (tuple_of a)) tuples) refl;
  rows_are = (λ k. with_row (h.tuples_are k) (h.rows_are k) (tuple_of a) a.flow) ∙ sym (firsts_push (row_so_far accepted []) accepted a);
  places_are = placed (list_any (same_tuple (tuple_of a)) tuples) at;
}
  where
    apart : (known : Bool) → list_any (same_tuple (tuple_of a)) tuples ≡ known → IsDistinct same_tuple (cond known tuples (tuples ++ tuple_of a ∷ []))
    apart true e = h.apart
    apart false e = IsDistinct-push same_tuple-IsEquivalence tuples (tuple_of a) h.apart e

    placed : (known : Bool) → slice_get (cond known tuples (tuples ++ tuple_of a ∷ [])) place ≡ Some (tuple_of a) → ArePlaced (cond known tuples (tuples ++ tuple_of a ∷ [])) (places ++ place ∷ []) (accepted ++ a ∷ [])
    placed true at = subst (λ ts. ArePlaced ts (places ++ place ∷ []) (accepted ++ a ∷ [])) (append-nil tuples) (placed_push tuples [] places accepted place a (slice_get-append tuples [] place (tuple_of a) at) h.places_are)
    placed false at = placed_push tuples (tuple_of a ∷ []) places accepted place a at h.places_are

-- a five-tuple that stands somewhere is among those
pub stands_among : (tuples : List FiveTuple) (place : ℕ) (tuple : FiveTuple) → slice_get tuples place ≡ Some tuple → list_any (same_tuple tuple) tuples ≡ true
stands_among tuples place tuple at =
    list_any_at (same_tuple tuple) tuples place tuple (slice_get_within tuples place tuple at) (ap (same_tuple tuple) (get_or_from_slice_get tuples place tuple tuple at) ∙ same_tuple-IsEquivalence.refl tuple)

-- an event that is no acceptance
pub nothing_accepted : (e : Event) → ((lane id moment flow : ℕ) (packet : PacketParts) → e ≡ Accepted lane id moment flow packet → ⊥) → acceptance_of e ≡ None
nothing_accepted (Accepted lane id moment flow packet) other = absurd (other lane id moment flow packet refl)
nothing_accepted (Sent id moment ecn mark) other = refl
nothing_accepted (Dropped id moment cause) other = refl
nothing_accepted (Closed moment) other = refl

-- of distinct keys, the one at the place alone is the key that stands there
alone : {K : Type 0} (eq : K → K → Bool) (laws : IsEquivalence eq) (ks : List K) (i place : ℕ) (k : K) → IsDistinct eq ks → slice_get ks place ≡ Some k → i < length ks → eq k (get_or ks i k) ≡ eqb i place
alone eq laws ks i place k apart at low =
    grind (arith, nat_tests, slice_get_within ks place k at, get_or_from_slice_get ks place k k at, laws.refl k, laws.symm k (get_or ks i k), apart_from_distinct eq ks i place k apart, apart_from_distinct eq ks place i k apart)

-- A change at the place of a packet's five-tuple changes what is told of that five-tuple, and of no other.
module _ (f g : Acceptance → TupleRow) (change : TupleRow → TupleRow) (firsts : List Acceptance) (who : Acceptance) (place : ℕ) (row : TupleRow) (apart : IsDistinct same_tuple (map tuple_of firsts))
    (stands : slice_get (map tuple_of firsts) place ≡ Some (tuple_of who)) (is : row ≡ get_or (map f firsts) place row) (each : (first : Acceptance) → g first ≡ cond (of_one_tuple who first) (change (f first)) (f first)) where
  change_here : (i : ℕ) (d : TupleRow) → i < length firsts → get_or (set (map f firsts) place (change row)) i d ≡ get_or (map g firsts) i d
  change_here i d low =
      let one = alone same_tuple same_tuple-IsEquivalence (map tuple_of firsts) i place (tuple_of who) apart stands (omega (arith, length-map firsts tuple_of)) in
      by (of_one_tuple who (get_or firsts i who)) (rw (get_or-map tuple_of firsts i who (tuple_of who) low) at one) (each (get_or firsts i who))
    where
      by : (own : Bool) → own ≡ eqb i place → g (get_or firsts i who) ≡ cond own (change (f (get_or firsts i who))) (f (get_or firsts i who)) → get_or (set (map f firsts) place (change row)) i d ≡ get_or (map g firsts) i d
      by own one here =
          elim (cases_eq i place) [
            | inl same ↦ grind (arith, nat_tests, get_or-map g firsts i who d low, here, one, same, get_or-set_same (map f firsts) place (change row) d, length-map firsts f, get_or-map f firsts i who row low, is)
            | inr other ↦ grind (arith, nat_tests, get_or-map g firsts i who d low, here, one, get_or-set_other (map f firsts) place i (change row) d other, get_or-map f firsts i who d low)
          ]

  change_at : set (map f firsts) place (change row) ≡ map g firsts
  change_at =
      let len = length-set (map f firsts) place (change row) ∙ length-map firsts f in
      same_lists (set (map f firsts) place (change row)) (map g firsts) (len ∙ sym (length-map firsts g)) (λ i d low. change_here i d (omega arith))

one_more : (own : Bool) (n m : ℕ) → m ≡ n + (0 + cond own 1 0) → m ≡ cond own (n + 1) n
one_more true n m e = omega arith
one_more false n m e = omega arith

none_more : (own : Bool) (n m : ℕ) → m ≡ n + 0 → m ≡ cond own n n
none_more true n m e = omega arith
none_more false n m e = omega arith

-- An event changes the row of its packet's five-tuple.
module _ (accepted : List Acceptance) (seen : List Event) (first : Acceptance) where
  abbrev row_with : ℕ → ℕ → ℕ → TupleRow
  row_with a s d = record { tuple = tuple_of first; flow = first.flow; accepted = a; sent = s; dropped = d; queued = 0 }

  grown : (own : Bool) (a s d x y z a' s' d' : ℕ) → a' ≡ cond own x a → s' ≡ cond own y s → d' ≡ cond own z d → row_with a' s' d' ≡ cond own (row_with x y z) (row_with a s d)
  grown true a s d x y z a' s' d' of_a of_s of_d = λ k. row_with (of_a k) (of_s k) (of_d k)
  grown false a s d x y z a' s' d' of_a of_s of_d = λ k. row_with (of_a k) (of_s k) (of_d k)

  abbrev own : Acceptance → Bool
  own a = of_one_tuple a first

  abbrev named_own : ℕ → Bool
  named_own id = passes own accepted id

  -- the event's own
  own_more : (who : Acceptance) (id : ℕ) (h : Event → Option ℕ) (e : Event) → named accepted id ≡ Some who → filter_map h (e ∷ []) ≡ id ∷ [] → count_by named_own (filter_map h (seen ++ e ∷ [])) ≡ cond (own who) (count_by named_own (filter_map h seen) + 1) (count_by named_own (filter_map h seen))
  own_more who id h e found is =
      one_more (own who) (count_by named_own (filter_map h seen)) (count_by named_own (filter_map h (seen ++ e ∷ [])))
      (sum_more (λ x. cond (named_own x) 1 0) h seen e ∙ ap (λ ids. count_by named_own (filter_map h seen) + count_by named_own ids) is ∙ ap (λ b. count_by named_own (filter_map h seen) + (0 + cond b 1 0)) (passes_at own accepted id who found))

  row_counts : (e : Event) (id : ℕ) (who : Acceptance) → packet_id_of e ≡ Some id → named accepted id ≡ Some who → ((a : Acceptance) → acceptance_of e ≡ Some a → a ≡ who)
      → row_so_far accepted (seen ++ e ∷ []) first ≡ cond (own who) (counted e (row_so_far accepted seen first)) (row_so_far accepted seen first)
  row_counts (Accepted lane n moment flow packet) id who of_id found same =
      let e : Event = Accepted lane n moment flow packet in
      let one = sum_more (λ x. cond (own x) 1 0) acceptance_of seen e ∙ ap (λ (b : Acceptance). count_by own (acceptances seen) + (0 + cond (own b) 1 0)) (same (record { id = n; moment = moment; lane = lane; flow = flow; packet = packet }) refl) in
      grown (own who) _ _ _ _ _ _ _ _ _ (one_more (own who) _ _ one) (none_more (own who) _ _ (sum_more (λ x. cond (named_own x) 1 0) sent_of seen e)) (none_more (own who) _ _ (sum_more (λ x. cond (named_own x) 1 0) dropped_of seen e))
  row_counts (Sent n moment ecn mark) id who of_id found same =
      let e : Event = Sent n moment ecn mark in
      grown (own who) _ _ _ _ _ _ _ _ _ (none_more (own who) _ _ (sum_more (λ x. cond (own x) 1 0) acceptance_of seen e)) (own_more who id sent_of e found (let is : n ≡ id = cc in ap (λ m. m ∷ []) is)) (none_more (own who) _ _ (sum_more (λ x. cond (named_own x) 1 0) dropped_of seen e))
  row_counts (Dropped n moment cause) id who of_id found same =
      let e : Event = Dropped n moment cause in
      grown (own who) _ _ _ _ _ _ _ _ _ (none_more (own who) _ _ (sum_more (λ x. cond (own x) 1 0) acceptance_of seen e)) (none_more (own who) _ _ (sum_more (λ x. cond (named_own x) 1 0) sent_of seen e)) (own_more who id dropped_of e found (let is : n ≡ id = cc in ap (λ m. m ∷ []) is))
  row_counts (Closed moment) id who of_id found same = absurd cc

  -- one that is of no packet changes none
  row_stays : (e : Event) → packet_id_of e ≡ None → row_so_far accepted (seen ++ e ∷ []) first ≡ row_so_far accepted seen first
  row_stays (Accepted lane n moment flow packet) none = absurd cc
  row_stays (Sent n moment ecn mark) none = absurd cc
  row_stays (Dropped n moment cause) none = absurd cc
  row_stays (Closed moment) none =
      let e : Event = Closed moment in
      grown false _ _ _ 0 0 0 _ _ _ (none_more false _ _ (sum_more (λ x. cond (own x) 1 0) acceptance_of seen e)) (none_more false _ _ (sum_more (λ x. cond (named_own x) 1 0) sent_of seen e)) (none_more false _ _ (sum_more (λ x. cond (named_own x) 1 0) dropped_of seen e))

  -- no count is above the number of events
  row_few : ((row_so_far accepted seen first).accepted ≤ length seen) × ((row_so_far accepted seen first).sent ≤ length seen) × ((row_so_far accepted seen first).dropped ≤ length seen)
  row_few = (few acceptance_of own, few sent_of named_own, few dropped_of named_own)
    where
      shorter : {X : Type 0} (h : Event → Option X) (events : List Event) → length (filter_map h events) ≤ length events
      shorter h [] = omega arith
      shorter h (e ∷ events) = by (h e) (shorter h events)
        where
          by : (o : Option _) → length (filter_map h events) ≤ length events → length (cons_option o (filter_map h events)) ≤ length (e ∷ events)
          by None l = omega arith
          by (Some x) l = omega arith

      few : {X : Type 0} (h : Event → Option X) (p : X → Bool) → count_by p (filter_map h seen) ≤ length seen
      few h p = omega (arith, count_by-le-length p (filter_map h seen), shorter h seen)

-- What the laws of a journal say of an event's packet: it is among those accepted, at its id.
pub record IsOfPacket (accepted : List Acceptance) (e : Event) (id : ℕ) : Type 0 where
  pub who : Acceptance
  pub below : id < length accepted
  pub found : named accepted id ≡ Some who
  pub same : (a : Acceptance) → acceptance_of e ≡ Some a → a ≡ who

-- what holds of all that the events tell holds of what one tells
told_at : {X : Type 0} (h : Event → Option X) (P : X → Type 0) (events : List Event) (place : ℕ) (d : Event) (x : X) → place < length events → h (get_or events place d) ≡ Some x → AllByRecursion P (filter_map h events) → P x
told_at h P [] place d x low is all = absurd (omega arith)
told_at h P (e ∷ events) zero d x low is all = (rw is at all).0
told_at h P (e ∷ events) (suc place) d x low is all = told_at h P events place d x (omega arith) is (rest (h e) all)
  where
    rest : (o : Option _) → AllByRecursion P (cons_option o (filter_map h events)) → AllByRecursion P (filter_map h events)
    rest None all = all
    rest (Some y) all = all.1

module _ (events : List Event) (ids : IdsInOrder events) (follow : FatesFollow events) where
  -- each fate is of an id that was accepted
  pub fates_below : AllByRecursion (λ id. id < length (acceptances events)) (fate_ids events)
  fates_below =
      let n = length (acceptances events) in
      let all : All (Contains (accepted_ids events)) (fate_ids events) = subst (λ es. All (Contains (accepted_ids es)) (fate_ids es)) (take_all (length events) events (omega arith)) (follow (length events)) in
      let below : All (λ id. id < n) (accepted_ids events) = All-map (λ id. id < n) id_of (acceptances events) (All-from_recursion (λ a. a.id < n) (acceptances events) (ids_below n (acceptances events) ids)) in
      recursion_from_All (λ id. id < n) (fate_ids events) (All-weaker (Contains (accepted_ids events)) (λ id. id < n) (λ id has. All-contains (λ i. i < n) (accepted_ids events) id below has) (fate_ids events) all)

  of_fate : (e : Event) (id : ℕ) → acceptance_of e ≡ None → id < length (acceptances events) → IsOfPacket (acceptances events) e id
  of_fate e id none below =
      let found = named_within (length (acceptances events)) (acceptances events) id ids below in
      record { who = found.0; below = below; found = found.1; same = λ a is. absurd cc }

  pub event_packet : (place : ℕ) (d e : Event) (id : ℕ) → place < length events → get_or events place d ≡ e → packet_id_of e ≡ Some id → IsOfPacket (acceptances events) e id
  event_packet place d (Accepted lane n moment flow packet) id low is of_id =
      let a : Acceptance = record { id = n; moment = moment; lane = lane; flow = flow; packet = packet } in
      let accepted = acceptances events in
      let is_id : n ≡ id = cc in
      let tells = ap acceptance_of is in
      let known = told_at acceptance_of (λ b. named accepted b.id ≡ Some b) events place d a low tells (named_itself 0 accepted (Rises-range 0 (length accepted) accepted ids)) in
      let within = told_at acceptance_of (λ b. b.id < length accepted) events place d a low tells (ids_below (length accepted) accepted ids) in
      record { who = a; below = omega arith; found = ap (named accepted) (sym is_id) ∙ known; same = λ b e. cc }
  event_packet place d (Sent n moment ecn mark) id low is of_id = of_fate (Sent n moment ecn mark) id refl (told_at fate_of (λ i. i < length (acceptances events)) events place d id low (ap fate_of is ∙ of_id) fates_below)
  event_packet place d (Dropped n moment cause) id low is of_id = of_fate (Dropped n moment cause) id refl (told_at fate_of (λ i. i < length (acceptances events)) events place d id low (ap fate_of is ∙ of_id) fates_below)
  event_packet place d (Closed moment) id low is of_id = absurd cc

module _ (tuples : List FiveTuple) (rows : List TupleRow) (places : List ℕ) (accepted : List Acceptance) (seen : List Event) (h : AreTallied tuples rows places accepted seen) where
  pub as_many : length rows ≡ length tuples
  as_many = ap length h.rows_are ∙ length-map (firsts_of accepted) (row_so_far accepted seen) ∙ sym (ap length h.tuples_are ∙ length-map (firsts_of accepted) tuple_of)

  -- an event that is of no packet
  pub tallied_stays : (e : Event) → packet_id_of e ≡ None → AreTallied tuples rows places accepted (seen ++ e ∷ [])
  tallied_stays e none = record {
    tuples_are = h.tuples_are;
    apart = h.apart;
    rows_are = h.rows_are ∙ (λ k. map (λ first. sym (row_stays accepted seen first e none) k) (firsts_of accepted));
    places_are = h.places_are;
  }

  -- an event of a packet: its place is known,
  module _ (ids : map id_of accepted ≡ range_with_len 0 (length accepted)) (e : Event) (id : ℕ) (of_packet : IsOfPacket accepted e id) where
    pub packet_placed : (d : ℕ) → (id < length places) × (slice_get tuples (get_or places id d) ≡ Some (tuple_of of_packet.who))
    packet_placed d =
        let who = of_packet.who in
        let found = sym of_packet.found ∙ named_at (length accepted) accepted id who ids of_packet.below in
        let is_who : get_or accepted id who ≡ who = cc in
        let at = placed_at tuples places accepted id d who of_packet.below h.places_are in
        (at.0, at.1 ∙ ap (λ a. Some (tuple_of a)) is_who)

    -- and so is its row, which changes
    module _ (place : ℕ) (at : slice_get tuples place ≡ Some (tuple_of of_packet.who)) where
      pub packet_within : place < length rows
      packet_within = let within = slice_get_within tuples place (tuple_of of_packet.who) at in omega (arith, as_many)

      module _ (row : TupleRow) (is : row ≡ get_or rows place row) where
        is_row : row ≡ get_or (map (row_so_far accepted seen) (firsts_of accepted)) place row
        is_row = is ∙ ap (λ rs. get_or rs place row) h.rows_are

        pub packet_few : (row.accepted ≤ length seen) × (row.sent ≤ length seen) × (row.dropped ≤ length seen)
        packet_few =
            let within = packet_within in
            let len = ap length h.rows_are ∙ length-map (firsts_of accepted) (row_so_far accepted seen) in
            let is_first = is_row ∙ get_or-map (row_so_far accepted seen) (firsts_of accepted) place of_packet.who row (omega arith) in
            subst (λ (r : TupleRow). (r.accepted ≤ length seen) × (r.sent ≤ length seen) × (r.dropped ≤ length seen)) (sym is_first) (row_few accepted seen (get_or (firsts_of accepted) place of_packet.who))

        pub tallied_counts : packet_id_of e ≡ Some id → AreTallied tuples (set rows place (counted e row)) places accepted (seen ++ e ∷ [])
        tallied_counts of_id = record {
          tuples_are = h.tuples_are;
          apart = h.apart;
          rows_are =
              ap (λ rs. set rs place (counted e row)) h.rows_are
              ∙ change_at (row_so_far accepted seen) (row_so_far accepted (seen ++ e ∷ [])) (counted e) (firsts_of accepted) of_packet.who place row (subst (IsDistinct same_tuple) h.tuples_are h.apart)
              (ap (λ ts. slice_get ts place) (sym h.tuples_are) ∙ at) is_row (λ first. row_counts accepted seen first e id of_packet.who of_id of_packet.found of_packet.same);
          places_are = h.places_are;
        }

-- Where all events are counted, what was accepted and is neither sent nor dropped has no fate.
module _ (events : List Event) (ids : IdsInOrder events) (once : AreDistinct (fate_ids events)) where
  abbrev whole : Acceptance → TupleRow
  whole first = row_so_far (acceptances events) events first

  row_adds_up : (first : Acceptance) → (row_of events first).queued + ((whole first).sent + (whole first).dropped) ≡ (whole first).accepted
  row_adds_up first = by (λ a. of_one_tuple a first)
    where
      by : (own : Acceptance → Bool) → count_by own (without_fate events)
          + (count_by (passes own (acceptances events)) (filter_map sent_of events) + count_by (passes own (acceptances events)) (filter_map dropped_of events)) ≡ count_by own (acceptances events)
      by own =
          let accepted = acceptances events in
          let all = sum_left (λ a. cond (own a) 1 0) 0 accepted (fate_ids events) (Rises-range 0 (length accepted) accepted ids) once in
          omega (arith, all, count_fated own accepted (fate_ids events), sum_fates (λ id. cond (passes own accepted id) 1 0) events)

  settled_rows : (firsts : List Acceptance) → map settled (map whole firsts) ≡ map (row_of events) firsts
  settled_rows [] = refl
  settled_rows (first ∷ firsts) =
      let all = row_adds_up first in
      let queued : (whole first).accepted - (whole first).sent - (whole first).dropped ≡ (row_of events first).queued = omega arith in
      λ k. record (whole first) { queued = queued k } ∷ settled_rows firsts k

  module _ (tuples : List FiveTuple) (rows : List TupleRow) (places : List ℕ) (h : AreTallied tuples rows places (acceptances events) events) where
    pub rows_settle : All (λ row. row.sent + row.dropped ≤ row.accepted) rows
    rows_settle =
        rw h.rows_are (All-map (λ row. row.sent + row.dropped ≤ row.accepted) whole (firsts_of (acceptances events)) (λ i d low. omega (arith, row_adds_up (get_or (firsts_of (acceptances events)) i d))))

    pub rows_are_settled : map settled rows ≡ tuple_rows events
    rows_are_settled = ap (map settled) h.rows_are ∙ settled_rows (firsts_of (acceptances events))

  pub rows_are_balanced : All IsBalanced (tuple_rows events)
  rows_are_balanced = All-map IsBalanced (row_of events) (firsts_of (acceptances events)) (λ i d low. omega (arith, row_adds_up (get_or (firsts_of (acceptances events)) i d)))

-- What a note tells is what its event tells.
pub counted_noted : (e : Event) (row : TupleRow) → counted_by (note_of e) row ≡ counted e row
counted_noted (Accepted lane n moment flow packet) row = refl
counted_noted (Sent n moment ecn mark) row = refl
counted_noted (Dropped n moment cause) row = refl
counted_noted (Closed moment) row = refl

pub noted_packet : (e : Event) → noted_id (note_of e) ≡ packet_id_of e
noted_packet (Accepted lane n moment flow packet) = refl
noted_packet (Sent n moment ecn mark) = refl
noted_packet (Dropped n moment cause) = refl
noted_packet (Closed moment) = refl

-- a note among those of all events is of the event at its place
pub noted_at : (events : List Event) (place : ℕ) (d n : Note) → place < length events → n ≡ get_or (map note_of events) place d → IsNotedAt events place n
noted_at [] place d n low is = absurd (omega arith)
noted_at (e ∷ events) zero d n low is = record { event = e; within = low; stands = refl; is = is }
noted_at (e ∷ events) (suc place) d n low is =
    let rest = noted_at events place d n (omega arith) is in
    record { event = rest.event; within = low; stands = rest.stands; is = rest.is }
