-- How packets are seen, and how their rows are found from what was seen.
use Rattle.std.proofs.Common.{◌≡◌, ℕ, zero, suc, add-one, ◌+◌, ◌<◌, Bool, true, false, cond, ◌||◌, All, List, [], ◌∷◌, ◌++◌, length, map, get_or, take, drop, fold, Some, None, ◌≤◌, slice_get, refl, sym, ap, subst, ◌∙◌, ◌⊎◌, inl, inr, arith}
use Rattle.std.proofs.lemmas.Option.{get_or_from_slice_get, slice_get-map, slice_get_past, slice_get_read, slice_get_within}
use Rattle.std.specs.Option.{option_map}
use Rattle.journal_core.specs.declared.tally.Seen.{Seen}
use Rattle.journal_core.specs.declared.tuple_rows.TupleRow.{TupleRow}
use Rattle.journal_core.specs.Tallies.{AreSeen, seen_of, tuples_of}
use Rattle.journal_core.specs.TupleRows.{of_one_tuple, with_new}
use Rattle.journal_core.proofs.Words.{AllByRecursion, AllZip, All-from_recursion, append-nil, fold-append, get_or-map, length-map, list_any, list_any-append, map-append, same_tuple, FiveTuple, Acceptance, AreTallied, row_so_far, tuple_of}
use Rattle.journal_core.proofs.TallyLemmas.{ArePlaced, firsts_of, placed_at, placed_push, same_tuple-IsEquivalence, slice_get-append}

or_last : (b : Bool) → (b || (true || false)) ≡ true
or_last true = refl
or_last false = refl

-- A five-tuple that is known stays known,
known_stays : (a : Acceptance) (known more : List Acceptance) → list_any (of_one_tuple a) known ≡ true → list_any (of_one_tuple a) (fold (with_new of_one_tuple) known more) ≡ true
known_stays a known [] has = has
known_stays a known (b ∷ more) has = known_stays a (with_new of_one_tuple known b) more (by (list_any (of_one_tuple b) known))
  where
    by : (is : Bool) → list_any (of_one_tuple a) (cond is known (known ++ b ∷ [])) ≡ true
    by true = has
    by false = list_any-append (of_one_tuple a) known (b ∷ []) ∙ ap (λ r. r || list_any (of_one_tuple a) (b ∷ [])) has

-- and one that stands among acceptances is that of one of the first ones.
known_from : (a : Acceptance) (known accepted : List Acceptance) (place : ℕ) → slice_get (map tuple_of accepted) place ≡ Some (tuple_of a) → list_any (of_one_tuple a) (fold (with_new of_one_tuple) known accepted) ≡ true
known_from a known [] place at = absurd cc
known_from a known (b ∷ accepted) zero at =
    let same : tuple_of b ≡ tuple_of a = cc in
    known_stays a (with_new of_one_tuple known b) accepted (by same (list_any (of_one_tuple b) known) refl)
  where
    by : tuple_of b ≡ tuple_of a → (is : Bool) → list_any (of_one_tuple b) known ≡ is → list_any (of_one_tuple a) (cond is known (known ++ b ∷ [])) ≡ true
    by same true e = ap (λ t. list_any (λ (x : Acceptance). same_tuple t (tuple_of x)) known) (sym same) ∙ e
    by same false e =
        let own : of_one_tuple a b ≡ true = ap (same_tuple (tuple_of a)) same ∙ same_tuple-IsEquivalence.refl (tuple_of a) in
        list_any-append (of_one_tuple a) known (b ∷ []) ∙ ap (λ r. list_any (of_one_tuple a) known || (r || false)) own ∙ or_last (list_any (of_one_tuple a) known)
known_from a known (b ∷ accepted) (suc place) at = known_from a (with_new of_one_tuple known b) accepted place at

firsts_more : (accepted : List Acceptance) (a : Acceptance) → firsts_of (accepted ++ a ∷ []) ≡ with_new of_one_tuple (firsts_of accepted) a
firsts_more accepted a = fold-append (with_new of_one_tuple) [] accepted (a ∷ [])

tuples_kept : (kept : List Acceptance) → tuples_of (map seen_of kept) ≡ map tuple_of kept
tuples_kept [] = refl
tuples_kept (a ∷ kept) = ap (λ ts. tuple_of a ∷ ts) (tuples_kept kept)

-- One packet more is accepted, and its five-tuple stands at a place, if need be as one more.
pub seen_adds : (seen new : List Seen) (places : List ℕ) (accepted : List Acceptance) (a : Acceptance) (place : ℕ) → (new ≡ seen) ⊎ (new ≡ seen ++ seen_of a ∷ [])
    → slice_get (tuples_of new) place ≡ Some (tuple_of a) → AreSeen seen places accepted → AreSeen new (places ++ place ∷ []) (accepted ++ a ∷ [])
seen_adds seen new places accepted a place (inl same) at h =
    let stands : slice_get (tuples_of seen) place ≡ Some (tuple_of a) = ap (λ s. slice_get (tuples_of s) place) (sym same) ∙ at in
    let is_kept = ap (λ ts. slice_get ts place) (sym (ap tuples_of h.seen_are ∙ tuples_kept h.kept)) ∙ stands in
    let known = known_from a [] h.kept place is_kept in
    record {
      kept = h.kept;
      seen_are = same ∙ h.seen_are;
      firsts_are = h.firsts_are ∙ sym (ap (λ b. cond b (firsts_of accepted) (firsts_of accepted ++ a ∷ [])) (ap (list_any (of_one_tuple a)) (sym h.firsts_are) ∙ known)) ∙ sym (firsts_more accepted a);
      places_are = subst (λ ts. ArePlaced ts (places ++ place ∷ []) (accepted ++ a ∷ [])) (append-nil (tuples_of seen) ∙ ap tuples_of (sym same))
          (placed_push (tuples_of seen) [] places accepted place a (slice_get-append (tuples_of seen) [] place (tuple_of a) stands) h.places_are);
    }
seen_adds seen new places accepted a place (inr more) at h =
    let tuples : tuples_of new ≡ tuples_of seen ++ tuple_of a ∷ [] = ap tuples_of more ∙ map-append (λ (s : Seen). s.tuple) seen (seen_of a ∷ []) in
    record {
      kept = h.kept ++ a ∷ [];
      seen_are = more ∙ ap (λ s. s ++ seen_of a ∷ []) h.seen_are ∙ sym (map-append seen_of h.kept (a ∷ []));
      firsts_are = firsts_more h.kept a ∙ ap (λ firsts. with_new of_one_tuple firsts a) h.firsts_are ∙ sym (firsts_more accepted a);
      places_are = subst (λ ts. ArePlaced ts (places ++ place ∷ []) (accepted ++ a ∷ [])) (sym tuples)
          (placed_push (tuples_of seen) (tuple_of a ∷ []) places accepted place a (ap (λ ts. slice_get ts place) (sym tuples) ∙ at) h.places_are);
    }

-- the kept packet of a five-tuple that is seen, and those up to it
kept_at : (kept : List Acceptance) (i : ℕ) (d : Seen) → i < length kept → (a : Acceptance) × (take (suc i) kept ≡ take i kept ++ a ∷ []) × (seen_of a ≡ get_or (map seen_of kept) i d)
kept_at [] i d low = absurd (omega arith)
kept_at (a ∷ kept) zero d low = (a, refl, refl)
kept_at (a ∷ kept) (suc i) d low = let rest = kept_at kept i d (omega arith) in (rest.0, ap (λ more. a ∷ more) rest.1, rest.2)

-- What holds with each packet more that has the next five-tuple holds with the next one that is kept.
pub with_next : (P : List Acceptance → Type 0) (kept : List Acceptance) (i : ℕ) (items : List Seen) (d : Seen) → items ≡ map seen_of kept → i < length kept
    → ((a : Acceptance) → tuple_of a ≡ (get_or items i d).tuple → a.flow ≡ (get_or items i d).flow → P (take i kept ++ a ∷ [])) → P (take (i + 1) kept)
with_next P kept i items d same low each =
    let next = kept_at kept i d low in
    let is : seen_of next.0 ≡ get_or items i d = next.2 ∙ ap (λ s. get_or s i d) (sym same) in
    rw (add-one, next.1) (each next.0 (ap (λ (s : Seen). s.tuple) is) (ap (λ (s : Seen). s.flow) is))

-- What was accepted has its five-tuple among those of the kept packets, whose rows are made.
module _ (tuples : List FiveTuple) (rows : List ℕ) (kept : List Acceptance) (placed : ArePlaced tuples rows kept) where
  abbrev StandAt : List ℕ → List Acceptance → Type 0
  StandAt places accepted = AllZip (λ place a. slice_get (map tuple_of kept) place ≡ Some (tuple_of a)) places accepted

  stands_within : (place : ℕ) (a : Acceptance) → slice_get (map tuple_of kept) place ≡ Some (tuple_of a) → place < length kept
  stands_within place a at = omega (arith, slice_get_within (map tuple_of kept) place (tuple_of a) at, length-map kept tuple_of)

  all_within : (places : List ℕ) (accepted : List Acceptance) → StandAt places accepted → AllByRecursion (λ place. place < length rows) places
  all_within [] [] z = tt
  all_within [] (a ∷ accepted) z = absurd z
  all_within (p ∷ places) [] z = absurd z
  all_within (p ∷ places) (a ∷ accepted) z = ((placed_at tuples rows kept p 0 a (stands_within p a z.0) placed).0, all_within places accepted z.1)

  turned_placed : (places : List ℕ) (accepted : List Acceptance) → StandAt places accepted → ArePlaced tuples (map (λ place. get_or rows place 0) places) accepted
  turned_placed [] [] z = tt
  turned_placed [] (a ∷ accepted) z = absurd z
  turned_placed (p ∷ places) [] z = absurd z
  turned_placed (p ∷ places) (a ∷ accepted) z =
      let low = stands_within p a z.0 in
      let is : tuple_of (get_or kept p a) ≡ tuple_of a = sym (get_or-map tuple_of kept p a (tuple_of a) low) ∙ get_or_from_slice_get (map tuple_of kept) p (tuple_of a) (tuple_of a) z.0 in
      ((placed_at tuples rows kept p 0 a low placed).1 ∙ ap (λ t. Some t) is, turned_placed places accepted z.1)

module _ (seen : List Seen) (places : List ℕ) (accepted : List Acceptance) (h : AreSeen seen places accepted)
    (tuples : List FiveTuple) (rows : List TupleRow) (turned : List ℕ) (t : AreTallied tuples rows turned h.kept []) where
  stand : AllZip (λ place a. slice_get (map tuple_of h.kept) place ≡ Some (tuple_of a)) places accepted
  stand = subst (λ ts. AllZip (λ place a. slice_get ts place ≡ Some (tuple_of a)) places accepted) (ap tuples_of h.seen_are ∙ tuples_kept h.kept) h.places_are

  pub turns_within : All (λ place. place < length turned) places
  turns_within = All-from_recursion (λ place. place < length turned) places (all_within tuples turned h.kept t.places_are places accepted stand)

  pub turned_tallied : AreTallied tuples rows (map (λ place. get_or turned place 0) places) accepted []
  turned_tallied = record {
    tuples_are = t.tuples_are ∙ ap (map tuple_of) h.firsts_are;
    apart = t.apart;
    rows_are = t.rows_are ∙ ap (map (row_so_far accepted [])) h.firsts_are;
    places_are = turned_placed tuples turned h.kept t.places_are places accepted stand;
  }

-- Where the front of a list is changed, what stands after it is as it was.
pub left_at : (f : ℕ → ℕ) (xs ys : List ℕ) (i d : ℕ) → i < length xs → ys ≡ map f (take i xs) ++ drop i xs → get_or ys i d ≡ get_or xs i d
left_at f [] ys i d low is = absurd (omega arith)
left_at f (x ∷ xs) ys zero d low is = ap (λ (l : List ℕ). get_or l zero d) is
left_at f (x ∷ xs) ys (suc i) d low is = ap (λ (l : List ℕ). get_or l (suc i) d) is ∙ left_at f xs (map f (take i xs) ++ drop i xs) i d (omega arith) refl

-- the five-tuple at a place
pub stands_where : (seen : List Seen) (place : ℕ) (one : Seen) → place < length seen → one ≡ get_or seen place one → slice_get (tuples_of seen) place ≡ Some one.tuple
stands_where seen place one low is = slice_get-map (λ (s : Seen). s.tuple) seen place ∙ ap (option_map (λ (s : Seen). s.tuple)) (slice_get_read seen (length seen) place one refl low is)

-- and past the end there is none
pub stands_nowhere : (seen : List Seen) (place : ℕ) → length seen ≤ place → slice_get (tuples_of seen) place ≡ None
stands_nowhere seen place past = slice_get_past (tuples_of seen) place (omega (arith, length-map seen (λ (s : Seen). s.tuple)))
