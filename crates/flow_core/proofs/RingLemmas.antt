-- A flow leaves a ring or comes to its end, or the ring turns, and the other ring over the same numbers stays.
use Rattle.std.proofs.Common.{◌≡◌, ◌≢◌, ℕ, ◌+◌, ◌-◌, ◌<◌, List, [], ◌∷◌, ◌++◌, Contains, length, length-append, get_or, set, get_or-set_other, get_or-set_same, refl, sym, ap, subst, ◌∙◌, inl, inr, arith, length-set}
use Rattle.std.proofs.lemmas.List.{get_or_append_left}
use Rattle.std.proofs.lemmas.List.Elements.{All-contains, Contains-append_right}
use Rattle.slab.proofs.SlabLemmas.{Contains-cons, Contains-cons_cases}
use Rattle.flow_core.specs.declared.listed_flows.Ring.{Ring}
use Rattle.flow_core.specs.FlowLists.{AreDistinct}
use Rattle.flow_core.specs.Rings.{EndsAt, Follow, IsRing, first_or, flows_from, flows_of, last_from}

-- of distinct flows those of each part are, and the parts share none
pub distinct_left : (xs ys : List ℕ) → AreDistinct (xs ++ ys) → AreDistinct xs
distinct_left [] ys once = tt
distinct_left (x ∷ xs) ys once = (
  λ k d h. subst (λ (o : ℕ). o ≢ x) (get_or_append_left xs ys d k h) (once.0 k d (omega (arith, h, length-append xs ys))),
  distinct_left xs ys once.1,
)

pub distinct_right : (xs ys : List ℕ) → AreDistinct (xs ++ ys) → AreDistinct ys
distinct_right [] ys once = once
distinct_right (x ∷ xs) ys once = distinct_right xs ys once.1

pub apart : (xs ys : List ℕ) (flow : ℕ) → AreDistinct (xs ++ ys) → Contains xs flow → Contains ys flow → ⊥
apart [] ys flow once has also = let none = has.1 in absurd (omega (arith, none))
apart (x ∷ xs) ys flow once has also =
    elim (Contains-cons_cases x flow xs has) [
      | inl same ↦ All-contains (λ (o : ℕ). o ≢ x) (xs ++ ys) flow once.0 (Contains-append_right xs ys flow also) (sym same)
      | inr there ↦ apart xs ys flow once.1 there also
    ]

pub has_first : (flow : ℕ) (rest : List ℕ) → Contains (flow ∷ rest) flow
has_first flow rest = (0, omega arith, refl)

pub has_last : (flow : ℕ) (rest : List ℕ) → Contains (flow ∷ rest) (last_from flow rest)
has_last flow [] = has_first flow []
has_last flow (other ∷ rest) = Contains-cons flow (last_from other rest) (other ∷ rest) (has_last other rest)

-- they follow each other where the numbers beside them stay
follow_stays : (old new flows : List ℕ) (behind : ℕ) → ((flow : ℕ) → Contains flows flow → get_or new flow 0 ≡ get_or old flow 0) → Follow old flows behind → Follow new flows behind
follow_stays old new [] behind same follow = tt
follow_stays old new (flow ∷ rest) behind same follow =
    (same flow (has_first flow rest) ∙ follow.0, follow_stays old new rest behind (λ other has. same other (Contains-cons flow other rest has)) follow.1)

-- another number comes beside the last one
follow_closes : (next : List ℕ) (flow : ℕ) (rest : List ℕ) (behind other : ℕ) → last_from flow rest < length next → AreDistinct (flow ∷ rest) → Follow next (flow ∷ rest) behind
    → Follow (set next (last_from flow rest) other) (flow ∷ rest) other
follow_closes next flow [] behind other within once follow = (get_or-set_same next flow other 0 within, tt)
follow_closes next flow (then ∷ rest) behind other within once follow =
    let last = last_from then rest in
    let differs : flow ≢ last = λ (same : flow ≡ last). All-contains (λ (o : ℕ). o ≢ flow) (then ∷ rest) last once.0 (has_last then rest) (sym same) in
    (get_or-set_other next last flow other 0 differs ∙ follow.0, follow_closes next then rest behind other within once.1 follow.1)

first_push : (rest : List ℕ) (flow any : ℕ) → first_or rest flow ≡ first_or (rest ++ flow ∷ []) any
first_push [] flow any = refl
first_push (then ∷ rest) flow any = refl

-- the flow that the last one has beside it comes to the end
follow_push : (next rest : List ℕ) (flow behind : ℕ) → Follow next rest flow → get_or next flow 0 ≡ behind → Follow next (rest ++ flow ∷ []) behind
follow_push next [] flow behind follow is = (is, tt)
follow_push next (then ∷ rest) flow behind follow is = (follow.0 ∙ first_push rest flow behind, follow_push next rest flow behind follow.1 is)

last_push : (first : ℕ) (rest : List ℕ) (flow : ℕ) → flow ≡ last_from first (rest ++ flow ∷ [])
last_push first [] flow = refl
last_push first (then ∷ rest) flow = last_push then rest flow

ends_push : (rest : List ℕ) (flow : ℕ) → EndsAt (rest ++ flow ∷ []) flow
ends_push [] flow = refl
ends_push (first ∷ rest) flow = last_push first rest flow

-- beside the last one stands what follows them
last_follows : (next : List ℕ) (flow : ℕ) (rest : List ℕ) (behind : ℕ) → Follow next (flow ∷ rest) behind → get_or next (last_from flow rest) 0 ≡ behind
last_follows next flow [] behind follow = follow.0
last_follows next flow (then ∷ rest) behind follow = last_follows next then rest behind follow.1

walked : (next flows : List ℕ) (behind any : ℕ) → Follow next flows behind → flows_from next (length flows) (first_or flows any) ≡ flows
walked next [] behind any follow = refl
walked next (flow ∷ rest) behind any follow =
    ap (λ (fs : List ℕ). flow ∷ fs) (subst (λ (k : ℕ). flows_from next (length rest) k ≡ rest) (sym follow.0) (walked next rest behind behind follow.1))

-- the first flow stands beside the last one
pub first_beside : (next : List ℕ) (ring : Ring) (flow : ℕ) (rest : List ℕ) → IsRing next ring (flow ∷ rest) → get_or next ring.last 0 ≡ flow
first_beside next ring flow rest is = ap (λ (k : ℕ). get_or next k 0) is.ends ∙ last_follows next flow rest flow is.follow

-- the flows of a ring are those that are read off it
pub ring_seen : (next : List ℕ) (ring : Ring) (flows : List ℕ) → IsRing next ring flows → flows_of next ring ≡ flows
ring_seen next ring [] is = rw is.len refl
ring_seen next ring (flow ∷ rest) is = rw (is.len, first_beside next ring flow rest is) (walked next (flow ∷ rest) flow 0 is.follow)

pub ring_stays : (old new : List ℕ) (ring : Ring) (flows : List ℕ) → ((flow : ℕ) → Contains flows flow → get_or new flow 0 ≡ get_or old flow 0) → IsRing old ring flows → IsRing new ring flows
ring_stays old new ring flows same is = record { len = is.len; follow = follow_stays old new flows (first_or flows 0) same is.follow; ends = is.ends }

pub turned : (next : List ℕ) (ring : Ring) (flow : ℕ) (rest : List ℕ) → IsRing next ring (flow ∷ rest) → IsRing next (record { last = flow; len = ring.len }) (rest ++ flow ∷ [])
turned next ring flow rest is = record {
  len = omega (arith, is.len, length-append rest (flow ∷ []));
  follow = follow_push next rest flow (first_or (rest ++ flow ∷ []) 0) is.follow.1 (is.follow.0 ∙ first_push rest flow 0);
  ends = ends_push rest flow;
}

pub left : (next : List ℕ) (ring : Ring) (flow : ℕ) (rest : List ℕ) → ring.last < length next → AreDistinct (flow ∷ rest) → IsRing next ring (flow ∷ rest)
    → IsRing (set next ring.last (get_or next flow 0)) (record { last = ring.last; len = ring.len - 1 }) rest
left next ring flow [] within once is = record { len = omega (arith, is.len); follow = tt; ends = tt }
left next ring flow (then ∷ rest) within once is = record {
  len = omega (arith, is.len);
  follow =
      subst (λ (k : ℕ). Follow (set next k (get_or next flow 0)) (then ∷ rest) then) (sym is.ends)
      (subst (λ (k : ℕ). Follow (set next (last_from then rest) k) (then ∷ rest) then) (sym is.follow.0)
      (follow_closes next then rest flow then (subst (λ (k : ℕ). k < length next) is.ends within) once.1 is.follow.1));
  ends = is.ends;
}

pub joined_first : (next : List ℕ) (flow : ℕ) → flow < length next → IsRing (set next flow flow) (record { last = flow; len = 1 }) (flow ∷ [])
joined_first next flow within = record { len = refl; follow = (get_or-set_same next flow flow 0 within, tt); ends = refl }

pub joined_behind : (next : List ℕ) (ring : Ring) (first : ℕ) (rest : List ℕ) (flow : ℕ) → flow < length next → ring.last < length next → ¬ Contains (first ∷ rest) flow
    → AreDistinct (first ∷ rest) → IsRing next ring (first ∷ rest)
    → IsRing (set (set next flow (get_or next ring.last 0)) ring.last flow) (record { last = flow; len = ring.len + 1 }) ((first ∷ rest) ++ flow ∷ [])
joined_behind next ring first rest flow within last absent once is =
    let beside = get_or next ring.last 0 in
    let mid = set next flow beside in
    let kept : Follow mid (first ∷ rest) first =
    follow_stays next mid (first ∷ rest) first (λ other has. get_or-set_other next flow other beside 0 (λ (same : other ≡ flow). absent (subst (λ (k : ℕ). Contains (first ∷ rest) k) same has))) is.follow in
    let size : length mid ≡ length next = length-set next flow beside in
    let closed : Follow (set mid ring.last flow) (first ∷ rest) flow =
    subst (λ (k : ℕ). Follow (set mid k flow) (first ∷ rest) flow) (sym is.ends)
    (follow_closes mid first rest first flow (subst (λ (k : ℕ). k < length mid) is.ends (omega (arith, last, size))) once kept) in
    let differs : flow ≢ ring.last = λ (same : flow ≡ ring.last). absent (subst (λ (k : ℕ). Contains (first ∷ rest) k) (sym (same ∙ is.ends)) (has_last first rest)) in
    let read : get_or (set mid ring.last flow) flow 0 ≡ first =
    get_or-set_other mid ring.last flow flow 0 differs ∙ get_or-set_same next flow beside 0 within ∙ first_beside next ring first rest is in
    record {
      len = omega (arith, is.len, length-append (first ∷ rest) (flow ∷ []));
      follow = follow_push (set mid ring.last flow) (first ∷ rest) flow first closed read;
      ends = ends_push (first ∷ rest) flow;
    }
