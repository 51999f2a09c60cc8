-- What a move leaves of the two lists of flows, and what callers see of them.
use Rattle.std.proofs.Common.{◌≡◌, ◌≢◌, ℕ, ◌+◌, ◌-◌, ◌^◌, ◌<◌, Bool, false, true, List, [], ◌∷◌, ◌++◌, Contains, drop, length, take, get_or, set, get_or-set_other, refl, sym, subst, ◌∙◌, arith, length-set}
use Rattle.std.proofs.lemmas.List.Elements.{All-contains, Contains-append_left, Contains-append_right}
use Rattle.flow_core.specs.declared.listed_flows.ListedFlows.TheInside.{Inside}
use Rattle.flow_core.specs.declared.listed_flows.Ring.{Ring}
use Rattle.flow_core.specs.FlowLists.{AreDistinct}
use Rattle.flow_core.specs.Listed.{AreMarked, NewAndOld}
use Rattle.flow_core.specs.ListedFlows.{HasLists}
use Rattle.flow_core.specs.Rings.{IsRing, flows_of}
use Rattle.flow_core.proofs.FlowNumberLemmas as numbers
use Rattle.flow_core.proofs.RingLemmas.{apart, distinct_left, distinct_right, first_beside, has_first, has_last, joined_behind, joined_first, left, ring_seen, ring_stays, turned}

-- The marks and the rings are those of these lists.
pub record AreLists (marks : List Bool) (next : List ℕ) (new old : Ring) (news olds : List ℕ) : Type 0 where
  pub size : length next ≡ length marks
  pub marked : AreMarked marks (news ++ olds)
  pub new_ring : IsRing next new news
  pub old_ring : IsRing next old olds

pub from_kept : (f : Inside) → HasLists f → AreLists f.marks.items f.next.items f.new_flows f.old_flows (flows_of f.next.items f.new_flows) (flows_of f.next.items f.old_flows)
from_kept f kept = record { size = kept.size; marked = kept.marked; new_ring = kept.new_ring; old_ring = kept.old_ring }

pub to_kept : (f : Inside) (news olds : List ℕ) → length f.marks.items < 2 ^ 32 → AreLists f.marks.items f.next.items f.new_flows f.old_flows news olds → HasLists f
to_kept f news olds few are =
    let new_seen = ring_seen f.next.items f.new_flows news are.new_ring in
    let old_seen = ring_seen f.next.items f.old_flows olds are.old_ring in
    record {
      few = few;
      size = are.size;
      marked = rw (new_seen, old_seen) are.marked;
      new_ring = rw new_seen are.new_ring;
      old_ring = rw old_seen are.old_ring;
    }

-- what callers see of them
pub lists_seen : (marks : List Bool) (next : List ℕ) (new old : Ring) (news olds : List ℕ) → AreLists marks next new old news olds
    → (let lists : NewAndOld = record { flows = length marks; new_flows = flows_of next new; old_flows = flows_of next old } in lists) ≡ record { flows = length marks; new_flows = news; old_flows = olds }
lists_seen marks next new old news olds are = rw (ring_seen next new news are.new_ring, ring_seen next old olds are.old_ring) refl

-- The first and the last flow of a ring are among its flows.
record HasEnds (next : List ℕ) (ring : Ring) (flows : List ℕ) : Type 0 where
  pub last : Contains flows ring.last
  pub first : Contains flows (get_or next ring.last 0)

ends_of : (next : List ℕ) (ring : Ring) (flows : List ℕ) → IsRing next ring flows → 0 < ring.len → HasEnds next ring flows
ends_of next ring [] is some = let len = is.len in absurd (omega (arith, len, some))
ends_of next ring (flow ∷ rest) is some = record {
  last = subst (λ (k : ℕ). Contains (flow ∷ rest) k) (sym is.ends) (has_last flow rest);
  first = subst (λ (k : ℕ). Contains (flow ∷ rest) k) (sym (first_beside next ring flow rest is)) (has_first flow rest);
}

-- They are flows.
pub record AreWithin (next : List ℕ) (ring : Ring) : Type 0 where
  pub last : ring.last < length next
  pub first : get_or next ring.last 0 < length next

module _ (marks : List Bool) (next : List ℕ) (new old : Ring) (news olds : List ℕ) (are : AreLists marks next new old news olds) where
  within : (flow : ℕ) → Contains (news ++ olds) flow → flow < length next
  within flow has = let mark = All-contains (λ (k : ℕ). k < length marks) (news ++ olds) flow are.marked.flows.within has in omega (arith, are.size, mark)

  pub new_within : 0 < new.len → AreWithin next new
  new_within some =
      let ends = ends_of next new news are.new_ring some in
      record {
        last = within new.last (Contains-append_left news olds new.last ends.last);
        first = within (get_or next new.last 0) (Contains-append_left news olds (get_or next new.last 0) ends.first);
      }

  pub old_within : 0 < old.len → AreWithin next old
  old_within some =
      let ends = ends_of next old olds are.old_ring some in
      record {
        last = within old.last (Contains-append_right news olds old.last ends.last);
        first = within (get_or next old.last 0) (Contains-append_right news olds (get_or next old.last 0) ends.first);
      }

-- the list of old flows turns
pub rotated : (marks : List Bool) (next : List ℕ) (new old : Ring) (news olds : List ℕ) → 0 < old.len → AreLists marks next new old news olds
    → AreLists marks next new (record { last = get_or next old.last 0; len = old.len }) news (drop 1 olds ++ take 1 olds)
rotated marks next new old news [] some are = let len = are.old_ring.len in absurd (omega (arith, len, some))
rotated marks next new old news (flow ∷ rest) some are = record {
  size = are.size;
  marked = numbers.rotate_old marks flow news rest are.marked;
  new_ring = are.new_ring;
  old_ring = rw (first_beside next old flow rest are.old_ring) (turned next old flow rest are.old_ring);
}

-- the first of the old flows leaves
pub old_left : (marks : List Bool) (next : List ℕ) (new old : Ring) (news olds : List ℕ) → 0 < old.len → AreLists marks next new old news olds
    → AreLists (set marks (get_or next old.last 0) false) (set next old.last (get_or next (get_or next old.last 0) 0)) new (record { last = old.last; len = old.len - 1 }) news (drop 1 olds)
old_left marks next new old news [] some are = let len = are.old_ring.len in absurd (omega (arith, len, some))
old_left marks next new old news (flow ∷ rest) some are =
    let first = first_beside next old flow rest are.old_ring in
    let once = are.marked.flows.once in
    let beside = get_or next (get_or next old.last 0) 0 in
    let ends = old_within marks next new old news (flow ∷ rest) are some in
    let other : (k : ℕ) → Contains news k → k ≢ old.last =
    λ k has (same : k ≡ old.last). apart news (flow ∷ rest) k once has (subst (λ (j : ℕ). Contains (flow ∷ rest) j) (sym (same ∙ are.old_ring.ends)) (has_last flow rest)) in
    record {
      size = length-set next old.last beside ∙ are.size ∙ sym (length-set marks (get_or next old.last 0) false);
      marked = rw first (numbers.leave_old marks flow news rest are.marked);
      new_ring = ring_stays next (set next old.last beside) new news (λ k has. get_or-set_other next old.last k beside 0 (other k has)) are.new_ring;
      old_ring = rw first (left next old flow rest ends.last (distinct_right news (flow ∷ rest) once) are.old_ring);
    }

-- A flow comes to the end of a ring, in which it wasn't.
record Joins (next after : List ℕ) (ring : Ring) (flows : List ℕ) (flow : ℕ) : Type 0 where
  pub comes : IsRing after (record { last = flow; len = ring.len + 1 }) (flows ++ flow ∷ [])
  pub size : length after ≡ length next
  pub others : (k : ℕ) → ¬ Contains flows k → k ≢ flow → get_or after k 0 ≡ get_or next k 0

joins : (next after : List ℕ) (ring : Ring) (flows : List ℕ) (flow : ℕ) → flow < length next → (0 < ring.len → ring.last < length next) → ¬ Contains flows flow → AreDistinct flows → IsRing next ring flows
    → (ring.len ≡ 0 → after ≡ set next flow flow) → (0 < ring.len → after ≡ set (set next flow (get_or next ring.last 0)) ring.last flow) → Joins next after ring flows flow
joins next after ring [] flow within last absent once is first behind =
    let none : ring.len ≡ 0 = is.len in
    record {
      comes = rw (first none, none) (joined_first next flow within);
      size = rw (first none) (length-set next flow flow);
      others = λ k has differs. rw (first none) (get_or-set_other next flow k flow 0 differs);
    }
joins next after ring (x ∷ rest) flow within last absent once is first behind =
    let len = is.len in
    let some : 0 < ring.len = omega (arith, len) in
    let beside = get_or next ring.last 0 in
    record {
      comes = rw (behind some) (joined_behind next ring x rest flow within (last some) absent once is);
      size = rw (behind some) (length-set (set next flow beside) ring.last flow ∙ length-set next flow beside);
      others = λ k has differs. rw (behind some)
          (get_or-set_other (set next flow beside) ring.last k flow 0
          (λ (same : k ≡ ring.last). has (subst (λ (j : ℕ). Contains (x ∷ rest) j) (sym (same ∙ is.ends)) (has_last x rest)))
          ∙ get_or-set_other next flow k beside 0 differs);
    }

-- a flow that is in no list comes to the end of the new ones
pub new_joined : (marks : List Bool) (next after : List ℕ) (new old : Ring) (news olds : List ℕ) (flow : ℕ) → flow < length marks → ¬ Contains (news ++ olds) flow → AreLists marks next new old news olds
    → (new.len ≡ 0 → after ≡ set next flow flow) → (0 < new.len → after ≡ set (set next flow (get_or next new.last 0)) new.last flow)
    → AreLists (set marks flow true) after (record { last = flow; len = new.len + 1 }) old (news ++ flow ∷ []) olds
new_joined marks next after new old news olds flow within absent are first behind =
    let once = are.marked.flows.once in
    let in_next : flow < length next = omega (arith, within, are.size) in
    let to_new : ¬ Contains news flow = λ has. absent (Contains-append_left news olds flow has) in
    let comes = joins next after new news flow in_next (λ some. (new_within marks next new old news olds are some).last) to_new (distinct_left news olds once) are.new_ring first behind in
    let other : (k : ℕ) → Contains olds k → k ≢ flow =
    λ k has (same : k ≡ flow). absent (subst (λ (j : ℕ). Contains (news ++ olds) j) same (Contains-append_right news olds k has)) in
    record {
      size = comes.size ∙ are.size ∙ sym (length-set marks flow true);
      marked = numbers.add_new marks flow news olds within absent are.marked;
      new_ring = comes.comes;
      old_ring = ring_stays next after old olds (λ k has. comes.others k (λ also. apart news olds k once also has) (other k has)) are.old_ring;
    }

-- the first of the new flows becomes the last of the old ones: it leaves the first ring,
pub record IsAway (marks : List Bool) (next mid : List ℕ) (new old : Ring) (news olds : List ℕ) (flow : ℕ) : Type 0 where
  pub size : length mid ≡ length next
  pub within : flow < length mid
  pub last : 0 < old.len → old.last < length mid
  pub few : old.len < length marks
  pub rest : List ℕ
  pub is : news ≡ flow ∷ rest
  pub new_ring : IsRing mid (record { last = new.last; len = new.len - 1 }) rest
  pub old_ring : IsRing mid old olds

pub away : (marks : List Bool) (next : List ℕ) (new old : Ring) (news olds : List ℕ) → 0 < new.len → AreLists marks next new old news olds
    → IsAway marks next (set next new.last (get_or next (get_or next new.last 0) 0)) new old news olds (get_or next new.last 0)
away marks next new old [] olds some are = let len = are.new_ring.len in absurd (omega (arith, len, some))
away marks next new old (flow ∷ rest) olds some are =
    let first = first_beside next new flow rest are.new_ring in
    let once = are.marked.flows.once in
    let beside = get_or next (get_or next new.last 0) 0 in
    let size = length-set next new.last beside in
    let ends = new_within marks next new old (flow ∷ rest) olds are some in
    let other : (k : ℕ) → Contains olds k → k ≢ new.last =
    λ k has (same : k ≡ new.last). apart (flow ∷ rest) olds k once (subst (λ (j : ℕ). Contains (flow ∷ rest) j) (sym (same ∙ are.new_ring.ends)) (has_last flow rest)) has in
    record {
      size = size;
      within = omega (arith, size, ends.first);
      last = λ has. let held = old_within marks next new old (flow ∷ rest) olds are has in omega (arith, size, held.last);
      few = omega (arith, are.old_ring.len, numbers.few_listed marks (flow ∷ rest) olds are.marked);
      rest = rest;
      is = rw first refl;
      new_ring = rw first (left next new flow rest ends.last (distinct_left (flow ∷ rest) olds once) are.new_ring);
      old_ring = ring_stays next (set next new.last beside) old olds (λ k has. get_or-set_other next new.last k beside 0 (other k has)) are.old_ring;
    }

-- and comes to the end of the second one
pub became_old : (marks : List Bool) (next mid after : List ℕ) (new old : Ring) (news olds : List ℕ) (flow : ℕ) → AreLists marks next new old news olds → IsAway marks next mid new old news olds flow
    → (old.len ≡ 0 → after ≡ set mid flow flow) → (0 < old.len → after ≡ set (set mid flow (get_or mid old.last 0)) old.last flow)
    → AreLists marks after (record { last = new.last; len = new.len - 1 }) (record { last = flow; len = old.len + 1 }) (drop 1 news) (olds ++ take 1 news)
became_old marks next mid after new old news olds flow are gone first behind =
    let marked : AreMarked marks (flow ∷ gone.rest ++ olds) = subst (λ (fs : List ℕ). AreMarked marks (fs ++ olds)) gone.is are.marked in
    let once = marked.flows.once in
    let to_old : ¬ Contains olds flow = λ has. apart (flow ∷ gone.rest) olds flow once (has_first flow gone.rest) has in
    let comes = joins mid after old olds flow gone.within gone.last to_old (distinct_right (flow ∷ gone.rest) olds once) gone.old_ring first behind in
    let other : (k : ℕ) → Contains gone.rest k → k ≢ flow =
    λ k has. All-contains (λ (o : ℕ). o ≢ flow) (gone.rest ++ olds) k once.0 (Contains-append_left gone.rest olds k has) in
    rw gone.is (record {
      size = comes.size ∙ gone.size ∙ are.size;
      marked = numbers.new_to_old marks flow gone.rest olds marked;
      new_ring = ring_stays mid after (record { last = new.last; len = new.len - 1 }) gone.rest
          (λ k has. comes.others k (λ also. apart gone.rest olds k once.1 has also) (other k has)) gone.new_ring;
      old_ring = comes.comes;
    })
