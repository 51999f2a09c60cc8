-- The two ends of the lanes.
use Rattle.std.proofs.Common.{◌≡◌, ◌∙◌, ℕ, suc, ◌<◌, List, [], ◌∷◌, ◌++◌, ap, arith, append-nil, length, refl, sym, slice_get, Some}
use Rattle.std.specs.Prelude.{slice_index_or, slice_set}
use Rattle.std.proofs.Math.Seq.{map-set_same}
use Rattle.port_core.specs.Devices.{AreNewLanes, rings_of}
use Rattle.port_core.specs.Lanes.{LaneView, RingId, Sending}
use Rattle.test_lanes.specs.Ends.{AreFirst, sender_rings}

-- where each sender has the ring of its lane, the rings are the same
same_rings : (ss : List Sending) (ls : List LaneView) → length ss ≡ length ls
    → ((i : ℕ) (s : Sending) (l : LaneView) → i < length ss → (slice_index_or ss i s).ring ≡ (slice_index_or ls i l).ring)
    → sender_rings ss ≡ rings_of ls
same_rings [] [] number each = refl
same_rings [] (l ∷ ls) number each = absurd (omega (arith, number))
same_rings (s ∷ ss) [] number each = absurd (omega (arith, number))
same_rings (s ∷ ss) (l ∷ ls) number each =
    let rest = same_rings ss ls (omega (arith, number)) (λ i d e less. each (suc i) d e (omega (arith, less))) in
    let first = each 0 s l (omega arith) in
    cc (first, rest)

-- the senders of lanes that were just made are those of the first lanes
pub first_new : (ss : List Sending) (ls : List LaneView) (n capacity : ℕ) → AreNewLanes ss ls n capacity → AreFirst (sender_rings ss) (rings_of ls)
first_new ss ls n capacity all = record {
  others = [];
  all = append-nil (sender_rings ss) ∙ same_rings ss ls (omega (arith, all.senders_number, all.lanes_number))
      (λ i s l less. (all.each i s l (omega (arith, less, all.senders_number))).ring);
}

rings_rest : (ss : List Sending) (s : Sending) (others : List RingId) → sender_rings (ss ++ s ∷ []) ++ others ≡ sender_rings ss ++ s.ring ∷ others
rings_rest [] s others = refl
rings_rest (x ∷ ss) s others = ap (λ rings. x.ring ∷ rings) (rings_rest ss s others)

ring_there : (ss : List Sending) (s : Sending) (others : List RingId) → slice_get (sender_rings ss ++ s.ring ∷ others) (length ss) ≡ Some s.ring
ring_there [] s others = refl
ring_there (x ∷ ss) s others = ring_there ss s others

-- without the last sender they are too
pub first_rest : (ss : List Sending) (s : Sending) (rs : List RingId) → AreFirst (sender_rings (ss ++ s ∷ [])) rs → AreFirst (sender_rings ss) rs
first_rest ss s rs first = record { others = s.ring ∷ first.others; all = sym (rings_rest ss s first.others) ∙ first.all }

-- and the last one's ring is that of its lane
pub ring_last : (ss : List Sending) (s : Sending) (rs : List RingId) (n : ℕ) → n ≡ length ss → AreFirst (sender_rings (ss ++ s ∷ [])) rs → slice_get rs n ≡ Some s.ring
ring_last ss s rs n number first =
    let all = sym (rings_rest ss s first.others) ∙ first.all in
    ap (λ k. slice_get rs k) number ∙ ap (λ rings. slice_get rings (length ss)) (sym all) ∙ ring_there ss s first.others

-- a sender that keeps its ring leaves them as they were
pub rings_kept : (ss : List Sending) (i : ℕ) (s d : Sending) → s.ring ≡ (slice_index_or ss i d).ring → sender_rings (slice_set ss i s) ≡ sender_rings ss
rings_kept ss i s d same = map-set_same (λ (x : Sending). x.ring) ss i s d same
