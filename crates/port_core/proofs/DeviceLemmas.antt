-- What a device keeps of its lanes, from step to step, and pumps, packet by packet.
use Rattle.std.proofs.Common.{◌≡◌, ◌≢◌, ◌∙◌, ◌==◌, ℕ, zero, suc, ◌<◌, List, [], ◌∷◌, ◌++◌, cond, length, refl, ap, sym, subst, append-nil, ◌⊎◌, arith, ⊎_elim, length-set, Result, Ok, Err, IfOk, OnOk, OnErr, Option, Some, slice_get}
use Rattle.std.specs.Prelude.{slice_index_or, slice_set}
use Rattle.std.proofs.lemmas.Bool.Decides.{eqb_tells}
use Rattle.std.proofs.lemmas.Bool.{eq-eqb, ne_eqb}
use Rattle.std.proofs.lemmas.List.{get_or_default, get_or-set_other, get_or-set_same}
use Rattle.std.proofs.Math.Seq.{map-set_same}
use mathlib.Core.List.{IsPrefix}
use Rattle.packet_core.specs.Packets.{PacketParts}
use Rattle.journal_core.specs.declared.event.Event.{Event}
use Rattle.journal_core.specs.declared.outcome.Answer.TheVariants as answer
use Rattle.journal_core.specs.declared.step.Refusal.{Refusal}
use Rattle.journal_core.specs.declared.step.Sent.{Sent}
use Rattle.journal_core.specs.declared.step.Step.TheVariants.{Close, Enqueue}
use Rattle.monitor_core.specs.Publishing.{Published}
use Rattle.monitor_core.specs.declared.publisher.PublishFault.{PublishFault}
use Rattle.monitor_core.proofs.PrefixLemmas.{prefix_behind, prefix_same}
use Rattle.sched_core.specs.Engines.{Running}
use Rattle.sched_core.specs.Schedulers.{ComparesFew, IsAdvanced, IsServed, discipline_of}
use Rattle.port_core.specs.Devices.{AreNewLanes, BeginsJournal, Fed, KeepsLanes, Pumps, TakesFromLane, rings_of}
use Rattle.port_core.specs.Lanes.{GivesPackets, LaneView, RingId, Sending, accepted}
use Rattle.port_core.proofs.LaneLemmas.{grows_accepted, stays_closed, stays_served}

-- events that accept nothing leave what was kept
keeps_same : (old new : List Event) (lanes : List LaneView) → ((i : ℕ) → accepted i new ≡ accepted i old) → KeepsLanes old lanes → KeepsLanes new lanes
keeps_same old new lanes same k = record { each = λ i d less. k.each i d less ∙ sym (same i); no_other = λ i more. same i ∙ k.no_other i more }

pub keeps_dequeue : (old new : Running) (moment : ℕ) (r : Result (Option Sent) Refusal) (lanes : List LaneView) → IfOk r (λ sent. IsServed old.sched moment sent new.sched) → OnErr r (new ≡ old)
    → KeepsLanes old.sched.standing.events lanes → KeepsLanes new.sched.standing.events lanes
keeps_dequeue old new moment (Ok sent) lanes made same k =
    keeps_same old.sched.standing.events new.sched.standing.events lanes (stays_served (discipline_of old.sched) old.sched.standing new.sched.standing moment sent made.gives) k
keeps_dequeue old new moment (Err why) lanes made same k = subst (λ (e : Running). KeepsLanes e.sched.standing.events lanes) (sym same) k

pub keeps_close : (old new : Running) (moment : ℕ) (r : Result Unit Refusal) (lanes : List LaneView) → OnOk r (IsAdvanced old.sched (Close moment) answer.Closed new.sched) → OnErr r (new ≡ old)
    → KeepsLanes old.sched.standing.events lanes → KeepsLanes new.sched.standing.events lanes
keeps_close old new moment (Ok _) lanes made same k =
    keeps_same old.sched.standing.events new.sched.standing.events lanes (stays_closed (discipline_of old.sched) old.sched.standing new.sched.standing moment made.advances) k
keeps_close old new moment (Err why) lanes made same k = subst (λ (e : Running). KeepsLanes e.sched.standing.events lanes) (sym same) k

-- events that follow leave beginnings as they are
pub begins_more : (p : Published) (old new : List Event) → IsPrefix old new → BeginsJournal p old → BeginsJournal p new
begins_more p old new more b = record {
  shown = prefix_behind p.shown old new more.0 (sym more.1) b.shown;
  reached = prefix_behind p.reached old new more.0 (sym more.1) b.reached;
}

-- what makes the journal grow, or is refused, leaves beginnings as they are
begins_unchanged : (p : Published) (old new : Fed) → new ≡ old → BeginsJournal p old.engine.sched.standing.events → BeginsJournal p new.engine.sched.standing.events
begins_unchanged p old new same b = subst (λ (f : Fed). BeginsJournal p f.engine.sched.standing.events) (sym same) b

pub begins_dequeue : (p : Published) (old new : Fed) (moment : ℕ) (r : Result (Option Sent) Refusal) → IfOk r (λ sent. IsServed old.engine.sched moment sent new.engine.sched) → OnErr r (new ≡ old)
    → BeginsJournal p old.engine.sched.standing.events → BeginsJournal p new.engine.sched.standing.events
begins_dequeue p old new moment (Ok sent) made same b = begins_more p old.engine.sched.standing.events new.engine.sched.standing.events (made.gives.made, sym made.gives.journal) b
begins_dequeue p old new moment (Err why) made same b = begins_unchanged p old new same b

pub begins_close : (p : Published) (old new : Fed) (moment : ℕ) (r : Result Unit Refusal) → OnOk r (IsAdvanced old.engine.sched (Close moment) answer.Closed new.engine.sched) → OnErr r (new ≡ old)
    → BeginsJournal p old.engine.sched.standing.events → BeginsJournal p new.engine.sched.standing.events
begins_close p old new moment (Ok _) made same b = begins_more p old.engine.sched.standing.events new.engine.sched.standing.events (made.advances.made, sym made.advances.journal) b
begins_close p old new moment (Err why) made same b = begins_unchanged p old new same b

pub begins_pump : (p : Published) (old new : Fed) (lane now : ℕ) (r : Result ℕ Refusal) → IfOk r (λ k. Pumps old lane now k new) → OnErr r (new ≡ old)
    → BeginsJournal p old.engine.sched.standing.events → BeginsJournal p new.engine.sched.standing.events
begins_pump p old new lane now (Ok k) pumped same b = begins_more p old.engine.sched.standing.events new.engine.sched.standing.events pumped.journal b
begins_pump p old new lane now (Err why) pumped same b = begins_unchanged p old new same b

-- whatever a publish answers, what is shown begins the journal
pub begins_publish : (old new : Published) (events : List Event) (r : Result (List Event) PublishFault) → OnOk r (new.shown ≡ events) → OnErr r (new.shown ≡ old.shown)
    → (new.reached ≡ old.reached) ⊎ (new.reached ≡ events) → BeginsJournal old events → BeginsJournal new events
begins_publish old new events r done refused reached b = record {
  shown = begun r done refused;
  reached = ⊎_elim (λ same. subst (λ (xs : List Event). IsPrefix xs events) (sym same) b.reached) (λ all. prefix_same new.reached events all) reached;
}
  where
    begun : (r : Result (List Event) PublishFault) → OnOk r (new.shown ≡ events) → OnErr r (new.shown ≡ old.shown) → IsPrefix new.shown events
    begun (Ok _) done refused = prefix_same new.shown events done
    begun (Err _) done refused = subst (λ (xs : List Event). IsPrefix xs events) (sym refused) b.shown

pub begins_nothing : (p : Published) → p.shown ≡ [] → p.reached ≡ [] → BeginsJournal p []
begins_nothing p shown reached = record { shown = prefix_same p.shown [] shown; reached = prefix_same p.reached [] reached }

-- a look at a lane takes nothing out of it
pub keeps_look : (events : List Event) (lanes : List LaneView) (lane : ℕ) (l e : LaneView) → lane < length lanes → KeepsLanes events lanes → l.received ≡ (slice_index_or lanes lane e).received → KeepsLanes events (slice_set lanes lane l)
keeps_look events lanes lane l e there k same = record {
  each = λ i d less. ⊎_elim
      (λ t. rw t.1 (ap (λ (x : LaneView). x.received) (get_or-set_same lanes lane l d there) ∙ same ∙ k.each lane e there))
      (λ t. ap (λ (x : LaneView). x.received) (get_or-set_other lanes lane i l d t.1) ∙ k.each i d (omega (arith, less, length-set lanes lane l)))
      (eqb_tells i lane);
  no_other = λ i more. k.no_other i (omega (arith, more, length-set lanes lane l));
}

-- a packet comes out of a lane, and is accepted
pub keeps_take : (old new : Running) (lanes : List LaneView) (lane now : ℕ) (p : PacketParts) (l e : LaneView) → lane < length lanes → KeepsLanes old.sched.standing.events lanes
    → l.received ≡ (slice_index_or lanes lane e).received ++ p ∷ [] → IsAdvanced old.sched (Enqueue now lane p) answer.Accepted new.sched → KeepsLanes new.sched.standing.events (slice_set lanes lane l)
keeps_take old new lanes lane now p l e there k more made = record {
  each = λ i d less. ⊎_elim
      (λ t. rw t.1 (ap (λ (x : LaneView). x.received) (get_or-set_same lanes lane l d there) ∙ more ∙ ap (λ (xs : List PacketParts). xs ++ p ∷ []) (k.each lane e there) ∙ own))
      (λ t. ap (λ (x : LaneView). x.received) (get_or-set_other lanes lane i l d t.1) ∙ k.each i d (omega (arith, less, length-set lanes lane l)) ∙ sym (other i (λ same. t.1 (sym same))))
      (eqb_tells i lane);
  no_other = λ i past. other i (λ same. absurd (omega (arith, past, there, same, length-set lanes lane l))) ∙ k.no_other i (omega (arith, past, length-set lanes lane l));
}
  where
    grown : (i : ℕ) → accepted i new.sched.standing.events ≡ accepted i old.sched.standing.events ++ cond (lane == i) (p ∷ []) []
    grown = grows_accepted (discipline_of old.sched) old.sched.standing new.sched.standing now lane p made.advances

    own : accepted lane old.sched.standing.events ++ p ∷ [] ≡ accepted lane new.sched.standing.events
    own = sym (grown lane ∙ ap (λ b. accepted lane old.sched.standing.events ++ cond b (p ∷ []) []) (eq-eqb lane lane refl))

    other : (i : ℕ) → lane ≢ i → accepted i new.sched.standing.events ≡ accepted i old.sched.standing.events
    other i apart = grown i ∙ ap (λ b. accepted i old.sched.standing.events ++ cond b (p ∷ []) []) (ne_eqb lane i apart) ∙ append-nil (accepted i old.sched.standing.events)

-- and so the device takes it
pub takes_packet : (h : Fed) (old new : Running) (lanes : List LaneView) (lane now : ℕ) (p : PacketParts) (l e : LaneView) → h ≡ record { engine = old; lanes = lanes } → lane < length lanes
    → e ≡ slice_index_or lanes lane e → GivesPackets e (p ∷ []) l → IsAdvanced old.sched (Enqueue now lane p) answer.Accepted new.sched → new.steps ≡ old.steps ++ Enqueue now lane p ∷ []
    → ComparesFew old.sched new.sched → TakesFromLane h lane now (record { engine = new; lanes = slice_set lanes lane l })
takes_packet h old new lanes lane now p l e is there stands gives made steps few = rw is (record {
  packet = p;
  made = made;
  steps = steps;
  gives = λ d. rw (get_or-set_same lanes lane l d there, get_or_default lanes lane d e there, sym stands) gives;
  others = λ i d apart. get_or-set_other lanes lane i l d apart;
  few_comparisons = few;
})

-- the rings stay
pub rings_look : (lanes : List LaneView) (lane : ℕ) (l e : LaneView) → l.ring ≡ (slice_index_or lanes lane e).ring → rings_of (slice_set lanes lane l) ≡ rings_of lanes
rings_look lanes lane l e same = map-set_same (λ (x : LaneView). x.ring) lanes lane l e same

-- a lane with a ring is there, and its ring is that one
pub ring_there : (ls : List LaneView) (i : ℕ) (r : RingId) → slice_get (rings_of ls) i ≡ Some r → (i < length ls) × ((d : LaneView) → r ≡ (slice_index_or ls i d).ring)
ring_there [] i r is = absurd cc
ring_there (l ∷ ls) zero r is = (omega arith, λ d. cc is)
ring_there (l ∷ ls) (suc i) r is = let rest = ring_there ls i r is in (omega (arith, rest.0), rest.1)

-- nothing went through lanes that were just made
pub keeps_new : (ss : List Sending) (ls : List LaneView) (n capacity : ℕ) → AreNewLanes ss ls n capacity → KeepsLanes [] ls
keeps_new [] ls n capacity all = record { each = λ i d less. absurd (omega (arith, less, all.senders_number, all.lanes_number)); no_other = λ i more. refl }
keeps_new (s ∷ ss) ls n capacity all = record { each = λ i d less. (all.each i s d (omega (arith, less, all.lanes_number))).received; no_other = λ i more. refl }

pub ruleset rings = (rings_look, ring_there)
