-- A pump, packet by packet.
use Rattle.std.proofs.Common.{◌≡◌, ◌∙◌, ◌==◌, ℕ, ◌+◌, ◌<◌, Bool, true, false, List, [], ◌∷◌, ◌++◌, cond, map, refl, ap, sym, append-nil, append_assoc, arith, length-append, None}
use Rattle.std.specs.Prelude.{slice_index_or}
use Rattle.std.proofs.lemmas.Bool.Decides.{nat_tests}
use Rattle.std.proofs.lemmas.List.{map-append}
use Rattle.packet_core.specs.Packets.{PacketParts}
use Rattle.journal_core.specs.State.{State, refusal_of}
use Rattle.journal_core.specs.declared.step.Step.{Step}
use Rattle.journal_core.specs.declared.step.Step.TheVariants.{Enqueue}
use Rattle.monitor_core.proofs.PrefixLemmas.{prefix_behind}
use Rattle.sched_core.specs.Schedulers.{discipline_of}
use Rattle.port_core.specs.Devices.{Fed, MayAccept, Pumps, TakesFromLane, pump_refusal_of}
use Rattle.port_core.specs.Lanes.{GivesPackets, LaneView, accepted}
use Rattle.port_core.proofs.LaneLemmas.{grows_accepted}

-- a packet is accepted where it may
pub enqueue_fits : {Q : Type 0} (s : State Q) (now lane : ℕ) (packet : PacketParts) → MayAccept s now 1 → refusal_of s (Enqueue now lane packet) ≡ None
enqueue_fits s now lane packet m = let a = m.later in let b = m.soon in let c = m.open' in let d = m.ids in grind (arith, nat_tests)

-- where a pump isn't refused, its packets may be accepted
pub pump_fits : {Q : Type 0} (s : State Q) (now burst : ℕ) → pump_refusal_of s now burst ≡ None → MayAccept s now burst
pump_fits s now burst fits = grind (arith, nat_tests)

-- a packet more has come out of the lane
gives_more : (old mid new : LaneView) (packets : List PacketParts) (packet : PacketParts) → GivesPackets old packets mid → GivesPackets mid (packet ∷ []) new → GivesPackets old (packets ++ packet ∷ []) new
gives_more old mid new packets packet g one = record {
  ring = one.ring ∙ g.ring;
  settled = one.settled ∙ g.settled;
  received = one.received ∙ ap (λ ps. ps ++ packet ∷ []) g.received ∙ append_assoc old.received packets (packet ∷ []);
  left = λ is. g.left is ∙ ap (λ ps. packets ++ ps) (one.left (g.settled ∙ is)) ∙ sym (append_assoc packets (packet ∷ []) new.known);
}

-- nothing has come out of the lane
gives_none : (lane : LaneView) → GivesPackets lane [] lane
gives_none lane = record { ring = refl; settled = refl; received = sym (append-nil lane.received); left = λ is. refl }

accepts_more : (own : Bool) (packets : List PacketParts) (packet : PacketParts) → cond own packets [] ++ cond own (packet ∷ []) [] ≡ cond own (packets ++ packet ∷ []) []
accepts_more true packets packet = refl
accepts_more false packets packet = refl

nothing : (own : Bool) → cond {A = List PacketParts} own [] [] ≡ []
nothing true = refl
nothing false = refl

pub pumps_none : (h : Fed) (lane now : ℕ) → Pumps h lane now 0 h
pumps_none h lane now = record {
  packets = [];
  count = refl;
  steps = sym (append-nil h.engine.steps);
  accepted = λ from. sym (ap (λ ps. accepted from h.engine.sched.standing.events ++ ps) (nothing (lane == from)) ∙ append-nil (accepted from h.engine.sched.standing.events));
  gives = λ d. gives_none (slice_index_or h.lanes lane d);
  others = λ i d apart. refl;
  journal = ([], append-nil h.engine.sched.standing.events);
  params = refl;
  seed = refl;
  turns = refl;
  few_comparisons = λ some. absurd (omega (arith, some));
  no_comparison = λ none. refl;
}

pub pumps_more : (old mid new : Fed) (lane now k : ℕ) → Pumps old lane now k mid → TakesFromLane mid lane now new → Pumps old lane now (k + 1) new
pumps_more old mid new lane now k p t = record {
  packets = p.packets ++ t.packet ∷ [];
  count = omega (arith, length-append p.packets (t.packet ∷ []), p.count);
  steps = t.steps ∙ ap (λ (xs : List Step). xs ++ Enqueue now lane t.packet ∷ []) p.steps
      ∙ append_assoc old.engine.steps (map (Enqueue now lane) p.packets) (Enqueue now lane t.packet ∷ [])
      ∙ ap (λ (xs : List Step). old.engine.steps ++ xs) (sym (map-append (Enqueue now lane) p.packets (t.packet ∷ [])));
  accepted = λ from.
      let own = lane == from in
      grows_accepted (discipline_of mid.engine.sched) mid.engine.sched.standing new.engine.sched.standing now lane t.packet t.made.advances from
      ∙ ap (λ ps. ps ++ cond own (t.packet ∷ []) []) (p.accepted from)
      ∙ append_assoc (accepted from old.engine.sched.standing.events) (cond own p.packets []) (cond own (t.packet ∷ []) [])
      ∙ ap (λ ps. accepted from old.engine.sched.standing.events ++ ps) (accepts_more own p.packets t.packet);
  gives = λ d. gives_more (slice_index_or old.lanes lane d) (slice_index_or mid.lanes lane d) (slice_index_or new.lanes lane d) p.packets t.packet (p.gives d) (t.gives d);
  others = λ i d apart. t.others i d apart ∙ p.others i d apart;
  journal = prefix_behind old.engine.sched.standing.events mid.engine.sched.standing.events new.engine.sched.standing.events t.made.advances.made t.made.advances.journal p.journal;
  params = t.made.params ∙ p.params;
  seed = t.made.seed ∙ p.seed;
  turns = t.made.turns ∙ p.turns;
  few_comparisons = λ some. record { before = mid.engine.sched; packet = t.packet; made = t.made; few_comparisons = t.few_comparisons };
  no_comparison = λ none. absurd (omega (arith, none));
}

-- one packet fewer may be accepted behind one
pub accepts_fewer : (old new : Fed) (lane now before n : ℕ) → before ≡ n + 1 → MayAccept old.engine.sched.standing.state now before → TakesFromLane old lane now new → MayAccept new.engine.sched.standing.state now n
accepts_fewer old new lane now before n one m t =
    let admits = t.made.advances.makes.1 in
    record {
      later = omega (arith, admits.last);
      soon = m.soon;
      open' = admits.closed ∙ m.open';
      ids = omega (arith, m.ids, admits.next_id, one);
    }

pub any_fewer : {Q : Type 0} (s : State Q) (now n : ℕ) → 0 < n → MayAccept s now n → MayAccept s now 1
any_fewer s now n some m = record { later = m.later; soon = m.soon; open' = m.open'; ids = omega (arith, m.ids, some) }

pub ruleset pumping = (pumps_none, pumps_more, accepts_fewer, any_fewer, enqueue_fits, pump_fits)
