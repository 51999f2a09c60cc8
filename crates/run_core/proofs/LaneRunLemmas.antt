-- A device in a run through lanes, and the rows of its lanes.
use Rattle.std.proofs.Common.{◌≡◌, ◌≢◌, ◌∙◌, ℕ, zero, suc, ◌+◌, ◌-◌, ◌<◌, ◌≤◌, true, false, List, [], ◌∷◌, ◌++◌, All, IfOk, IfSome, None, OnErr, OnOk, Option, Some, Result, Ok, Err, Vec, Global, append-nil, append_assoc, ap, arith, cond, drop, get_or, inl, inr, length, map, min, refl, slice_get, slice_index_or, subst, sym, take, length-append, ◌⊎◌, ⊎_elim}
use Rattle.std.proofs.lemmas.Bool.{eq-eqb, ne_eqb}
use Rattle.std.proofs.lemmas.Bool.Decides.{eqb_tells, nat_tests}
use Rattle.std.proofs.lemmas.List.{get_or-map, get_or_append_left, get_or_push, length-map, length-take-le, take-append-le, take_all}
use Rattle.packet_core.specs.Packets.{PacketParts}
use Rattle.packet_core.specs.declared.flow.Seed.{Seed}
use Rattle.packet_core.specs.declared.params.ParamFields.{ParamFields}
use Rattle.journal_core.specs.declared.event.Event.{Event}
use Rattle.journal_core.specs.declared.outcome.Answer.TheVariants as answer
use Rattle.journal_core.specs.declared.step.Refusal.{Refusal}
use Rattle.journal_core.specs.declared.step.Sent.{Sent}
use Rattle.journal_core.specs.declared.step.Step.{Step}
use Rattle.journal_core.specs.declared.step.Step.TheVariants.{Close, Dequeue, Enqueue}
use Rattle.journal_core.specs.Runs.{IsRunOf}
use Rattle.fair_core.specs.FqCodel.{fq_codel}
use Rattle.sched_core.specs.Engines.{Running}
use Rattle.sched_core.specs.Schedulers.{IsAdvanced, IsServed, discipline_of}
use Rattle.port_core.proofs.LaneLemmas.{stays_closed, stays_served}
use Rattle.port_core.specs.Devices.{DeviceState, KeepsLanes, Pumps, TakesAllLeft, fed_of, rings_of}
use Rattle.port_core.specs.Lanes.{LaneView, RingId, Sending, accepted, finished_after}
use Rattle.port_core.specs.declared.gate.Stop.{Stop}
use Rattle.port_core.specs.declared.gate.Stop.TheVariants as stop
use Rattle.port_core.specs.declared.lane_sender.LaneDone.{LaneDone}
use Rattle.trace_core.specs.declared.journal_report.SenderRow.{SenderRow}
use Rattle.journal_core.specs.Statistics.{statistics}
use Rattle.run_core.specs.DeviceRuns.{Dequeues, IsDeviceRun, IsIdle, has_close}
use Rattle.journal_core.specs.Calls.{Gives}
use Rattle.journal_core.proofs.StepTotals.{adds_sent, given_count}
use Rattle.run_core.proofs.DeviceRunLemmas.{dequeues_next, pumped_also}
use Rattle.sender_core.proofs.SenderLemmas.{member}
use Rattle.sender_core.specs.Senders.{AreCalls, IsHeldUp, IsLaneDone, calls_of}
use Rattle.run_core.specs.Journals.{AreLaneRows, AreLanesJournal, IsLaneRow, IsSameDevice, IsSent, submitted_of}
use Rattle.run_core.specs.LaneRooms.{AreLanesFor, capacity_for}
use Rattle.run_core.specs.SendersFaults.{IsDeviceFault, IsEndingFault}
use Rattle.run_core.specs.declared.senders_fault.SendersFault.{SendersFault}

-- what follows from what holds where there is no fault
pub on_ok_so : {X E : Type 0} (r : Result X E) (A B : Type 0) → (A → B) → OnOk r A → OnOk r B
on_ok_so (Ok x) A B so a = so a
on_ok_so (Err e) A B so a = tt

-- a device with the same rings has as many lanes
pub same_by : (old new : DeviceState) → rings_of new.lanes ≡ rings_of old.lanes → new.engine.sched.params ≡ old.engine.sched.params → new.engine.sched.seed ≡ old.engine.sched.seed → IsSameDevice old new
same_by old new rings params seed = record {
  rings = rings;
  number = sym (length-map new.lanes (λ (l : LaneView). l.ring)) ∙ ap length rings ∙ length-map old.lanes (λ (l : LaneView). l.ring);
  params = params;
  seed = seed;
}

pub same_still : (h : DeviceState) → IsSameDevice h h
same_still h = record { rings = refl; number = refl; params = refl; seed = refl }

pub same_more : (old mid new : DeviceState) → IsSameDevice old mid → IsSameDevice mid new → IsSameDevice old new
same_more old mid new a b = record { rings = b.rings ∙ a.rings; number = b.number ∙ a.number; params = b.params ∙ a.params; seed = b.seed ∙ a.seed }

pub same_unchanged : (old new : DeviceState) → new ≡ old → IsSameDevice old new
same_unchanged old new same = subst (IsSameDevice old) (sym same) (same_still old)

pub pumped_same : (old new : DeviceState) (lane now : ℕ) (r : Result ℕ Refusal) → IfOk r (λ k. Pumps (fed_of old) lane now k (fed_of new)) → rings_of new.lanes ≡ rings_of old.lanes → OnErr r (new ≡ old) → IsSameDevice old new
pumped_same old new lane now (Ok k) pumps rings same = same_by old new rings pumps.params pumps.seed
pumped_same old new lane now (Err why) pumps rings same = same_unchanged old new same

pub served_same : (old new : DeviceState) (now : ℕ) (r : Result (Option Sent) Refusal) → IfOk r (λ sent. IsServed old.engine.sched now sent new.engine.sched) → new.lanes ≡ old.lanes → OnErr r (new ≡ old) → IsSameDevice old new
served_same old new now (Ok sent) made lanes same = same_by old new (ap rings_of lanes) made.params made.seed
served_same old new now (Err why) made lanes same = same_unchanged old new same

pub closed_same : (old new : DeviceState) (now : ℕ) (r : Result Unit Refusal) → OnOk r (IsAdvanced old.engine.sched (Close now) answer.Closed new.engine.sched) → new.lanes ≡ old.lanes → OnErr r (new ≡ old) → IsSameDevice old new
closed_same old new now (Ok _) made lanes same = same_by old new (ap rings_of lanes) made.params made.seed
closed_same old new now (Err why) made lanes same = same_unchanged old new same

pub published_same : (old new : DeviceState) → (new.engine ≡ old.engine) × (new.lanes ≡ old.lanes) → IsSameDevice old new
published_same old new stays = same_by old new (ap rings_of stays.1) (ap (λ (e : Running). e.sched.params) stays.0) (ap (λ (e : Running). e.sched.seed) stays.0)

pub served_accepts : (old new : DeviceState) (now : ℕ) (r : Result (Option Sent) Refusal) → IfOk r (λ sent. IsServed old.engine.sched now sent new.engine.sched) → OnErr r (new ≡ old)
    → (lane : ℕ) → accepted lane new.engine.sched.standing.events ≡ accepted lane old.engine.sched.standing.events
served_accepts old new now (Ok sent) made same lane = stays_served (discipline_of old.engine.sched) old.engine.sched.standing new.engine.sched.standing now sent made.gives lane
served_accepts old new now (Err why) made same lane = ap (λ (h : DeviceState). accepted lane h.engine.sched.standing.events) same

pub closed_accepts : (old new : DeviceState) (now : ℕ) (r : Result Unit Refusal) → OnOk r (IsAdvanced old.engine.sched (Close now) answer.Closed new.engine.sched) → OnErr r (new ≡ old)
    → (lane : ℕ) → accepted lane new.engine.sched.standing.events ≡ accepted lane old.engine.sched.standing.events
closed_accepts old new now (Ok _) made same lane = stays_closed (discipline_of old.engine.sched) old.engine.sched.standing new.engine.sched.standing now made.advances lane
closed_accepts old new now (Err why) made same lane = ap (λ (h : DeviceState). accepted lane h.engine.sched.standing.events) same

pub ruleset device_goes_on = (same_still, same_more, pumped_same, served_same, closed_same, published_same, served_accepts, closed_accepts)

-- So many packets were sent by dequeues at that moment since the device was another.
pub record Emptied (old : DeviceState) (now n : ℕ) (new : DeviceState) : Type 0 where
  pub same : IsSameDevice old new
  pub accepts : (lane : ℕ) → accepted lane new.engine.sched.standing.events ≡ accepted lane old.engine.sched.standing.events
  pub steps : Dequeues now old.engine.steps new.engine.steps
  pub all : (statistics new.engine.sched.standing.events).accepted ≡ (statistics old.engine.sched.standing.events).accepted
  pub sent : (statistics new.engine.sched.standing.events).sent ≡ (statistics old.engine.sched.standing.events).sent + n

pub emptied_none : (h : DeviceState) (now : ℕ) → Emptied h now 0 h
emptied_none h now = record {
  same = same_still h;
  accepts = λ lane. refl;
  steps = (0, sym (append-nil h.engine.steps));
  all = refl;
  sent = omega arith;
}

-- a dequeue more
pub emptied_more : (old mid new : DeviceState) (now n : ℕ) (sent : Option Sent) → Emptied old now n mid → IsServed mid.engine.sched now sent new.engine.sched
    → new.engine.steps ≡ mid.engine.steps ++ Dequeue now ∷ [] → new.lanes ≡ mid.lanes → Emptied old now (n + given_count sent) new
emptied_more old mid new now n sent e made steps lanes =
    let adds = adds_sent (discipline_of mid.engine.sched) mid.engine.sched.standing new.engine.sched.standing now sent made.gives in
    record {
      same = same_more old mid new e.same (same_by mid new (ap rings_of lanes) made.params made.seed);
      accepts = λ lane. stays_served (discipline_of mid.engine.sched) mid.engine.sched.standing new.engine.sched.standing now sent made.gives lane ∙ e.accepts lane;
      steps = (e.steps.0 + 1, dequeues_next old.engine.steps mid.engine.steps new.engine.steps now e.steps.0 e.steps.1 steps);
      all = omega (arith, adds.accepted_more, e.all);
      sent = omega (arith, adds.sent_more, e.sent);
    }

-- how many packets a dequeue sends
pub given_if : (sent : Option Sent) → sent ≢ None → given_count sent ≡ 1
given_if None some = absurd (some refl)
given_if (Some s) some = refl

pub none_given : (sent : Option Sent) → given_count sent ≡ 0 → sent ≡ None
none_given None none = refl
none_given (Some s) none = absurd (omega (arith, none))

-- a dequeue that sends none
pub idle_by : (old new : DeviceState) (now : ℕ) (sent : Option Sent) → IsServed old.engine.sched now sent new.engine.sched → sent ≡ None → IsIdle now new.engine
idle_by old new now sent made none = record {
  before = old.engine.sched.standing;
  gives =
      subst (λ (s : Seed). Gives (fq_codel new.engine.sched.params s) old.engine.sched.standing now None new.engine.sched.standing) (sym made.seed)
      (subst (λ (q : ParamFields). Gives (fq_codel q old.engine.sched.seed) old.engine.sched.standing now None new.engine.sched.standing) (sym made.params)
      (subst (λ (o : Option Sent). Gives (discipline_of old.engine.sched) old.engine.sched.standing now o new.engine.sched.standing) none made.gives));
}

-- A settled lane, of which so many packets are left, since the device was another.
pub record Emptying (old : DeviceState) (lane now left : ℕ) (new : DeviceState) : Type 0 where
  pub packets : List PacketParts
  pub steps : new.engine.steps ≡ old.engine.steps ++ map (Enqueue now lane) packets
  pub same : IsSameDevice old new
  pub settled : (d : LaneView) → (slice_index_or new.lanes lane d).settled ≡ true
  pub many : (d : LaneView) → left ≡ length (slice_index_or new.lanes lane d).known
  pub taken : (d : LaneView) → accepted lane new.engine.sched.standing.events ++ (slice_index_or new.lanes lane d).known
      ≡ accepted lane old.engine.sched.standing.events ++ (slice_index_or old.lanes lane d).known
  pub others : (i : ℕ) → i ≢ lane → accepted i new.engine.sched.standing.events ≡ accepted i old.engine.sched.standing.events

pub emptying_none : (h : DeviceState) (lane now left : ℕ) → ((d : LaneView) → (slice_index_or h.lanes lane d).settled ≡ true) → ((d : LaneView) → left ≡ length (slice_index_or h.lanes lane d).known) → Emptying h lane now left h
emptying_none h lane now left settled many = record { packets = []; steps = sym (append-nil h.engine.steps); same = same_still h; settled = settled; many = many; taken = λ d. refl; others = λ i apart. refl }

some_lane : (ls : List LaneView) (i : ℕ) → i < length ls → LaneView
some_lane [] i less = absurd (omega (arith, less))
some_lane (l ∷ ls) i less = l

-- a pump takes from it, and leaves fewer
pub emptying_more : (old mid new : DeviceState) (lane now left k : ℕ) → lane < length mid.lanes → Emptying old lane now left mid → Pumps (fed_of mid) lane now k (fed_of new) → TakesAllLeft mid.lanes lane 64 k → rings_of new.lanes ≡ rings_of mid.lanes
    → (k ≤ left) × (0 < left → 0 < k) × Emptying old lane now (left - k) new
emptying_more old mid new lane now left k there e p all rings = (
  within,
  (λ some. let l = e.many first in let most = most_of first in grind (arith, nat_tests)),
  record {
    packets = e.packets ++ p.packets;
    steps = pumped_also old.engine.steps mid.engine.steps new.engine.steps now lane e.packets p.packets e.steps p.steps;
    same = same_more old mid new e.same (same_by mid new rings p.params p.seed);
    settled = λ d. (p.gives d).settled ∙ e.settled d;
    many = λ d. omega (arith, e.many d, cut d);
    taken = λ d.
        ap (λ ps. ps ++ (slice_index_or new.lanes lane d).known) (p.accepted lane ∙ ap (λ b. accepted lane mid.engine.sched.standing.events ++ cond b p.packets []) (eq-eqb lane lane refl))
        ∙ append_assoc (accepted lane mid.engine.sched.standing.events) p.packets (slice_index_or new.lanes lane d).known
        ∙ ap (λ ps. accepted lane mid.engine.sched.standing.events ++ ps) (sym ((p.gives d).left (e.settled d))) ∙ e.taken d;
    others = λ i apart.
        p.accepted i ∙ ap (λ b. accepted i mid.engine.sched.standing.events ++ cond b p.packets []) (ne_eqb lane i (λ same. apart (sym same)))
        ∙ append-nil (accepted i mid.engine.sched.standing.events) ∙ e.others i apart;
  },
)
  where
    first : LaneView
    first = some_lane mid.lanes lane there

    most_of : (d : LaneView) → k ≡ min 64 (length (slice_index_or mid.lanes lane d).known)
    most_of d = all d (e.settled d)

    cut : (d : LaneView) → length (slice_index_or mid.lanes lane d).known ≡ k + length (slice_index_or new.lanes lane d).known
    cut d = ap length ((p.gives d).left (e.settled d)) ∙ length-append p.packets (slice_index_or new.lanes lane d).known ∙ ap (λ n. n + length (slice_index_or new.lanes lane d).known) p.count

    within : k ≤ left
    within = omega (arith, e.many first, cut first)

-- what is left of a loop over a list, one member later
pub drop_next : {X : Type 0} (xs : List X) (n : ℕ) (x : X) (rest : List X) → drop n xs ≡ x ∷ rest → (n < length xs) × ((d : X) → get_or xs n d ≡ x) × (drop (n + 1) xs ≡ rest)
drop_next [] zero x rest cut = absurd cc
drop_next [] (suc n) x rest cut = absurd cc
drop_next (y ∷ ys) zero x rest cut = (omega arith, (λ d. cc cut), cc cut)
drop_next (y ∷ ys) (suc n) x rest cut = let below = drop_next ys n x rest cut in (omega (arith, below.0), below.1, ap (λ k. drop k (y ∷ ys)) (let same : suc n + 1 ≡ suc (n + 1) = omega arith in same) ∙ below.2)

pub drop_ended : {X : Type 0} (xs : List X) (n : ℕ) → length (drop n xs) ≡ 0 → length xs ≤ n
drop_ended [] n none = omega arith
drop_ended (x ∷ xs) zero none = omega (arith, none)
drop_ended (x ∷ xs) (suc n) none = let below = drop_ended xs n none in omega (arith, below)

-- of what was submitted to a lane so many packets were accepted, and the others are left
pub lane_counts : (h : DeviceState) (lane left submitted : ℕ) (packets : List PacketParts) → lane < length h.lanes
    → ((d : LaneView) → packets ≡ accepted lane h.engine.sched.standing.events ++ (slice_index_or h.lanes lane d).known)
    → ((d : LaneView) → left ≡ length (slice_index_or h.lanes lane d).known) → submitted ≡ length packets
    → submitted ≡ length (accepted lane h.engine.sched.standing.events) + left
lane_counts h lane left submitted packets there whole known many =
    let d = some_lane h.lanes lane there in
    let taken = accepted lane h.engine.sched.standing.events in
    many ∙ ap length (whole d) ∙ length-append taken (slice_index_or h.lanes lane d).known ∙ ap (λ n. length taken + n) (sym (known d))

-- the row of a lane
pub lane_row : (h : DeviceState) (lane left submitted : ℕ) (packets : List PacketParts) → lane < length h.lanes
    → ((d : LaneView) → packets ≡ accepted lane h.engine.sched.standing.events ++ (slice_index_or h.lanes lane d).known)
    → ((d : LaneView) → left ≡ length (slice_index_or h.lanes lane d).known) → submitted ≡ length packets
    → IsLaneRow lane packets h.engine.sched.standing.events (record { sender = lane; submitted = submitted; accepted = submitted - left; left = left })
lane_row h lane left submitted packets there whole known many =
    let d = some_lane h.lanes lane there in
    let taken = accepted lane h.engine.sched.standing.events in
    let number = lane_counts h lane left submitted packets there whole known many in
    let is_many : submitted - left ≡ length taken = omega (arith, number) in
    let first : take (submitted - left) packets ≡ taken = rw (is_many, whole d) (take-append-le (length taken) taken (slice_index_or h.lanes lane d).known (omega arith) ∙ take_all (length taken) taken (omega arith)) in
    record { number = refl; submitted = many; accepted = sym first; left = omega (arith, number) }

-- a row stays true where nothing more was accepted from its lane
pub row_still : (lane : ℕ) (packets : List PacketParts) (old new : List Event) (row : SenderRow) → accepted lane new ≡ accepted lane old → IsLaneRow lane packets old row → IsLaneRow lane packets new row
row_still lane packets old new row same r = record { number = r.number; submitted = r.submitted; accepted = same ∙ r.accepted; left = r.left }

-- the rows and the ends, a lane later
pub rows_more : (old new : List Event) (done : List LaneDone) (rows : List SenderRow) (lane : ℕ) (one : LaneDone) (row : SenderRow) → length rows ≡ lane → ((d : LaneDone) → get_or done lane d ≡ one)
    → IsLaneRow lane (submitted_of one.end) new row → ((i : ℕ) → i ≢ lane → accepted i new ≡ accepted i old)
    → ((i : ℕ) (r : SenderRow) (d : LaneDone) → i < lane → IsLaneRow i (submitted_of (slice_index_or done i d).end) old (slice_index_or rows i r))
    → (i : ℕ) (r : SenderRow) (d : LaneDone) → i < lane + 1 → IsLaneRow i (submitted_of (slice_index_or done i d).end) new (slice_index_or (rows ++ row ∷ []) i r)
rows_more old new done rows lane one row number stands is others before i r d less = ⊎_elim
    (λ t. rw (t.1, stands d, get_or_push rows row r lane number) is)
    (λ t. let m = t.1 in let there : i < lane = omega (arith, less, m) in
    rw (get_or_append_left rows (row ∷ []) r i (omega (arith, there, number))) (row_still i (submitted_of (slice_index_or done i d).end) old new (slice_index_or rows i r) (others i m) (before i r d there)))
    (eqb_tells i lane)

pub done_more : (done : List LaneDone) (lane : ℕ) (one : LaneDone) → ((d : LaneDone) → get_or done lane d ≡ one) → (one.stop ≡ stop.Done) × (one.end ≢ None)
    → ((i : ℕ) (d : LaneDone) → i < lane → ((slice_index_or done i d).stop ≡ stop.Done) × ((slice_index_or done i d).end ≢ None))
    → (i : ℕ) (d : LaneDone) → i < lane + 1 → ((slice_index_or done i d).stop ≡ stop.Done) × ((slice_index_or done i d).end ≢ None)
done_more done lane one stands is before i d less = ⊎_elim
    (λ t. rw (t.1, stands d) is)
    (λ t. let m = t.1 in before i d (omega (arith, less, m)))
    (eqb_tells i lane)

-- a lane's ring stands at its number
ring_at : (ls : List LaneView) (i : ℕ) (d : LaneView) → i < length ls → slice_get (rings_of ls) i ≡ Some (get_or ls i d).ring
ring_at [] i d less = absurd (omega (arith, less))
ring_at (l ∷ ls) zero d less = refl
ring_at (l ∷ ls) (suc i) d less = ring_at ls i d (omega (arith, less))

-- the end of a sender whose lane was new has that lane's ring
end_ring : (rings : List RingId) (i k : ℕ) (sender : Sending) (packets : List PacketParts) (end : Option Sending) → slice_get rings i ≡ Some sender.ring
    → IfSome end (λ e. e ≡ finished_after sender (take k packets)) → IfSome end (λ e. slice_get rings i ≡ Some e.ring)
end_ring rings i k sender packets None stands is = tt
end_ring rings i k sender packets (Some e) stands is = stands ∙ ap (λ (s : Sending). Some s.ring) (sym is)

-- and was given so many packets
end_submitted : (k : ℕ) (sender : Sending) (packets : List PacketParts) (end : Option Sending) → sender.submitted ≡ [] → k ≤ length packets
    → IfSome end (λ e. e ≡ finished_after sender (take k packets)) → IfSome end (λ e. k ≡ length e.submitted)
end_submitted k sender packets None none most is = tt
end_submitted k sender packets (Some e) none most is =
    sym (length-take-le k packets most) ∙ sym (ap (λ (s : Sending). length s.submitted) is ∙ ap (λ ps. length (ps ++ take k packets)) none)

-- all of them, where it came to its end
end_whole : (k : ℕ) (sender : Sending) (packets : List PacketParts) (end : Option Sending) → sender.submitted ≡ [] → k ≡ length packets
    → IfSome end (λ e. e ≡ finished_after sender (take k packets)) → IfSome end (λ e. e.submitted ≡ packets)
end_whole k sender packets None none all is = tt
end_whole k sender packets (Some e) none all is = ap (λ (s : Sending). s.submitted) is ∙ ap (λ ps. ps ++ take k packets) none ∙ take_all k packets (omega (arith, all))

-- a list has no more packets than the longest of them
list_fits : (lists : List (Vec PacketParts Global)) (i : ℕ) (l : Vec PacketParts Global) → i < length lists → length (slice_index_or lists i l).items ≤ capacity_for lists
list_fits [] i l less = absurd (omega (arith, less))
list_fits (v ∷ lists) zero l less = omega arith
list_fits (v ∷ lists) (suc i) l less = omega (arith, list_fits lists i l (omega (arith, less)))

-- a sender came to its end where its lane had room for all of its packets, and nothing held it up
came_to_end : (sender : Sending) (packets : List PacketParts) (submitted : ℕ) (why : Stop) (end : Option Sending) → length packets ≤ sender.room → IsHeldUp (λ _. ⊥) submitted why
    → IsLaneDone sender packets submitted why end → why ≡ stop.Done
came_to_end sender packets submitted why end room held did = three did.stops
  where
    three : (why ≡ stop.Done) ⊎ (why ≡ stop.Stalled) ⊎ (why ≡ stop.Full) → why ≡ stop.Done
    three s = ⊎_elim (λ is. is) (λ t. ⊎_elim (λ is. absurd (held is)) (λ is. absurd (did.fits room is)) t) s

-- what each sender did, by the lanes that were opened
pub sent_each : (senders : List Sending) (old new : DeviceState) (lists : List (Vec PacketParts Global)) (done : List LaneDone) → AreLanesFor senders old.lanes lists → IsSameDevice old new
    → ((i : ℕ) (d : LaneDone) → i < length senders → IsHeldUp (λ _. ⊥) (slice_index_or done i d).submitted (slice_index_or done i d).stop)
    → ((i : ℕ) (d : LaneDone) (s : Sending) (l : Vec PacketParts Global) → i < length senders
    → IsLaneDone (slice_index_or senders i s) (slice_index_or lists i l).items (slice_index_or done i d).submitted (slice_index_or done i d).stop (slice_index_or done i d).end)
    → (i : ℕ) (d : LaneDone) (l : Vec PacketParts Global) → i < length lists → IsSent (rings_of new.lanes) i (slice_index_or lists i l).items (slice_index_or done i d)
sent_each senders old new lists done lanes same held each i d l less =
    let opened = lanes.opened in
    let here : i < length senders = omega (arith, less, opened.senders_number) in
    let there : i < length old.lanes = omega (arith, less, opened.lanes_number) in
    let s = member senders i here in
    let v = some_lane old.lanes i there in
    let sender = slice_index_or senders i s in
    let packets = (slice_index_or lists i l).items in
    let one = slice_index_or done i d in
    let ends = opened.each i s v less in
    let did = each i d s l here in
    let room : length packets ≤ sender.room = omega (arith, list_fits lists i l less, lanes.enough, ends.room) in
    let is = came_to_end sender packets one.submitted one.stop one.end room (held i d here) did in
    let stands : slice_get (rings_of new.lanes) i ≡ Some sender.ring = ap (λ rs. slice_get rs i) same.rings ∙ ring_at old.lanes i v there ∙ ap (λ (r : RingId). Some r) (sym ends.ring) in
    record {
      fits = record { ring = end_ring (rings_of new.lanes) i one.submitted sender packets one.end stands did.ends; submitted = end_submitted one.submitted sender packets one.end ends.submitted did.most did.ends; ended = is };
      whole = end_whole one.submitted sender packets one.end ends.submitted (did.done is) did.ends;
    }

-- the packets of a sender whose end is there
pub submitted_whole : (end : Option Sending) (packets : List PacketParts) → end ≢ None → IfSome end (λ e. e.submitted ≡ packets) → submitted_of end ≡ packets
submitted_whole None packets there is = absurd (there refl)
submitted_whole (Some e) packets there is = is

-- there is a list for each sender
pub lists_number : (p : ParamFields) (seed : Seed) (n : ℕ) (steps : List Step) (calls : List (Vec (ℕ × PacketParts) Global)) (lists : List (Vec PacketParts Global))
    → AreCalls p seed n steps calls → map (λ l. l.items) lists ≡ map (λ l. map (λ call. call.1) l.items) calls → length lists ≡ n
lists_number p seed n steps calls lists are listed =
    sym (length-map lists (λ (v : Vec PacketParts Global). v.items)) ∙ ap length listed ∙ length-map calls (λ (v : Vec (ℕ × PacketParts) Global). map (λ call. call.1) v.items) ∙ are.number

-- the rows of the lanes, by what their senders did
pub lane_rows : (lists : List (Vec PacketParts Global)) (rings : List RingId) (done : List LaneDone) (rows : List SenderRow) (device : DeviceState)
    → ((i : ℕ) (d : LaneDone) (l : Vec PacketParts Global) → i < length lists → IsSent rings i (slice_index_or lists i l).items (slice_index_or done i d))
    → length done ≡ length lists → length rows ≡ length done → All (λ d. (d.stop ≡ stop.Done) × (d.end ≢ None)) done
    → ((i : ℕ) (r : SenderRow) (d : LaneDone) → i < length done → IsLaneRow i (submitted_of (slice_index_or done i d).end) device.engine.sched.standing.events (slice_index_or rows i r))
    → KeepsLanes device.engine.sched.standing.events device.lanes → length device.lanes ≡ length lists
    → AreLaneRows lists device.engine.sched.standing.events rows
lane_rows lists rings done rows device sent done_number rows_number all each keeps lanes_number = record {
  number = rows_number ∙ done_number;
  each = λ i r l less.
      let finished : i < length done = omega (arith, less, done_number) in
      let d = member done i finished in
      let is_whole = all i d finished in
      let packets : submitted_of (slice_index_or done i d).end ≡ (slice_index_or lists i l).items =
      submitted_whole (slice_index_or done i d).end (slice_index_or lists i l).items is_whole.1 (sent i d l less).whole in
      subst (λ ps. IsLaneRow i ps device.engine.sched.standing.events (slice_index_or rows i r)) packets (each i r d finished);
  no_other = λ i past. keeps.no_other i (omega (arith, past, lanes_number));
}

-- the journal of a run through lanes, by its rows
pub lanes_journal : (p : ParamFields) (seed : Seed) (n : ℕ) (steps : List Step) (calls : List (Vec (ℕ × PacketParts) Global)) (lists : List (Vec PacketParts Global))
    (engine : Running) (rows : List SenderRow)
    → AreCalls p seed n steps calls → map (λ l. l.items) lists ≡ map (λ l. map (λ call. call.1) l.items) calls
    → AreLaneRows lists engine.sched.standing.events rows
    → engine.sched.params ≡ p → engine.sched.seed ≡ seed → IsRunOf (discipline_of engine.sched) engine.steps engine.sched.standing
    → IsDeviceRun (length lists) steps [] engine.steps → (statistics engine.sched.standing.events).closed ≡ true
    → (moment : ℕ) × IsIdle moment engine → (has_close steps ≡ false → All (λ row. row.left ≡ 0) rows)
    → AreLanesJournal p seed n steps engine.sched.standing.events rows
lanes_journal p seed n steps calls lists engine rows are listed told params_are seed_is run made closed idle none_left = record {
  made = engine.steps;
  by_rows = subst (λ k. IsDeviceRun k steps [] engine.steps) as_many made;
  closed = closed;
  idle = (
    idle.0,
    idle.1.before,
    subst (λ (s : Seed). Gives (fq_codel p s) idle.1.before idle.0 None engine.sched.standing) seed_is
        (subst (λ (q : ParamFields). Gives (fq_codel q engine.sched.seed) idle.1.before idle.0 None engine.sched.standing) params_are idle.1.gives),
  );
  none_left = none_left;
  standing = engine.sched.standing;
  run = subst (λ (s : Seed). IsRunOf (fq_codel p s) engine.steps engine.sched.standing) seed_is
      (subst (λ (q : ParamFields). IsRunOf (fq_codel q engine.sched.seed) engine.steps engine.sched.standing) params_are run);
  journal = refl;
  number = told.number ∙ as_many;
  each = λ i r less.
      let within : i < length lists = omega (arith, less, as_many) in
      let called : i < length calls = omega (arith, less, are.number) in
      let l = member lists i within in
      let c = member calls i called in
      let packets : (slice_index_or lists i l).items ≡ map (λ call. call.1) (calls_of p seed n i steps) =
      sym (get_or-map (λ (v : Vec PacketParts Global). v.items) lists i l [] within) ∙ ap (λ xs. get_or xs i []) listed
      ∙ get_or-map (λ (v : Vec (ℕ × PacketParts) Global). map (λ call. call.1) v.items) calls i c [] called ∙ ap (map (λ call. call.1)) (are.each i c less) in
      subst (λ ps. IsLaneRow i ps engine.sched.standing.events (slice_index_or rows i r)) packets (told.each i r l within);
  no_other = λ i past. told.no_other i (omega (arith, past, as_many));
}
  where
    as_many : length lists ≡ n
    as_many = lists_number p seed n steps calls lists are listed

-- a fault of the end of a run is one of the device's part
pub some_fault : (done : List LaneDone) (n : ℕ) (fault : SendersFault) → length done ≡ n → IsEndingFault done fault → IsDeviceFault n fault
some_fault done n fault number is = ⊎_elim (λ memory. inl memory)
    (λ t. inr (t.0, omega (arith, t.1, number), (t.2 (member done t.0 t.1)).is))
    is
