-- No rate of the table of five-tuples exceeds the link's.
use Rattle.std.proofs.Common.{◌≡◌, ℕ, zero, suc, ◌+◌, ◌-◌, ◌*◌, ◌/◌, ◌<◌, ◌≤◌, ◌⊎◌, ◌==◌, Bool, true, false, cond, All, List, [], ◌∷◌, ◌++◌, map, max, filter, fold, get_or, sum_by, Option, Some, None, IfSome, refl, sym, ap, subst, ◌∙◌, inl, inr, arith, append_assoc}
use Rattle.std.proofs.Math.Nat.{div-le_of_le-mul, le-max_left, mul-le-mul_left, mul-sub}
use Rattle.std.proofs.lemmas.List.{append-nil, map-append}
use Rattle.std.proofs.lemmas.List.Elements.{All-cons, All-nil}
use Rattle.std.proofs.lemmas.List.Sums.{sum_by-append, sum_by-cons, sum_by-le-sum_by}
use Rattle.std.proofs.lemmas.Simd.{map-map}
use Rattle.packet_core.specs.declared.packet.FiveTuple.{FiveTuple}
use Rattle.journal_core.specs.declared.event.Cause.{Cause}
use Rattle.journal_core.specs.declared.event.Event.{Event}
use Rattle.journal_core.specs.declared.event.Event.TheVariants as event
use Rattle.journal_core.specs.declared.step.Step.{Step}
use Rattle.journal_core.specs.Disciplines.{Discipline}
use Rattle.journal_core.specs.Happened.{Acceptance, acceptances}
use Rattle.journal_core.specs.Runs.{Made, journal_of}
use Rattle.journal_core.specs.State.{State}
use Rattle.link_core.specs.declared.arrival.Arrival.{Arrival}
use Rattle.link_core.specs.declared.link.LinkFields.{LinkFields}
use Rattle.link_core.specs.Arrivals.{AreArrivals, arrival_length, length_at}
use Rattle.link_core.specs.LinkLaws.{Sending, end_of, sendings, work_of}
use Rattle.link_core.specs.LinkRuns.{IsLinkRunOf}
use Rattle.link_core.specs.Links.{IsLink}
use Rattle.link_core.proofs.RunEnds.{arrival_of, run_accepts, works_fit}
use Rattle.link_report.specs.declared.packets.Fate.{Fate}
use Rattle.link_report.specs.declared.packets.Fate.TheVariants.{Waiting, Sent, Dropped}
use Rattle.link_report.specs.declared.packets.PacketRecord.{PacketRecord}
use Rattle.link_report.specs.FlowTables.{RatesAreWithin, latest, span_of}
use Rattle.link_report.specs.Groups.{GroupParts, groups_from}
use Rattle.link_report.specs.Packets.{Known, arrived, known_of, known_with_event, last_moment, nothing_known, sent_len, with_fate}
use Rattle.link_report.specs.Summaries.{rate_of, summary_of}

-- THE BYTES THAT ARE SENT

-- the lengths of packets
abbrev lens_of : List PacketRecord → List ℕ
lens_of packets = map (λ (p : PacketRecord). p.len) packets

-- those of acceptances
abbrev accepted_lens : List Event → List ℕ
accepted_lens events = map (λ (a : Acceptance). a.packet.len) (acceptances events)

fate_keeps_lens : (packets : List PacketRecord) (id : ℕ) (fate : Fate) → lens_of (with_fate packets id fate) ≡ lens_of packets
fate_keeps_lens [] id fate = refl
fate_keeps_lens (p ∷ packets) zero fate = refl
fate_keeps_lens (p ∷ packets) (suc id) fate = ap (λ (l : List ℕ). p.len ∷ l) (fate_keeps_lens packets id fate)

fate_len : (p : PacketRecord) (fate : Fate) → sent_len (record p { fate = fate }) ≤ p.len
fate_len p Waiting = omega arith
fate_len p (Sent moment ecn mark place) = omega arith
fate_len p (Dropped moment cause) = omega arith

-- a packet that is sent adds its length at most
sent_adds : (packets : List PacketRecord) (id : ℕ) (fate : Fate) → sum_by sent_len (with_fate packets id fate) ≤ sum_by sent_len packets + get_or (lens_of packets) id 0
sent_adds [] id fate = omega arith
sent_adds (p ∷ packets) zero fate =
    let new = sum_by-cons sent_len (record p { fate = fate }) packets in
    let old = sum_by-cons sent_len p packets in
    let most = fate_len p fate in
    omega arith
sent_adds (p ∷ packets) (suc id) fate =
    let new = sum_by-cons sent_len p (with_fate packets id fate) in
    let old = sum_by-cons sent_len p packets in
    let rest = sent_adds packets id fate in
    omega arith

-- and one that is dropped adds none
drop_adds : (packets : List PacketRecord) (id moment : ℕ) (cause : Cause) → sum_by sent_len (with_fate packets id (Dropped moment cause)) ≤ sum_by sent_len packets
drop_adds [] id moment cause = omega arith
drop_adds (p ∷ packets) zero moment cause =
    let new = sum_by-cons sent_len (record p { fate = Dropped moment cause }) packets in
    let old = sum_by-cons sent_len p packets in
    omega arith
drop_adds (p ∷ packets) (suc id) moment cause =
    let new = sum_by-cons sent_len p (with_fate packets id (Dropped moment cause)) in
    let old = sum_by-cons sent_len p packets in
    let rest = drop_adds packets id moment cause in
    omega arith

front_low : (xs ys : List ℕ) (i : ℕ) → get_or xs i 0 ≤ get_or (xs ++ ys) i 0
front_low [] ys i = omega arith
front_low (x ∷ xs) ys zero = omega arith
front_low (x ∷ xs) ys (suc i) = front_low xs ys i

-- The bytes that are sent are at most the lengths of those that the events send.
sums_from : (lens : List ℕ) (known : Known) (events : List Event) → lens ≡ lens_of known.packets ++ accepted_lens events
    → sum_by sent_len (fold known_with_event known events).packets ≤ sum_by sent_len known.packets + sum_by (λ (s : Sending). get_or lens s.id 0) (sendings events)
sums_from lens known [] are = omega arith
sums_from lens known (event.Accepted lane id moment flow packet ∷ events) are =
    let new = arrived known id moment flow packet in
    let all : lens_of new.packets ≡ lens_of known.packets ++ packet.len ∷ [] = map-append (λ (p : PacketRecord). p.len) known.packets _ in
    let split : lens ≡ lens_of new.packets ++ accepted_lens events = are ∙ sym (append_assoc (lens_of known.packets) (packet.len ∷ []) (accepted_lens events)) ∙ ap (λ (l : List ℕ). l ++ accepted_lens events) (sym all) in
    let rest = sums_from lens new events split in
    let same : sum_by sent_len new.packets ≡ sum_by sent_len known.packets + 0 = sum_by-append sent_len known.packets _ in
    omega arith
sums_from lens known (event.Sent id moment ecn mark ∷ events) are =
    let fate = Sent moment ecn mark known.sent in
    let new = known_with_event known (event.Sent id moment ecn mark) in
    let rest = sums_from lens new events (are ∙ ap (λ (l : List ℕ). l ++ accepted_lens events) (sym (fate_keeps_lens known.packets id fate))) in
    let more = sent_adds known.packets id fate in
    let low : get_or (lens_of known.packets) id 0 ≤ get_or lens id 0 = rw are (front_low (lens_of known.packets) (accepted_lens events) id) in
    let parts = sum_by-cons (λ (s : Sending). get_or lens s.id 0) (record { id = id; moment = moment }) (sendings events) in
    omega arith
sums_from lens known (event.Dropped id moment cause ∷ events) are =
    let fate = Dropped moment cause in
    let new = known_with_event known (event.Dropped id moment cause) in
    let rest = sums_from lens new events (are ∙ ap (λ (l : List ℕ). l ++ accepted_lens events) (sym (fate_keeps_lens known.packets id fate))) in
    let less = drop_adds known.packets id moment cause in
    omega arith
sums_from lens known (event.Closed moment ∷ events) are = sums_from lens known events are

-- THE FIRST ARRIVAL AND THE END

-- no packet changes its arrival
abbrev firsts : List PacketRecord → List ℕ
firsts packets = map (λ (p : PacketRecord). p.arrived) packets

abbrev accepted_at : List Event → List ℕ
accepted_at events = map (λ (a : Acceptance). a.moment) (acceptances events)

fate_keeps_arrival : (packets : List PacketRecord) (id : ℕ) (fate : Fate) → firsts (with_fate packets id fate) ≡ firsts packets
fate_keeps_arrival [] id fate = refl
fate_keeps_arrival (p ∷ packets) zero fate = refl
fate_keeps_arrival (p ∷ packets) (suc id) fate = ap (λ (l : List ℕ). p.arrived ∷ l) (fate_keeps_arrival packets id fate)

arrivals_from : (known : Known) (events : List Event) → firsts (fold known_with_event known events).packets ≡ firsts known.packets ++ accepted_at events
arrivals_from known [] = sym (append-nil (firsts known.packets))
arrivals_from known (event.Accepted lane id moment flow packet ∷ events) =
    arrivals_from (arrived known id moment flow packet) events
    ∙ ap (λ (l : List ℕ). l ++ accepted_at events) (map-append (λ (p : PacketRecord). p.arrived) known.packets _)
    ∙ append_assoc (firsts known.packets) (moment ∷ []) (accepted_at events)
arrivals_from known (event.Sent id moment ecn mark ∷ events) =
    arrivals_from (known_with_event known (event.Sent id moment ecn mark)) events
    ∙ ap (λ (l : List ℕ). l ++ accepted_at events) (fate_keeps_arrival known.packets id (Sent moment ecn mark known.sent))
arrivals_from known (event.Dropped id moment cause ∷ events) =
    arrivals_from (known_with_event known (event.Dropped id moment cause)) events
    ∙ ap (λ (l : List ℕ). l ++ accepted_at events) (fate_keeps_arrival known.packets id (Dropped moment cause))
arrivals_from known (event.Closed moment ∷ events) = arrivals_from known events

-- the last moment is at least the one that is given
latest_low : (end : ℕ) (packets : List PacketRecord) → end ≤ latest end packets
latest_low end [] = omega arith
latest_low end (p ∷ packets) =
    let low = le-max_left end (last_moment p) in
    let rest = latest_low (max end (last_moment p)) packets in
    omega arith

-- THE RATES

-- of fewer bytes than the link sends in that time
rate_low : (rate span bytes : ℕ) → bytes * 8000000 ≤ rate * span → IfSome (rate_of span bytes) (λ r. r ≤ rate)
rate_low rate span bytes fits = by (span == 0) refl
  where
    by : (b : Bool) → (span == 0) ≡ b → IfSome (cond b None (Some (bytes * 8000000 / span))) (λ r. r ≤ rate)
    by true is = tt
    by false is = div-le_of_le-mul span (omega (arith, fits))

-- the packets that pass a test send no more than all
fewer_sent : (test : PacketRecord → Bool) (packets : List PacketRecord) → sum_by sent_len (filter test packets) ≤ sum_by sent_len packets
fewer_sent test [] = omega arith
fewer_sent test (p ∷ packets) = by (test p) (fewer_sent test packets)
  where
    by : (b : Bool) → sum_by sent_len (filter test packets) ≤ sum_by sent_len packets → sum_by sent_len (cond b (p ∷ filter test packets) (filter test packets)) ≤ sum_by sent_len (p ∷ packets)
    by true rest =
        let new = sum_by-cons sent_len p (filter test packets) in
        let old = sum_by-cons sent_len p packets in
        omega arith
    by false rest =
        let old = sum_by-cons sent_len p packets in
        omega arith

module _ (rate span : ℕ) (packets : List PacketRecord) (fits : sum_by sent_len packets * 8000000 ≤ rate * span) where
  groups_low : (number : ℕ) (tuples : List FiveTuple) → All (λ (g : GroupParts). IfSome (summary_of span g.packets).rate (λ r. r ≤ rate)) (groups_from number packets tuples)
  groups_low number [] = All-nil (λ (g : GroupParts). IfSome (summary_of span g.packets).rate (λ r. r ≤ rate))
  groups_low number (tuple ∷ tuples) =
      let own = filter (λ (p : PacketRecord). p.tuple == number) packets in
      let fewer = fewer_sent (λ (p : PacketRecord). p.tuple == number) packets in
      All-cons (λ (g : GroupParts). IfSome (summary_of span g.packets).rate (λ r. r ≤ rate)) (record { number = number; tuple = tuple; packets = own }) (groups_from (number + 1) packets tuples)
      (rate_low rate span (sum_by sent_len own) (omega (arith, fewer, fits))) (groups_low (number + 1) tuples)

  all_low : (end : ℕ) (known : Known) → known.packets ≡ packets → span_of end packets ≡ span → RatesAreWithin rate end known
  all_low end known same is =
      let at : span_of end known.packets ≡ span = ap (span_of end) same ∙ is in
      record {
        each = rw (at, same) (groups_low 0 known.tuples);
        all = rw (at, same) (rate_low rate span (sum_by sent_len packets) fits);
      }

-- The bytes that a run sends take the link's time from the first arrival on.
bytes_fit : (rate first end : ℕ) (packets : List PacketRecord) (work : ℕ) → (p : PacketRecord) (rest : List PacketRecord) → packets ≡ p ∷ rest → p.arrived ≡ first
    → sum_by sent_len packets * 8000000 ≤ work → first * rate + work ≤ end * rate → sum_by sent_len packets * 8000000 ≤ rate * span_of end packets
bytes_fit rate first end packets work p rest is at bytes fits =
    let low = latest_low end (p ∷ rest) in
    let times = mul-le-mul_left rate low in
    let span : span_of end packets ≡ latest end (p ∷ rest) - first = rw (is, at) refl in
    let whole = mul-sub rate (latest end (p ∷ rest)) first in
    rw span (omega (arith, whole, times, bytes, fits))

-- a packet's bytes take so much of the link's time at least
work_low : (link : LinkFields) (arrivals : List Arrival) (lens : List ℕ) → lens ≡ map arrival_length arrivals → (all : List Sending) → sum_by (λ (s : Sending). get_or lens s.id 0) all * 8000000 ≤ sum_by (work_of link arrivals) all
work_low link arrivals lens are [] = omega arith
work_low link arrivals lens are (s ∷ rest) =
    let bytes = sum_by-cons (λ (x : Sending). get_or lens x.id 0) s rest in
    let work = sum_by-cons (work_of link arrivals) s rest in
    let its : get_or lens s.id 0 ≡ length_at arrivals s.id = ap (λ (l : List ℕ). get_or l s.id 0) are in
    let wire = le-max_left (length_at arrivals s.id + link.overhead) link.mpu in
    let more = work_low link arrivals lens are rest in
    omega arith

-- whatever the discipline is
pub rates_within : {Q : Type 0} (d : Discipline Q) (link : LinkFields) → IsLink link → (arrivals : List Arrival) → AreArrivals arrivals → (steps : List Step) (made : List Made) (last : State Q) → IsLinkRunOf d link arrivals steps made last
    → RatesAreWithin link.rate (end_of link arrivals (journal_of made)) (known_of (journal_of made))
rates_within d link range [] are steps made last run =
    let events = journal_of made in
    let end = end_of link [] events in
    let came : firsts (known_of events).packets ≡ [] = arrivals_from nothing_known events ∙ sym (map-map (λ (a : Arrival). a.moment) arrival_of (acceptances events)) ∙ ap (map (λ (a : Arrival). a.moment)) (run_accepts d link [] steps made last run) in
    let none : (known_of events).packets ≡ [] = empty_by (known_of events).packets came in
    all_low link.rate 0 [] (omega arith) end (known_of events) none refl
  where
    empty_by : (packets : List PacketRecord) → firsts packets ≡ [] → packets ≡ []
    empty_by [] is = refl
    empty_by (p ∷ packets) is = absurd cc
rates_within d link range (a ∷ more) are steps made last run =
    let events = journal_of made in
    let arrivals = a ∷ more in
    let known = known_of events in
    let end = end_of link arrivals events in
    let came = run_accepts d link arrivals steps made last run in
    let firsts_are : firsts known.packets ≡ a.moment ∷ map (λ (x : Arrival). x.moment) more = arrivals_from nothing_known events ∙ sym (map-map (λ (x : Arrival). x.moment) arrival_of (acceptances events)) ∙ ap (map (λ (x : Arrival). x.moment)) came in
    let lens_are : accepted_lens events ≡ map arrival_length arrivals = sym (map-map arrival_length arrival_of (acceptances events)) ∙ ap (map arrival_length) came in
    let bytes = sums_from (accepted_lens events) nothing_known events refl in
    let work = work_low link arrivals (accepted_lens events) lens_are (sendings events) in
    let all : sum_by sent_len known.packets * 8000000 ≤ sum_by (work_of link arrivals) (sendings events) = omega (arith, bytes, work) in
    all_low link.rate (span_of end known.packets) known.packets (fits known.packets firsts_are all (works_fit d link range a more are steps made last run)) end known refl refl
  where
    fits : (packets : List PacketRecord) → firsts packets ≡ a.moment ∷ map (λ (x : Arrival). x.moment) more → sum_by sent_len packets * 8000000 ≤ sum_by (work_of link (a ∷ more)) (sendings (journal_of made))
        → (sum_by (work_of link (a ∷ more)) (sendings (journal_of made)) ≡ 0) ⊎ (a.moment * link.rate + sum_by (work_of link (a ∷ more)) (sendings (journal_of made)) ≤ end_of link (a ∷ more) (journal_of made) * link.rate)
        → sum_by sent_len packets * 8000000 ≤ link.rate * span_of (end_of link (a ∷ more) (journal_of made)) packets
    fits [] is bytes fit = omega arith
    fits (p ∷ packets) is bytes (inl none) = omega (arith, bytes, none)
    fits (p ∷ packets) is bytes (inr fit) =
        let at : p.arrived ≡ a.moment = cc in
        bytes_fit link.rate a.moment (end_of link (a ∷ more) (journal_of made)) (p ∷ packets) (sum_by (work_of link (a ∷ more)) (sendings (journal_of made))) p packets refl at bytes fit
