-- The packets of a journal have the fates that its events tell.
use Rattle.std.proofs.Common.{◌≡◌, ◌≢◌, ◌==◌, ◌||◌, ℕ, zero, suc, ◌+◌, ◌<◌, Bool, true, false, cond, not, List, [], ◌∷◌, ◌++◌, length, map, fold, All, Some, None, refl, sym, ap, subst, ◌∙◌, arith, append_assoc}
use Rattle.std.specs.List.{AllByRecursion, Contains, filter_map, list_any, range_with_len}
use Rattle.std.proofs.Math.Seq.{take-append_seam}
use Rattle.std.proofs.lemmas.Bool.{eq-eqb, ne_eqb, or_parts}
use Rattle.std.proofs.lemmas.List.{append-nil, map-append}
use Rattle.std.proofs.lemmas.List.Elements.{filter_map-append, recursion_from_All}
use Rattle.std.proofs.lemmas.List.Folds.{list_any-append}
use Rattle.std.proofs.lemmas.List.FromFn.{get_or-range_with_len, length-range_with_len}
use Rattle.std.proofs.lemmas.List.Sums.{fold-append}
use Rattle.codel_core.specs.declared.served.Mark.{Mark}
use Rattle.packet_core.specs.Packets.{PacketParts, same_tuple}
use Rattle.packet_core.specs.declared.packet.Ecn.{Ecn}
use Rattle.packet_core.specs.declared.packet.FiveTuple.{FiveTuple}
use Rattle.journal_core.specs.declared.event.Cause.{Cause}
use Rattle.journal_core.specs.declared.event.Event.{Event}
use Rattle.journal_core.specs.declared.event.Event.TheVariants as event
use Rattle.journal_core.specs.Happened.{Acceptance, acceptance_of, acceptances, accepted_ids, fate_ids, fate_of, is_among}
use Rattle.journal_core.specs.JournalLaws.{AreDistinct, FatesFollow, IdsInOrder}
use Rattle.journal_core.specs.Statistics.{sent_of}
use Rattle.journal_core.specs.Tallies.{tuple_of}
use Rattle.journal_core.specs.TupleRows.{first_of_each, with_new}
use Rattle.journal_core.proofs.EventLemmas.{filter_map_push, filter_map_same}
use Rattle.journal_core.proofs.IdLemmas.{id_of, is_among_none}
use Rattle.journal_core.proofs.LawsOfHistory.{same_tuple-Decides}
use Rattle.journal_core.proofs.ListLemmas.{ByRecursion-all, ByRecursion-parts, ByRecursion-weaker}
use Rattle.link_report.specs.declared.packets.Fate.{Fate}
use Rattle.link_report.specs.declared.packets.Fate.TheVariants.{Waiting, Sent, Dropped}
use Rattle.link_report.specs.declared.packets.PacketRecord.{PacketRecord}
use Rattle.link_report.specs.Fates.{fate_from, fate_in, record_of, tuples_in}
use Rattle.link_report.specs.Packets.{Known, arrived, known_of, nothing_known, number_of, known_with_event, with_fate}

-- THE FATE THAT EVENTS GIVE AN ID

-- an id that none of them names waits
pub unnamed_waits : (sent : ℕ) (events : List Event) (id : ℕ) → is_among (fate_ids events) id ≡ false → fate_from sent events id ≡ Waiting
unnamed_waits sent [] id none = refl
unnamed_waits sent (event.Accepted lane other moment flow packet ∷ events) id none = unnamed_waits sent events id none
unnamed_waits sent (event.Sent other moment ecn mark ∷ events) id none =
    let parts = or_parts (other == id) (is_among (fate_ids events) id) none in
    rw parts.0 (unnamed_waits (sent + 1) events id parts.1)
unnamed_waits sent (event.Dropped other moment cause ∷ events) id none =
    let parts = or_parts (other == id) (is_among (fate_ids events) id) none in
    rw parts.0 (unnamed_waits sent events id parts.1)
unnamed_waits sent (event.Closed moment ∷ events) id none = unnamed_waits sent events id none

-- events that don't name the id leave its fate
fate_stays : (sent : ℕ) (before behind : List Event) (id : ℕ) → is_among (fate_ids behind) id ≡ false → fate_from sent (before ++ behind) id ≡ fate_from sent before id
fate_stays sent [] behind id none = unnamed_waits sent behind id none
fate_stays sent (event.Accepted lane other moment flow packet ∷ before) behind id none = fate_stays sent before behind id none
fate_stays sent (event.Sent other moment ecn mark ∷ before) behind id none = ap (λ (f : Fate). cond (other == id) (Sent moment ecn mark sent) f) (fate_stays (sent + 1) before behind id none)
fate_stays sent (event.Dropped other moment cause ∷ before) behind id none = ap (λ (f : Fate). cond (other == id) (Dropped moment cause) f) (fate_stays sent before behind id none)
fate_stays sent (event.Closed moment ∷ before) behind id none = fate_stays sent before behind id none

-- the first that names the id gives it its fate
sent_from : (sent n : ℕ) (before behind : List Event) (id moment : ℕ) (ecn : Ecn) (mark : Mark) → is_among (fate_ids before) id ≡ false → n ≡ sent + length (filter_map sent_of before)
    → fate_from sent (before ++ event.Sent id moment ecn mark ∷ behind) id ≡ Sent moment ecn mark n
sent_from sent n [] behind id moment ecn mark none is =
    let same : sent ≡ n = omega arith in
    rw (eq-eqb id id refl) (ap (λ place. Sent moment ecn mark place) same)
sent_from sent n (event.Accepted lane other at flow packet ∷ before) behind id moment ecn mark none is = sent_from sent n before behind id moment ecn mark none is
sent_from sent n (event.Sent other at field by ∷ before) behind id moment ecn mark none is =
    let parts = or_parts (other == id) (is_among (fate_ids before) id) none in
    rw parts.0 (sent_from (sent + 1) n before behind id moment ecn mark parts.1 (omega arith))
sent_from sent n (event.Dropped other at cause ∷ before) behind id moment ecn mark none is =
    let parts = or_parts (other == id) (is_among (fate_ids before) id) none in
    rw parts.0 (sent_from sent n before behind id moment ecn mark parts.1 is)
sent_from sent n (event.Closed at ∷ before) behind id moment ecn mark none is = sent_from sent n before behind id moment ecn mark none is

-- also where it is dropped
dropped_from : (sent : ℕ) (before behind : List Event) (id moment : ℕ) (cause : Cause) → is_among (fate_ids before) id ≡ false → fate_from sent (before ++ event.Dropped id moment cause ∷ behind) id ≡ Dropped moment cause
dropped_from sent [] behind id moment cause none = rw (eq-eqb id id refl) refl
dropped_from sent (event.Accepted lane other at flow packet ∷ before) behind id moment cause none = dropped_from sent before behind id moment cause none
dropped_from sent (event.Sent other at field by ∷ before) behind id moment cause none =
    let parts = or_parts (other == id) (is_among (fate_ids before) id) none in
    rw parts.0 (dropped_from (sent + 1) before behind id moment cause parts.1)
dropped_from sent (event.Dropped other at why ∷ before) behind id moment cause none =
    let parts = or_parts (other == id) (is_among (fate_ids before) id) none in
    rw parts.0 (dropped_from sent before behind id moment cause parts.1)
dropped_from sent (event.Closed at ∷ before) behind id moment cause none = dropped_from sent before behind id moment cause none

-- an id isn't among those before it, where all are distinct
not_before : (ids behind : List ℕ) (id : ℕ) → AreDistinct (ids ++ id ∷ behind) → is_among ids id ≡ false
not_before [] behind id once = refl
not_before (x ∷ ids) behind id once =
    let differs = (ByRecursion-parts (λ other. other ≢ x) ids (id ∷ behind) (recursion_from_All (λ other. other ≢ x) (ids ++ id ∷ behind) once.0)).1.0 in
    rw (ne_eqb x id (λ s. differs (sym s))) (not_before ids behind id once.1)

-- so no fate before one of the same id names it
fate_not_before : (before behind : List Event) (e : Event) (id : ℕ) → fate_of e ≡ Some id → AreDistinct (fate_ids (before ++ e ∷ behind)) → is_among (fate_ids before) id ≡ false
fate_not_before before behind e id of_id once =
    let split : fate_ids (before ++ e ∷ behind) ≡ fate_ids before ++ id ∷ fate_ids behind = filter_map-append fate_of before (e ∷ behind) ∙ (let first : fate_ids before ++ fate_ids (e ∷ behind) ≡ fate_ids before ++ id ∷ fate_ids behind = rw of_id refl in first) in
    not_before (fate_ids before) (fate_ids behind) id (subst AreDistinct split once)

-- So each event that sends or drops an id gives it its fate, where no id has two.
pub sent_once : (events before behind : List Event) (id moment : ℕ) (ecn : Ecn) (mark : Mark) → AreDistinct (fate_ids events) → events ≡ before ++ event.Sent id moment ecn mark ∷ behind
    → fate_in events id ≡ Sent moment ecn mark (length (filter_map sent_of before))
sent_once events before behind id moment ecn mark once is =
    let none = fate_not_before before behind (event.Sent id moment ecn mark) id refl (subst (λ (l : List Event). AreDistinct (fate_ids l)) is once) in
    ap (λ (l : List Event). fate_in l id) is ∙ sent_from 0 (length (filter_map sent_of before)) before behind id moment ecn mark none (omega arith)

pub dropped_once : (events before behind : List Event) (id moment : ℕ) (cause : Cause) → AreDistinct (fate_ids events) → events ≡ before ++ event.Dropped id moment cause ∷ behind → fate_in events id ≡ Dropped moment cause
dropped_once events before behind id moment cause once is =
    let none = fate_not_before before behind (event.Dropped id moment cause) id refl (subst (λ (l : List Event). AreDistinct (fate_ids l)) is once) in
    ap (λ (l : List Event). fate_in l id) is ∙ dropped_from 0 before behind id moment cause none

-- FIVE-TUPLES AND THEIR NUMBERS

-- The five-tuples that are known are those of the acceptances, from any point on,
tuples_from : (known : Known) (events : List Event) → (fold known_with_event known events).tuples ≡ fold (with_new same_tuple) known.tuples (map tuple_of (acceptances events))
tuples_from known [] = refl
tuples_from known (event.Accepted lane id moment flow packet ∷ events) = tuples_from (arrived known id moment flow packet) events
tuples_from known (event.Sent id moment ecn mark ∷ events) = tuples_from (known_with_event known (event.Sent id moment ecn mark)) events
tuples_from known (event.Dropped id moment cause ∷ events) = tuples_from (known_with_event known (event.Dropped id moment cause)) events
tuples_from known (event.Closed moment ∷ events) = tuples_from known events

-- and of a whole journal.
pub tuples_known : (events : List Event) → (known_of events).tuples ≡ tuples_in events
tuples_known events = tuples_from nothing_known events

-- how many were sent is the number of the events that send
sends_from : (known : Known) (events : List Event) → (fold known_with_event known events).sent ≡ known.sent + length (filter_map sent_of events)
sends_from known [] = omega arith
sends_from known (event.Accepted lane id moment flow packet ∷ events) = sends_from (arrived known id moment flow packet) events
sends_from known (event.Sent id moment ecn mark ∷ events) = let rest = sends_from (known_with_event known (event.Sent id moment ecn mark)) events in omega arith
sends_from known (event.Dropped id moment cause ∷ events) = sends_from (known_with_event known (event.Dropped id moment cause)) events
sends_from known (event.Closed moment ∷ events) = sends_from known events

-- A five-tuple more leaves the number of each that is then among them.
number_push : (ts : List FiveTuple) (t u : FiveTuple) → list_any (same_tuple u) (ts ++ t ∷ []) ≡ true → number_of (ts ++ t ∷ []) u ≡ number_of ts u
number_push [] t u has = by (same_tuple u t) has
  where
    by : (b : Bool) → (b || false) ≡ true → cond (not b) (1 + 0) 0 ≡ 0
    by true some = refl
    by false some = absurd cc
number_push (x ∷ ts) t u has = by (same_tuple u x) has (λ some. number_push ts t u some)
  where
    by : (b : Bool) → (b || list_any (same_tuple u) (ts ++ t ∷ [])) ≡ true → (list_any (same_tuple u) (ts ++ t ∷ []) ≡ true → number_of (ts ++ t ∷ []) u ≡ number_of ts u)
        → cond (not b) (1 + number_of (ts ++ t ∷ []) u) 0 ≡ cond (not b) (1 + number_of ts u) 0
    by true some rest = refl
    by false some rest = ap (λ n. 1 + n) (rest some)

number_stays : (ts : List FiveTuple) (t u : FiveTuple) → list_any (same_tuple u) (with_new same_tuple ts t) ≡ true → number_of (with_new same_tuple ts t) u ≡ number_of ts u
number_stays ts t u has = by (list_any (same_tuple t) ts) has
  where
    by : (b : Bool) → list_any (same_tuple u) (cond b ts (ts ++ t ∷ [])) ≡ true → number_of (cond b ts (ts ++ t ∷ [])) u ≡ number_of ts u
    by true some = refl
    by false some = number_push ts t u some

or_some : (b : Bool) → (b || true) ≡ true
or_some true = refl
or_some false = refl

-- it is among them itself,
has_itself : (ts : List FiveTuple) (t : FiveTuple) → list_any (same_tuple t) (with_new same_tuple ts t) ≡ true
has_itself ts t = by (list_any (same_tuple t) ts) refl
  where
    by : (b : Bool) → list_any (same_tuple t) ts ≡ b → list_any (same_tuple t) (cond b ts (ts ++ t ∷ [])) ≡ true
    by true is = is
    by false is = list_any-append (same_tuple t) ts (t ∷ []) ∙ ap (λ b. list_any (same_tuple t) ts || (b || false)) ((same_tuple-Decides t t).1 refl) ∙ or_some (list_any (same_tuple t) ts)

-- and so are those that were,
has_still : (ts : List FiveTuple) (t u : FiveTuple) → list_any (same_tuple u) ts ≡ true → list_any (same_tuple u) (with_new same_tuple ts t) ≡ true
has_still ts t u has = by (list_any (same_tuple t) ts)
  where
    by : (b : Bool) → list_any (same_tuple u) (cond b ts (ts ++ t ∷ [])) ≡ true
    by true = has
    by false = list_any-append (same_tuple u) ts (t ∷ []) ∙ ap (λ b. b || list_any (same_tuple u) (t ∷ [])) has

-- also after others.
has_on : (ts us : List FiveTuple) (u : FiveTuple) → list_any (same_tuple u) ts ≡ true → list_any (same_tuple u) (fold (with_new same_tuple) ts us) ≡ true
has_on ts [] u has = has
has_on ts (t ∷ us) u has = has_on (with_new same_tuple ts t) us u (has_still ts t u has)

-- so the five-tuple of each acceptance is among those of all
has_each : (ts : List FiveTuple) (accepted : List Acceptance) → AllByRecursion (λ (a : Acceptance). list_any (same_tuple (tuple_of a)) (fold (with_new same_tuple) ts (map tuple_of accepted)) ≡ true) accepted
has_each ts [] = tt
has_each ts (a ∷ accepted) = (has_on (with_new same_tuple ts (tuple_of a)) (map tuple_of accepted) (tuple_of a) (has_itself ts (tuple_of a)), has_each (with_new same_tuple ts (tuple_of a)) accepted)

-- IDS IN ORDER

-- the ids of the first ones count up from the same number,
front_ids : (k n : ℕ) (accepted more : List Acceptance) → map id_of (accepted ++ more) ≡ range_with_len k n → map id_of accepted ≡ range_with_len k (length accepted)
front_ids k n [] more ids = refl
front_ids k zero (a ∷ accepted) more ids = absurd cc
front_ids k (suc n) (a ∷ accepted) more ids =
    let head : a.id ≡ k = cc in
    let tail : map id_of (accepted ++ more) ≡ range_with_len (k + 1) n = cc in
    λ i. head i ∷ front_ids (k + 1) n accepted more tail i

-- and the next one's is the next number
next_id : (k n : ℕ) (accepted more : List Acceptance) (a : Acceptance) → map id_of (accepted ++ a ∷ more) ≡ range_with_len k n → a.id ≡ k + length accepted
next_id k zero [] more a ids = absurd cc
next_id k (suc n) [] more a ids = let head : a.id ≡ k = cc in omega arith
next_id k zero (b ∷ accepted) more a ids = absurd cc
next_id k (suc n) (b ∷ accepted) more a ids =
    let tail : map id_of (accepted ++ a ∷ more) ≡ range_with_len (k + 1) n = cc in
    let rest = next_id (k + 1) n accepted more a tail in
    omega arith

-- Two functions tell the same of each acceptance but the one with an id. Where all ids are above that one, they agree,
none_changes : {R : Type 0} (g h : Acceptance → R) (k n id : ℕ) (accepted : List Acceptance) → map id_of accepted ≡ range_with_len k n → id < k → ((a : Acceptance) → a.id ≢ id → g a ≡ h a) → map g accepted ≡ map h accepted
none_changes g h k n id [] ids low others = refl
none_changes g h k zero id (a ∷ accepted) ids low others = absurd cc
none_changes g h k (suc n) id (a ∷ accepted) ids low others =
    let head : a.id ≡ k = cc in
    let tail : map id_of accepted ≡ range_with_len (k + 1) n = cc in
    let here : g a ≡ h a = others a (λ s. absurd (omega arith)) in
    λ i. here i ∷ none_changes g h (k + 1) n id accepted tail (omega arith) others i

-- and else they differ by the fate at the place of the id.
one_changes : (g h : Acceptance → PacketRecord) (fate : Fate) (k n id place : ℕ) (accepted : List Acceptance) → map id_of accepted ≡ range_with_len k n → id ≡ k + place → ((a : Acceptance) → a.id ≡ id → record (g a) { fate = fate } ≡ h a)
    → ((a : Acceptance) → a.id ≢ id → g a ≡ h a) → with_fate (map g accepted) place fate ≡ map h accepted
one_changes g h fate k n id place [] ids at this others = refl
one_changes g h fate k zero id place (a ∷ accepted) ids at this others = absurd cc
one_changes g h fate k (suc n) id zero (a ∷ accepted) ids at this others =
    let head : a.id ≡ k = cc in
    let tail : map id_of accepted ≡ range_with_len (k + 1) n = cc in
    let here : record (g a) { fate = fate } ≡ h a = this a (omega arith) in
    λ i. here i ∷ none_changes g h (k + 1) n id accepted tail (omega arith) others i
one_changes g h fate k (suc n) id (suc place) (a ∷ accepted) ids at this others =
    let head : a.id ≡ k = cc in
    let tail : map id_of accepted ≡ range_with_len (k + 1) n = cc in
    let here : g a ≡ h a = others a (λ s. absurd (omega arith)) in
    λ i. here i ∷ one_changes g h fate (k + 1) n id place accepted tail (omega arith) this others i

-- functions that agree at each acceptance
same_on : {R : Type 0} (g h : Acceptance → R) (accepted : List Acceptance) → AllByRecursion (λ (a : Acceptance). g a ≡ h a) accepted → map g accepted ≡ map h accepted
same_on g h [] same = refl
same_on g h (a ∷ accepted) same = λ i. same.0 i ∷ same_on g h accepted same.1 i

-- ONE EVENT MORE

-- the packets of the events are those of the acceptances
abbrev IsTable : List Event → Type 0
IsTable events = (known_of events).packets ≡ map (record_of events) (acceptances events)

-- what is known with an event more
pub known_push : (before : List Event) (e : Event) → known_of (before ++ e ∷ []) ≡ known_with_event (known_of before) e
known_push before e = fold-append known_with_event nothing_known before (e ∷ [])

-- a packet is accepted, whose id no fate names so far
table_accepts : (before : List Event) (lane id moment flow : ℕ) (packet : PacketParts) → is_among (fate_ids before) id ≡ false → IsTable before → IsTable (before ++ event.Accepted lane id moment flow packet ∷ [])
table_accepts before lane id moment flow packet none table =
    let e : Event = event.Accepted lane id moment flow packet in
    let now : List Event = before ++ e ∷ [] in
    let a : Acceptance = record { id = id; moment = moment; lane = lane; flow = flow; packet = packet } in
    let ts : List FiveTuple = (known_of before).tuples in
    let accepted : acceptances now ≡ acceptances before ++ a ∷ [] = filter_map_push acceptance_of before e a refl in
    let tuples : tuples_in now ≡ with_new same_tuple (tuples_in before) packet.tuple =
    ap (λ (l : List Acceptance). first_of_each same_tuple (map tuple_of l)) accepted ∙ ap (first_of_each same_tuple) (map-append tuple_of (acceptances before) (a ∷ []))
    ∙ fold-append (with_new same_tuple) [] (map tuple_of (acceptances before)) (packet.tuple ∷ []) in
    let old : AllByRecursion (λ (b : Acceptance). record_of before b ≡ record_of now b) (acceptances before) =
    ByRecursion-weaker (λ (b : Acceptance). list_any (same_tuple (tuple_of b)) (tuples_in before) ≡ true) (λ (b : Acceptance). record_of before b ≡ record_of now b) (acceptances before)
    (λ b has.
    let number : number_of (tuples_in now) (tuple_of b) ≡ number_of (tuples_in before) (tuple_of b) =
    ap (λ (l : List FiveTuple). number_of l (tuple_of b)) tuples ∙ number_stays (tuples_in before) packet.tuple (tuple_of b) (has_still (tuples_in before) packet.tuple (tuple_of b) has) in
    let fate : fate_in now b.id ≡ fate_in before b.id = fate_stays 0 before (e ∷ []) b.id refl in
    λ i. record (record_of before b) { tuple = sym number i; fate = sym fate i }) (has_each [] (acceptances before)) in
    let last : PacketRecord = record { id = id; tuple = number_of ts packet.tuple; flow = flow; len = packet.len; ecn = packet.ecn; arrived = moment; fate = Waiting } in
    let number : number_of (tuples_in now) packet.tuple ≡ number_of ts packet.tuple =
    ap (λ (l : List FiveTuple). number_of l packet.tuple) tuples ∙ number_stays (tuples_in before) packet.tuple packet.tuple (has_itself (tuples_in before) packet.tuple)
    ∙ ap (λ (l : List FiveTuple). number_of l packet.tuple) (sym (tuples_known before)) in
    let fate : fate_in now id ≡ Waiting = fate_stays 0 before (e ∷ []) id refl ∙ unnamed_waits 0 before id none in
    let new : last ≡ record_of now a = λ i. record last { tuple = sym number i; fate = sym fate i } in
    ap (λ (k : Known). k.packets) (known_push before e) ∙ ap (λ (l : List PacketRecord). l ++ last ∷ []) (table ∙ same_on (record_of before) (record_of now) (acceptances before) old)
    ∙ ap (λ (p : PacketRecord). map (record_of now) (acceptances before) ++ p ∷ []) new ∙ sym (map-append (record_of now) (acceptances before) (a ∷ [])) ∙ ap (map (record_of now)) (sym accepted)

-- a packet has its fate
table_fates : (before : List Event) (e : Event) (id : ℕ) (fate : Fate) → acceptance_of e ≡ None → map id_of (acceptances before) ≡ range_with_len 0 (length (acceptances before))
    → (known_of (before ++ e ∷ [])).packets ≡ with_fate (known_of before).packets id fate → fate_in (before ++ e ∷ []) id ≡ fate → ((other : ℕ) → other ≢ id → fate_in (before ++ e ∷ []) other ≡ fate_in before other)
    → IsTable before → IsTable (before ++ e ∷ [])
table_fates before e id fate no_packet ids packets this others table =
    let now : List Event = before ++ e ∷ [] in
    let accepted : acceptances now ≡ acceptances before = filter_map_same acceptance_of before e no_packet in
    let number : (t : FiveTuple) → number_of (tuples_in now) t ≡ number_of (tuples_in before) t = λ t. ap (λ (l : List Acceptance). number_of (first_of_each same_tuple (map tuple_of l)) t) accepted in
    let own : (a : Acceptance) → a.id ≡ id → record (record_of before a) { fate = fate } ≡ record_of now a =
    λ a is. let told : fate_in now a.id ≡ fate = ap (fate_in now) is ∙ this in λ i. record (record_of before a) { tuple = sym (number (tuple_of a)) i; fate = sym told i } in
    let rest : (a : Acceptance) → a.id ≢ id → record_of before a ≡ record_of now a =
    λ a differs. λ i. record (record_of before a) { tuple = sym (number (tuple_of a)) i; fate = sym (others a.id differs) i } in
    packets ∙ ap (λ (l : List PacketRecord). with_fate l id fate) table ∙ one_changes (record_of before) (record_of now) fate 0 (length (acceptances before)) id id (acceptances before) ids (omega arith) own rest
    ∙ ap (map (record_of now)) (sym accepted)

-- another id is not among that one
other_unnamed : (id other : ℕ) → other ≢ id → is_among (id ∷ []) other ≡ false
other_unnamed id other differs = rw (ne_eqb id other (λ s. differs (sym s))) refl

-- there is a close
table_closes : (before : List Event) (moment : ℕ) → IsTable before → IsTable (before ++ event.Closed moment ∷ [])
table_closes before moment table =
    let e : Event = event.Closed moment in
    let now : List Event = before ++ e ∷ [] in
    let accepted : acceptances now ≡ acceptances before = filter_map_same acceptance_of before e refl in
    let same : (a : Acceptance) → record_of before a ≡ record_of now a =
    λ a. let number : number_of (tuples_in now) (tuple_of a) ≡ number_of (tuples_in before) (tuple_of a) = ap (λ (l : List Acceptance). number_of (first_of_each same_tuple (map tuple_of l)) (tuple_of a)) accepted in
    let fate : fate_in now a.id ≡ fate_in before a.id = fate_stays 0 before (e ∷ []) a.id refl in
    λ i. record (record_of before a) { tuple = sym number i; fate = sym fate i } in
    ap (λ (k : Known). k.packets) (known_push before e) ∙ table ∙ same_on (record_of before) (record_of now) (acceptances before) (ByRecursion-all (λ (a : Acceptance). record_of before a ≡ record_of now a) (acceptances before) same)
    ∙ ap (map (record_of now)) (sym accepted)

-- ALL EVENTS

-- the ids accepted before a point are in order
pub ids_before : (before behind : List Event) → IdsInOrder (before ++ behind) → map id_of (acceptances before) ≡ range_with_len 0 (length (acceptances before))
ids_before before behind ids =
    front_ids 0 (length (acceptances (before ++ behind))) (acceptances before) (acceptances behind) (sym (ap (map id_of) (filter_map-append acceptance_of before behind)) ∙ ids)

-- and no fate before it names the next one
next_unfated : (before behind : List Event) → IdsInOrder (before ++ behind) → FatesFollow (before ++ behind) → is_among (fate_ids before) (length (acceptances before)) ≡ false
next_unfated before behind ids follow =
    let n = length (acceptances before) in
    let in_order : accepted_ids before ≡ range_with_len 0 n = ids_before before behind ids in
    let named = subst (λ (l : List Event). All (Contains (accepted_ids l)) (fate_ids l)) (take-append_seam before behind) (follow (length before)) in
    is_among_none (fate_ids before) n
    (ByRecursion-weaker (Contains (accepted_ids before)) (λ id. id ≢ n) (fate_ids before)
    (λ id has.
    let at : Contains (range_with_len 0 n) id = subst (λ (l : List ℕ). Contains l id) in_order has in
    let low : at.0 < n = let within = at.1 in omega (arith, length-range_with_len 0 n) in
    let is = at.2 in
    let place = get_or-range_with_len 0 n at.0 id low in
    λ s. absurd (omega arith)) (recursion_from_All (Contains (accepted_ids before)) (fate_ids before) named))

-- an event more, of whichever kind
table_more : (before behind : List Event) (e : Event) → IdsInOrder (before ++ e ∷ behind) → FatesFollow (before ++ e ∷ behind) → AreDistinct (fate_ids (before ++ e ∷ behind)) → IsTable before → IsTable (before ++ e ∷ [])
table_more before behind (event.Accepted lane id moment flow packet) ids follow once table =
    let e : Event = event.Accepted lane id moment flow packet in
    let a : Acceptance = record { id = id; moment = moment; lane = lane; flow = flow; packet = packet } in
    let next : id ≡ 0 + length (acceptances before) =
    next_id 0 (length (acceptances (before ++ e ∷ behind))) (acceptances before) (acceptances behind) a (sym (ap (map id_of) (filter_map-append acceptance_of before (e ∷ behind))) ∙ ids) in
    let is : length (acceptances before) ≡ id = omega arith in
    table_accepts before lane id moment flow packet (subst (λ n. is_among (fate_ids before) n ≡ false) is (next_unfated before (e ∷ behind) ids follow)) table
table_more before behind (event.Sent id moment ecn mark) ids follow once table =
    let e : Event = event.Sent id moment ecn mark in
    let none = fate_not_before before behind e id refl once in
    table_fates before e id (Sent moment ecn mark (known_of before).sent) refl (ids_before before (e ∷ behind) ids) (ap (λ (k : Known). k.packets) (known_push before e))
    (sent_from 0 (known_of before).sent before [] id moment ecn mark none (sends_from nothing_known before)) (λ other differs. fate_stays 0 before (e ∷ []) other (other_unnamed id other differs)) table
table_more before behind (event.Dropped id moment cause) ids follow once table =
    let e : Event = event.Dropped id moment cause in
    let none = fate_not_before before behind e id refl once in
    table_fates before e id (Dropped moment cause) refl (ids_before before (e ∷ behind) ids) (ap (λ (k : Known). k.packets) (known_push before e))
    (dropped_from 0 before [] id moment cause none) (λ other differs. fate_stays 0 before (e ∷ []) other (other_unnamed id other differs)) table
table_more before behind (event.Closed moment) ids follow once table = table_closes before moment table

-- the events behind a point, one after another
table_on : (before behind : List Event) → IdsInOrder (before ++ behind) → FatesFollow (before ++ behind) → AreDistinct (fate_ids (before ++ behind)) → IsTable before → IsTable (before ++ behind)
table_on before [] ids follow once table = subst IsTable (sym (append-nil before)) table
table_on before (e ∷ behind) ids follow once table =
    let whole : before ++ e ∷ [] ++ behind ≡ before ++ e ∷ behind = append_assoc before (e ∷ []) behind in
    let back = sym whole in
    subst IsTable whole (table_on (before ++ e ∷ []) behind (subst IdsInOrder back ids) (subst FatesFollow back follow) (subst (λ (l : List Event). AreDistinct (fate_ids l)) back once) (table_more before behind e ids follow once table))

-- the packets of a journal are those of its acceptances, each with the fate that the journal has for its id
pub packets_known : (events : List Event) → IdsInOrder events → FatesFollow events → AreDistinct (fate_ids events) → (known_of events).packets ≡ map (record_of events) (acceptances events)
packets_known events ids follow once = table_on [] events ids follow once refl
