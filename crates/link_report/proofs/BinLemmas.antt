-- The walk over a journal, event by event, with the packets and five-tuples that are known so far.
use Rattle.std.proofs.Common.{◌≡◌, ◌∙◌, ◌||◌, ℕ, zero, suc, ◌+◌, ◌-◌, ◌<◌, ◌≤◌, Bool, true, false, cond, not, List, [], ◌∷◌, ◌++◌, All, Option, Some, None, append-nil, append_assoc, ap, arith, fold, length, map, min, refl, replicate, set, subst, sym, take}
use Rattle.std.specs.Prelude.{filter, option_map, slice_get}
use Rattle.std.specs.List.{AllByRecursion, Contains, flat_map, list_any, range_with_len}
use Rattle.std.proofs.lemmas.List.{get_or_past, length-map, length-replicate, length-append, length-set, length_push, map-append, replicate-append-replicate, replicate_more, set-append_left, take-append-le, take_all, take_min}
use Rattle.std.proofs.lemmas.List.Elements.{recursion_from_All}
use Rattle.std.proofs.lemmas.List.FromFn.{get_or-range_with_len, length-range_with_len}
use Rattle.std.proofs.lemmas.List.Sums.{fold-append}
use Rattle.packet_core.specs.Packets.{same_tuple}
use Rattle.packet_core.specs.declared.packet.FiveTuple.{FiveTuple}
use Rattle.journal_core.specs.declared.event.Event.{Event}
use Rattle.journal_core.specs.declared.event.Event.TheVariants.{Accepted, Sent, Dropped, Closed}
use Rattle.journal_core.specs.Happened.{acceptances, accepted_ids, fate_ids}
use Rattle.journal_core.specs.JournalLaws.{FatesFollow}
use Rattle.journal_core.specs.TupleRows.{with_new}
use Rattle.journal_core.proofs.ListLemmas.{ByRecursion-weaker}
use Rattle.link_report.specs.declared.packets.Fate.{Fate}
use Rattle.link_report.specs.declared.packets.Fate.TheVariants as fate
use Rattle.link_report.specs.declared.packets.PacketRecord.{PacketRecord}
use Rattle.link_report.specs.declared.series.Happenings.{Happenings}
use Rattle.link_report.specs.declared.series.Series.{Series}
use Rattle.link_report.specs.declared.table.Queue.{Queue}
use Rattle.link_report.specs.declared.table.Table.{Table}
use Rattle.link_report.specs.Binnings.{AreToldInOrder}
use Rattle.link_report.specs.Packets.{Known, known_of, known_with_event, nothing_known, number_of, with_fate}
use Rattle.link_report.specs.Series.{bin_at}
use Rattle.link_report.specs.SeriesTables.{AreRows, HasRowsBefore, IsIn, Walk, begins, begun, ended, happened, heading, journal_walk, later, noted, noted_of, nothing, numbers_with_row, of_number, on_to, series_line, still_waiting, walked, walk_with_event, widened}
use Rattle.link_report.specs.Tables.{AddsToTable, HasTableText}
use Rattle.link_report.proofs.FateLemmas.{ids_before, known_push}

-- THE PART OF A PACKET THAT THE WALK READS

-- It is what stays when the packet has its fate.
abbrev plain : PacketRecord → PacketRecord
plain p = record p { fate = fate.Waiting }

plain_get : (ps : List PacketRecord) (id : ℕ) → slice_get (map plain ps) id ≡ option_map plain (slice_get ps id)
plain_get [] id = refl
plain_get (p ∷ ps) zero = refl
plain_get (p ∷ ps) (suc id) = plain_get ps id

noted_plain : (o : Option PacketRecord) (walk : Walk) (e : Event) → noted_of (option_map plain o) walk e ≡ noted_of o walk e
noted_plain None walk e = refl
noted_plain (Some p) walk (Accepted lane id moment flow packet) = refl
noted_plain (Some p) walk (Sent id moment ecn mark) = refl
noted_plain (Some p) walk (Dropped id moment cause) = refl
noted_plain (Some p) walk (Closed moment) = refl

taken_plain : (ps : List PacketRecord) (id moment : ℕ) (walk : Walk) (e : Event) → noted_of (slice_get (map plain ps) id) (on_to (bin_at walk.every moment) walk) e ≡ noted_of (slice_get ps id) (on_to (bin_at walk.every moment) walk) e
taken_plain ps id moment walk e =
    let next = on_to (bin_at walk.every moment) walk in
    ap (λ (o : Option PacketRecord). noted_of o next e) (plain_get ps id) ∙ noted_plain (slice_get ps id) next e

step_plain : (ps : List PacketRecord) (walk : Walk) (e : Event) → walk_with_event (map plain ps) walk e ≡ walk_with_event ps walk e
step_plain ps walk (Accepted lane id moment flow packet) = taken_plain ps id moment walk (Accepted lane id moment flow packet)
step_plain ps walk (Sent id moment ecn mark) = taken_plain ps id moment walk (Sent id moment ecn mark)
step_plain ps walk (Dropped id moment cause) = taken_plain ps id moment walk (Dropped id moment cause)
step_plain ps walk (Closed moment) = refl

walked_plain : (ps : List PacketRecord) (walk : Walk) (events : List Event) → fold (walk_with_event (map plain ps)) walk events ≡ fold (walk_with_event ps) walk events
walked_plain ps walk [] = refl
walked_plain ps walk (e ∷ events) = ap (λ (w : Walk). fold (walk_with_event (map plain ps)) w events) (step_plain ps walk e) ∙ walked_plain ps (walk_with_event ps walk e) events

plain_fate : (ps : List PacketRecord) (id : ℕ) (f : Fate) → map plain (with_fate ps id f) ≡ map plain ps
plain_fate [] id f = refl
plain_fate (p ∷ ps) zero f = refl
plain_fate (p ∷ ps) (suc id) f = ap (λ l. plain p ∷ l) (plain_fate ps id f)

-- MORE PACKETS

get_more : (ps more : List PacketRecord) (id : ℕ) → id < length ps → slice_get (ps ++ more) id ≡ slice_get ps id
get_more [] more id low = absurd (omega arith)
get_more (p ∷ ps) more zero low = refl
get_more (p ∷ ps) more (suc id) low = get_more ps more id (omega arith)

-- each event is of one of so many packets
abbrev AreOf : ℕ → List Event → Type 0
AreOf n [] = Unit {0}
AreOf n (Accepted lane id moment flow packet ∷ events) = (id < n) × AreOf n events
AreOf n (Sent id moment ecn mark ∷ events) = (id < n) × AreOf n events
AreOf n (Dropped id moment cause ∷ events) = (id < n) × AreOf n events
AreOf n (Closed moment ∷ events) = AreOf n events

-- packets that come later change nothing
walked_more : (ps more : List PacketRecord) (walk : Walk) (events : List Event) → AreOf (length ps) events → fold (walk_with_event (ps ++ more)) walk events ≡ fold (walk_with_event ps) walk events
walked_more ps more walk [] are = refl
walked_more ps more walk (Accepted lane id moment flow packet ∷ events) are =
    let e : Event = Accepted lane id moment flow packet in
    ap (λ (o : Option PacketRecord). fold (walk_with_event (ps ++ more)) (noted_of o (on_to (bin_at walk.every moment) walk) e) events) (get_more ps more id are.0) ∙ walked_more ps more (walk_with_event ps walk e) events are.1
walked_more ps more walk (Sent id moment ecn mark ∷ events) are =
    let e : Event = Sent id moment ecn mark in
    ap (λ (o : Option PacketRecord). fold (walk_with_event (ps ++ more)) (noted_of o (on_to (bin_at walk.every moment) walk) e) events) (get_more ps more id are.0) ∙ walked_more ps more (walk_with_event ps walk e) events are.1
walked_more ps more walk (Dropped id moment cause ∷ events) are =
    let e : Event = Dropped id moment cause in
    ap (λ (o : Option PacketRecord). fold (walk_with_event (ps ++ more)) (noted_of o (on_to (bin_at walk.every moment) walk) e) events) (get_more ps more id are.0) ∙ walked_more ps more (walk_with_event ps walk e) events are.1
walked_more ps more walk (Closed moment ∷ events) are = walked_more ps more walk events are

-- MORE FIVE-TUPLES

abbrev wider : ℕ → Walk → Walk
wider m walk = record walk { happenings = walk.happenings ++ replicate m nothing }

of_wider : (hs : List Happenings) (m k : ℕ) → of_number (hs ++ replicate m nothing) k ≡ of_number hs k
of_wider [] zero k = refl
of_wider [] (suc m) zero = refl
of_wider [] (suc m) (suc k) = of_wider [] m k
of_wider (h ∷ hs) m zero = refl
of_wider (h ∷ hs) m (suc k) = of_wider hs m k

none_pass : (test : ℕ → Bool) (k m : ℕ) → ((j : ℕ) → k ≤ j → test j ≡ false) → filter test (range_with_len k m) ≡ []
none_pass test k zero fails = refl
none_pass test k (suc m) fails = rw (fails k (omega arith)) (none_pass test (k + 1) m (λ j from. fails j (omega arith)))

front_passes : (test : ℕ → Bool) (k n m : ℕ) → ((j : ℕ) → k + n ≤ j → test j ≡ false) → filter test (range_with_len k (n + m)) ≡ filter test (range_with_len k n)
front_passes test k zero m fails =
    let count : 0 + m ≡ m = omega arith in
    ap (λ c. filter test (range_with_len k c)) count ∙ none_pass test k m (λ j from. fails j (omega arith))
front_passes test k (suc n) m fails =
    let count : suc n + m ≡ suc (n + m) = omega arith in
    ap (λ c. filter test (range_with_len k c)) count ∙ ap (λ (rest : List ℕ). cond (test k) (k ∷ rest) rest) (front_passes test (k + 1) n m (λ j from. fails j (omega arith)))

numbers_wider : (hs : List Happenings) (m : ℕ) → numbers_with_row (hs ++ replicate m nothing) ≡ numbers_with_row hs
numbers_wider hs m =
    let test : ℕ → Bool = λ k. (of_number hs k).has_row in
    let same : (k : ℕ) → (of_number (hs ++ replicate m nothing) k).has_row ≡ test k = λ k. ap (λ (h : Happenings). h.has_row) (of_wider hs m k) in
    let count : length (hs ++ replicate m nothing) ≡ length hs + m = length-append hs (replicate m nothing) ∙ ap (λ n. length hs + n) (length-replicate m nothing) in
    (λ i. filter (λ k. same k i) (range_with_len 0 (count i))) ∙ front_passes test 0 (length hs) m (λ j from. ap (λ (h : Happenings). h.has_row) (get_or_past hs j nothing (omega arith)))

still_replicate : (m : ℕ) → map still_waiting (replicate m nothing) ≡ replicate m nothing
still_replicate zero = refl
still_replicate (suc m) = ap (λ l. nothing ∷ l) (still_replicate m)

ended_wider : (m : ℕ) (walk : Walk) → ended (wider m walk) ≡ wider m (ended walk)
ended_wider m walk =
    let hs = walk.happenings in
    let still : map still_waiting (hs ++ replicate m nothing) ≡ map still_waiting hs ++ replicate m nothing = map-append still_waiting hs (replicate m nothing) ∙ ap (λ l. map still_waiting hs ++ l) (still_replicate m) in
    λ i. record walk {
      happenings = still i;
      text = walk.text ++ flat_map (λ number. series_line walk.queue (begins walk) number (of_wider hs m number i)) (numbers_wider hs m i);
    }

later_wider : (count m : ℕ) (walk : Walk) → later count (wider m walk) ≡ wider m (later count walk)
later_wider zero m walk = refl
later_wider (suc count) m walk =
    let last = later count walk in
    ap (λ (w : Walk). record (ended w) { bin = w.bin + 1 }) (later_wider count m walk) ∙ ap (λ (w : Walk). record w { bin = last.bin + 1 }) (ended_wider m last)

on_wider : (bin m : ℕ) (walk : Walk) → on_to bin (wider m walk) ≡ wider m (on_to bin walk)
on_wider bin m walk = ap (λ (w : Walk). record w { bin = bin }) (later_wider (bin - walk.bin) m walk)

noted_wider : (p : PacketRecord) (m : ℕ) (walk : Walk) (e : Event) → p.tuple < length walk.happenings → noted p (wider m walk) e ≡ wider m (noted p walk e)
noted_wider p m walk e low =
    let hs = walk.happenings in
    let wide = hs ++ replicate m nothing in
    let same : set wide p.tuple (happened p (of_number wide p.tuple) e) ≡ set hs p.tuple (happened p (of_number hs p.tuple) e) ++ replicate m nothing =
    ap (λ (h : Happenings). set wide p.tuple (happened p h e)) (of_wider hs m p.tuple) ∙ set-append_left hs (replicate m nothing) p.tuple (happened p (of_number hs p.tuple) e) low in
    λ i. record walk { happenings = same i }

noted_of_wider : (o : Option PacketRecord) (m : ℕ) (walk : Walk) (e : Event) → ((p : PacketRecord) → o ≡ Some p → p.tuple < length walk.happenings) → noted_of o (wider m walk) e ≡ wider m (noted_of o walk e)
noted_of_wider None m walk e low = refl
noted_of_wider (Some p) m walk e low = noted_wider p m walk e (low p refl)

-- the number of five-tuples stays
length_later : (count : ℕ) (walk : Walk) → length (later count walk).happenings ≡ length walk.happenings
length_later zero walk = refl
length_later (suc count) walk = length-map (later count walk).happenings still_waiting ∙ length_later count walk

length_noted : (o : Option PacketRecord) (walk : Walk) (e : Event) → length (noted_of o walk e).happenings ≡ length walk.happenings
length_noted None walk e = refl
length_noted (Some p) walk e = length-set walk.happenings p.tuple (happened p (of_number walk.happenings p.tuple) e)

length_taken : (o : Option PacketRecord) (bin : ℕ) (walk : Walk) (e : Event) → length (noted_of o (on_to bin walk) e).happenings ≡ length walk.happenings
length_taken o bin walk e = length_noted o (on_to bin walk) e ∙ length_later (bin - walk.bin) walk

length_step : (ps : List PacketRecord) (walk : Walk) (e : Event) → length (walk_with_event ps walk e).happenings ≡ length walk.happenings
length_step ps walk (Accepted lane id moment flow packet) = length_taken (slice_get ps id) (bin_at walk.every moment) walk (Accepted lane id moment flow packet)
length_step ps walk (Sent id moment ecn mark) = length_taken (slice_get ps id) (bin_at walk.every moment) walk (Sent id moment ecn mark)
length_step ps walk (Dropped id moment cause) = length_taken (slice_get ps id) (bin_at walk.every moment) walk (Dropped id moment cause)
length_step ps walk (Closed moment) = refl

length_walked : (ps : List PacketRecord) (walk : Walk) (events : List Event) → length (fold (walk_with_event ps) walk events).happenings ≡ length walk.happenings
length_walked ps walk [] = refl
length_walked ps walk (e ∷ events) = length_walked ps (walk_with_event ps walk e) events ∙ length_step ps walk e

-- each packet has the number of one of so many five-tuples
abbrev AreNumbered : ℕ → List PacketRecord → Type 0
AreNumbered n [] = Unit {0}
AreNumbered n (p ∷ ps) = (p.tuple < n) × AreNumbered n ps

numbered_more : (n m : ℕ) (ps : List PacketRecord) → n ≤ m → AreNumbered n ps → AreNumbered m ps
numbered_more n m [] most are = tt
numbered_more n m (p ∷ ps) most are = let low = are.0 in (omega arith, numbered_more n m ps most are.1)

numbered_push : (n : ℕ) (ps : List PacketRecord) (p : PacketRecord) → AreNumbered n ps → p.tuple < n → AreNumbered n (ps ++ p ∷ [])
numbered_push n [] p are low = (low, tt)
numbered_push n (q ∷ ps) p are low = (are.0, numbered_push n ps p are.1 low)

numbered_fate : (n : ℕ) (ps : List PacketRecord) (id : ℕ) (f : Fate) → AreNumbered n ps → AreNumbered n (with_fate ps id f)
numbered_fate n [] id f are = tt
numbered_fate n (p ∷ ps) zero f are = are
numbered_fate n (p ∷ ps) (suc id) f are = (are.0, numbered_fate n ps id f are.1)

numbered_get : (n : ℕ) (ps : List PacketRecord) (id : ℕ) (p : PacketRecord) → AreNumbered n ps → slice_get ps id ≡ Some p → p.tuple < n
numbered_get n [] id p are is = absurd cc
numbered_get n (q ∷ ps) zero p are is =
    let same : q ≡ p = cc in
    subst (λ (r : PacketRecord). r.tuple < n) same are.0
numbered_get n (q ∷ ps) (suc id) p are is = numbered_get n ps id p are.1 is

taken_wider : (n m : ℕ) (ps : List PacketRecord) (id bin : ℕ) (walk : Walk) (e : Event) → AreNumbered n ps → length walk.happenings ≡ n → noted_of (slice_get ps id) (on_to bin (wider m walk)) e ≡ wider m (noted_of (slice_get ps id) (on_to bin walk) e)
taken_wider n m ps id bin walk e are long =
    let next = on_to bin walk in
    let kept : length next.happenings ≡ length walk.happenings = length_later (bin - walk.bin) walk in
    ap (λ (w : Walk). noted_of (slice_get ps id) w e) (on_wider bin m walk)
    ∙ noted_of_wider (slice_get ps id) m next e (λ p is. let low = numbered_get n ps id p are is in omega arith)

step_wider : (n m : ℕ) (ps : List PacketRecord) (walk : Walk) (e : Event) → AreNumbered n ps → length walk.happenings ≡ n → walk_with_event ps (wider m walk) e ≡ wider m (walk_with_event ps walk e)
step_wider n m ps walk (Accepted lane id moment flow packet) are long = taken_wider n m ps id (bin_at walk.every moment) walk (Accepted lane id moment flow packet) are long
step_wider n m ps walk (Sent id moment ecn mark) are long = taken_wider n m ps id (bin_at walk.every moment) walk (Sent id moment ecn mark) are long
step_wider n m ps walk (Dropped id moment cause) are long = taken_wider n m ps id (bin_at walk.every moment) walk (Dropped id moment cause) are long
step_wider n m ps walk (Closed moment) are long = refl

walked_wider : (n m : ℕ) (ps : List PacketRecord) (walk : Walk) (events : List Event) → AreNumbered n ps → length walk.happenings ≡ n → fold (walk_with_event ps) (wider m walk) events ≡ wider m (fold (walk_with_event ps) walk events)
walked_wider n m ps walk [] are long = refl
walked_wider n m ps walk (e ∷ events) are long =
    ap (λ (w : Walk). fold (walk_with_event ps) w events) (step_wider n m ps walk e are long) ∙ walked_wider n m ps (walk_with_event ps walk e) events are (length_step ps walk e ∙ long)

-- WHAT IS KNOWN WITH AN EVENT MORE

number_most : (ts : List FiveTuple) (t : FiveTuple) → number_of ts t ≤ length ts
number_most [] t = omega arith
number_most (x ∷ ts) t = by (same_tuple t x) (number_most ts t)
  where
    by : (b : Bool) → number_of ts t ≤ length ts → cond (not b) (1 + number_of ts t) 0 ≤ length (x ∷ ts)
    by true most = omega arith
    by false most = omega arith

number_some : (ts : List FiveTuple) (t : FiveTuple) → list_any (same_tuple t) ts ≡ true → number_of ts t < length ts
number_some [] t has = absurd cc
number_some (x ∷ ts) t has = by (same_tuple t x) has (λ some. number_some ts t some)
  where
    by : (b : Bool) → (b || list_any (same_tuple t) ts) ≡ true → (list_any (same_tuple t) ts ≡ true → number_of ts t < length ts) → cond (not b) (1 + number_of ts t) 0 < length (x ∷ ts)
    by true some rest = omega arith
    by false some rest = let low = rest some in omega arith

number_known : (ts : List FiveTuple) (t : FiveTuple) → number_of ts t < length (with_new same_tuple ts t)
number_known ts t = by (list_any (same_tuple t) ts) refl
  where
    by : (b : Bool) → list_any (same_tuple t) ts ≡ b → number_of ts t < length (cond b ts (ts ++ t ∷ []))
    by true is = number_some ts t is
    by false is = omega (arith, number_most ts t, length_push ts t)

tuples_grow : (ts : List FiveTuple) (t : FiveTuple) → length ts ≤ length (with_new same_tuple ts t)
tuples_grow ts t = by (list_any (same_tuple t) ts)
  where
    by : (b : Bool) → length ts ≤ length (cond b ts (ts ++ t ∷ []))
    by true = omega arith
    by false = omega (arith, length_push ts t)

-- What is known grows, and what the walk reads of it stays.
record Grows (old new : Known) : Type 0 where
  more : List PacketRecord
  packets : map plain new.packets ≡ map plain old.packets ++ more
  tuples : length old.tuples ≤ length new.tuples
  numbered : AreNumbered (length old.tuples) old.packets → AreNumbered (length new.tuples) new.packets

grows_fate : (known new : Known) (id : ℕ) (f : Fate) → new.packets ≡ with_fate known.packets id f → new.tuples ≡ known.tuples → Grows known new
grows_fate known new id f packets tuples =
    record {
      more = [];
      packets = ap (map plain) packets ∙ plain_fate known.packets id f ∙ sym (append-nil (map plain known.packets));
      tuples = rw tuples (omega arith);
      numbered = λ are. subst (λ (ts : List FiveTuple). AreNumbered (length ts) new.packets) (sym tuples) (subst (λ (ps : List PacketRecord). AreNumbered (length known.tuples) ps) (sym packets) (numbered_fate (length known.tuples) known.packets id f are));
    }

grows : (known : Known) (e : Event) → Grows known (known_with_event known e)
grows known (Accepted lane id moment flow packet) =
    let ts = known.tuples in
    let now = with_new same_tuple ts packet.tuple in
    let p : PacketRecord = record { id = id; tuple = number_of ts packet.tuple; flow = flow; len = packet.len; ecn = packet.ecn; arrived = moment; fate = fate.Waiting } in
    record {
      more = p ∷ [];
      packets = map-append plain known.packets (p ∷ []);
      tuples = tuples_grow ts packet.tuple;
      numbered = λ are. numbered_push (length now) known.packets p (numbered_more (length ts) (length now) known.packets (tuples_grow ts packet.tuple) are) (number_known ts packet.tuple);
    }
grows known (Sent id moment ecn mark) = grows_fate known (known_with_event known (Sent id moment ecn mark)) id (fate.Sent moment ecn mark known.sent) refl refl
grows known (Dropped id moment cause) = grows_fate known (known_with_event known (Dropped id moment cause)) id (fate.Dropped moment cause) refl refl
grows known (Closed moment) = record { more = []; packets = sym (append-nil (map plain known.packets)); tuples = omega arith; numbered = λ are. are }

numbered_from : (known : Known) (events : List Event) → AreNumbered (length known.tuples) known.packets → AreNumbered (length (fold known_with_event known events).tuples) (fold known_with_event known events).packets
numbered_from known [] are = are
numbered_from known (e ∷ events) are = numbered_from (known_with_event known e) events ((grows known e).numbered are)

length-with_fate : (ps : List PacketRecord) (id : ℕ) (f : Fate) → length (with_fate ps id f) ≡ length ps
length-with_fate [] id f = refl
length-with_fate (p ∷ ps) zero f = refl
length-with_fate (p ∷ ps) (suc id) f = ap (λ n. suc n) (length-with_fate ps id f)

-- there is a packet for each acceptance
counted_from : (known : Known) (events : List Event) → length (fold known_with_event known events).packets ≡ length known.packets + length (acceptances events)
counted_from known [] = omega arith
counted_from known (Accepted lane id moment flow packet ∷ events) =
    let p : PacketRecord = record { id = id; tuple = number_of known.tuples packet.tuple; flow = flow; len = packet.len; ecn = packet.ecn; arrived = moment; fate = fate.Waiting } in
    let rest = counted_from (known_with_event known (Accepted lane id moment flow packet)) events in
    omega (arith, length_push known.packets p)
counted_from known (Sent id moment ecn mark ∷ events) = counted_from (known_with_event known (Sent id moment ecn mark)) events ∙ ap (λ n. n + length (acceptances events)) (length-with_fate known.packets id (fate.Sent moment ecn mark known.sent))
counted_from known (Dropped id moment cause ∷ events) = counted_from (known_with_event known (Dropped id moment cause)) events ∙ ap (λ n. n + length (acceptances events)) (length-with_fate known.packets id (fate.Dropped moment cause))
counted_from known (Closed moment ∷ events) = counted_from known events

-- EVENTS IN ORDER

low_ids : (n k c : ℕ) → k + c ≤ n → AllByRecursion (λ id. id < n) (range_with_len k c)
low_ids n k zero most = tt
low_ids n k (suc c) most = (omega arith, low_ids n (k + 1) c (omega arith))

are_of : (n : ℕ) (events : List Event) → AllByRecursion (λ id. id < n) (accepted_ids events) → AllByRecursion (λ id. id < n) (fate_ids events) → AreOf n events
are_of n [] accepted fates = tt
are_of n (Accepted lane id moment flow packet ∷ events) accepted fates = (accepted.0, are_of n events accepted.1 fates)
are_of n (Sent id moment ecn mark ∷ events) accepted fates = (fates.0, are_of n events accepted fates.1)
are_of n (Dropped id moment cause ∷ events) accepted fates = (fates.0, are_of n events accepted fates.1)
are_of n (Closed moment ∷ events) accepted fates = are_of n events accepted fates

-- each event is of a packet that is known at the end
all_known : (events : List Event) → AreToldInOrder events → AreOf (length (known_of events).packets) events
all_known events order =
    let n = length (acceptances events) in
    let whole : take (length events) events ≡ events = take_all (length events) events (omega arith) in
    let named = subst (λ (l : List Event). All (Contains (accepted_ids l)) (fate_ids l)) whole (order.follow (length events)) in
    let accepted : AllByRecursion (λ id. id < n) (accepted_ids events) = subst (λ (ids : List ℕ). AllByRecursion (λ id. id < n) ids) (sym order.ids) (low_ids n 0 n (omega arith)) in
    let fates : AllByRecursion (λ id. id < n) (fate_ids events) =
    ByRecursion-weaker (Contains (accepted_ids events)) (λ id. id < n) (fate_ids events)
    (λ id has.
    let at : Contains (range_with_len 0 n) id = subst (λ (l : List ℕ). Contains l id) order.ids has in
    let low : at.0 < n = let within = at.1 in omega (arith, length-range_with_len 0 n) in
    let is = at.2 in
    let place = get_or-range_with_len 0 n at.0 id low in
    omega arith) (recursion_from_All (Contains (accepted_ids events)) (fate_ids events) named) in
    let count : n ≡ length (known_of events).packets = let told = counted_from nothing_known events in omega arith in
    subst (λ m. AreOf m events) count (are_of n events accepted fates)

-- the first events come in order, too
in_order_before : (before behind : List Event) → AreToldInOrder (before ++ behind) → AreToldInOrder before
in_order_before before behind order =
    let follows : FatesFollow before = λ point.
    let front : take (min point (length before)) (before ++ behind) ≡ take point before = take-append-le (min point (length before)) before behind (omega arith) ∙ take_min point before in
    subst (λ (l : List Event). All (Contains (accepted_ids l)) (fate_ids l)) front (order.follow (min point (length before))) in
    record { ids = ids_before before behind order.ids; follow = follows }

-- THE WALK WITH AN EVENT MORE

module _ (queue : Queue) (every : ℕ) (before : List Event) (e : Event) (order : AreToldInOrder (before ++ e ∷ [])) where
  abbrev known : Known
  known = known_of before

  abbrev now : Known
  now = known_of (before ++ e ∷ [])

  growing : Grows known now
  growing = subst (λ (k : Known). Grows known k) (sym (known_push before e)) (grows known e)

  -- so many five-tuples more
  abbrev count : ℕ
  count = length now.tuples - length known.tuples

  by_later_packets : walked queue every (length now.tuples) now.packets before ≡ walked queue every (length now.tuples) known.packets before
  by_later_packets =
      let start = begun queue every (length now.tuples) in
      let of : AreOf (length (map plain known.packets)) before = subst (λ n. AreOf n before) (sym (length-map known.packets plain)) (all_known before (in_order_before before (e ∷ []) order)) in
      sym (walked_plain now.packets start before) ∙ ap (λ (ps : List PacketRecord). fold (walk_with_event ps) start before) growing.packets ∙ walked_more (map plain known.packets) growing.more start before of ∙ walked_plain known.packets start before

  begun_wider : begun queue every (length now.tuples) ≡ wider count (begun queue every (length known.tuples))
  begun_wider =
      let more = growing.tuples in
      let whole : length now.tuples ≡ length known.tuples + count = omega arith in
      let all : replicate (length now.tuples) nothing ≡ replicate (length known.tuples) nothing ++ replicate count nothing = ap (λ n. replicate n nothing) whole ∙ sym (replicate-append-replicate (length known.tuples) count nothing) in
      λ i. record (begun queue every (length known.tuples)) { happenings = all i }

  length_walk : length (journal_walk queue every before).happenings ≡ length known.tuples
  length_walk = length_walked known.packets (begun queue every (length known.tuples)) before ∙ length-replicate (length known.tuples) nothing

  by_later_tuples : walked queue every (length now.tuples) known.packets before ≡ widened (length now.tuples) (journal_walk queue every before)
  by_later_tuples =
      let start = begun queue every (length known.tuples) in
      let wide = walked_wider (length known.tuples) count known.packets start before (numbered_from nothing_known before tt) (length-replicate (length known.tuples) nothing) in
      ap (λ (w : Walk). fold (walk_with_event known.packets) w before) begun_wider ∙ wide ∙ ap (λ n. wider (length now.tuples - n) (journal_walk queue every before)) (sym length_walk)

  -- It goes on from the walk over the events before.
  walk_more : journal_walk queue every (before ++ e ∷ []) ≡ walk_with_event now.packets (widened (length now.tuples) (journal_walk queue every before)) e
  walk_more =
      fold-append (walk_with_event now.packets) (begun queue every (length now.tuples)) before (e ∷ [])
      ∙ ap (λ (w : Walk). walk_with_event now.packets w e) (by_later_packets ∙ by_later_tuples)

-- A series that is told the last event goes on to the end of the walk.
pub told_last : (before : List ℕ) (old mid new : Series) (table after : Table) (queue : Queue) (every : ℕ) (events earlier : List Event) (e : Event) (known : Known) (tuples : ℕ) (packets : List PacketRecord) → known ≡ known_of events → tuples ≡ length known.tuples → packets ≡ known.packets
    → events ≡ earlier ++ e ∷ [] → AreToldInOrder events → ((walk : Walk) → IsIn old walk → IsIn mid (widened tuples walk)) → ((walk : Walk) → HasRowsBefore before mid table walk → HasRowsBefore before new after (walk_with_event packets walk e))
    → HasRowsBefore before old table (journal_walk queue every earlier) → HasRowsBefore before new after (journal_walk queue every events)
told_last before old mid new table after queue every events earlier e known tuples packets are count records is order widens takes at =
    let last = subst AreToldInOrder is order in
    let all : known ≡ known_of (earlier ++ e ∷ []) = are ∙ ap known_of is in
    let wide = widened tuples (journal_walk queue every earlier) in
    let there : HasRowsBefore before mid table wide = record { place = widens (journal_walk queue every earlier) at.place; text = at.text } in
    let numbers : tuples ≡ length (known_of (earlier ++ e ∷ [])).tuples = count ∙ ap (λ (k : Known). length k.tuples) all in
    let given : packets ≡ (known_of (earlier ++ e ∷ [])).packets = records ∙ ap (λ (k : Known). k.packets) all in
    let same : walk_with_event packets wide e ≡ journal_walk queue every events =
    (λ i. walk_with_event (given i) (widened (numbers i) (journal_walk queue every earlier)) e) ∙ sym (walk_more queue every earlier e last) ∙ sym (ap (journal_walk queue every) is) in
    subst (λ (w : Walk). HasRowsBefore before new after w) same (takes wide there)

-- ROOM FOR FIVE-TUPLES

rows_wider : (hs : List Happenings) (m : ℕ) (numbers : List ℕ) → AreRows hs numbers → AreRows (hs ++ replicate m nothing) numbers
rows_wider hs m numbers are =
    record {
      once = λ k. are.once k ∙ ap (λ (h : Happenings). cond h.has_row 1 0) (sym (of_wider hs m k));
      idle = λ k fails. subst (λ (h : Happenings). h.has_row ≡ false → still_waiting h ≡ h) (sym (of_wider hs m k)) (are.idle k) fails;
    }

-- one more
pub room_more : (hs now next : List Happenings) (turn : ℕ) → length hs ≤ turn → now ≡ hs ++ replicate (turn - length hs) nothing → next ≡ now ++ nothing ∷ [] → next ≡ hs ++ replicate (turn + 1 - length hs) nothing
room_more hs now next turn least is pushed =
    let m = turn - length hs in
    let count : m + 1 ≡ turn + 1 - length hs = omega arith in
    pushed ∙ ap (λ l. l ++ nothing ∷ []) is ∙ append_assoc hs (replicate m nothing) (nothing ∷ []) ∙ ap (λ l. hs ++ l) (replicate_more m nothing) ∙ ap (λ n. hs ++ replicate n nothing) count

-- and none yet
pub room_begins : (hs : List Happenings) (turn : ℕ) → turn ≡ length hs → hs ≡ hs ++ replicate (turn - length hs) nothing
room_begins hs turn is =
    let none : 0 ≡ turn - length hs = omega arith in
    sym (append-nil hs) ∙ ap (λ n. hs ++ replicate n nothing) none

-- a series with room for more
pub series_wider : (old new : Series) (tuples m : ℕ) → new.queue ≡ old.queue → new.every ≡ old.every → new.bin ≡ old.bin → new.rows.items ≡ old.rows.items → new.happenings.items ≡ old.happenings.items ++ replicate m nothing → m ≡ tuples - length old.happenings.items
    → (walk : Walk) → IsIn old walk → IsIn new (widened tuples walk)
series_wider old new tuples m queue every bin rows happenings is walk at =
    let count : m ≡ tuples - length walk.happenings = is ∙ ap (λ (hs : List Happenings). tuples - length hs) at.happenings in
    record {
      queue = queue ∙ at.queue;
      every = every ∙ at.every;
      bin = bin ∙ at.bin;
      happenings = happenings ∙ (λ i. at.happenings i ++ replicate (count i) nothing);
      rows = subst (λ (numbers : List ℕ). AreRows (walk.happenings ++ replicate (tuples - length walk.happenings) nothing) numbers) (sym rows) (rows_wider walk.happenings (tuples - length walk.happenings) old.rows.items at.rows);
    }

-- A RECORDER OF BINS

-- It begins,
pub binned_begins : (queue : Queue) (every : ℕ) (events : List Event) (series : Series) (empty table : Table) → events ≡ [] → IsIn series (begun queue every 0) → HasTableText empty [] → AddsToTable empty table (heading queue)
    → HasRowsBefore (heading series.queue) series table (journal_walk series.queue series.every events)
unfolding AddsToTable
binned_begins queue every events series empty table is begins has adds =
    let at : HasRowsBefore (heading queue) series table (journal_walk queue every []) = record { place = begins; text = subst (λ (text : List ℕ). HasTableText table text) (sym (append-nil (heading queue))) (adds [] has) } in
    subst (λ (q : Queue). HasRowsBefore (heading q) series table (journal_walk q series.every events)) (sym begins.queue)
    (subst (λ (n : ℕ). HasRowsBefore (heading queue) series table (journal_walk queue n events)) (sym begins.every) (subst (λ (l : List Event). HasRowsBefore (heading queue) series table (journal_walk queue every l)) (sym is) at))

-- and goes on with an event more.
pub binned_still : (old new : Series) (table after : Table) (was short : Bool) (earlier events : List Event) (e : Event) → new.queue ≡ old.queue → new.every ≡ old.every → events ≡ earlier ++ e ∷ []
    → (short ≡ false → (before : List ℕ) (first : List Event) → events ≡ first ++ e ∷ [] → AreToldInOrder events → (was ≡ false → HasRowsBefore before old table (journal_walk old.queue old.every first)) → HasRowsBefore before new after (journal_walk old.queue old.every events))
    → (was ≡ false → AreToldInOrder earlier → HasRowsBefore (heading old.queue) old table (journal_walk old.queue old.every earlier)) → short ≡ false → AreToldInOrder events → HasRowsBefore (heading new.queue) new after (journal_walk new.queue new.every events)
binned_still old new table after was short earlier events e queue every is follows has whole order =
    let first = in_order_before earlier (e ∷ []) (subst AreToldInOrder is order) in
    let at = follows whole (heading old.queue) earlier is order (λ none. has none first) in
    subst (λ (q : Queue). HasRowsBefore (heading q) new after (journal_walk q new.every events)) (sym queue) (subst (λ (n : ℕ). HasRowsBefore (heading old.queue) new after (journal_walk old.queue n events)) (sym every) at)
