-- What a sender's seat is told, from call to call.
use Rattle.std.proofs.Common.{◌≡◌, ◌∙◌, ℕ, ◌+◌, ◌-◌, ◌<◌, ◌≤◌, ◌^◌, arith, slice_index_or, ◌∷◌, [], ◌++◌, List, ap, sym, subst, append-nil, append_assoc, map, take, length, get_or, Result, Ok, Err, IfOk, OnErr}
use Rattle.std.proofs.Math.Nat.{lt_of_not-le}
use Rattle.std.proofs.lemmas.List.{get_or_default, map-append, take-map, take_more}
use Rattle.std.proofs.lemmas.List.Elements.{filter_map-append}
use Rattle.packet_core.specs.Packets.{PacketParts}
use Rattle.journal_core.specs.Happened.{acceptance_of, acceptances}
use Rattle.journal_core.specs.declared.step.Admitted.{Admitted}
use Rattle.journal_core.specs.declared.step.Refusal.{Refusal}
use Rattle.journal_core.specs.declared.event.Event.{Event}
use Rattle.journal_core.specs.declared.step.Step.{Step}
use Rattle.journal_core.specs.declared.step.MomentFault.TheVariants.{TooLarge}
use Rattle.journal_core.specs.declared.step.Refusal.TheVariants.{ClosedAlready, Moment}
use Rattle.journal_core.specs.declared.step.Step.TheVariants.{Enqueue}
use Rattle.port_core.specs.LockedCalls.{IsRefusedBy}
use Rattle.port_core.specs.Ports.{Refuses, Seat, told_also, told_event}
use Rattle.port_core.specs.Senders.{IsSubsequence, Answers, SendsAt, SendsSome, accepts, ends, no_calls, passes, takes, leaves, packets_told}

-- before the first call
pub sends_none : (s : Seat) (packets : List PacketParts) → SendsSome s packets 0 s
sends_none s packets = record { news = []; told = ap (λ t. record s { told = t }) (sym (append-nil s.told)); some = ends }

-- a call for the next packet that tells nothing
sends_past : (s now : Seat) (packets : List PacketParts) (calls : ℕ) (packet : PacketParts) → take (calls + 1) packets ≡ take calls packets ++ packet ∷ []
    → SendsSome s packets calls now → SendsSome s packets (calls + 1) now
sends_past s now packets calls packet next h = record { news = h.news; told = h.told; some = subst (IsSubsequence (packets_told h.news)) (sym next) (leaves packet h.some) }

-- a call for the next packet that tells of its acceptance
sends_also : (s now : Seat) (packets : List PacketParts) (calls : ℕ) (packet : PacketParts) (a : Admitted) → take (calls + 1) packets ≡ take calls packets ++ packet ∷ []
    → SendsSome s packets calls now → SendsSome s packets (calls + 1) (told_also now a packet)
sends_also s now packets calls packet a next h =
    let e = told_event s a packet in
    let packets_are : packets_told (h.news ++ e ∷ []) ≡ packets_told h.news ++ packet ∷ [] = ap (map (λ x. x.packet)) (filter_map-append acceptance_of h.news (e ∷ [])) ∙ map-append (λ x. x.packet) (acceptances h.news) (acceptances (e ∷ [])) in
    record {
      news = h.news ++ e ∷ [];
      told = let grown : told_also now a packet ≡ record s { told = (s.told ++ h.news) ++ e ∷ [] } = ap (λ (t : Seat). told_also t a packet) h.told in
          grown ∙ ap (λ (t : List Event). record s { told = t }) (append_assoc s.told h.news (e ∷ []));
      some = subst (λ ps. IsSubsequence ps (take (calls + 1) packets)) (sym packets_are) (subst (IsSubsequence (packets_told h.news ++ packet ∷ [])) (sym next) (takes packet h.some));
    }

-- the packet of the next call
next_packet : (packets : List (ℕ × PacketParts)) (i n : ℕ) (p : ℕ × PacketParts) → n ≡ i → i < length packets → p ≡ get_or packets i p
    → take (n + 1) (map (λ q. q.1) packets) ≡ take n (map (λ q. q.1) packets) ++ p.1 ∷ []
next_packet packets i n p e within stands =
    let f : ℕ × PacketParts → PacketParts = λ q. q.1 in
    let more : take (n + 1) packets ≡ take n packets ++ p ∷ [] = rw e (take_more packets i p within ∙ ap (λ x. take i packets ++ x ∷ []) (sym stands)) in
    take-map f (n + 1) packets ∙ ap (map f) more ∙ map-append f (take n packets) (p ∷ []) ∙ ap (λ l. l ++ p.1 ∷ []) (sym (take-map f n packets))

-- a call, whatever it answers
pub sends_call : (s old new : Seat) (packets : List (ℕ × PacketParts)) (i n : ℕ) (p : ℕ × PacketParts) (r : Result Admitted Refusal)
    → n ≡ i → i < length packets → p ≡ get_or packets i p
    → IfOk r (λ a. new ≡ told_also old a p.1) → OnErr r (new ≡ old)
    → SendsSome s (map (λ q. q.1) packets) n old → SendsSome s (map (λ q. q.1) packets) (n + 1) new
sends_call s old new packets i n p (Ok a) e within stands told same h =
    subst (SendsSome s (map (λ q. q.1) packets) (n + 1)) (sym told) (sends_also s old (map (λ q. q.1) packets) n p.1 a (next_packet packets i n p e within stands) h)
sends_call s old new packets i n p (Err why) e within stands told same h =
    subst (SendsSome s (map (λ q. q.1) packets) (n + 1)) (sym same) (sends_past s old (map (λ q. q.1) packets) n p.1 (next_packet packets i n p e within stands) h)

-- before the first call, with the moments
pub at_none : (s : Seat) (packets : List (ℕ × PacketParts)) → SendsAt s packets 0 s
at_none s packets = record { news = []; told = ap (λ t. record s { told = t }) (sym (append-nil s.told)); answers = no_calls }

-- the next call
next_call : (packets : List (ℕ × PacketParts)) (i n : ℕ) (p : ℕ × PacketParts) → n ≡ i → i < length packets → p ≡ get_or packets i p
    → take (n + 1) packets ≡ take n packets ++ p ∷ []
next_call packets i n p e within stands = rw e (take_more packets i p within ∙ ap (λ x. take i packets ++ x ∷ []) (sym stands))

-- a call that is accepted
pub at_accepted : (s old new : Seat) (packets : List (ℕ × PacketParts)) (i n : ℕ) (p : ℕ × PacketParts) (a : Admitted)
    → n ≡ i → i < length packets → p ≡ get_or packets i p
    → new ≡ told_also old a p.1 → p.0 ≤ a.moment → p.0 < 2 ^ 60 → SendsAt s packets n old → SendsAt s packets (n + 1) new
at_accepted s old new packets i n p a e within stands told later soon h =
    let next = next_call packets i n p e within stands in
    let event = told_event s a p.1 in
    record {
      news = h.news ++ event ∷ [];
      told = let grown : told_also old a p.1 ≡ record s { told = (s.told ++ h.news) ++ event ∷ [] } = ap (λ (t : Seat). told_also t a p.1) h.told in
          told ∙ grown ∙ ap (λ (t : List Event). record s { told = t }) (append_assoc s.told h.news (event ∷ []));
      answers = subst (Answers s.lane (h.news ++ event ∷ [])) (sym next) (accepts p a.id a.moment a.flow soon later h.answers);
    }

-- a call that is passed over
pub at_passed : (s old new : Seat) (packets : List (ℕ × PacketParts)) (i n : ℕ) (p : ℕ × PacketParts)
    → n ≡ i → i < length packets → p ≡ get_or packets i p
    → new ≡ old → p.0 < 2 ^ 60 → IsRefusedBy (λ moment. Enqueue moment old.lane p.1) p.0 ClosedAlready
    → SendsAt s packets n old → SendsAt s packets (n + 1) new
at_passed s old new packets i n p e within stands same soon closed h =
    let lane_is : old.lane ≡ s.lane = ap (λ (t : Seat). t.lane) h.told in
    let closed_there = subst (λ (lane : ℕ). IsRefusedBy (λ moment. Enqueue moment lane p.1) p.0 ClosedAlready) lane_is closed in
    record {
      news = h.news;
      told = same ∙ h.told;
      answers = subst (Answers s.lane h.news) (sym (next_call packets i n p e within stands)) (passes p soon closed_there h.answers);
    }

-- a refused call leaves the seat
pub at_refused : (s old new : Seat) (packets : List (ℕ × PacketParts)) (n m : ℕ) → new ≡ old → m ≡ n → SendsAt s packets n old → SendsAt s packets m new
at_refused s old new packets n m same counted h = record {
  news = h.news;
  told = same ∙ h.told;
  answers = subst (λ k. Answers s.lane h.news (take k packets)) (sym counted) h.answers;
}

-- a call that is passed over was refused for the close
pub closed_by : (step : ℕ → Step) (now : ℕ) (why : Refusal) → why ≡ ClosedAlready → IsRefusedBy step now why → IsRefusedBy step now ClosedAlready
closed_by step now why closed refused = subst (IsRefusedBy step now) closed refused

-- a call that was passed over for the close wasn't too late
pub closed_soon : (now : ℕ) (why : Refusal) → why ≡ ClosedAlready → Refuses {X = Admitted} now (Err why) → now < 2 ^ 60
closed_soon now why closed r = lt_of_not-le (λ late. let bad : ClosedAlready ≡ Moment TooLarge = sym closed ∙ r.0 late in cc)

-- the refusal of the last call, by its row
pub refused_row : (packets : List (ℕ × PacketParts)) (i n : ℕ) (p : ℕ × PacketParts) (why : Refusal)
    → n ≡ i → i < length packets → p ≡ get_or packets i p → Refuses {X = Admitted} p.0 (Err why)
    → (d : ℕ × PacketParts) → Refuses {X = Admitted} ((slice_index_or packets (n + 1 - 1) d).0) (Err why)
refused_row packets i n p why e within stands refused d =
    let row : get_or packets (n + 1 - 1) d ≡ p =
    let at : n + 1 - 1 ≡ i = omega (arith, e) in
    ap (λ k. get_or packets k d) at ∙ get_or_default packets i d p within ∙ sym stands
    in
    subst (λ (q : ℕ × PacketParts). Refuses {X = Admitted} q.0 (Err why)) (sym row) refused
