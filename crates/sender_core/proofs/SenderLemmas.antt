-- The calls of the senders, one step later, and what the senders did, by their jobs.
use Rattle.std.proofs.Common.{◌≡◌, ◌≢◌, ◌∙◌, ◌==◌, ℕ, ◌+◌, ◌<◌, Bool, true, false, List, [], ◌∷◌, ◌++◌, Vec, Global, append-nil, ap, arith, get_or, length, map, refl, set, slice_index_or, subst, sym, take}
use Rattle.std.proofs.lemmas.Bool.{eq-eqb, eqb-true, true≢false}
use Rattle.std.proofs.lemmas.List.{get_or-map, get_or-set_other, length-map, length-set, take_more}
use Rattle.std.proofs.lemmas.Grind.{flat_map-append, get_or-set_at}
use Rattle.std.specs.List.{flat_map}
use Rattle.packet_core.specs.Packets.{PacketParts}
use Rattle.packet_core.specs.declared.flow.Seed.{Seed}
use Rattle.packet_core.specs.declared.params.ParamFields.{ParamFields}
use Rattle.journal_core.specs.declared.step.Step.{Step}
use Rattle.journal_core.specs.declared.step.Step.TheVariants.{Enqueue, Dequeue, Close}
use Rattle.sender_core.specs.Senders.{AreCalls, calls_of, calls_of_step, sender_of}

-- a member of a list that has one at that place
pub member : {X : Type 0} (xs : List X) (i : ℕ) → i < length xs → X
member [] i less = absurd (omega (arith, less))
member (x ∷ xs) i less = x

-- the calls of one step more
calls_next : (p : ParamFields) (seed : Seed) (n sender : ℕ) (steps : List Step) (k : ℕ) (step : Step) → k < length steps → step ≡ get_or steps k step
    → calls_of p seed n sender (take (k + 1) steps) ≡ calls_of p seed n sender (take k steps) ++ calls_of_step p seed n sender step
calls_next p seed n sender steps k step within stands =
    let f : Step → List (ℕ × PacketParts) = calls_of_step p seed n sender in
    let more : take (k + 1) steps ≡ take k steps ++ step ∷ [] = take_more steps k step within ∙ ap (λ x. take k steps ++ x ∷ []) (sym stands) in
    ap (flat_map f) more ∙ flat_map-append f (take k steps) (step ∷ []) ∙ ap (λ l. flat_map f (take k steps) ++ l) (append-nil (f step))

-- a step that is no call
pub calls_skip : (p : ParamFields) (seed : Seed) (n : ℕ) (steps : List Step) (k : ℕ) (step : Step) (lists : List (Vec (ℕ × PacketParts) Global))
    → k < length steps → step ≡ get_or steps k step → ((sender : ℕ) → calls_of_step p seed n sender step ≡ [])
    → AreCalls p seed n (take k steps) lists → AreCalls p seed n (take (k + 1) steps) lists
calls_skip p seed n steps k step lists within stands none are = record {
  number = are.number;
  each = λ i d less.
      are.each i d less
      ∙ sym (calls_next p seed n i steps k step within stands ∙ ap (λ l. calls_of p seed n i (take k steps) ++ l) (none i) ∙ append-nil (calls_of p seed n i (take k steps)));
}

-- a step is no call if it is no enqueue
pub no_call : (p : ParamFields) (seed : Seed) (n sender : ℕ) (step : Step)
    → ((moment lane : ℕ) (packet : PacketParts) → step ≡ Enqueue moment lane packet → ⊥) → calls_of_step p seed n sender step ≡ []
no_call p seed n sender (Enqueue moment lane packet) other = absurd (other moment lane packet refl)
no_call p seed n sender (Dequeue moment) other = refl
no_call p seed n sender (Close moment) other = refl

-- a call stands behind those of its sender
pub calls_push : (p : ParamFields) (seed : Seed) (n : ℕ) (steps : List Step) (k moment lane : ℕ) (packet : PacketParts)
    (lists : List (Vec (ℕ × PacketParts) Global)) (sender : ℕ) (old new : Vec (ℕ × PacketParts) Global)
    → k < length steps → Enqueue moment lane packet ≡ get_or steps k (Enqueue moment lane packet) → sender ≡ sender_of p seed n packet → sender < n
    → new.items ≡ (slice_index_or lists sender old).items ++ (moment, packet) ∷ []
    → AreCalls p seed n (take k steps) lists → AreCalls p seed n (take (k + 1) steps) (set lists sender new)
calls_push p seed n steps k moment lane packet lists sender old new within stands own below pushed are = record {
  number = length-set lists sender new ∙ are.number;
  each = λ i d less. go i d less (sender == i) refl;
}
  where
    step : Step
    step = Enqueue moment lane packet

    go : (i : ℕ) (d : Vec (ℕ × PacketParts) Global) → i < n → (b : Bool) → (sender == i) ≡ b
        → (slice_index_or (set lists sender new) i d).items ≡ calls_of p seed n i (take (k + 1) steps)
    go i d less true is =
        let same : i ≡ sender = sym (eqb-true sender i is) in
        let call : calls_of_step p seed n i step ≡ (moment, packet) ∷ [] = rw (← own, is) refl in
        ap (λ v. v.items) (get_or-set_at lists sender i new d same (omega (arith, below, are.number)))
        ∙ pushed ∙ ap (λ l. l ++ (moment, packet) ∷ []) (are.each sender old below ∙ ap (λ j. calls_of p seed n j (take k steps)) (sym same))
        ∙ ap (λ l. calls_of p seed n i (take k steps) ++ l) (sym call) ∙ sym (calls_next p seed n i steps k step within stands)
    go i d less false is =
        let other : i ≢ sender = λ same. true≢false (sym (eq-eqb sender i (sym same)) ∙ is) in
        let none : calls_of_step p seed n i step ≡ [] = rw (← own, is) refl in
        ap (λ v. v.items) (get_or-set_other lists sender i new d other) ∙ are.each i d less
        ∙ sym (calls_next p seed n i steps k step within stands ∙ ap (λ l. calls_of p seed n i (take k steps) ++ l) none ∙ append-nil (calls_of p seed n i (take k steps)))

-- what the jobs did, by their seats and lists
pub done_by_lists : {J D S V P : Type 0} (seat : J → S) (packets : J → List P) (items : V → List P)
    (Did : S → List P → D → Type 0) (jobs : List J) (seats : List S) (lists : List V) (done : List D)
    → map seat jobs ≡ seats → map packets jobs ≡ map items lists
    → ((i : ℕ) (d : D) (j : J) → i < length jobs → Did (seat (slice_index_or jobs i j)) (packets (slice_index_or jobs i j)) (slice_index_or done i d))
    → (i : ℕ) (d : D) (s : S) (l : V) → i < length seats → Did (slice_index_or seats i s) (items (slice_index_or lists i l)) (slice_index_or done i d)
done_by_lists seat packets items Did jobs seats lists done seats_are lists_are each i d s l less =
    let many : length jobs ≡ length seats = sym (length-map jobs seat) ∙ ap length seats_are in
    let within : i < length jobs = omega (arith, many, less) in
    let as_many : length jobs ≡ length lists = sym (length-map jobs packets) ∙ ap length lists_are ∙ length-map lists items in
    let j = member jobs i within in
    let seat_is : seat (slice_index_or jobs i j) ≡ slice_index_or seats i s = sym (get_or-map seat jobs i j s within) ∙ ap (λ xs. get_or xs i s) seats_are in
    let list_is : packets (slice_index_or jobs i j) ≡ items (slice_index_or lists i l) =
    sym (get_or-map packets jobs i j [] within) ∙ ap (λ xs. get_or xs i []) lists_are ∙ get_or-map items lists i l [] (omega (arith, within, as_many)) in
    subst (λ x. Did x (items (slice_index_or lists i l)) (slice_index_or done i d)) seat_is
    (subst (λ y. Did (seat (slice_index_or jobs i j)) y (slice_index_or done i d)) list_is (each i d j within))

-- what the jobs did, by one of their parts
pub done_by_part : {J D G : Type 0} (part : J → G) (Did : G → D → Type 0) (jobs : List J) (parts : List G) (done : List D) → map part jobs ≡ parts
    → ((i : ℕ) (d : D) (j : J) → i < length jobs → Did (part (slice_index_or jobs i j)) (slice_index_or done i d))
    → (i : ℕ) (d : D) (g : G) → i < length jobs → Did (slice_index_or parts i g) (slice_index_or done i d)
done_by_part part Did jobs parts done are each i d g less =
    let j = member jobs i less in
    subst (λ x. Did x (slice_index_or done i d)) (sym (get_or-map part jobs i j g less) ∙ ap (λ xs. get_or xs i g) are) (each i d j less)
