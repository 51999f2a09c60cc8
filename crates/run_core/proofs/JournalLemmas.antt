-- What the senders' seats, lists and rows say of a journal.
use Rattle.std.proofs.Common.{◌≡◌, ◌≢◌, ◌∙◌, ◌==◌, ℕ, zero, suc, ◌+◌, ◌-◌, ◌<◌, ◌≤◌, Bool, true, false, List, [], ◌∷◌, ◌++◌, All, Vec, Global, add-one, append_assoc, ap, arith, get_or, length, map, refl, slice_index_or, subst, sum_by, sym, take, length-append}
use Rattle.std.proofs.lemmas.Bool.{eq-eqb, eqb-true, true≢false}
use Rattle.std.proofs.lemmas.List.{get_or-append_right, get_or-map, get_or_append_left, length-map, take-append-le, take_all}
use Rattle.std.proofs.lemmas.List.Sums.{sum_by-cons}
use Rattle.packet_core.specs.Packets.{PacketParts}
use Rattle.packet_core.specs.declared.flow.Seed.{Seed}
use Rattle.packet_core.specs.declared.params.ParamFields.{ParamFields}
use Rattle.journal_core.specs.declared.event.Event.{Event}
use Rattle.journal_core.specs.declared.event.Event.TheVariants.{Accepted, Sent, Dropped, Closed}
use Rattle.journal_core.specs.declared.step.Step.{Step}
use Rattle.port_core.specs.Ports.{Seat, new_seat, new_seats, of_lane}
use Rattle.port_core.specs.Senders.{IsSubsequence, ends, takes, leaves, packets_told}
use Rattle.port_core.specs.declared.gate.Stop.{Stop}
use Rattle.port_core.specs.declared.gate.Stop.TheVariants as stop
use Rattle.trace_core.specs.declared.journal_report.SenderRow.{SenderRow}
use Rattle.sender_core.proofs.SenderLemmas.{member}
use Rattle.sender_core.specs.Senders.{AreCalls, IsDone, calls_of}
use Rattle.run_core.specs.Journals.{IsSenderRow, sender_row_of}

-- a list with some members left out is no longer
subsequence_length : {X : Type 0} {some all : List X} → IsSubsequence some all → length some ≤ length all
subsequence_length ends = omega arith
subsequence_length (takes {some} {all} x h) = let shorter = subsequence_length h in omega (arith, length-append some (x ∷ []), length-append all (x ∷ []))
subsequence_length (leaves {some} {all} x h) = let shorter = subsequence_length h in omega (arith, length-append all (x ∷ []))

-- what a lane's acceptances tell of is as many packets
packets_of_lane : (lane : ℕ) (events : List Event) → length (packets_told (of_lane lane events)) ≡ length (of_lane lane events)
packets_of_lane lane [] = refl
packets_of_lane lane (Accepted from id moment flow packet ∷ events) = go (from == lane) refl (packets_of_lane lane events)
  where
    go : (b : Bool) → (from == lane) ≡ b → length (packets_told (of_lane lane events)) ≡ length (of_lane lane events)
        → length (packets_told (of_lane lane (Accepted from id moment flow packet ∷ events))) ≡ length (of_lane lane (Accepted from id moment flow packet ∷ events))
    go true is rest = rw is (ap suc rest)
    go false is rest = rw is rest
packets_of_lane lane (Sent id moment ecn mark ∷ events) = packets_of_lane lane events
packets_of_lane lane (Dropped id moment cause ∷ events) = packets_of_lane lane events
packets_of_lane lane (Closed moment ∷ events) = packets_of_lane lane events

pub new_seats_length : (n : ℕ) → length (new_seats n) ≡ n
new_seats_length zero = refl
new_seats_length (suc n) = omega (arith, length-append (new_seats n) (new_seat n ∷ []), new_seats_length n)

-- the seat of each number
pub new_seats_at : (n i : ℕ) (s : Seat) → i < n → slice_index_or (new_seats n) i s ≡ new_seat i
new_seats_at zero i s less = absurd (omega (arith, less))
new_seats_at (suc n) i s less = go (i == n) refl (new_seats_at n i s)
  where
    go : (b : Bool) → (i == n) ≡ b → (i < n → slice_index_or (new_seats n) i s ≡ new_seat i) → slice_index_or (new_seats n ++ new_seat n ∷ []) i s ≡ new_seat i
    go true is below =
        let same : i ≡ n = eqb-true i n is in
        get_or-append_right (new_seats n) (new_seat n ∷ []) n i s (new_seats_length n) (omega (arith, same))
        ∙ ap (λ k. get_or (new_seat n ∷ []) k s) (let none : i - n ≡ 0 = omega (arith, same) in none) ∙ ap new_seat (sym same)
    go false is below =
        let other : i ≢ n = λ same. true≢false (sym (eq-eqb i n same) ∙ is) in
        let less_yet : i < n = omega (arith, less, other) in
        get_or_append_left (new_seats n) (new_seat n ∷ []) s i (omega (arith, less_yet, new_seats_length n)) ∙ below less_yet

-- the row of one sender
pub row_of_done : (sender calls : ℕ) (why : Stop) (old new : Seat) (list : List (ℕ × PacketParts)) (events : List Event)
    → old ≡ new_seat sender → IsDone old list calls why new → why ≡ stop.Done → of_lane new.lane events ≡ new.told
    → IsSenderRow sender list events (sender_row_of calls new)
row_of_done sender calls why old new list events fresh done whole told =
    let packets : List PacketParts = map (λ p. p.1) list in
    let news = done.told.news in
    let seat : new ≡ record (new_seat sender) { told = news } = done.told.told ∙ ap (λ (s : Seat). record s { told = s.told ++ news }) fresh in
    let lane : new.lane ≡ sender = ap (λ (s : Seat). s.lane) seat in
    let news_are : of_lane sender events ≡ news = ap (λ l. of_lane l events) (sym lane) ∙ told ∙ ap (λ (s : Seat). s.told) seat in
    let many : calls ≡ length list = done.done whole in
    let all : take calls packets ≡ packets = take_all calls packets (omega (arith, many, length-map list (λ (p : ℕ × PacketParts). p.1))) in
    let some : IsSubsequence (packets_told (of_lane sender events)) packets =
    subst (λ ps. IsSubsequence (packets_told ps) packets) (sym news_are) (subst (IsSubsequence (packets_told news)) all done.told.some) in
    let accepted : length new.told ≡ length (of_lane sender events) = ap length (sym told ∙ ap (λ l. of_lane l events) lane) in
    let fits : length new.told ≤ calls = omega (arith, subsequence_length some, packets_of_lane sender events, accepted, many, length-map list (λ (p : ℕ × PacketParts). p.1)) in
    record {
      number = lane;
      submitted = many;
      accepted = accepted;
      left = omega (arith, fits);
      in_order = some;
    }

-- the rows of all senders
pub rows_of_done : {D : Type 0} (p : ParamFields) (seed : Seed) (n : ℕ) (steps : List Step) (lists : List (Vec (ℕ × PacketParts) Global))
    (calls : D → ℕ) (why : D → Stop) (seat : D → Seat) (done : List D) (rest : List Seat) (events : List Event)
    → AreCalls p seed n steps lists → length done ≡ n
    → ((i : ℕ) (d : D) (s : Seat) (l : Vec (ℕ × PacketParts) Global) → i < n
    → IsDone (slice_index_or (new_seats n) i s) (slice_index_or lists i l).items
    (calls (slice_index_or done i d)) (why (slice_index_or done i d)) (seat (slice_index_or done i d)))
    → All (λ d. why d ≡ stop.Done) done → All (λ s. of_lane s.lane events ≡ s.told) (map seat done ++ rest)
    → (i : ℕ) (r : SenderRow) → i < n
    → IsSenderRow i (calls_of p seed n i steps) events (slice_index_or (map (λ d. sender_row_of (calls d) (seat d)) done) i r)
rows_of_done {D} p seed n steps lists calls why seat done rest events are number each whole told i r less =
    let within : i < length done = omega (arith, less, number) in
    let listed : i < length lists = omega (arith, less, are.number) in
    let d = member done i within in
    let l = member lists i listed in
    let it = slice_index_or done i d in
    let s = seat it in
    let list_is : (slice_index_or lists i l).items ≡ calls_of p seed n i steps = are.each i l less in
    let stands : slice_index_or (map seat done ++ rest) i s ≡ s =
    get_or_append_left (map seat done) rest s i (omega (arith, within, length-map done seat)) ∙ get_or-map seat done i d s within in
    let told_it : of_lane s.lane events ≡ s.told =
    subst (λ (x : Seat). of_lane x.lane events ≡ x.told) stands (told i s (omega (arith, within, length-append (map seat done) rest, length-map done seat))) in
    let made = row_of_done i (calls it) (why it) (slice_index_or (new_seats n) i s) s (slice_index_or lists i l).items events
    (new_seats_at n i s less) (each i d s l less) (whole i d within) told_it in
    let row_is : slice_index_or (map (λ d. sender_row_of (calls d) (seat d)) done) i r ≡ sender_row_of (calls it) s = get_or-map (λ d. sender_row_of (calls d) (seat d)) done i d r within in
    rw (row_is, ← list_is) made

-- the acceptances of all rows
pub accepted_of_rows : {D : Type 0} (calls : D → ℕ) (seat : D → Seat) (done : List D) (device : Seat) → device.told ≡ []
    → sum_by (λ s. length s.told) (map seat done ++ device ∷ []) ≡ sum_by (λ r. r.accepted) (map (λ d. sender_row_of (calls d) (seat d)) done)
accepted_of_rows calls seat [] device none = let zero_told : length device.told ≡ 0 = ap length none in omega (arith, zero_told)
accepted_of_rows calls seat (d ∷ done) device none =
    let told = sum_by-cons (λ (s : Seat). length s.told) (seat d) (map seat done ++ device ∷ []) in
    let rows = sum_by-cons (λ (r : SenderRow). r.accepted) (sender_row_of (calls d) (seat d)) (map (λ e. sender_row_of (calls e) (seat e)) done) in
    told ∙ ap (λ k. length (seat d).told + k) (accepted_of_rows calls seat done device none) ∙ sym rows

-- what is left of a loop over a list, one member later
pub map_more : {X Y : Type 0} (f : X → Y) (made : List Y) (x : X) (rest : List X) (all : List Y)
    → made ++ map f (x ∷ rest) ≡ all → (made ++ f x ∷ []) ++ map f rest ≡ all
map_more f made x rest all h = append_assoc made (f x ∷ []) (map f rest) ∙ h

pub all_more : {X : Type 0} (P : X → Type 0) (x : X) (rest : List X) → P x → All P rest → All P (x ∷ rest)
all_more P x rest first others zero d less = first
all_more P x rest first others (suc k) d less = others k d (omega (arith, less))

pub all_push : {X : Type 0} (P : X → Type 0) (xs : List X) (x : X) → All P xs → P x → All P (xs ++ x ∷ [])
all_push P [] x before last zero d less = last
all_push P [] x before last (suc k) d less = absurd (omega (arith, less))
all_push P (y ∷ xs) x before last zero d less = before 0 d (omega arith)
all_push P (y ∷ xs) x before last (suc k) d less = all_push P xs x (λ i e below. before (suc i) e (omega (arith, below))) last k d (omega (arith, less))

-- the seats without the last one
pub seats_popped : (n : ℕ) (seats : List Seat) (s : Seat) → new_seats (n + 1) ≡ seats ++ s ∷ [] → (seats ≡ new_seats n) × (s ≡ new_seat n)
seats_popped n seats s are =
    let next : new_seats (n + 1) ≡ new_seats n ++ new_seat n ∷ [] = ap new_seats (add-one n) in
    let same : seats ++ s ∷ [] ≡ new_seats n ++ new_seat n ∷ [] = sym are ∙ next in
    let many : length seats ≡ n = omega (arith, ap length same, length-append seats (s ∷ []), length-append (new_seats n) (new_seat n ∷ []), new_seats_length n) in
    let least : length (new_seats n) ≡ n = new_seats_length n in (
      sym (take_all n seats (omega (arith, many))) ∙ sym (take-append-le n seats (s ∷ []) (omega (arith, many))) ∙ ap (take n) same
          ∙ take-append-le n (new_seats n) (new_seat n ∷ []) (omega (arith, least)) ∙ take_all n (new_seats n) (omega (arith, least)),
      sym (get_or-append_right seats (s ∷ []) n n s many (omega arith) ∙ ap (λ k. get_or (s ∷ []) k s) (let none : n - n ≡ 0 = omega arith in none))
          ∙ ap (λ xs. get_or xs n s) same
          ∙ get_or-append_right (new_seats n) (new_seat n ∷ []) n n s least (omega arith) ∙ ap (λ k. get_or (new_seat n ∷ []) k s) (let none : n - n ≡ 0 = omega arith in none),
    )
