-- The bins of packets, one packet more.
use Rattle.std.proofs.Common.{◌≡◌, ◌≢◌, ◌∙◌, ℕ, zero, suc, ◌+◌, ◌-◌, ◌*◌, ◌/◌, ◌^◌, ◌<◌, ◌≤◌, true, false, cond, not, List, [], ◌∷◌, ◌++◌, Option, Some, None, append-nil, min, max, set, get_or, take, length, refl, sym, ap, inl, inr, arith}
use Rattle.std.specs.Prelude.{sum_by}
use Rattle.std.specs.List.{cons_option, filter_map}
use Rattle.std.proofs.Math.Nat.{mul-le-mul_right, mul_comm, lt-div-mul-add}
use Rattle.std.proofs.lemmas.Bool.{and_left, and_right, and_from, lt-ltb, le-ltb, le-leb, lt-leb, cases_lt}
use Rattle.std.proofs.lemmas.List.{take_more, length-take-le}
use Rattle.std.proofs.lemmas.List.Elements.{filter-append, filter_map-append}
use Rattle.std.proofs.lemmas.List.Sums.{fold_push, sum_by_push, sum_by_more, length-filter, count_by-le-length}
use Rattle.std.proofs.lemmas.List.Filters.{sum_by-filter_both}
use Rattle.std.proofs.lemmas.List.FromFn.{length-map-range_with_len, get_or-map-range_with_len, map-range_with_len_more}
use Rattle.link_report.specs.declared.packets.PacketRecord.{PacketRecord}
use Rattle.link_report.specs.Packets.{delay_sent, last_moment, sent_len}
use Rattle.link_picture.specs.declared.bins.Bin.{Bin}
use Rattle.link_picture.specs.declared.counts.Counts.{Counts}
use Rattle.link_picture.specs.Counts.{counts_of}
use Rattle.link_picture.specs.Bins.{LeavesRoom, bin_of, bins_from, greatest, is_in, longer, packets_in}

-- A moment is in the bin whose number is the quotient,
in_own : (width moment number : ℕ) → 0 < width → number ≡ moment / width → is_in width number moment ≡ true
in_own width moment number wide is =
    let next = lt-div-mul-add {a = moment} {b = width} wide in
    let swap = mul_comm (moment / width) width in
    let from : number * width ≤ moment = rw is (omega arith) in
    let below : moment < (number + 1) * width = rw is (omega arith) in
    and_from _ _ (le-leb _ _ from) (lt-ltb _ _ below)

-- and in no other.
in_no_other : (width moment number : ℕ) → 0 < width → number ≢ moment / width → is_in width number moment ≡ false
in_no_other width moment number wide other =
    let next = lt-div-mul-add {a = moment} {b = width} wide in
    let swap = mul_comm (moment / width) width in
    elim (cases_lt number (moment / width)) [
      | inl before ↦
          let gap = mul-le-mul_right width before in
          and_right _ _ (le-ltb moment ((number + 1) * width) (omega arith))
      | inr after ↦
          let past : moment / width + 1 ≤ number = omega arith in
          let gap = mul-le-mul_right width past in
          and_left _ _ (lt-leb (number * width) moment (omega arith))
    ]

-- a packet more is in its own bin
own_more : (width number : ℕ) (packets : List PacketRecord) (p : PacketRecord) → 0 < width → number ≡ last_moment p / width → packets_in width number (packets ++ p ∷ []) ≡ packets_in width number packets ++ p ∷ []
own_more width number packets p wide is =
    filter-append (λ (q : PacketRecord). is_in width number (last_moment q)) packets (p ∷ []) ∙ ap (λ b. packets_in width number packets ++ cond b (p ∷ []) []) (in_own width (last_moment p) number wide is)

other_same : (width number : ℕ) (packets : List PacketRecord) (p : PacketRecord) → 0 < width → number ≢ last_moment p / width → packets_in width number (packets ++ p ∷ []) ≡ packets_in width number packets
other_same width number packets p wide other =
    filter-append (λ (q : PacketRecord). is_in width number (last_moment q)) packets (p ∷ [])
    ∙ ap (λ b. packets_in width number packets ++ cond b (p ∷ []) []) (in_no_other width (last_moment p) number wide other) ∙ append-nil _

-- bins in which it isn't stay as they are
pub bins_same : (width first count : ℕ) (packets : List PacketRecord) (p : PacketRecord) → 0 < width → ((k : ℕ) → k < count → first + k ≢ last_moment p / width) → bins_from width first count (packets ++ p ∷ []) ≡ bins_from width first count packets
unfolding bins_from
bins_same width first zero packets p wide none = refl
bins_same width first (suc count) packets p wide none =
    let here : first ≢ last_moment p / width = λ e. none 0 (omega arith) (omega arith) in
    let same = other_same width first packets p wide here in
    let rest = bins_same width (first + 1) count packets p wide (λ k low e. none (k + 1) (omega arith) (omega arith)) in
    λ i. bin_of (same i) ∷ rest i

-- and the one in which it is gets it
pub bins_add : (width first count place : ℕ) (packets : List PacketRecord) (p : PacketRecord) (bin : Bin) → 0 < width → place < count → first + place ≡ last_moment p / width → bin ≡ bin_of (packets_in width (first + place) packets ++ p ∷ [])
    → set (bins_from width first count packets) place bin ≡ bins_from width first count (packets ++ p ∷ [])
unfolding bins_from
bins_add width first zero place packets p bin wide low is new = absurd (omega arith)
bins_add width first (suc count) zero packets p bin wide low is new =
    let at : first ≡ last_moment p / width = omega arith in
    let zeroth : first + 0 ≡ first = omega arith in
    let own = own_more width first packets p wide at in
    let rest = bins_same width (first + 1) count packets p wide (λ k below e. omega arith) in
    let here = new ∙ ap (λ n. bin_of (packets_in width n packets ++ p ∷ [])) zeroth ∙ ap bin_of (sym own) in
    λ i. here i ∷ sym rest i
bins_add width first (suc count) (suc place) packets p bin wide low is new =
    let here : first ≢ last_moment p / width = λ e. omega arith in
    let same = other_same width first packets p wide here in
    let shift : first + suc place ≡ first + 1 + place = omega arith in
    let rest = bins_add width (first + 1) count place packets p bin wide (omega arith) (omega arith) (new ∙ ap (λ n. bin_of (packets_in width n packets ++ p ∷ [])) shift) in
    λ i. bin_of (sym same i) ∷ rest i

pub length_bins : (width first count : ℕ) (packets : List PacketRecord) → length (bins_from width first count packets) ≡ count
unfolding bins_from
length_bins width first count packets = length-map-range_with_len (λ number. bin_of (packets_in width number packets)) first count

get_bin : (width first count place : ℕ) (packets : List PacketRecord) (d : Bin) → place < count → get_or (bins_from width first count packets) place d ≡ bin_of (packets_in width (first + place) packets)
unfolding bins_from
get_bin width first count place packets d low = get_or-map-range_with_len (λ number. bin_of (packets_in width number packets)) first count place (first + place) d low refl

-- one bin more of no packets
pub bins_none : (width first i : ℕ) → bins_from width first i [] ++ bin_of [] ∷ [] ≡ bins_from width first (i + 1) []
unfolding bins_from
bins_none width first i = sym (map-range_with_len_more (λ number. bin_of (packets_in width number [])) first i (first + i) refl)

-- the greatest of one number more
greatest_more : (xs : List ℕ) (o : Option ℕ) → longer (greatest xs) o ≡ greatest (xs ++ cons_option o [])
greatest_more [] None = refl
greatest_more [] (Some y) = refl
greatest_more (x ∷ xs) None = ap greatest (sym (append-nil (x ∷ xs)))
greatest_more (x ∷ xs) (Some y) = ap (λ n. Some n) (sym (fold_push max x xs y))

-- a bin with a packet more
pub bin_more : (packets : List PacketRecord) (p : PacketRecord) (bin : Bin) (longest : Option ℕ) (len bytes : ℕ) (counts : Counts) → LeavesRoom packets → bin ≡ bin_of packets → longest ≡ longer bin.longest (delay_sent p) → len ≡ sent_len p → len < 2 ^ 16
    → bytes ≡ min (bin.sent_bytes + len) (2 ^ 64 - 1) → counts ≡ counts_of (packets ++ p ∷ []) → record { longest = longest; sent_bytes = bytes; counts = counts } ≡ bin_of (packets ++ p ∷ [])
bin_more packets p bin longest len bytes counts room is waits of_len short adds all_counts =
    let most = waits ∙ ap (λ (b : Bin). longer b.longest (delay_sent p)) is ∙ greatest_more (filter_map delay_sent packets) (delay_sent p) ∙ ap greatest (sym (filter_map-append delay_sent packets (p ∷ []))) in
    let old_bytes = ap (λ (b : Bin). b.sent_bytes) is in
    let roomy = room.bytes in
    let sum = sum_by_push sent_len packets p in
    let all_bytes : bytes ≡ sum_by sent_len (packets ++ p ∷ []) = omega arith in
    λ i. record { longest = most i; sent_bytes = all_bytes i; counts = all_counts i }

-- the packets of a bin leave room where all do
in_room : (width number : ℕ) (packets : List PacketRecord) → LeavesRoom packets → LeavesRoom (packets_in width number packets)
in_room width number packets room =
    let test = λ (q : PacketRecord). is_in width number (last_moment q) in
    let both = sum_by-filter_both test (λ q. not (test q)) (λ _. refl) sent_len packets in
    let kept = length-filter test packets in
    let few = count_by-le-length test packets in
    let roomy = room.bytes in
    let short = room.few in
    record { bytes = omega arith; few = omega arith }

-- A packet goes to the bin at its place,
pub add_in : (width first count place number : ℕ) (bins : List Bin) (p : PacketRecord) (read new : Bin) → 0 < width → number ≡ last_moment p / width → first ≤ number → place ≡ number - first → place < length bins → read ≡ get_or bins place read
    → ((packets : List PacketRecord) → LeavesRoom packets → read ≡ bin_of packets → new ≡ bin_of (packets ++ p ∷ []))
    → (packets : List PacketRecord) → LeavesRoom packets → bins ≡ bins_from width first count packets → set bins place new ≡ bins_from width first count (packets ++ p ∷ [])
add_in width first count place number bins p read new wide is from at low reads more packets room are =
    let long = ap length are ∙ length_bins width first count packets in
    let within : place < count = omega arith in
    let here = reads ∙ ap (λ bs. get_or bs place read) are ∙ get_bin width first count place packets read within in
    ap (λ bs. set bs place new) are ∙ bins_add width first count place packets p new wide within (omega arith) (more (packets_in width (first + place) packets) (in_room width (first + place) packets room) here)

-- and to none where there is no such bin.
pub add_out : (width first count number : ℕ) (bins : List Bin) (p : PacketRecord) → 0 < width → number ≡ last_moment p / width → (first ≤ number → length bins ≤ number - first)
    → (packets : List PacketRecord) → bins ≡ bins_from width first count packets → bins ≡ bins_from width first count (packets ++ p ∷ [])
add_out width first count number bins p wide is out packets are =
    let long = ap length are ∙ length_bins width first count packets in
    are ∙ sym (bins_same width first count packets p wide (λ k low e. let past = out (omega arith) in omega arith))

-- the turn of the loop over packets
pub bins_turn : (width first count i : ℕ) (packets : List PacketRecord) (d : PacketRecord) (len : ℕ) (old new : List Bin) → i < length packets → length packets ≤ 2 ^ 40 → len ≡ sent_len (get_or packets i d) → len < 2 ^ 16 → sum_by sent_len (take i packets) ≤ 65535 * i → old ≡ bins_from width first count (take i packets)
    → ((before : List PacketRecord) → LeavesRoom before → old ≡ bins_from width first count before → new ≡ bins_from width first count (before ++ get_or packets i d ∷ []))
    → (new ≡ bins_from width first count (take (i + 1) packets)) × (sum_by sent_len (take (i + 1) packets) ≤ 65535 * (i + 1))
bins_turn width first count i packets d len old new low short of_len small sums are more =
    let sum = sum_by_more sent_len packets i d low in
    let few = length-take-le i packets (omega arith) in
    (more (take i packets) (record { bytes = omega arith; few = omega arith }) are ∙ ap (bins_from width first count) (sym (take_more packets i d low)), omega arith)
