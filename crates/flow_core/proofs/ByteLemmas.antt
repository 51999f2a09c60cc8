-- The bytes of each queue, as the tree of winners has them.
use Rattle.std.proofs.Common.{◌≡◌, ℕ, ◌+◌, ◌*◌, ◌≤◌, Some, List, [], ◌∷◌, All, length, map, get_or, set, drop, slice_get, sum_by, refl, sym, ap, ◌∙◌, arith}
use Rattle.std.proofs.Math.ListN.{get_or-map}
use Rattle.std.proofs.lemmas.List.{length-map, map-set}
use Rattle.std.proofs.lemmas.List.Elements.{All-from_get_or, All-head, All-map, All-nil, All-tail}
use Rattle.std.proofs.lemmas.List.Sums.{sum_by-cons, sum_by-le}
use Rattle.packet_core.specs.Packets.{IsLengthInRange}
use Rattle.packet_core.specs.declared.packet.Waiting.{Waiting}
use Rattle.codel_core.specs.Queue.{bytes_of}
use Rattle.flow_core.specs.Fattest.{IsFattest, bytes_at}
use Rattle.flow_core.specs.Winners.{HasMostBytes}
use Rattle.flow_core.proofs.ReadLemmas.{All-at, length-at}

-- the packets have lengths in range
abbrev pub AreInRange : List Waiting → Type 0
AreInRange q = All (λ w. IsLengthInRange w.packet.len) q

-- the bytes of a flow
pub bytes_seen : (queues : List (List Waiting)) (flow : ℕ) → get_or (map bytes_of queues) flow 0 ≡ bytes_at queues flow
bytes_seen queues flow = get_or-map bytes_of queues flow []

-- the packets of a flow
pub in_range_at : (queues : List (List Waiting)) (flow : ℕ) → All AreInRange queues → AreInRange (get_or queues flow [])
in_range_at queues flow ranges = All-at AreInRange queues flow [] (All-nil (λ (w : Waiting). IsLengthInRange w.packet.len)) ranges

-- they have few enough bytes
pub few_bytes : (queues : List (List Waiting)) (flow : ℕ) → All AreInRange queues → bytes_at queues flow ≤ length (get_or queues flow []) * 65535
few_bytes queues flow ranges =
    sum_by-le (λ (w : Waiting). w.packet.len) 65535 (get_or queues flow []) (λ k d h. (in_range_at queues flow ranges k d h).1)

-- all packets have few enough bytes
pub few_in_all : (queues : List (List Waiting)) → All AreInRange queues → sum_by bytes_of queues ≤ sum_by length queues * 65535
few_in_all [] ranges = omega arith
few_in_all (queue ∷ queues) ranges =
    omega (
      arith,
      sum_by-cons bytes_of queue queues,
      sum_by-cons length queue queues,
      few_in_all queues (All-tail AreInRange queue queues ranges),
      few_bytes (queue ∷ queues) 0 ranges,
    )

-- the bytes of each queue, where one of them is another queue
pub bytes_set : (queues : List (List Waiting)) (flow : ℕ) (queue : List Waiting) (bytes : ℕ) → bytes ≡ bytes_of queue → set (map bytes_of queues) flow bytes ≡ map bytes_of (set queues flow queue)
bytes_set queues flow queue bytes is = ap (λ (n : ℕ). set (map bytes_of queues) flow n) is ∙ sym (map-set bytes_of queues flow queue)

-- the first packet of a queue, and the bytes behind it
pub bytes_behind : (queue : List Waiting) (w : Waiting) → Some w ≡ slice_get queue 0 → bytes_of queue ≡ bytes_of (drop 1 queue) + w.packet.len
bytes_behind [] w head = absurd (cc)
bytes_behind (first ∷ rest) w head =
    let same : w ≡ first = cc in
    let len = ap (λ (x : Waiting). x.packet.len) same in
    omega (arith, len, sum_by-cons (λ (x : Waiting). x.packet.len) first rest)

-- no packet waits where no flow has bytes
pub none_waits : (queues : List (List Waiting)) → All AreInRange queues → All (λ (b : ℕ). b ≡ 0) (map bytes_of queues) → sum_by length queues ≡ 0
none_waits [] ranges none = refl
none_waits ([] ∷ queues) ranges none =
    omega (arith, sum_by-cons length [] queues, none_waits queues (All-tail AreInRange [] queues ranges) (All-tail (λ (b : ℕ). b ≡ 0) 0 (map bytes_of queues) none))
none_waits ((w ∷ ws) ∷ queues) ranges none =
    let bytes = All-head (λ (b : ℕ). b ≡ 0) (bytes_of (w ∷ ws)) (map bytes_of queues) none in
    let range = All-head (λ (x : Waiting). IsLengthInRange x.packet.len) w ws (All-head AreInRange (w ∷ ws) queues ranges) in
    absurd (omega (arith, bytes, range.0, sum_by-cons (λ (x : Waiting). x.packet.len) w ws))

-- and no flow has bytes where no packet waits
pub no_bytes : (queues : List (List Waiting)) → All AreInRange queues → sum_by length queues ≡ 0 → All (λ (b : ℕ). b ≡ 0) (map bytes_of queues)
no_bytes queues ranges none =
    All-map (λ (b : ℕ). b ≡ 0) bytes_of queues
    (All-from_get_or (λ (q : List Waiting). bytes_of q ≡ 0) queues [] (λ i within. omega (arith, few_bytes queues i ranges, length-at queues i)))

-- the flow with the most bytes is the fattest
pub fattest_seen : (queues : List (List Waiting)) (flow : ℕ) → HasMostBytes (map bytes_of queues) flow → IsFattest queues flow
fattest_seen queues flow most = record {
  within = omega (arith, most.within, length-map queues bytes_of);
  waits = omega (arith, most.waits, bytes_seen queues flow);
  greatest = λ other. omega (arith, most.greatest other, bytes_seen queues other, bytes_seen queues flow);
  least = λ other below. omega (arith, most.least other below, bytes_seen queues other, bytes_seen queues flow);
}
