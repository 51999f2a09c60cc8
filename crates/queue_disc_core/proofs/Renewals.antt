-- What holds of a queue disc holds after a renewal.
use Rattle.std.proofs.Common.{◌≡◌, ℕ, zero, suc, ◌+◌, ◌-◌, List, [], ◌∷◌, drop, length, map, replicate, sum_by, refl, ap, ◌∙◌, arith}
use Rattle.std.specs.List.{flat_map}
use Rattle.std.proofs.Math.ListN.{drop_of_length-le}
use Rattle.std.proofs.Math.Seq.{drop-nil}
use Rattle.std.proofs.lemmas.List.Concat.{length-flat_map}
use Rattle.packet_core.specs.declared.packet.Waiting.{Waiting}
use Rattle.sched_core.specs.Schedulers.{flows_of}
use Rattle.queue_disc_core.specs.QueueDiscKept.{AreBalanced, IsSoundDisc}
use Rattle.queue_disc_core.specs.QueueDiscs.{IsDue, DiscState, handle_of, lost_of, queued_in, renewed, totals_of, unread_packets, waiting_packets}

nothing : {X : Type 0} (xs : List X) → length xs ≡ 0 → xs ≡ []
nothing [] none = refl
nothing (x ∷ xs) none = absurd (omega arith)

pub none_queued : (n : ℕ) → flat_map (λ (q : List Waiting). q) (replicate n []) ≡ []
none_queued zero = refl
none_queued (suc n) = none_queued n

none_left : (n : ℕ) → ◌≡◌ {A = List Waiting} (drop n []) []
none_left n = drop-nil n

-- no packet waits
pub idle_packets : (s : DiscState) → queued_in s ≡ 0 → waiting_packets s ≡ []
idle_packets s idle = ap (map (handle_of s.past.accepted)) (nothing (flat_map (λ q. q) (flows_of s.sched).lists.queues) (length-flat_map (λ (q : List Waiting). q) (flows_of s.sched).lists.queues ∙ idle))

-- each drop was read
pub all_packets_read : (s : DiscState) → s.unread ≡ 0 → unread_packets s ≡ []
all_packets_read s read = ap (map (handle_of s.past.accepted)) (drop_of_length-le (lost_of s) (omega arith))

pub renewed_balanced : (old : DiscState) → IsDue old → AreBalanced old → AreBalanced (renewed old)
renewed_balanced old due balanced f =
    let was = balanced f in
    let a : sum_by f (unread_packets old) ≡ 0 = ap (sum_by f) (all_packets_read old due.read) in
    let b : sum_by f (waiting_packets old) ≡ 0 = ap (sum_by f) (idle_packets old due.idle) in
    let c : sum_by f (unread_packets (renewed old)) ≡ 0 = ap (λ ws. sum_by f (map (handle_of (totals_of old).accepted) ws)) (none_left (length (lost_of (renewed old)) - old.unread)) in
    let d : sum_by f (waiting_packets (renewed old)) ≡ 0 = ap (λ ws. sum_by f (map (handle_of (totals_of old).accepted) ws)) (none_queued old.sched.params.flows) in
    omega arith

pub renewed_sound : (old : DiscState) → IsDue old → IsSoundDisc old
    → (totals_of old).accepted ≡ (totals_of old).sent + (totals_of old).dropped_codel + (totals_of old).dropped_overflow + (totals_of old).flushed + (totals_of old).queued
    → (totals_of old).queued ≡ 0 → IsSoundDisc (renewed old)
renewed_sound old due s balance idle = record {
  readable = let read = due.read in omega arith;
  counted = refl;
  flushed_counts = record { packets = omega arith; bytes = omega arith; marked = omega arith; threshold_marked = omega arith };
  past = omega arith;
  few = let few = due.few in let counted = s.counted in omega arith;
  ids = let ids = s.ids in let counted = s.counted in omega arith;
  balanced = renewed_balanced old due s.balanced;
  memory = record { waits = omega arith; recent = omega arith; held = omega arith };
  reserved = omega arith;
}
