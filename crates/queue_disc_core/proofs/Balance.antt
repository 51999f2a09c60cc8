-- What a step of the scheduler moves from one place to another.
use Rattle.std.proofs.Common.{◌≡◌, ℕ, ◌+◌, ◌≤◌, List, [], ◌∷◌, ◌++◌, drop, length, map, sum_by, refl, ap, ◌∙◌, arith}
use Rattle.std.specs.List.{flat_map}
use Rattle.std.proofs.lemmas.List.{drop-append-le}
use Rattle.std.proofs.lemmas.List.Sorted.{sum_by-IsPermutation}
use Rattle.std.proofs.lemmas.List.Sums.{sum_by-append, sum_by-cons}
use Rattle.packet_core.specs.declared.packet.Waiting.{Waiting}
use Rattle.journal_core.specs.Losses.{accepted_packets, lost_packets, sent_packets}
use Rattle.sched_core.specs.Schedulers.{Scheduler, flows_of}
use Rattle.queue_disc_core.specs.Laws.{IsLawful}

-- a sum over what comes from packets
pub sum_by-map : {X Y : Type 0} (f : Y → ℕ) (h : X → Y) (xs : List X) → sum_by f (map h xs) ≡ sum_by (λ x. f (h x)) xs
sum_by-map f h [] = refl
sum_by-map f h (x ∷ xs) = omega (arith, sum_by-cons f (h x) (map h xs), sum_by-cons (λ x. f (h x)) x xs, sum_by-map f h xs)

-- the packets that wait
abbrev pub queued_of : Scheduler → List Waiting
queued_of s = flat_map (λ q. q) (flows_of s).lists.queues

-- A step accepts those packets and sends those, and what it loses goes to the end of the lost ones.
pub record Moves (old new : Scheduler) (come gone : List Waiting) : Type 0 where
  pub accepted : accepted_packets new.standing.events ≡ accepted_packets old.standing.events ++ come
  pub sent : sent_packets new.standing.events ≡ sent_packets old.standing.events ++ gone
  pub dropped : List Waiting
  pub lost : lost_packets new.standing.events ≡ lost_packets old.standing.events ++ dropped

module _ (old new : Scheduler) (come gone : List Waiting) (before : IsLawful old) (after : IsLawful new) (moves : Moves old new come gone) where
  -- Over any of the lost packets behind a number of them: what comes stays or goes.
  pub moves_balance : (read : ℕ) → read ≤ length (lost_packets old.standing.events) → (g : Waiting → ℕ)
      → sum_by g (drop read (lost_packets new.standing.events)) + sum_by g (queued_of new) + sum_by g gone
      ≡ sum_by g (drop read (lost_packets old.standing.events)) + sum_by g (queued_of old) + sum_by g come
  moves_balance read few g =
      let lost = lost_packets old.standing.events in
      let whole : (s : Scheduler) → IsLawful s → sum_by g (accepted_packets s.standing.events) ≡ sum_by g (sent_packets s.standing.events) + sum_by g (lost_packets s.standing.events) + sum_by g (queued_of s) =
      λ s l. omega (arith, sum_by-IsPermutation g _ _ l.once, sum_by-append g (sent_packets s.standing.events ++ lost_packets s.standing.events) (queued_of s), sum_by-append g (sent_packets s.standing.events) (lost_packets s.standing.events)) in
      let a = whole old before in
      let b = whole new after in
      let c : sum_by g (accepted_packets new.standing.events) ≡ sum_by g (accepted_packets old.standing.events) + sum_by g come = ap (sum_by g) moves.accepted ∙ sum_by-append g (accepted_packets old.standing.events) come in
      let d : sum_by g (sent_packets new.standing.events) ≡ sum_by g (sent_packets old.standing.events) + sum_by g gone = ap (sum_by g) moves.sent ∙ sum_by-append g (sent_packets old.standing.events) gone in
      let e : sum_by g (lost_packets new.standing.events) ≡ sum_by g lost + sum_by g moves.dropped = ap (sum_by g) moves.lost ∙ sum_by-append g lost moves.dropped in
      let h : sum_by g (drop read (lost_packets new.standing.events)) ≡ sum_by g (drop read lost) + sum_by g moves.dropped =
      ap (λ l. sum_by g (drop read l)) moves.lost ∙ ap (sum_by g) (drop-append-le read lost moves.dropped few) ∙ sum_by-append g (drop read lost) moves.dropped in
      omega arith
