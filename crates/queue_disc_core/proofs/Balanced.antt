-- The packets stay in balance.
use Rattle.std.proofs.Common.{◌≡◌, ℕ, ◌+◌, ◌≤◌, List, [], ◌∷◌, ◌++◌, drop, length, map, sum_by, ap, ◌∙◌, arith}
use Rattle.std.proofs.lemmas.List.Sums.{sum_by-append, sum_by-cons}
use Rattle.packet_core.specs.declared.packet.Waiting.{Waiting}
use Rattle.queue_disc_core.specs.declared.answers.Handle.{Handle}
use Rattle.queue_disc_core.specs.Laws.{IsLawful}
use Rattle.queue_disc_core.specs.QueueDiscKept.{AreBalanced}
use Rattle.queue_disc_core.specs.QueueDiscs.{DiscState, handle_of, lost_of, read_of, unread_packets, waiting_packets}
use Rattle.queue_disc_core.proofs.Balance.{Moves, moves_balance, queued_of, sum_by-map}

-- one more at the end of what is added up
pub sum_push : {X : Type 0} (f : X → ℕ) (xs : List X) (x : X) → sum_by f (xs ++ x ∷ []) ≡ sum_by f xs + f x
sum_push f xs x = omega (arith, sum_by-append f xs (x ∷ []), sum_by-cons f x [])

-- what is sent, read or flushed
abbrev pub gone_sum : (Handle → ℕ) → DiscState → ℕ
gone_sum f s = sum_by f s.packets.sent + sum_by f s.packets.read + sum_by f s.packets.flushed

-- what a packet's handle weighs
abbrev pub weighs : DiscState → (Handle → ℕ) → Waiting → ℕ
weighs s f w = f (handle_of s.past.accepted w)

-- A step of the scheduler accepts some packets and sends others, and these are noted.
pub record IsNoted (old new : DiscState) (come gone : List Waiting) : Type 0 where
  pub before : IsLawful old.sched
  pub after : IsLawful new.sched
  pub moves : Moves old.sched new.sched come gone
  pub read : read_of new ≡ read_of old
  pub ids : new.past.accepted ≡ old.past.accepted
  pub accepted : (f : Handle → ℕ) → sum_by f new.packets.accepted ≡ sum_by f old.packets.accepted + sum_by (weighs old f) come
  pub sent : (f : Handle → ℕ) → gone_sum f new ≡ gone_sum f old + sum_by (weighs old f) gone

pub balance_noted : (old new : DiscState) (come gone : List Waiting) → AreBalanced old → IsNoted old new come gone → AreBalanced new
balance_noted old new come gone balanced n f =
    let g = weighs old f in
    let few : read_of old ≤ length (lost_of old) = omega arith in
    let moved = moves_balance old.sched new.sched come gone n.before n.after n.moves (read_of old) few g in
    let weighs_same : (ws : List Waiting) → sum_by f (map (handle_of new.past.accepted) ws) ≡ sum_by g ws = λ ws. ap (λ b. sum_by f (map (handle_of b) ws)) n.ids ∙ sum_by-map f (handle_of old.past.accepted) ws in
    let a : sum_by f (unread_packets new) ≡ sum_by g (drop (read_of old) (lost_of new)) = weighs_same (drop (read_of new) (lost_of new)) ∙ ap (λ r. sum_by g (drop r (lost_of new))) n.read in
    let b : sum_by f (waiting_packets new) ≡ sum_by g (queued_of new.sched) = weighs_same (queued_of new.sched) in
    let c : sum_by f (unread_packets old) ≡ sum_by g (drop (read_of old) (lost_of old)) = sum_by-map f (handle_of old.past.accepted) (drop (read_of old) (lost_of old)) in
    let d : sum_by f (waiting_packets old) ≡ sum_by g (queued_of old.sched) = sum_by-map f (handle_of old.past.accepted) (queued_of old.sched) in
    let accepted = n.accepted f in
    let sent = n.sent f in
    let first = balanced f in
    omega arith
