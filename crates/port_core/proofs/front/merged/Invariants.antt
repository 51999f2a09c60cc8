use Rattle.std.proofs.Common.{◌≡◌, ◌≤◌, ◌+◌, length, sum_by, vec_len}
use Rattle.port_core.proofs.front.merged.Given as goal

abbrev pub invariant-loop-seat : goal.invariant-loop-seat
invariant-loop-seat g l =
    (l.accepted.parts + vec_len l.seats ≡ vec_len l.fn.seats) × (l.sent.parts + vec_len l.seats ≡ vec_len l.fn.seats)
    × (l.accepted.parts ≤ g.A.Ledger.parts) × (l.sent.parts ≤ g.S.Ledger.parts)
    × (l.accepted.amount + sum_by (λ s. length s.told) l.seats.items ≡ sum_by (λ s. length s.told) l.fn.seats.items)
    × (l.sent.amount + sum_by (λ s. s.sent) l.seats.items ≡ sum_by (λ s. s.sent) l.fn.seats.items)

abbrev pub decreases-loop-seat : goal.decreases-loop-seat
decreases-loop-seat g l = goal.left-loop-seat g l
