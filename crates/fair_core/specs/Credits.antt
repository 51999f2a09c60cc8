use Rattle.std.specs.Prelude.{ℕ, ◌≤◌, pos, ◌+ℤ◌, ◌<ℤ◌, ◌≤ℤ◌}
use Rattle.std.specs.List.{AllByRecursion}
use Rattle.fair_core.specs.FairQueues.{FairQueues, flow_state_at, queue_of}

-- The credits of a flow are a quantum at most, and below 0 by less than the longest packet so far: what uses them up is
-- a packet that is given while there are some (RFC 8290, section 4.2). No packet that waits is longer than that one.
pub record AreCreditsKept (quantum longest : ℕ) (s : FairQueues) : Type 0 where
  pub low : (flow : ℕ) → pos 0 <ℤ ((flow_state_at s flow).credits +ℤ pos longest)
  pub high : (flow : ℕ) → (flow_state_at s flow).credits ≤ℤ pos quantum
  pub short : (flow : ℕ) → AllByRecursion (λ w. w.packet.len ≤ longest) (queue_of s flow)
