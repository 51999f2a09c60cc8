use Rattle.std.specs.Prelude.{ℕ, ◌+◌, ◌*◌, ◌<◌, ◌/◌, zero, suc, sum_by, ℤ, pos, negsuc, ◌+ℤ◌, ◌≤ℤ◌, ◌<ℤ◌}
use Rattle.fair_core.specs.FairQueues.{FairQueues, flow_state_at}

-- n is the least number of quanta that bring the credits above 0
pub record AreQuantaOwed (quantum : ℕ) (credits : ℤ) (n : ℕ) : Type 0 where
  pub enough : pos 0 <ℤ (credits +ℤ pos (n * quantum))
  pub least : (m : ℕ) → m < n → (credits +ℤ pos (m * quantum)) ≤ℤ pos 0

-- that number
abbrev pub quanta_owed : ℕ → ℤ → ℕ
quanta_owed quantum (pos zero) = 1
quanta_owed quantum (pos (suc n)) = 0
quanta_owed quantum (negsuc n) = suc n / quantum + 1

-- At most so many turns are made until a packet is given: as many for each listed flow as quanta bring its credits
-- above 0, and one more for an old flow, two for a new one.
abbrev pub turns_at_most : ℕ → FairQueues → ℕ
turns_at_most quantum s =
    sum_by (λ flow. quanta_owed quantum ((flow_state_at s flow).credits) + 2) s.lists.new_flows
    + sum_by (λ flow. quanta_owed quantum ((flow_state_at s flow).credits) + 1) s.lists.old_flows
