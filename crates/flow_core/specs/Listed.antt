-- The flows in the list of new flows and in the list of old flows.
use Rattle.std.specs.Prelude.{◌≡◌, ◌↔◌, ℕ, ◌<◌, List, All, Bool, Contains, false, get_or, length, true}
use Rattle.flow_core.specs.FlowLists.{AreDistinct}

-- How many flows there are, and the numbers of those in the list of new flows and in the list of old flows, each from
-- its head on (RFC 8290, section 4).
pub record NewAndOld : Type 0 where
  pub flows : ℕ
  pub new_flows : List ℕ
  pub old_flows : List ℕ

-- The numbers are those of flows, of which there are n, and each stands there once.
pub record AreFlows (n : ℕ) (listed : List ℕ) : Type 0 where
  pub within : All (λ flow. flow < n) listed
  pub once : AreDistinct listed

-- They are those of the flows that have a mark.
pub record AreMarked (marks : List Bool) (listed : List ℕ) : Type 0 where
  pub flows : AreFlows (length marks) listed
  pub marked : (flow : ℕ) → (get_or marks flow false ≡ true) ↔ Contains listed flow
