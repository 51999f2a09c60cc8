-- Lists of flows as rings: beside each flow stands the next one, and beside the last one the first.
use Rattle.std.specs.Prelude.{◌≡◌, ℕ, zero, suc, List, [], ◌∷◌, length, slice_index}
use Rattle.flow_core.specs.declared.listed_flows.Ring.{Ring}

-- so many flows from that one on, as the number beside each says
abbrev pub flows_from : List ℕ → ℕ → ℕ → List ℕ
flows_from next zero flow = []
flows_from next (suc n) flow = flow ∷ flows_from next n (slice_index next flow)

-- the flows of a ring, from its first one on
abbrev pub flows_of : List ℕ → Ring → List ℕ
flows_of next ring = flows_from next ring.len (slice_index next ring.last)

-- the first of the flows, or that one where there is none
abbrev pub first_or : List ℕ → ℕ → ℕ
first_or [] flow = flow
first_or (first ∷ rest) flow = first

-- the last of the flows, of which that one is the first
abbrev pub last_from : ℕ → List ℕ → ℕ
last_from flow [] = flow
last_from flow (other ∷ rest) = last_from other rest

-- beside each of the flows stands the next one, and beside the last one that one
abbrev pub Follow : List ℕ → List ℕ → ℕ → Type 0
Follow next [] behind = Unit {0}
Follow next (flow ∷ rest) behind = (slice_index next flow ≡ first_or rest behind) × Follow next rest behind

-- Where there is a flow, the last one is that.
abbrev pub EndsAt : List ℕ → ℕ → Type 0
EndsAt [] last = Unit {0}
EndsAt (flow ∷ rest) last = last ≡ last_from flow rest

-- The ring has these flows.
pub record IsRing (next : List ℕ) (ring : Ring) (flows : List ℕ) : Type 0 where
  pub len : ring.len ≡ length flows
  pub follow : Follow next flows (first_or flows 0)
  pub ends : EndsAt flows ring.last
