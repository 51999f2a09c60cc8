use Rattle.std.specs.Prelude.{◌≡◌, ℕ, List, [], ◌∷◌, drop, get_or, set}
use Rattle.packet_core.specs.declared.packet.Waiting.{Waiting}

-- A packet is taken from the head of the queue of one flow, and all else stays.
abbrev pub GivesHead : List (List Waiting) → Waiting → List (List Waiting) → Type 0
GivesHead old w new =
    (flow : ℕ) × (get_or old flow [] ≡ w ∷ drop 1 (get_or old flow [])) × (new ≡ set old flow (drop 1 (get_or old flow [])))
