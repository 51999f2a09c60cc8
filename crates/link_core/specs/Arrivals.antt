use Rattle.std.specs.Prelude.{ℕ, ◌<◌, ◌≤◌, List, All, length, map, get_or}
use Rattle.std.specs.List.Sorted.{IsNonDecreasingBy}
use Rattle.link_core.specs.declared.arrival.Arrival.{Arrival}
use Rattle.link_core.specs.declared.arrival.TheConstants.{MAX_ARRIVALS, MAX_ARRIVAL_MOMENT}

abbrev pub arrival_moment : Arrival → ℕ
arrival_moment a = a.moment

abbrev pub arrival_length : Arrival → ℕ
arrival_length a = a.packet.len

-- Packets come to a link: not too many, not too late, and their moments never fall.
pub record AreArrivals (arrivals : List Arrival) : Type 0 where
  pub few : length arrivals ≤ MAX_ARRIVALS
  pub soon : All (λ (a : Arrival). a.moment < MAX_ARRIVAL_MOMENT) arrivals
  pub rise : IsNonDecreasingBy arrival_moment arrivals

-- the length of the packet that came in that place, from 0; a packet's id is its place
abbrev pub length_at : List Arrival → ℕ → ℕ
length_at arrivals id = get_or (map arrival_length arrivals) id 0

-- the moment of the arrival in that place
abbrev pub moment_at : List Arrival → ℕ → ℕ
moment_at arrivals id = get_or (map arrival_moment arrivals) id 0
