use Rattle.std.proofs.Common.{◌≡◌, ℕ, ◌+◌, ◌∷◌, [], ◌++◌, ap, add-one}
use Rattle.port_core.specs.Ports.{new_seat, new_seats}

pub new_seats_next : (n : ℕ) → new_seats (n + 1) ≡ new_seats n ++ new_seat n ∷ []
new_seats_next n = ap new_seats (add-one n)
