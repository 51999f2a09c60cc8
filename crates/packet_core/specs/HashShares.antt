-- A number below a given one, from a hash of 32 bits: each gets its share of all hashes.
use Rattle.std.specs.Prelude.{◌≡◌, ◌<◌, ◌≤◌, ℕ, ◌+◌, ◌-◌, ◌*◌, ◌/◌, ◌%◌, ◌↔◌}

-- The number that a hash gets among so many (Linux's reciprocal_scale): it depends on the hash's high bits. There are
-- 2^32 hashes.
abbrev pub scaled_hash : ℕ → ℕ → ℕ
scaled_hash hash values = hash * values / 4294967296

-- the least hash that gets this number or a greater one
abbrev pub first_hash : ℕ → ℕ → ℕ
first_hash values value = (value * 4294967296 + (values - 1)) / values

-- The hashes of a number are those from one on and below another, and as many as an equal share of all, rounded down or
-- up. Behind the last number there is none.
pub record HasShare (values value : ℕ) : Type 0 where
  pub hashes : (hash : ℕ) → (scaled_hash hash values ≡ value) ↔ ((first_hash values value ≤ hash) × (hash < first_hash values (value + 1)))
  pub least : 4294967296 / values ≤ first_hash values (value + 1) - first_hash values value
  pub most : first_hash values (value + 1) - first_hash values value ≤ (4294967296 + (values - 1)) / values
  pub ends : first_hash values values ≡ 4294967296

-- a hash whose halves have changed places: its high bits are the low ones of the hash
abbrev pub turned_hash : ℕ → ℕ
turned_hash hash = hash % 65536 * 65536 + hash / 65536
