-- What a frame of Ethernet carries, behind its VLAN tags (IEEE 802.1Q).
use Rattle.std.specs.Prelude.{◌≡◌, ℕ, ◌+◌, ◌*◌, ◌<◌, ◌≤◌, ◌==◌, ◌||◌, Bool, true, false, List, length}
use Rattle.header_core.specs.Fields.{be16_at}

-- the ethertypes of a customer's tag, a provider's, and the one that QinQ had before it
abbrev pub is_tag : ℕ → Bool
is_tag ethertype = (ethertype == 0x8100) || (ethertype == 0x88A8) || (ethertype == 0x9100)

-- where the ethertype behind so many tags stands: behind two addresses of six bytes, four for each tag
abbrev pub ethertype_place : ℕ → ℕ
ethertype_place tags = 12 + 4 * tags

-- The ethertype behind that many tags is none of a tag, and all that stand before it are.
pub record CarriesBehind (bytes : List ℕ) (tags : ℕ) : Type 0 where
  pub captured : ethertype_place tags + 2 ≤ length bytes
  pub before : (j : ℕ) → j < tags → is_tag (be16_at bytes (ethertype_place j)) ≡ true
  pub end : is_tag (be16_at bytes (ethertype_place tags)) ≡ false

-- So many tags stand there, and the captured bytes end before the next ethertype does.
pub record IsCutBehind (bytes : List ℕ) (tags : ℕ) : Type 0 where
  pub cut : length bytes < ethertype_place tags + 2
  pub before : (j : ℕ) → j < tags → is_tag (be16_at bytes (ethertype_place j)) ≡ true
