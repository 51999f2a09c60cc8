-- A packet of IPv6 whose payload length is 0 and whose next header is hop-by-hop options: the length stands in one of
-- these options (RFC 2675).
use Rattle.std.specs.Prelude.{◌≡◌, ℕ, zero, suc, ◌+◌, ◌*◌, ◌<◌, ◌≤◌, ◌==◌, ◌&&◌, Bool, List, Option, Some, None, MatchOption, length, nat_lt, if◌then◌else◌}
use Rattle.header_core.specs.Fields.{byte_at, be16_at, be32_at}
use Rattle.header_core.specs.declared.header.Verdict.{Verdict}
use Rattle.header_core.specs.declared.header.Verdict.TheVariants as verdict
use Rattle.header_core.specs.declared.jumbo.Found.{Found}
use Rattle.header_core.specs.declared.jumbo.Found.TheVariants as found

abbrev pub is_jumbogram : List ℕ → Bool
is_jumbogram bytes = (be16_at bytes 4 == 0) && (byte_at bytes 6 == 0)

-- where the hop-by-hop options end (RFC 8200, section 4.3)
abbrev pub options_end : List ℕ → ℕ
options_end bytes = 40 + (byte_at bytes 41 + 1) * 8

-- How long an option is: one byte for the padding of one byte, else two bytes and its data (RFC 8200, section 4.2).
abbrev pub option_length : List ℕ → ℕ → ℕ
option_length bytes at = if byte_at bytes at == 0 then 1 else 2 + byte_at bytes (at + 1)

-- What stands at a place between the options: a jumbo payload option has type 194 and six bytes (RFC 2675, section 2).
unfoldable pub option_at : List ℕ → ℕ → Found
option_at bytes at =
    if nat_lt (options_end bytes) (at + 6) then found.Nothing
    else if nat_lt (length bytes) (at + 6) then found.Cut
    else if byte_at bytes at == 194 then found.Jumbo
    else found.Another

-- Six bytes of an option that isn't the last can be read, and the options have 2,048 bytes at most.
abbrev pub HasSixBytes : List ℕ → ℕ → Found → Type 0
HasSixBytes bytes at found.Jumbo = at + 6 ≤ length bytes
HasSixBytes bytes at found.Another = (at + 6 ≤ length bytes) × (at + 6 ≤ 2088)
HasSixBytes bytes at found.Nothing = Unit {0}
HasSixBytes bytes at found.Cut = Unit {0}

-- where the option behind so many others begins: the first stands behind the two bytes of the header
unfoldable pub option_place : List ℕ → ℕ → ℕ
option_place bytes zero = 42
option_place bytes (suc k) = option_place bytes k + option_length bytes (option_place bytes k)

-- The option behind k others is the first jumbo payload option, or the options end there.
pub record LooksUpTo (bytes : List ℕ) (at k : ℕ) : Type 0 where
  pub place : at ≡ option_place bytes k
  pub before : (j : ℕ) → j < k → option_at bytes (option_place bytes j) ≡ found.Another
  pub end : option_at bytes at ≡ found.Another → ⊥

-- The length that the option says is more than 65,535 (RFC 2675, section 3), and the link may have delivered less.
abbrev pub verdict_of_length : ℕ → ℕ → Verdict
verdict_of_length payload wire =
    if nat_lt payload 65536 then verdict.BadJumbo
    else if nat_lt wire (40 + payload) then verdict.Overrun
    else verdict.TooLong

-- what a place between the options says of the packet
abbrev pub verdict_at : List ℕ → ℕ → ℕ → Found → Verdict
verdict_at bytes wire at found.Jumbo =
    if byte_at bytes (at + 1) == 4 then verdict_of_length (be32_at bytes (at + 2)) wire else verdict.BadJumbo
verdict_at bytes wire at found.Cut = verdict.Cut
verdict_at bytes wire at found.Nothing = verdict.BadJumbo
verdict_at bytes wire at found.Another = verdict.BadJumbo

-- The options lie inside what the link delivered, and the first of them was captured.
abbrev pub option_fault : List ℕ → ℕ → Option Verdict
option_fault bytes wire =
    if nat_lt wire 48 then Some verdict.BadJumbo
    else if nat_lt (length bytes) 48 then Some verdict.Cut
    else if nat_lt wire (options_end bytes) then Some verdict.BadJumbo
    else None

-- the verdict on a jumbogram, none of which is fine
abbrev pub JudgesJumbogram : List ℕ → ℕ → Verdict → Type 0
JudgesJumbogram bytes wire judged =
    MatchOption (option_fault bytes wire)
    ((at : ℕ) × (k : ℕ) × LooksUpTo bytes at k × (judged ≡ verdict_at bytes wire at (option_at bytes at)))
    (λ broken. judged ≡ broken)
