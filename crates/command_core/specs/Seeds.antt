-- How a seed is written.
use Rattle.std.specs.Prelude.{ℕ, List, replicate, Option, Some, None}
use Rattle.std.specs.Result.{result_ok}
use Rattle.hex.specs.Hex.{decode_sized}

-- the 16 bytes of a text of 32 hexadecimal digits, of either case: two digits a byte, the first of them the high one
abbrev pub seed_of : List ℕ → Option (List ℕ)
seed_of text = result_ok (decode_sized text 16)

-- the bytes of the seed that is given, and zeros where none is
abbrev pub seed_given : Option (List ℕ) → Option (List ℕ)
seed_given (Some text) = seed_of text
seed_given None = Some (replicate 16 0)
