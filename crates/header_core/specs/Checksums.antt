-- The checksum of the Internet (RFC 1071), and what it becomes where one word of the header changes (RFC 1624).
use Rattle.std.specs.Prelude.{◌≡◌, ℕ, ◌+◌, ◌-◌, ◌*◌, List, [], ◌∷◌, nat_lt, slice_set, if◌then◌else◌}

-- the sixteen-bit words of bytes, the high byte first: a zero follows an odd last byte (RFC 1071, section 1)
abbrev pub words_of : List ℕ → List ℕ
words_of [] = []
words_of (a ∷ []) = (a * 256) ∷ []
words_of (a ∷ b ∷ rest) = (a * 256 + b) ∷ words_of rest

-- addition in one's complement: the carry out of the top bit is added at the bottom
unfoldable pub ones_add : ℕ → ℕ → ℕ
ones_add a b = if nat_lt (a + b) 65536 then a + b else a + b - 65535

abbrev pub ones_sum : List ℕ → ℕ
ones_sum [] = 0
ones_sum (w ∷ ws) = ones_add w (ones_sum ws)

abbrev pub complement : ℕ → ℕ
complement word = 65535 - word

-- The sum of a header, its checksum counted in, is all ones (RFC 1071, section 1).
abbrev pub HasRightSum : List ℕ → Type 0
HasRightSum header = ones_sum (words_of header) ≡ 65535

-- the checksum of a header of IPv4, computed with zeros in its place (RFC 791, section 3.1)
abbrev pub checksum_of : List ℕ → ℕ
checksum_of header = complement (ones_sum (words_of (slice_set (slice_set header 10 0) 11 0)))

-- The checksum after one word changed (RFC 1624, section 3, equation 3): HC' = ~(~HC + ~m + m').
abbrev pub updated_checksum : ℕ → ℕ → ℕ → ℕ
updated_checksum checksum old new = complement (ones_add (ones_add (complement checksum) (complement old)) new)
