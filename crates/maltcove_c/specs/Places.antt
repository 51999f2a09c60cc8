-- Where the words of a text stand. A word is what stands between blanks, which are ASCII's white space.
use Rattle.std.specs.Prelude.{ℕ, ◌+◌, List, drop, suc, zero}
use Rattle.std.specs.List.{position_or_len, prefix_len}
use Rattle.std.specs.Char.{is_ascii_whitespace}

-- how many blanks a text begins with
abbrev pub blanks_in_front : List ℕ → ℕ
blanks_in_front text = prefix_len is_ascii_whitespace text

-- how many bytes of a text stand before its first blank
abbrev pub bytes_in_front : List ℕ → ℕ
bytes_in_front text = position_or_len is_ascii_whitespace text

-- where the first word of a text ends
abbrev pub first_word_end : List ℕ → ℕ
first_word_end text = blanks_in_front text + bytes_in_front (drop (blanks_in_front text) text)

-- where the word begins that comes after so many others, and the end of the text where there are no more
unfoldable pub word_start : ℕ → List ℕ → ℕ
word_start zero text = blanks_in_front text
word_start (suc n) text = first_word_end text + word_start n (drop (first_word_end text) text)

-- how many bytes that word has
abbrev pub word_bytes : ℕ → List ℕ → ℕ
word_bytes others text = bytes_in_front (drop (word_start others text) text)
