-- What a text shows on a terminal.
use Rattle.std.specs.Prelude.{◌≡◌, ℕ, Bool, true, List, ◌||◌, nat_eq, not, All}
use Rattle.std.specs.Char.{is_control}
use Rattle.std.specs.Str.{chars}

-- the character is shown, or is a line feed: it is no other control character
abbrev pub is_shown : ℕ → Bool
is_shown c = nat_eq c 10 || not (is_control c)

-- all of the text's characters are
abbrev pub IsShown : List ℕ → Type 0
IsShown text = All (λ c. is_shown c ≡ true) (chars text)
