-- The values of parameters as tc prints them, and the words that say the same in the form in which they are read.
use Rattle.std.specs.Prelude.{ℕ, ◌+◌, ◌-◌, ◌*◌, ◌/◌, ◌%◌, ◌^◌, ◌==◌, List, [], ◌∷◌, Option, Some, None, length, take, drop, codes, min, nat_lt, option_map, if◌then◌else◌}
use Rattle.std.specs.Fmt.{decimal}
use Rattle.std.specs.Option.{option_map_or}
use Rattle.std.specs.Str.{bytes_eq}
use Rattle.packet_core.specs.Numerals.{numeral_of}
use Rattle.packet_core.specs.Words.{digits_in_front, product_of}
use Rattle.link_command.specs.declared.plain.ValueKind.{ValueKind}
use Rattle.link_command.specs.declared.plain.ValueKind.TheVariants.{Packets, Bytes, Time, Other}

-- what the value is that a word has after it, if it has one
unfoldable pub value_kind_of : List ℕ → Option ValueKind
value_kind_of word =
    if bytes_eq word (codes "limit") then Some Packets
    else if bytes_eq word (codes "drop_batch") then Some Packets
    else if bytes_eq word (codes "quantum") then Some Bytes
    else if bytes_eq word (codes "mtu") then Some Bytes
    else if bytes_eq word (codes "memory_limit") then Some Bytes
    else if bytes_eq word (codes "target") then Some Time
    else if bytes_eq word (codes "interval") then Some Time
    else if bytes_eq word (codes "ce_threshold") then Some Time
    else if bytes_eq word (codes "flows") then Some Other
    else if bytes_eq word (codes "classify") then Some Other
    else None

-- how many packets a unit has
unfoldable pub packet_unit_of : List ℕ → Option ℕ
packet_unit_of unit = if bytes_eq unit (codes "p") then Some 1 else None

-- how many bytes a unit has
unfoldable pub bytes_of_unit : List ℕ → Option ℕ
bytes_of_unit unit =
    if bytes_eq unit (codes "b") then Some 1
    else if bytes_eq unit (codes "Kb") then Some 1024
    else if bytes_eq unit (codes "Mb") then Some 1048576
    else if bytes_eq unit (codes "Gb") then Some 1073741824
    else None

-- how many microseconds a unit has
abbrev pub time_unit_of : List ℕ → Option ℕ
time_unit_of unit =
    if bytes_eq unit (codes "us") then Some 1
    else if bytes_eq unit (codes "ms") then Some 1000
    else if bytes_eq unit (codes "s") then Some 1000000
    else None

-- the quotient of two numbers, where it is whole
abbrev pub whole_quotient : ℕ → ℕ → Option ℕ
whole_quotient a b = if a % b == 0 then Some (a / b) else None

abbrev pub part_by : ℕ → Option ℕ → ℕ → Option ℕ
part_by digits None unit = None
part_by digits (Some n) unit = whole_quotient (n * unit) (10 ^ digits)

-- One to six digits after a point, as a part of a unit, where that is a whole number.
abbrev pub decimal_part_of : List ℕ → ℕ → Option ℕ
decimal_part_of decimals unit =
    if nat_lt 6 (length decimals) then None else part_by (length decimals) (numeral_of decimals) unit

-- the sum of two numbers, where both are there
abbrev pub sum_of : Option ℕ → Option ℕ → Option ℕ
sum_of (Some a) (Some b) = Some (a + b)
sum_of (Some a) None = None
sum_of None other = None

abbrev pub time_in : List ℕ → List ℕ → Option ℕ → Option ℕ
time_in whole decimals None = None
time_in whole decimals (Some unit) =
    sum_of (product_of (numeral_of whole) (Some unit)) (decimal_part_of decimals unit)

-- a time in microseconds, from the digits before its point and from what follows these: a point, digits and a unit
abbrev pub point_time_of : List ℕ → List ℕ → Option ℕ
point_time_of whole [] = None
point_time_of whole (c ∷ rest) =
    if c == 46
    then time_in whole (take (digits_in_front rest) rest) (time_unit_of (drop (digits_in_front rest) rest))
    else None

-- The value that digits and what follows them say in a form in which tc prints a value of that kind, if they do.
abbrev pub value_in : ValueKind → List ℕ → List ℕ → Option ℕ
value_in Packets digits unit = product_of (numeral_of digits) (packet_unit_of unit)
value_in Bytes digits unit = product_of (numeral_of digits) (bytes_of_unit unit)
value_in Time digits unit = point_time_of digits unit
value_in Other digits unit = None

abbrev pub plain_value_of : ValueKind → List ℕ → Option ℕ
plain_value_of kind word = value_in kind (take (digits_in_front word) word) (drop (digits_in_front word) word)

-- A value in the form in which it is read: digits alone, where it is in the other form. A number above 2^64 - 1 is
-- written as that one, which is outside every range.
abbrev pub plain_value : ValueKind → List ℕ → List ℕ
plain_value kind word = option_map_or decimal (option_map (λ n. min n (2 ^ 64 - 1)) (plain_value_of kind word)) word

-- a word in the form in which it is read, where it may be a value that the word before it awaits
abbrev pub word_in : Option ValueKind → List ℕ → List ℕ
word_in None word = word
word_in (Some kind) word = plain_value kind word

-- what value the next word is, if it is one
abbrev pub awaited_after : Option ValueKind → List ℕ → Option ValueKind
awaited_after None word = value_kind_of word
awaited_after (Some kind) word = None

-- the words in the form in which they are read, where the first one may be an awaited value
unfoldable pub plain_from : Option ValueKind → List (List ℕ) → List (List ℕ)
plain_from awaited [] = []
plain_from awaited (word ∷ words) = word_in awaited word ∷ plain_from (awaited_after awaited word) words

abbrev pub plain_words_of : List (List ℕ) → List (List ℕ)
plain_words_of words = plain_from None words
