-- How rates are read (the units are those of tc(8), "RATES").
use Rattle.std.specs.Prelude.{ℕ, ◌+◌, ◌*◌, ◌/◌, ◌^◌, ◌==◌, List, [], ◌∷◌, Option, Some, None, length, take, drop, codes, nat_lt, if◌then◌else◌}
use Rattle.std.specs.Str.{str_eq_ignore_ascii_case}
use Rattle.packet_core.specs.Numerals.{numeral_of}
use Rattle.packet_core.specs.Words.{digits_in_front, product_of}

-- how many bits a second a unit of bytes has, in any case
unfoldable pub bits_of_byte_unit : List ℕ → Option ℕ
bits_of_byte_unit unit =
    if str_eq_ignore_ascii_case unit (codes "bps") then Some 8
    else if str_eq_ignore_ascii_case unit (codes "kbps") then Some 8000
    else if str_eq_ignore_ascii_case unit (codes "mbps") then Some 8000000
    else if str_eq_ignore_ascii_case unit (codes "gbps") then Some 8000000000
    else if str_eq_ignore_ascii_case unit (codes "tbps") then Some 8000000000000
    else if str_eq_ignore_ascii_case unit (codes "kibps") then Some 8192
    else if str_eq_ignore_ascii_case unit (codes "mibps") then Some 8388608
    else if str_eq_ignore_ascii_case unit (codes "gibps") then Some 8589934592
    else if str_eq_ignore_ascii_case unit (codes "tibps") then Some 8796093022208
    else None

-- how many bits a second a unit has, in any case
unfoldable pub rate_unit_of : List ℕ → Option ℕ
rate_unit_of unit =
    if str_eq_ignore_ascii_case unit [] then Some 1
    else if str_eq_ignore_ascii_case unit (codes "bit") then Some 1
    else if str_eq_ignore_ascii_case unit (codes "kbit") then Some 1000
    else if str_eq_ignore_ascii_case unit (codes "mbit") then Some 1000000
    else if str_eq_ignore_ascii_case unit (codes "gbit") then Some 1000000000
    else if str_eq_ignore_ascii_case unit (codes "tbit") then Some 1000000000000
    else if str_eq_ignore_ascii_case unit (codes "kibit") then Some 1024
    else if str_eq_ignore_ascii_case unit (codes "mibit") then Some 1048576
    else if str_eq_ignore_ascii_case unit (codes "gibit") then Some 1073741824
    else if str_eq_ignore_ascii_case unit (codes "tibit") then Some 1099511627776
    else bits_of_byte_unit unit

-- the number of one to nine digits after a point
abbrev pub decimals_of : List ℕ → Option ℕ
decimals_of digits = if nat_lt 9 (length digits) then None else numeral_of digits

-- A number of units with a decimal fraction of so many digits, in bits a second: their exact product, rounded down.
abbrev pub rounded_product : Option ℕ → Option ℕ → ℕ → Option ℕ → Option ℕ
rounded_product (Some whole) (Some decimals) digits (Some unit) =
    Some ((whole * 10 ^ digits + decimals) * unit / 10 ^ digits)
rounded_product (Some whole) (Some decimals) digits None = None
rounded_product (Some whole) None digits unit = None
rounded_product None decimals digits unit = None

-- a rate with a point, from the digits before it, those after it and the unit behind these
abbrev pub point_rate_of : List ℕ → List ℕ → List ℕ → Option ℕ
point_rate_of whole decimals unit =
    rounded_product (numeral_of whole) (decimals_of decimals) (length decimals) (rate_unit_of unit)

-- a rate from digits and what follows them: a unit, or a point, digits and a unit
abbrev pub rate_after : List ℕ → List ℕ → Option ℕ
rate_after whole [] = product_of (numeral_of whole) (rate_unit_of [])
rate_after whole (c ∷ rest) =
    if c == 46
    then point_rate_of whole (take (digits_in_front rest) rest) (drop (digits_in_front rest) rest)
    else product_of (numeral_of whole) (rate_unit_of (c ∷ rest))

-- a rate, in whole bits a second
abbrev pub bit_rate_of : List ℕ → Option ℕ
bit_rate_of text = rate_after (take (digits_in_front text) text) (drop (digits_in_front text) text)
