-- How parameter words are read (the words are those of tc-fq_codel(8)).
use Rattle.std.specs.Prelude.{ℕ, ◌+◌, ◌-◌, ◌*◌, Bool, List, [], ◌∷◌, Option, Some, None, Result, Ok, Err, length, take, drop, codes, nat_le, ◌&&◌, ◌||◌, if◌then◌else◌}
use Rattle.std.specs.Char.{is_ascii_digit}
use Rattle.std.specs.List.{take_while}
use Rattle.std.specs.Str.{bytes_eq}
use Rattle.packet_core.specs.Numerals.{numeral_of}
use Rattle.packet_core.specs.Params.{range_of, standard_fields}
use Rattle.packet_core.specs.declared.params.Classify.TheVariants.{Dport, Hash}
use Rattle.packet_core.specs.declared.params.EcnUse.TheVariants as ecn_use
use Rattle.packet_core.specs.declared.params.ParamFields.{ParamFields}
use Rattle.packet_core.specs.declared.params.ParamName.{ParamName}
use Rattle.packet_core.specs.declared.params.ParamName.TheVariants.{Limit, Flows, Quantum, Mtu, Target, Interval, CeThreshold, MemoryLimit, DropBatch}
use Rattle.packet_core.specs.declared.words.Parameter.{Parameter}
use Rattle.packet_core.specs.declared.words.Parameter.TheVariants as parameter
use Rattle.packet_core.specs.declared.words.ParamWord.{ParamWord}
use Rattle.packet_core.specs.declared.words.ParamWord.TheVariants.{Ecn, Valued}
use Rattle.packet_core.specs.declared.words.ParamFault.{ParamFault}
use Rattle.packet_core.specs.declared.words.ParamFault.TheVariants.{UnknownWord, MissingValue, NotANumber, OutOfRange}

-- the names of the microsecond; nothing behind the digits means microseconds, too
abbrev pub is_microseconds : List ℕ → Bool
is_microseconds text =
    bytes_eq text [] || bytes_eq text (codes "us") || bytes_eq text (codes "usec") || bytes_eq text (codes "usecs")

-- the names of the millisecond
abbrev pub is_milliseconds : List ℕ → Bool
is_milliseconds text = bytes_eq text (codes "ms") || bytes_eq text (codes "msec") || bytes_eq text (codes "msecs")

-- the names of the second
abbrev pub is_seconds : List ℕ → Bool
is_seconds text = bytes_eq text (codes "s") || bytes_eq text (codes "sec") || bytes_eq text (codes "secs")

-- how many microseconds a unit has
abbrev pub unit_of : List ℕ → Option ℕ
unit_of text =
    if is_microseconds text then Some 1
    else if is_milliseconds text then Some 1000
    else if is_seconds text then Some 1000000
    else None

-- how many digits a text begins with
abbrev pub digits_in_front : List ℕ → ℕ
digits_in_front text = length (take_while is_ascii_digit text)

-- the product of two numbers, where both are there
abbrev pub product_of : Option ℕ → Option ℕ → Option ℕ
product_of (Some a) (Some b) = Some (a * b)
product_of (Some a) None = None
product_of None other = None

-- a time in microseconds: digits, and then a unit
unfoldable pub time_of : List ℕ → Option ℕ
time_of text = product_of (numeral_of (take (digits_in_front text) text)) (unit_of (drop (digits_in_front text) text))

-- the value of a parameter, from its text: a whole number or a time
abbrev pub amount_of : ParamName → List ℕ → Option ℕ
amount_of Limit text = numeral_of text
amount_of Flows text = numeral_of text
amount_of Quantum text = numeral_of text
amount_of Mtu text = numeral_of text
amount_of Target text = time_of text
amount_of Interval text = time_of text
amount_of CeThreshold text = time_of text
amount_of MemoryLimit text = numeral_of text
amount_of DropBatch text = numeral_of text

-- whether a value is one that the parameter can have
abbrev pub is_in_range : ParamName → ℕ → Bool
is_in_range name n = nat_le (range_of name).0 n && nat_le n (range_of name).1

-- the parameters with one of them at this value
abbrev pub with_value : ParamName → ℕ → ParamFields → ParamFields
with_value Limit n p = record p { limit = n }
with_value Flows n p = record p { flows = n }
with_value Quantum n p = record p { quantum = n }
with_value Mtu n p = record p { mtu = n }
with_value Target n p = record p { target = n }
with_value Interval n p = record p { interval = n }
with_value CeThreshold n p = record p { ce_threshold = Some n }
with_value MemoryLimit n p = record p { memory_limit = Some n }
with_value DropBatch n p = record p { drop_batch = n }

-- the parameters with one of them at this value, where it is in its range; the text of the value stands at this place
abbrev pub with_amount : ℕ → ParamName → Option ℕ → ParamFields → Result ParamFields ParamFault
with_amount place name None p = Err (NotANumber place)
with_amount place name (Some n) p = if is_in_range name n then Ok (with_value name n p) else Err (OutOfRange place)

-- the parameters with another way to find a flow
unfoldable pub with_classify : ℕ → List ℕ → ParamFields → Result ParamFields ParamFault
with_classify place text p =
    if bytes_eq text (codes "hash") then Ok (record p { classify = Hash })
    else if bytes_eq text (codes "dport") then Ok (record p { classify = Dport })
    else Err (UnknownWord place)

-- the parameters with this one at the value that the text at this place says
abbrev pub with_text : ℕ → Parameter → List ℕ → ParamFields → Result ParamFields ParamFault
with_text place (parameter.Ranged name) text p = with_amount place name (amount_of name text) p
with_text place parameter.Classify text p = with_classify place text p

-- what a word asks for
unfoldable pub param_word_of : List ℕ → Option ParamWord
param_word_of word =
    if bytes_eq word (codes "limit") then Some (Valued (parameter.Ranged Limit))
    else if bytes_eq word (codes "flows") then Some (Valued (parameter.Ranged Flows))
    else if bytes_eq word (codes "quantum") then Some (Valued (parameter.Ranged Quantum))
    else if bytes_eq word (codes "mtu") then Some (Valued (parameter.Ranged Mtu))
    else if bytes_eq word (codes "target") then Some (Valued (parameter.Ranged Target))
    else if bytes_eq word (codes "interval") then Some (Valued (parameter.Ranged Interval))
    else if bytes_eq word (codes "ce_threshold") then Some (Valued (parameter.Ranged CeThreshold))
    else if bytes_eq word (codes "memory_limit") then Some (Valued (parameter.Ranged MemoryLimit))
    else if bytes_eq word (codes "drop_batch") then Some (Valued (parameter.Ranged DropBatch))
    else if bytes_eq word (codes "classify") then Some (Valued parameter.Classify)
    else if bytes_eq word (codes "ecn") then Some (Ecn ecn_use.Mark)
    else if bytes_eq word (codes "noecn") then Some (Ecn ecn_use.Drop)
    else None

-- The parameters that words say, read from left to right, the first word of them at this place, where the words
-- before said these parameters and may have ended with one whose value is awaited. The word behind a parameter that has
-- a value is its value, whatever it is. The first fault is answered.
unfoldable pub read_from : ℕ → Option Parameter → ParamFields → List (List ℕ) → Result ParamFields ParamFault
read_from place None p [] = Ok p
read_from place (Some awaited) p [] = Err (MissingValue (place - 1))
read_from place None p (word ∷ words) =
    elim (param_word_of word) [
      | None ↦ Err (UnknownWord place)
      | Some (Ecn ecn) ↦ read_from (place + 1) None (record p { ecn = ecn }) words
      | Some (Valued parameter) ↦ read_from (place + 1) (Some parameter) p words
    ]
read_from place (Some awaited) p (value ∷ words) =
    elim (with_text place awaited value p) [
      | Ok changed ↦ read_from (place + 1) None changed words
      | Err fault ↦ Err fault
    ]

-- the parameters that words say, or the first fault with its place, from 1; what isn't said has its standard value
abbrev pub params_of_words : List (List ℕ) → Result ParamFields ParamFault
params_of_words words = read_from 1 None standard_fields words
