-- The fields of a row, and the one that a fault stands in.
use Rattle.std.specs.Prelude.{◌≡◌, ℕ, ◌-◌, ◌^◌, ◌⊎◌, Bool, true, List, [], ◌∷◌, Option, Some, None, codes, min, nat_lt, option_map, unwrap_or, if◌then◌else◌}
use Rattle.std.specs.List.{find}
use Rattle.std.specs.Option.{option_map_or}
use Rattle.std.specs.Str.{bytes_eq}
use Rattle.packet_core.specs.Numerals.{numeral_of}
use Rattle.row_core.specs.Rows.{field_of}
use Rattle.row_core.specs.declared.faults.TraceFaultKind.TheVariants as kind
use Rattle.link_command.specs.declared.faults.RowFault.{RowFault}
use Rattle.link_command.specs.declared.faults.RowFault.TheVariants.{Trace, NotAnArrival, TooLate, Backwards}
use Rattle.link_command.specs.declared.fields.FieldName.{FieldName}
use Rattle.link_command.specs.declared.fields.FieldName.TheVariants as field

-- the place of a field in a row, from 1
abbrev pub field_place_of : FieldName → ℕ
field_place_of field.Kind = 1
field_place_of field.Version = 2
field_place_of field.Moment = 2
field_place_of field.Proto = 3
field_place_of field.Src = 4
field_place_of field.Dst = 5
field_place_of field.Sport = 6
field_place_of field.Dport = 7
field_place_of field.Len = 8
field_place_of field.Ecn = 9

-- the greatest number that a field of an arrival may have: moments are below 2^60, and lengths have a fault of their own
abbrev pub greatest_of : FieldName → ℕ
greatest_of field.Moment = 2 ^ 60 - 1
greatest_of field.Proto = 255
greatest_of field.Sport = 65535
greatest_of field.Dport = 65535
greatest_of field.Kind = 2 ^ 64 - 1
greatest_of field.Version = 2 ^ 64 - 1
greatest_of field.Src = 2 ^ 64 - 1
greatest_of field.Dst = 2 ^ 64 - 1
greatest_of field.Len = 2 ^ 64 - 1
greatest_of field.Ecn = 2 ^ 64 - 1

-- the text of a field, and none where the row ends before it
abbrev pub text_in : List (List ℕ) → FieldName → List ℕ
text_in fields name = field_of fields (field_place_of name - 1)

-- The number that a text is, if it is one. A number that 64 bits don't hold counts as the greatest that they hold.
abbrev pub number_in : List ℕ → Option ℕ
number_in text = option_map (λ n. min n (2 ^ 64 - 1)) (numeral_of text)

-- A field is amiss whose text is no number, or one above the greatest that the field may have.
abbrev pub is_amiss : List (List ℕ) → FieldName → Bool
is_amiss fields name = option_map_or (λ n. nat_lt (greatest_of name) n) (number_in (text_in fields name)) true

-- the first field that is amiss among these, and LEN where none is
abbrev pub first_amiss : List (List ℕ) → List FieldName → FieldName
first_amiss fields names = unwrap_or (find (is_amiss fields) names) field.Len

-- the fields of an arrival with a number in them, from left to right
abbrev pub number_fields : List FieldName
number_fields = field.Moment ∷ field.Proto ∷ field.Sport ∷ field.Dport ∷ field.Len ∷ []

-- The field whose number is wrong, of a row with such a fault. Of an arrival it is the first from the left that is
-- amiss. The row that tells the version and those of other kinds have one number, which is in their second field.
abbrev pub numberless_field : List (List ℕ) → FieldName
numberless_field fields =
    if bytes_eq (text_in fields field.Kind) (codes "enq") then first_amiss fields number_fields
    else if bytes_eq (text_in fields field.Kind) (codes "version") then field.Version
    else field.Moment

-- some field, with this fact of it
abbrev pub IsField : Option FieldName → (FieldName → Type 0) → Type 0
IsField None fact = ⊥
IsField (Some name) fact = fact name

-- The field in which a fault of a row with these fields stands, and none where it stands in no single one.
abbrev pub IsFaultOfField : List (List ℕ) → RowFault → Option FieldName → Type 0
IsFaultOfField fields NotAnArrival found = found ≡ Some field.Kind
IsFaultOfField fields TooLate found = found ≡ Some field.Moment
IsFaultOfField fields Backwards found = found ≡ Some field.Moment
IsFaultOfField fields (Trace kind.BadKind) found = found ≡ Some field.Kind
IsFaultOfField fields (Trace kind.BadNumber) found = found ≡ Some (numberless_field fields)
IsFaultOfField fields (Trace kind.BadAddress) found = IsField found (λ name. (name ≡ field.Src) ⊎ (name ≡ field.Dst))
IsFaultOfField fields (Trace kind.BadEcn) found = found ≡ Some field.Ecn
IsFaultOfField fields (Trace kind.LengthOutOfRange) found = found ≡ Some field.Len
IsFaultOfField fields (Trace kind.Read) found = found ≡ None
IsFaultOfField fields (Trace kind.TooLarge) found = found ≡ None
IsFaultOfField fields (Trace kind.BadFieldCount) found = found ≡ None
IsFaultOfField fields (Trace kind.Memory) found = found ≡ None
