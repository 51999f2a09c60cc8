-- Rows as text.
use Rattle.std.specs.Prelude.{◌≡◌, ◌<◌, length, ℕ, Bool, true, false, List, [], ◌∷◌, ◌++◌, Some, map}
use Rattle.std.specs.Prelude.{codes}
use Rattle.std.specs.Fmt.{decimal}
use Rattle.std.specs.List.{join_with_byte}
use Rattle.csv.specs.Writing.{default_writer, fields_written, has_written, text_written, with_flexible, with_style, writer_setup}
use Rattle.csv.specs.declared.writer.QuoteStyle.TheVariants as style
use Rattle.csv.specs.declared.writer.WriterBuilder.{WriterBuilder}
use Rattle.codel_core.specs.declared.served.Mark.{Mark}
use Rattle.codel_core.specs.declared.served.Mark.TheVariants.{NoMark, CodelMark, Threshold}
use Rattle.journal_core.specs.declared.event.Cause.{Cause}
use Rattle.journal_core.specs.declared.event.Cause.TheVariants as cause
use Rattle.hex.specs.Hex.{encode_lower}
use Rattle.packet_core.specs.declared.packet.Ecn.{Ecn}
use Rattle.packet_core.specs.declared.packet.Ecn.TheVariants.{NotEct, Ect1, Ect0, Ce}
use Rattle.packet_core.specs.declared.packet.Ip.{Ip}
use Rattle.packet_core.specs.declared.packet.Ip.TheVariants.{V4, V6}
use Rattle.text_core.specs.declared.rows.Rows.{Rows}

-- a row: its fields with a comma between each two, and one line feed
unfoldable pub line_of : List (List ℕ) → List ℕ
line_of fields = join_with_byte 44 fields ++ 10 ∷ []

-- the digit for an ECN field
abbrev pub ecn_digit : Ecn → List ℕ
ecn_digit NotEct = codes "0"
ecn_digit Ect1 = codes "1"
ecn_digit Ect0 = codes "2"
ecn_digit Ce = codes "3"

-- the word for a cause
abbrev pub cause_name : Cause → List ℕ
cause_name cause.Codel = codes "codel"
cause_name cause.Overflow = codes "overflow"

-- the word for a mark, and none where there is none
abbrev pub mark_name : Mark → List ℕ
mark_name NoMark = []
mark_name CodelMark = codes "codel"
mark_name Threshold = codes "threshold"

-- numbers with a dot between each two
abbrev pub dotted : List ℕ → List ℕ
dotted numbers = join_with_byte 46 (map decimal numbers)

-- an address: one of IPv4 with dots, and one of IPv6 as two hexadecimal digits of lower case for each byte
abbrev pub address_text : Ip → List ℕ
address_text (V4 bytes) = dotted bytes
address_text (V6 bytes) = encode_lower bytes

-- how rows are written: they may have different numbers of fields, and no field has quotes
abbrev pub row_writer : WriterBuilder
row_writer = with_style (with_flexible default_writer true) style.Never

-- The rows that were written are this text, and the next row starts at its end.
pub record HasText (rows : Rows) (text : List ℕ) : Type 0 where
  pub setup : writer_setup rows.writer ≡ row_writer
  pub fields : fields_written rows.writer ≡ 0
  pub wrote : has_written rows.writer ≡ false
  pub written : text_written (λ v. Some v.items) rows.writer ≡ Some text

-- a row whose first field isn't empty: `csv` writes quotes for one that shows no byte
abbrev pub IsFilled : List (List ℕ) → Type 0
IsFilled [] = ⊥
IsFilled (field ∷ rest) = 0 < length field

-- These bytes are written after the rows so far, whatever those are.
unfoldable pub Adds : Rows → Rows → List ℕ → Type 0
Adds old new more = (text : List ℕ) → HasText old text → HasText new (text ++ more)
