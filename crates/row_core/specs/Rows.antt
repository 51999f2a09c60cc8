-- How a row's fields read, as the step that they ask for or the first fault.
use Rattle.std.specs.Prelude.{ℕ, ◌+◌, ◌^◌, Bool, List, [], ◌∷◌, Option, Some, None, Result, Ok, Err, option_and_then, option_map, length, get_or, take, drop, nat_lt, nat_le, ◌==◌, ◌&&◌, if◌then◌else◌}
use Rattle.std.specs.Prelude.{ok_or, codes, unwrap_or}
use Rattle.std.specs.Bool.{beq}
use Rattle.std.specs.List.{position}
use Rattle.std.specs.Option.{option_or}
use Rattle.std.specs.Result.{result_ok}
use Rattle.std.specs.Str.{bytes_eq}
use Rattle.csv.specs.Records.{field_at}
use Rattle.hex.specs.Hex.{decode_sized}
use Rattle.packet_core.specs.Numerals.{numeral_of}
use Rattle.packet_core.specs.Packets.{PacketParts, is_ipv6}
use Rattle.packet_core.specs.declared.packet.Ecn.{Ecn}
use Rattle.packet_core.specs.declared.packet.Ecn.TheVariants.{NotEct, Ect1, Ect0, Ce}
use Rattle.packet_core.specs.declared.packet.Ip.{Ip}
use Rattle.packet_core.specs.declared.packet.Ip.TheVariants.{V4, V6}
use Rattle.journal_core.specs.declared.step.Step.{Step}
use Rattle.journal_core.specs.declared.step.Step.TheVariants as step
use Rattle.row_core.specs.declared.faults.TraceFaultKind.{TraceFaultKind}
use Rattle.row_core.specs.declared.faults.TraceFaultKind.TheVariants.{BadKind, BadFieldCount, BadNumber, BadAddress, BadEcn, LengthOutOfRange}
use Rattle.row_core.specs.declared.row.RowKind.{RowKind}
use Rattle.row_core.specs.declared.row.RowKind.TheVariants.{Enqueue, Dequeue, Close}
use Rattle.row_core.specs.declared.row.Version.{Version}
use Rattle.row_core.specs.declared.row.Version.TheVariants.{One, Two}

infixl 10 ◌>>=◌
infixl 10 ◌>>?◌
-- the next reading, where there is no fault yet
abbrev pub ◌>>=◌ : {A B E : Type 0} → Result A E → (A → Result B E) → Result B E
Ok x >>= next = next x
Err fault >>= next = Err fault

abbrev pub ◌>>?◌ : {A B : Type 0} → Option A → (A → Option B) → Option B
x >>? next = option_and_then next x

-- a number, where it is below a bound
abbrev pub below : ℕ → ℕ → Option ℕ
below bound n = if nat_lt n bound then Some n else None

-- the number that a text writes, below a bound
unfoldable pub number_below : ℕ → List ℕ → Result ℕ TraceFaultKind
number_below bound text = ok_or (numeral_of text >>? below bound) BadNumber

-- whether a packet can have this length
abbrev pub is_length : ℕ → Bool
is_length len = nat_le 1 len && nat_le len 65535

-- a packet's length
unfoldable pub packet_length_of : List ℕ → Result ℕ TraceFaultKind
packet_length_of text = ok_or (numeral_of text) BadNumber >>= λ len. if is_length len then Ok len else Err LengthOutOfRange

-- an ECN field
unfoldable pub ecn_of : List ℕ → Result Ecn TraceFaultKind
ecn_of text =
    if bytes_eq text (codes "0") then Ok NotEct
    else if bytes_eq text (codes "1") then Ok Ect1
    else if bytes_eq text (codes "2") then Ok Ect0
    else if bytes_eq text (codes "3") then Ok Ce
    else Err BadEcn

-- what a row's first field asks for
unfoldable pub kind_of : List ℕ → Result RowKind TraceFaultKind
kind_of name =
    if bytes_eq name (codes "enq") then Ok Enqueue
    else if bytes_eq name (codes "deq") then Ok Dequeue
    else if bytes_eq name (codes "close") then Ok Close
    else Err BadKind

-- what stands before a text's first dot, and what behind it
unfoldable pub cut_of : List ℕ → Option (List ℕ × List ℕ)
cut_of text = option_map (λ place. (take place text, drop (place + 1) text)) (position (λ byte. byte == 46) text)

-- whether a zero stands before another byte
abbrev pub starts_with_zero : List ℕ → Bool
starts_with_zero text = nat_lt 1 (length text) && (get_or text 0 0 == 48)

-- a number from 0 to 255 without leading zeros
unfoldable pub octet_of : List ℕ → Option ℕ
octet_of text = if starts_with_zero text then None else numeral_of text >>? below (2 ^ 8)

-- one of them before a text's first dot, and what stands behind the dot
unfoldable pub octet_and_rest_of : List ℕ → Option (ℕ × List ℕ)
octet_and_rest_of text = cut_of text >>? λ parts. octet_of parts.0 >>? λ octet. Some (octet, parts.1)

-- four of them, joined by dots
unfoldable pub four_octets_of : List ℕ → Option Ip
four_octets_of text =
    cut_of text >>? λ one.
    cut_of one.1 >>? λ two.
    cut_of two.1 >>? λ three.
    octet_of one.0 >>? λ a.
    octet_of two.0 >>? λ b.
    octet_of three.0 >>? λ c.
    octet_of three.1 >>? λ d.
    Some (V4 (a ∷ b ∷ c ∷ d ∷ []))

-- an address of IPv6: 32 hexadecimal digits of either case, two for a byte, the first of them the high one
unfoldable pub sixteen_octets_of : List ℕ → Option Ip
sixteen_octets_of text = result_ok (decode_sized text 16) >>? λ bytes. Some (V6 bytes)

-- an address of a kind that a trace of this version can name
abbrev pub ip_of : Version → List ℕ → Option Ip
ip_of One text = four_octets_of text
ip_of Two text = option_or (four_octets_of text) (sixteen_octets_of text)

-- an address
unfoldable pub address_of : Version → List ℕ → Result Ip TraceFaultKind
address_of version text = ok_or (ip_of version text) BadAddress

-- the destination of a packet, which is of the same kind as its source
unfoldable pub destination_of : Version → Ip → List ℕ → Result Ip TraceFaultKind
destination_of version src text =
    address_of version text >>= λ dst. if beq (is_ipv6 dst) (is_ipv6 src) then Ok dst else Err BadAddress

-- the field of a row at a place, from 0, and an empty one behind the last
abbrev pub field_of : List (List ℕ) → ℕ → List ℕ
field_of fields place = unwrap_or (field_at fields place) []

-- the packet of a row, its fields read from left to right
unfoldable pub packet_of : Version → List (List ℕ) → Result PacketParts TraceFaultKind
packet_of version fields =
    number_below (2 ^ 8) (field_of fields 2) >>= λ proto.
    address_of version (field_of fields 3) >>= λ src.
    destination_of version src (field_of fields 4) >>= λ dst.
    number_below (2 ^ 16) (field_of fields 5) >>= λ sport.
    number_below (2 ^ 16) (field_of fields 6) >>= λ dport.
    packet_length_of (field_of fields 7) >>= λ len.
    ecn_of (field_of fields 8) >>= λ ecn.
    Ok (record {
      tuple = record { proto = proto; src = src; dst = dst; sport = sport; dport = dport };
      len = len;
      ecn = ecn;
      tag = 0;
    })

-- how many fields a row has, its first one counted
abbrev pub fields_of_kind : RowKind → ℕ
fields_of_kind Enqueue = 9
fields_of_kind Dequeue = 2
fields_of_kind Close = 2

-- the step of a row of this kind, at this moment; every packet comes from lane 0
abbrev pub step_of : Version → RowKind → ℕ → List (List ℕ) → Result Step TraceFaultKind
step_of version Enqueue moment fields = packet_of version fields >>= λ packet. Ok (step.Enqueue moment 0 packet)
step_of version Dequeue moment fields = Ok (step.Dequeue moment)
step_of version Close moment fields = Ok (step.Close moment)

-- The step that a row of a trace of this version asks for, or its first fault: a first field that names no kind, then
-- another number of fields than the kind has, then the first faulty field from the left.
unfoldable pub step_of_row : Version → List (List ℕ) → Result Step TraceFaultKind
step_of_row version fields =
    kind_of (field_of fields 0) >>= λ kind.
    if length fields == fields_of_kind kind
    then (number_below (2 ^ 60) (field_of fields 1) >>= λ moment. step_of version kind moment fields)
    else Err BadFieldCount

-- whether the row with this number tells the trace's version: the first row does, where its first field says so
unfoldable pub tells_version : ℕ → List (List ℕ) → Bool
tells_version row fields = (row == 1) && bytes_eq (field_of fields 0) (codes "version")

-- the version with this number, which is 2
abbrev pub version_told : Option ℕ → Result Version TraceFaultKind
version_told None = Err BadNumber
version_told (Some number) = if number == 2 then Ok Two else Err BadNumber

-- The version that such a row tells, or its first fault: another number of fields than two, then a second field that
-- isn't a number of value 2.
unfoldable pub version_of : List (List ℕ) → Result Version TraceFaultKind
version_of fields =
    if length fields == 2 then version_told (numeral_of (field_of fields 1)) else Err BadFieldCount
