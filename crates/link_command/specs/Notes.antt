-- What the program notes of a run whose table is easy to misread.
use Rattle.std.specs.Prelude.{ℕ, ◌∷◌, [], ◌++◌, List, Option, Some, None, codes, slice_get}
use Rattle.std.specs.Fmt.{decimal}
use Rattle.packet_core.specs.declared.packet.FiveTuple.{FiveTuple}
use Rattle.packet_core.specs.declared.params.EcnUse.{EcnUse}
use Rattle.packet_core.specs.declared.params.EcnUse.TheVariants as ecn_use
use Rattle.packet_core.specs.declared.params.ParamFields.{ParamFields}
use Rattle.text_core.specs.Texts.{address_text}
use Rattle.link_core.specs.declared.arrival.Arrival.{Arrival}
use Rattle.link_report.specs.Packets.{Known}
use Rattle.link_command.specs.Marks.{vain_place}

-- a line, and a second one with what may be done
abbrev pub no_packet_text : List ℕ
no_packet_text =
    codes "maltlink: no packet arrived\n  standard input has no 'enq' row; arrivals are read from there, as in 'maltlink --rate 10mbit < arrivals.csv'\n"

-- a five-tuple as the fields of a row
abbrev pub tuple_text : FiveTuple → List ℕ
tuple_text t =
    (((((((decimal t.proto ++ codes ",") ++ address_text t.src) ++ codes ",") ++ address_text t.dst) ++ codes ",")
    ++ decimal t.sport) ++ codes ",") ++ decimal t.dport

-- that the marks of the five-tuple with that number are in vain
abbrev pub marks_text : ℕ → FiveTuple → List ℕ
marks_text number t =
    (((codes "maltlink: five-tuple " ++ decimal number) ++ codes " (") ++ tuple_text t)
    ++ codes "): more than half of its packets sent are marked, and its delay_p99 is above the interval\n  arrivals are open loop, so no sender slows down at a mark; with 'noecn' CoDel drops instead\n"

-- the same, where there is one with that number
abbrev pub marks_text_of : ℕ → Option FiveTuple → List ℕ
marks_text_of number None = []
marks_text_of number (Some t) = marks_text number t

-- The note on marks: of the first five-tuple whose marks are in vain. There is none where CoDel doesn't mark.
abbrev pub marks_note : EcnUse → ℕ → Known → List ℕ
marks_note ecn_use.Drop interval known = []
marks_note ecn_use.Mark interval known =
    marks_text_of (vain_place interval known) (slice_get known.tuples (vain_place interval known))

-- The note on a run of these arrivals: that no packet came, or that marks are in vain. Mostly there is none.
abbrev pub run_note : List Arrival → ParamFields → Known → List ℕ
run_note [] p known = no_packet_text
run_note (a ∷ arrivals) p known = marks_note p.ecn p.interval known
