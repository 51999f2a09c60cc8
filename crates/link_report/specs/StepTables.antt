-- The steps of a run as a trace.
use Rattle.std.specs.Prelude.{ℕ, Bool, false, ◌||◌, List, [], ◌∷◌, ◌++◌, codes, if◌then◌else◌}
use Rattle.std.specs.Fmt.{decimal}
use Rattle.std.specs.List.{flat_map, list_any}
use Rattle.packet_core.specs.Packets.{PacketParts}
use Rattle.packet_core.specs.Packets as packets
use Rattle.journal_core.specs.declared.step.Step.{Step}
use Rattle.journal_core.specs.declared.step.Step.TheVariants.{Enqueue, Dequeue, Close}
use Rattle.link_report.specs.Tables.{address_text, ecn_digit, line_of}

-- the fields of the row of a packet that comes in
abbrev pub packet_fields : ℕ → PacketParts → List (List ℕ)
packet_fields moment packet =
    codes "enq" ∷ decimal moment ∷ decimal packet.tuple.proto ∷ address_text packet.tuple.src
    ∷ address_text packet.tuple.dst ∷ decimal packet.tuple.sport ∷ decimal packet.tuple.dport ∷ decimal packet.len
    ∷ ecn_digit packet.ecn ∷ []

-- the row of a step
abbrev pub step_line : Step → List ℕ
step_line (Enqueue moment lane packet) = line_of (packet_fields moment packet)
step_line (Dequeue moment) = line_of (codes "deq" ∷ decimal moment ∷ [])
step_line (Close moment) = line_of (codes "close" ∷ decimal moment ∷ [])

-- whether a step's packet has an address of IPv6
abbrev pub is_ipv6_step : Step → Bool
is_ipv6_step (Enqueue moment lane packet) = packets.is_ipv6 packet.tuple.src || packets.is_ipv6 packet.tuple.dst
is_ipv6_step (Dequeue moment) = false
is_ipv6_step (Close moment) = false

abbrev pub any_ipv6 : List Step → Bool
any_ipv6 steps = list_any is_ipv6_step steps

-- The trace: the row that names the second version, where an address is of IPv6, and then a row for each step.
abbrev pub steps_text : List Step → List ℕ
steps_text steps =
    (if any_ipv6 steps then line_of (codes "version" ∷ codes "2" ∷ []) else []) ++ flat_map step_line steps
