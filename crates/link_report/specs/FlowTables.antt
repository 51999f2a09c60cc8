-- The table of five-tuples.
use Rattle.std.specs.Prelude.{ℕ, ◌+◌, ◌-◌, ◌≤◌, ◌==◌, All, IfSome, List, [], ◌∷◌, ◌++◌, Option, Some, None, codes, filter, fold, max}
use Rattle.std.specs.Fmt.{decimal}
use Rattle.std.specs.List.{flat_map}
use Rattle.std.specs.Option.{option_map_or}
use Rattle.packet_core.specs.declared.packet.FiveTuple.{FiveTuple}
use Rattle.journal_core.specs.declared.event.Event.{Event}
use Rattle.link_report.specs.declared.flows.RunEvents.{RunEvents}
use Rattle.link_report.specs.declared.flows.RunPackets.{RunPackets}
use Rattle.link_report.specs.declared.packets.PacketRecord.{PacketRecord}
use Rattle.link_report.specs.declared.summary.Delays.{Delays}
use Rattle.link_report.specs.declared.summary.Summary.{Summary}
use Rattle.link_report.specs.declared.table.Queue.{Queue}
use Rattle.link_report.specs.declared.table.Queue.TheVariants.{FqCodel, Fifo}
use Rattle.link_report.specs.Groups.{GroupParts, groups_from}
use Rattle.link_report.specs.Packets.{Known, known_of, last_moment}
use Rattle.link_report.specs.QueueNames.{queue_name}
use Rattle.link_report.specs.Summaries.{summary_of}
use Rattle.link_report.specs.Tables.{address_text, line_of}

abbrev pub flows_header : List (List ℕ)
flows_header =
    codes "queue" ∷ codes "tuple" ∷ codes "proto" ∷ codes "src" ∷ codes "dst" ∷ codes "sport" ∷ codes "dport"
    ∷ codes "flow" ∷ codes "packets" ∷ codes "bytes" ∷ codes "sent" ∷ codes "sent_bytes" ∷ codes "dropped_codel"
    ∷ codes "dropped_overflow" ∷ codes "marked" ∷ codes "delay_min" ∷ codes "delay_mean" ∷ codes "delay_p50"
    ∷ codes "delay_p95" ∷ codes "delay_p99" ∷ codes "delay_max" ∷ codes "rate" ∷ []

-- the last moment of some packets, and at least the one given
abbrev pub latest : ℕ → List PacketRecord → ℕ
latest moment packets = fold (λ last p. max last (last_moment p)) moment packets

-- The time from the first arrival to the last fate, in microseconds, or to that moment where it is later. A run's end is
-- the moment at which its link has sent its last packet whole, rounded up to a microsecond.
abbrev pub span_of : ℕ → List PacketRecord → ℕ
span_of end [] = 0
span_of end (p ∷ packets) = latest end (p ∷ packets) - p.arrived

-- the flow of the first packet
abbrev pub first_flow : List PacketRecord → ℕ
first_flow [] = 0
first_flow (p ∷ packets) = p.flow

-- the digits of a number, and none where there is no number
abbrev pub decimal_of : Option ℕ → List ℕ
decimal_of value = option_map_or decimal value []

-- the fields of delays, which are empty where there are none
abbrev pub delay_fields : Option Delays → List (List ℕ)
delay_fields None = [] ∷ [] ∷ [] ∷ [] ∷ [] ∷ [] ∷ []
delay_fields (Some d) =
    decimal d.min ∷ decimal d.mean ∷ decimal d.p50 ∷ decimal d.p95 ∷ decimal d.p99 ∷ decimal d.max ∷ []

-- the fields of a summary
abbrev pub summary_fields : Summary → List (List ℕ)
summary_fields s =
    decimal s.packets ∷ decimal s.bytes ∷ decimal s.sent ∷ decimal s.sent_bytes ∷ decimal s.dropped_codel
    ∷ decimal s.dropped_overflow ∷ decimal s.marked
    ∷ (delay_fields s.delays ++ decimal_of s.rate ∷ [])

-- the row of a five-tuple, with the summary of its packets
abbrev pub group_line : Queue → ℕ → GroupParts → List ℕ
group_line queue span group = line_of (
    queue_name queue ∷ decimal group.number ∷ decimal group.tuple.proto ∷ address_text group.tuple.src
    ∷ address_text group.tuple.dst ∷ decimal group.tuple.sport ∷ decimal group.tuple.dport
    ∷ decimal (first_flow group.packets) ∷ summary_fields (summary_of span group.packets))

-- the row of all packets
abbrev pub all_line : Queue → ℕ → List PacketRecord → List ℕ
all_line queue span packets = line_of (
    queue_name queue ∷ codes "all" ∷ [] ∷ [] ∷ [] ∷ [] ∷ [] ∷ [] ∷ summary_fields (summary_of span packets))

-- the rows of the five-tuples of some packets of a run with that end, in the order of their first arrivals, and that of
-- all packets
abbrev pub known_lines : Queue → ℕ → Known → List ℕ
known_lines queue end known =
    flat_map (group_line queue (span_of end known.packets)) (groups_from 0 known.packets known.tuples)
    ++ all_line queue (span_of end known.packets) known.packets

-- the rows of a queue's journal
abbrev pub flow_lines : Queue → ℕ → List Event → List ℕ
flow_lines queue end events = known_lines queue end (known_of events)

-- something of a run, and the run's end
pub record Ended (X : Type 0) : Type 0 where
  pub of : X
  pub end : ℕ

abbrev pub events_of : RunEvents → Ended (List Event)
events_of r = record { of = r.events.now; end = r.end }

abbrev pub packets_of : RunPackets → Ended Known
packets_of r = record { of = r.packets.now; end = r.end }

-- The table: its header, the rows of the scheduler's journal, and then those of the journal of the other queue, where
-- there is one.
abbrev pub flows_text : Ended (List Event) → Option (Ended (List Event)) → List ℕ
flows_text run None = line_of flows_header ++ flow_lines FqCodel run.end run.of
flows_text run (Some fifo) =
    (line_of flows_header ++ flow_lines FqCodel run.end run.of) ++ flow_lines Fifo fifo.end fifo.of

-- the same table of the packets of journals
abbrev pub known_flows_text : Ended Known → Option (Ended Known) → List ℕ
known_flows_text run None = line_of flows_header ++ known_lines FqCodel run.end run.of
known_flows_text run (Some fifo) =
    (line_of flows_header ++ known_lines FqCodel run.end run.of) ++ known_lines Fifo fifo.end fifo.of

-- No rate in the rows of these packets exceeds so many bits a second: neither that of a five-tuple nor that of all.
pub record RatesAreWithin (most end : ℕ) (known : Known) : Type 0 where
  pub each : All (λ (g : GroupParts). IfSome (summary_of (span_of end known.packets) g.packets).rate (λ rate. rate ≤ most))
      (groups_from 0 known.packets known.tuples)
  pub all : IfSome (summary_of (span_of end known.packets) known.packets).rate (λ rate. rate ≤ most)
