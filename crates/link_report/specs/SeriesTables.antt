-- The table of bins of time: for each bin a row for each five-tuple with an arrival, a fate or a packet that waits.
use Rattle.std.specs.Prelude.{◌≡◌, ℕ, zero, suc, ◌+◌, ◌-◌, ◌*◌, ◌/◌, ◌^◌, ◌==◌, true, false, cond, List, [], ◌∷◌, ◌++◌, Option, Some, None, codes, count_by, filter, fold, if◌then◌else◌, length, map, max, min, nat_lt, option_map, replicate, slice_get, slice_index_or, slice_set}
use Rattle.std.specs.Fmt.{decimal}
use Rattle.std.specs.List.{flat_map, range_with_len}
use Rattle.codel_core.specs.declared.served.Mark.{Mark}
use Rattle.codel_core.specs.declared.served.Mark.TheVariants.{NoMark, CodelMark, Threshold}
use Rattle.journal_core.specs.declared.event.Event.{Event}
use Rattle.journal_core.specs.declared.event.Event.TheVariants.{Accepted, Sent, Dropped, Closed}
use Rattle.link_report.specs.declared.packets.PacketRecord.{PacketRecord}
use Rattle.link_report.specs.declared.series.Happenings.{Happenings}
use Rattle.link_report.specs.declared.series.Series.{Series}
use Rattle.link_report.specs.declared.table.Queue.{Queue}
use Rattle.link_report.specs.declared.table.Queue.TheVariants.{FqCodel, Fifo}
use Rattle.link_report.specs.declared.table.Table.{Table}
use Rattle.link_report.specs.FlowTables.{decimal_of}
use Rattle.link_report.specs.Packets.{known_of}
use Rattle.link_report.specs.QueueNames.{queue_name}
use Rattle.link_report.specs.Series.{bin_at}
use Rattle.link_report.specs.Tables.{HasTableText, line_of}

-- a sum, and the greatest number of 64 bits where it is above that
abbrev pub added : ℕ → ℕ → ℕ
added total more = min (total + more) (2 ^ 64 - 1)

-- nothing happened yet in the bin, and so many packets wait, with so many bytes: they have a row if there is one
abbrev pub of_waiting : ℕ → ℕ → Happenings
of_waiting waiting waiting_bytes = record {
  packets = 0;
  bytes = 0;
  sent = 0;
  sent_bytes = 0;
  dropped = 0;
  marked = 0;
  delay_sum = 0;
  delay_max = 0;
  waiting = waiting;
  waiting_bytes = waiting_bytes;
  has_row = nat_lt 0 waiting;
}

abbrev pub nothing : Happenings
nothing = of_waiting 0 0

-- what the next bin begins with
abbrev pub still_waiting : Happenings → Happenings
still_waiting h = of_waiting h.waiting h.waiting_bytes

-- a packet of that length arrived
abbrev pub with_one_arrived : Happenings → ℕ → Happenings
with_one_arrived h len = record h {
  packets = added h.packets 1;
  bytes = added h.bytes len;
  waiting = added h.waiting 1;
  waiting_bytes = added h.waiting_bytes len;
}

-- a packet of that length waits no more
abbrev pub with_one_gone : Happenings → ℕ → Happenings
with_one_gone h len = record h { waiting = h.waiting - 1; waiting_bytes = h.waiting_bytes - len }

-- packets with a mark, and one more if that is one
abbrev pub with_mark : ℕ → Mark → ℕ
with_mark marked NoMark = marked
with_mark marked CodelMark = added marked 1
with_mark marked Threshold = added marked 1

-- a packet of that length was sent after that delay
abbrev pub with_sending : Happenings → ℕ → ℕ → Mark → Happenings
with_sending h len delay mark = record (with_one_gone h len) {
  sent = added h.sent 1;
  sent_bytes = added h.sent_bytes len;
  delay_sum = min (h.delay_sum + delay) (2 ^ 128 - 1);
  delay_max = max h.delay_max delay;
  marked = with_mark h.marked mark;
}

-- a packet of that length was dropped
abbrev pub with_drop : Happenings → ℕ → Happenings
with_drop h len = record (with_one_gone h len) { dropped = added h.dropped 1 }

-- an event of that packet happened
abbrev pub with_own : PacketRecord → Happenings → Event → Happenings
with_own p h (Accepted lane id moment flow packet) = with_one_arrived h p.len
with_own p h (Sent id moment ecn mark) = with_sending h p.len (moment - p.arrived) mark
with_own p h (Dropped id moment cause) = with_drop h p.len
with_own p h (Closed moment) = h

-- the same, and the bin has a row for it
abbrev pub happened : PacketRecord → Happenings → Event → Happenings
happened p h event = record (with_own p h event) { has_row = true }

-- a number, if it has 64 bits at most
abbrev pub in_64_bits : ℕ → Option ℕ
in_64_bits n = if nat_lt n (2 ^ 64) then Some n else None

-- the mean delay, rounded down, if a packet was sent
abbrev pub delay_mean : Happenings → Option ℕ
delay_mean h = if h.sent == 0 then None else in_64_bits (h.delay_sum / h.sent)

-- the greatest delay, where there is a mean
abbrev pub delay_max : Happenings → Option ℕ
delay_max h = option_map (λ mean. h.delay_max) (delay_mean h)

abbrev pub series_header : List (List ℕ)
series_header =
    codes "queue" ∷ codes "from" ∷ codes "tuple" ∷ codes "packets" ∷ codes "bytes" ∷ codes "sent"
    ∷ codes "sent_bytes" ∷ codes "dropped" ∷ codes "marked" ∷ codes "delay_mean" ∷ codes "delay_max"
    ∷ codes "waiting" ∷ codes "waiting_bytes" ∷ []

-- the row of the five-tuple with that number, in the bin that begins at that moment
abbrev pub series_line : Queue → ℕ → ℕ → Happenings → List ℕ
series_line queue from number h = line_of (
    queue_name queue ∷ decimal from ∷ decimal number ∷ decimal h.packets ∷ decimal h.bytes ∷ decimal h.sent
    ∷ decimal h.sent_bytes ∷ decimal h.dropped ∷ decimal h.marked ∷ decimal_of (delay_mean h)
    ∷ decimal_of (delay_max h) ∷ decimal h.waiting ∷ decimal h.waiting_bytes ∷ [])

-- what happened to the five-tuple with that number
abbrev pub of_number : List Happenings → ℕ → Happenings
of_number happenings number = slice_index_or happenings number nothing

-- the numbers of the five-tuples that have a row, in ascending order
abbrev pub numbers_with_row : List Happenings → List ℕ
numbers_with_row happenings = filter (λ number. (of_number happenings number).has_row) (range_with_len 0 (length happenings))

-- their rows in a bin that begins at that moment
abbrev pub lines_at : Queue → ℕ → List Happenings → List ℕ → List ℕ
lines_at queue from happenings numbers =
    flat_map (λ number. series_line queue from number (of_number happenings number)) numbers

-- The walk over a queue's journal with bins of that width: the number of the bin, what happened in it by the numbers of
-- the five-tuples, and the rows of the bins before.
pub record Walk : Type 0 where
  pub queue : Queue
  pub every : ℕ
  pub bin : ℕ
  pub happenings : List Happenings
  pub text : List ℕ

-- the first bin of so many five-tuples
abbrev pub begun : Queue → ℕ → ℕ → Walk
begun queue every tuples = record {
  queue = queue;
  every = every;
  bin = 0;
  happenings = replicate tuples nothing;
  text = [];
}

-- where the bin begins
abbrev pub begins : Walk → ℕ
begins walk = min (walk.bin * walk.every) (2 ^ 64 - 1)

-- The bin ends: its rows are written, by five-tuple, and what waits goes on.
abbrev pub ended : Walk → Walk
ended walk = record walk {
  happenings = map still_waiting walk.happenings;
  text = walk.text ++ lines_at walk.queue (begins walk) walk.happenings (numbers_with_row walk.happenings);
}

-- so many bins later
abbrev pub later : ℕ → Walk → Walk
later zero walk = walk
later (suc count) walk = let last = later count walk in record (ended last) { bin = last.bin + 1 }

-- in that bin, after those before it
abbrev pub on_to : ℕ → Walk → Walk
on_to bin walk = record (later (bin - walk.bin) walk) { bin = bin }

-- The same with room for so many five-tuples. Nothing happened to those that are new.
abbrev pub widened : ℕ → Walk → Walk
widened tuples walk = record walk { happenings = walk.happenings ++ replicate (tuples - length walk.happenings) nothing }

-- an event of that packet happened in the bin
abbrev pub noted : PacketRecord → Walk → Event → Walk
noted p walk event = record walk {
  happenings = slice_set walk.happenings p.tuple (happened p (of_number walk.happenings p.tuple) event);
}

-- the same, if there is a packet
abbrev pub noted_of : Option PacketRecord → Walk → Event → Walk
noted_of None walk event = walk
noted_of (Some p) walk event = noted p walk event

-- with an event more, of one of these packets, in the bin of its moment
abbrev pub walk_with_event : List PacketRecord → Walk → Event → Walk
walk_with_event packets walk (Accepted lane id moment flow packet) =
    noted_of (slice_get packets id) (on_to (bin_at walk.every moment) walk) (Accepted lane id moment flow packet)
walk_with_event packets walk (Sent id moment ecn mark) =
    noted_of (slice_get packets id) (on_to (bin_at walk.every moment) walk) (Sent id moment ecn mark)
walk_with_event packets walk (Dropped id moment cause) =
    noted_of (slice_get packets id) (on_to (bin_at walk.every moment) walk) (Dropped id moment cause)
walk_with_event packets walk (Closed moment) = walk

-- the walk over events, of these packets
abbrev pub walked : Queue → ℕ → ℕ → List PacketRecord → List Event → Walk
walked queue every tuples packets events = fold (walk_with_event packets) (begun queue every tuples) events

-- the walk over a queue's journal
abbrev pub journal_walk : Queue → ℕ → List Event → Walk
journal_walk queue every events = walked queue every (length (known_of events).tuples) (known_of events).packets events

-- the rows of a queue's journal: those of the bins of its events, the last one's too
abbrev pub series_lines : Queue → ℕ → List Event → List ℕ
series_lines queue every events = (ended (journal_walk queue every events)).text

-- The table: its header, the rows of the scheduler's journal, by bin and then by five-tuple, and then those of the
-- journal of the other queue, where there is one.
abbrev pub series_text : ℕ → List Event → Option (List Event) → List ℕ
series_text every events None = line_of series_header ++ series_lines FqCodel every events
series_text every events (Some fifo) =
    (line_of series_header ++ series_lines FqCodel every events) ++ series_lines Fifo every fifo

-- what stands before a queue's rows: the header stands once, before those of the scheduler
abbrev pub heading : Queue → List ℕ
heading FqCodel = line_of series_header
heading Fifo = []

-- A queue's part of the table: the scheduler's begins with the header. The table is the scheduler's part, and then that of
-- the other queue, where there is one.
abbrev pub queue_text : Queue → ℕ → List Event → List ℕ
queue_text queue every events = heading queue ++ series_lines queue every events

-- how often a number is among some
abbrev pub times : List ℕ → ℕ → ℕ
times numbers number = count_by (λ n. n == number) numbers

-- These are the numbers of the five-tuples that have a row, each once, in any order. Where one has none, nothing happened
-- and no packet waits.
pub record AreRows (happenings : List Happenings) (numbers : List ℕ) : Type 0 where
  pub once : (number : ℕ) → times numbers number ≡ cond (of_number happenings number).has_row 1 0
  pub idle : (number : ℕ) → (of_number happenings number).has_row ≡ false
      → still_waiting (of_number happenings number) ≡ of_number happenings number

-- The series is at that place of the walk,
pub record IsIn (series : Series) (walk : Walk) : Type 0 where
  pub queue : series.queue ≡ walk.queue
  pub every : series.every ≡ walk.every
  pub bin : series.bin ≡ walk.bin
  pub happenings : series.happenings.items ≡ walk.happenings
  pub rows : AreRows walk.happenings series.rows.items

-- and the table has the rows of the bins before, behind what it had.
pub record HasRowsBefore (before : List ℕ) (series : Series) (table : Table) (walk : Walk) : Type 0 where
  pub place : IsIn series walk
  pub text : HasTableText table (before ++ walk.text)
