-- What a recorder that makes the rows of bins shows: the events that it was told.
use Rattle.std.specs.Prelude.{◌≡◌, ◌-◌, ◌^◌, ◌≤◌, ℕ, Bool, true, false, List, [], ◌∷◌, length}
use Rattle.packet_core.specs.declared.packet.Waiting.{Waiting}
use Rattle.journal_core.specs.JournalLaws.{FatesFollow, IdsInOrder}
use Rattle.journal_core.specs.MadeFor.{MadeFor, with_numbers}
use Rattle.journal_core.specs.declared.event.Event.{Event}
use Rattle.link_report.specs.declared.binned.Binned.TheInside.{Inside}
use Rattle.link_report.specs.declared.table.Queue.{Queue}
use Rattle.link_report.specs.declared.table.Queue.TheVariants as queue
use Rattle.link_report.specs.SeriesTables.{HasRowsBefore, heading, journal_walk}

-- The queue whose events it is told, and the width of its bins. Then the events, the packets sent and the packets lost that
-- it was told, and how many events more it can be told. Then whether memory was refused as it was told of one.
pub record Binning : Type 0 where
  pub queue : Queue
  pub every : ℕ
  pub events : List Event
  pub sent : List Waiting
  pub lost : List Waiting
  pub room : ℕ
  pub is_short : Bool

-- a queue as a number
abbrev pub queue_number : Queue → ℕ
queue_number queue.FqCodel = 0
queue_number queue.Fifo = 1

-- what a recorder of that queue with bins of that width is made for
abbrev pub shape_of : Queue → ℕ → MadeFor
shape_of queue every = with_numbers (queue_number queue ∷ every ∷ [])

-- what it was made for
abbrev pub binning_shape : Binning → MadeFor
binning_shape b = shape_of b.queue b.every

abbrev pub binning_of : Inside → Binning
binning_of b = record {
  queue = b.bins.value.series.queue;
  every = b.bins.value.series.every;
  events = b.gathered.events;
  sent = b.gathered.sent;
  lost = b.gathered.lost;
  room = b.gathered.room;
  is_short = b.bins.value.is_short;
}

-- The ids are 0, 1, 2 and so on, and each fate names a packet that was accepted before it. So it is in every run.
pub record AreToldInOrder (events : List Event) : Type 0 where
  pub ids : IdsInOrder events
  pub follow : FatesFollow events

-- The queue stays, and the width of bins, and what memory was refused for stays missing.
pub record GoesOn (old new : Binning) : Type 0 where
  pub queue : new.queue ≡ old.queue
  pub every : new.every ≡ old.every
  pub still : old.is_short ≡ true → new.is_short ≡ true

-- So many events more can be counted in 64 bits.
abbrev pub CanCount : Binning → ℕ → Type 0
CanCount b more = more ≤ 2 ^ 64 - 1 - length b.events

-- Packets are made of all events, unless memory was refused. Where no memory was refused, the series is at the end of the walk over the events, and the
-- rows before are written.
pub record IsBinned (b : Inside) : Type 0 where
  pub most : b.gathered.most ≡ 2 ^ 64 - 1
  pub short : b.gathered.is_short ≡ b.bins.value.is_short
  pub rows : b.bins.value.is_short ≡ false → AreToldInOrder b.gathered.events
      → HasRowsBefore (heading b.bins.value.series.queue) b.bins.value.series b.bins.value.table
      (journal_walk b.bins.value.series.queue b.bins.value.series.every b.gathered.events)
