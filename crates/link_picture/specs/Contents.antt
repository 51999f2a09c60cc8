-- What a picture shows of the journals of two queues.
use Rattle.std.specs.Prelude.{◌≡◌, ℕ, zero, suc, ◌+◌, ◌-◌, List, [], Option, Some, None, filter_map, length, slice_get}
use Rattle.packet_core.specs.declared.packet.FiveTuple.{FiveTuple}
use Rattle.journal_core.specs.declared.event.Event.{Event}
use Rattle.link_report.specs.Packets.{Known, known_of}
use Rattle.link_picture.specs.declared.content.Content.{Content}
use Rattle.link_picture.specs.Axes.{IsAxis, first_moment, last_of_both}
use Rattle.link_picture.specs.Curves.{curves_of}
use Rattle.link_picture.specs.Lines.{AreChosen}

-- the events of a journal, and none where there is no journal
abbrev pub events_of : Option (List Event) → List Event
events_of None = []
events_of (Some events) = events

-- the five-tuples with those numbers
abbrev pub names_of : List ℕ → List FiveTuple → List FiveTuple
names_of chosen tuples = filter_map (λ number. slice_get tuples number) chosen

-- a line for each five-tuple that was chosen, and one for all others, if there are any
abbrev pub line_count : ℕ → ℕ → ℕ
line_count chosen zero = chosen
line_count chosen (suc others) = chosen + 1

-- The bins go from the first arrival to the last fate of either queue. The five-tuples with most packets are chosen. The
-- lines of the scheduler are those of its packets, and the lines of the other queue those of that one's packets, over the
-- same bins and for the same five-tuples.
pub record ShowsPackets (every : ℕ) (known fifo : Known) (content : Content) : Type 0 where
  pub axis : IsAxis every (first_moment known.packets) (last_of_both known.packets fifo.packets) content.axis
  pub chosen : AreChosen (length known.tuples) known.packets content.chosen.items
  pub names : content.names.items ≡ names_of content.chosen.items known.tuples
  pub others : content.others ≡ length known.tuples - length content.chosen.items
  pub lines : content.lines ≡ line_count (length content.chosen.items) content.others
  pub packets : content.packets ≡ length known.packets
  pub scheduler : content.scheduler.items ≡ curves_of content.axis content.chosen.items content.lines known.packets
  pub other : content.fifo.items ≡ curves_of content.axis content.chosen.items content.lines fifo.packets

-- the same of the packets of two journals
abbrev pub ShowsJournals : ℕ → List Event → List Event → Content → Type 0
ShowsJournals every events fifo content = ShowsPackets every (known_of events) (known_of fifo) content
