-- What a recorder was told of a run, with the run's end.
use Rattle.std.specs.Prelude.{◌≡◌, ℕ, List}
use Rattle.journal_core.specs.declared.event.Event.{Event}
use Rattle.link_report.specs.FlowTables.{Ended}
use Rattle.link_report.specs.Packets.{Known, known_of}
use Rattle.link_command.specs.declared.program_run.Told.{Told}

-- the packets of the run, with its end
abbrev pub known_told : Told → Ended Known
known_told t = record { of = known_of t.events.now.events; end = t.end }

-- The end is the one that its events have.
abbrev pub EndsBy : (List Event → ℕ) → Told → Type 0
EndsBy ends t = t.end ≡ ends t.events.now.events
