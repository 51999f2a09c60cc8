-- What the program writes, and what is wrong where it writes nothing.
use Rattle.std.specs.Prelude.{◌≡◌, ◌⊎◌, ℕ, Bool, true, false, List, [], Option, Some, None, IfSome, Result, option_map, take}
use Rattle.std.specs.Io.KnownBytes.{Appends, Keeps}
use Rattle.std.specs.declared.io.Error.{Error}
use Rattle.fair_core.specs.FairQueues.{FairQueues}
use Rattle.journal_core.specs.declared.event.Event.{Event}
use Rattle.journal_core.specs.declared.step.Step.{Step}
use Rattle.journal_core.specs.Runs.{Made, journal_of}
use Rattle.journal_core.specs.State.{State}
use Rattle.link_core.specs.Arrivals.{AreArrivals}
use Rattle.link_core.specs.Fifo.{IsFifoJournal}
use Rattle.link_core.specs.LinkLaws.{end_of}
use Rattle.link_core.specs.LinkRuns.{IsLinkRun}
use Rattle.link_core.specs.declared.arrival.Arrival.{Arrival}
use Rattle.link_report.specs.FlowTables.{Ended, flows_text}
use Rattle.link_report.specs.Packets.{known_of}
use Rattle.link_report.specs.PacketTables.{packets_text}
use Rattle.link_report.specs.SeriesTables.{queue_text, series_text}
use Rattle.link_report.specs.StepTables.{steps_text}
use Rattle.link_report.specs.declared.table.Queue.TheVariants.{FqCodel, Fifo}
use Rattle.link_command.specs.ArrivalTexts.{IsArrivalText}
use Rattle.link_command.specs.CommandLine.{AsksForLink, AsksForText, IsLinkMistake, Texts}
use Rattle.link_command.specs.FaultsOn.{IsWordsFault}
use Rattle.row_core.specs.Streams.{EndsWith, IsWriteFailure}
use Rattle.row_core.specs.Traces.{TraceFaults}
use Rattle.link_command.specs.InputFaults.{IsInputFault}
use Rattle.link_command.specs.Notes.{run_note}
use Rattle.link_command.specs.Values.{RunParts, SaysRun}
use Rattle.link_command.specs.declared.command_line.TableName.{TableName}
use Rattle.link_command.specs.declared.command_line.TableName.TheVariants.{Flows, Packets, Series, Steps, Svg}
use Rattle.link_command.specs.declared.faults.ProgramFault.{ProgramFault}
use Rattle.link_command.specs.declared.faults.ProgramFault.TheVariants as fault

-- The events are the journal of the link's run of these arrivals before FQ-CoDel, which makes these steps.
pub record IsJournalOf (run : RunParts) (arrivals : List Arrival) (steps : List Step) (events : List Event) : Type 0 where
  pub made : List Made
  pub last : State FairQueues
  pub runs : IsLinkRun run.params run.seed run.link arrivals steps made last
  pub journal : events ≡ journal_of made

-- The events are those of the same arrivals through a FIFO, where that is asked for.
abbrev pub IsBeside : Bool → RunParts → List Arrival → Option (List Event) → Type 0
IsBeside false run arrivals None = Unit {0}
IsBeside false run arrivals (Some events) = ⊥
IsBeside true run arrivals None = ⊥
IsBeside true run arrivals (Some events) = IsFifoJournal run.params run.seed run.link arrivals events

-- a journal with its end
abbrev pub ended : (List Event → ℕ) → List Event → Ended (List Event)
ended ends events = record { of = events; end = ends events }

-- The text is that of the table of journals, each of which has its end. Of the picture no more is said.
abbrev pub IsJournalText : TableName → ℕ → (List Event → ℕ) → List Event → Option (List Event) → List ℕ → Type 0
IsJournalText Flows every ends events fifo text = text ≡ flows_text (ended ends events) (option_map (ended ends) fifo)
IsJournalText Packets every ends events fifo text = text ≡ packets_text events fifo
IsJournalText Series every ends events fifo text = text ≡ series_text every events fifo
IsJournalText Steps every ends events fifo text = ⊥
IsJournalText Svg every ends events fifo text = Unit {0}

-- The same, of the run's journal and that of a FIFO where that is asked for. A journal ends when the link has sent its last
-- packet whole.
pub record IsComparedText (table : TableName) (has_fifo : Bool) (run : RunParts) (arrivals : List Arrival)
    (events : List Event) (text : List ℕ) : Type 0 where
  pub fifo : Option (List Event)
  pub beside : IsBeside has_fifo run arrivals fifo
  pub journals : IsJournalText table run.every (end_of run.link arrivals) events fifo text

-- The text is that of the table of the run of these arrivals: of its steps, or of its journal.
abbrev pub IsTable : TableName → Bool → RunParts → List Arrival → List Step → List Event → List ℕ → Type 0
IsTable Flows has_fifo run arrivals steps events text = IsComparedText Flows has_fifo run arrivals events text
IsTable Packets has_fifo run arrivals steps events text = IsComparedText Packets has_fifo run arrivals events text
IsTable Series has_fifo run arrivals steps events text = IsComparedText Series has_fifo run arrivals events text
IsTable Steps has_fifo run arrivals steps events text = text ≡ steps_text steps
IsTable Svg has_fifo run arrivals steps events text = IsComparedText Svg has_fifo run arrivals events text

-- The rows are the header and those of the bins of the journal of the link's run of these arrivals before FQ-CoDel.
pub record HasRunRows (run : RunParts) (arrivals : List Arrival) (rows : List ℕ) : Type 0 where
  pub steps : List Step
  pub events : List Event
  pub journal : IsJournalOf run arrivals steps events
  pub text : rows ≡ queue_text FqCodel run.every events

-- The rows are those of the bins of the journal of a FIFO's run of these arrivals.
pub record HasFifoRows (run : RunParts) (arrivals : List Arrival) (rows : List ℕ) : Type 0 where
  pub events : List Event
  pub fifo : IsFifoJournal run.params run.seed run.link arrivals events
  pub text : rows ≡ queue_text Fifo run.every events

-- The text is the trace of the steps of a run of these arrivals.
pub record IsTraceOf (run : RunParts) (arrivals : List Arrival) (text : List ℕ) : Type 0 where
  pub steps : List Step
  pub events : List Event
  pub journal : IsJournalOf run arrivals steps events
  pub trace : text ≡ steps_text steps

-- The text is the table that these texts ask for, of the link's run of these arrivals.
pub record IsTableOf (texts : Texts) (run : RunParts) (arrivals : List Arrival) (text : List ℕ) : Type 0 where
  pub steps : List Step
  pub events : List Event
  pub journal : IsJournalOf run arrivals steps events
  pub table : IsTable texts.table texts.has_fifo run arrivals steps events text

-- The same of the arrivals that the input has, where its bytes are known.
pub record IsTableFor (texts : Texts) (input : Option (List ℕ)) (text : List ℕ) : Type 0 where
  pub run : RunParts
  pub said : SaysRun texts run
  pub arrivals : List Arrival
  pub are : AreArrivals arrivals
  pub read : IfSome input (λ bytes. IsArrivalText bytes arrivals)
  pub table : IsTableOf texts run arrivals text

-- The note is that on the link's run of these arrivals.
pub record IsNoteOf (run : RunParts) (arrivals : List Arrival) (note : List ℕ) : Type 0 where
  pub steps : List Step
  pub events : List Event
  pub journal : IsJournalOf run arrivals steps events
  pub text : note ≡ run_note arrivals run.params (known_of events)

-- The same of the run that these texts ask for, and of the arrivals that the input has, where its bytes are known.
pub record IsNoteFor (texts : Texts) (input : Option (List ℕ)) (note : List ℕ) : Type 0 where
  pub run : RunParts
  pub said : SaysRun texts run
  pub arrivals : List Arrival
  pub are : AreArrivals arrivals
  pub read : IfSome input (λ bytes. IsArrivalText bytes arrivals)
  pub of_run : IsNoteOf run arrivals note

-- The words ask for that run, or for help or the version, on which there is no note.
abbrev pub IsNoteAsked : List (List ℕ) → Option (List ℕ) → List ℕ → Type 0
IsNoteAsked words input note =
    ((texts : Texts) × AsksForLink words texts × IsNoteFor texts input note) ⊎ (AsksForText words × (note ≡ []))

-- A text was written by calls of a stream: all of it, or a front of it, where its last call failed.
abbrev pub IsWritten : {S : Type 0} → (S → List ℕ → S → Type 0) → (S → Result ℕ Error → S → Type 0) → List ℕ
    → S → S → Type 0
IsWritten Wrote Answered text old new =
    Wrote old text new ⊎ (EndsWith Answered IsWriteFailure old new × ((count : ℕ) × Wrote old (take count text) new))

-- The note on what was asked for was written so.
abbrev pub IsNoted : {S : Type 0} → (S → List ℕ → S → Type 0) → (S → Result ℕ Error → S → Type 0) → List (List ℕ)
    → Option (List ℕ) → S → S → Type 0
IsNoted Wrote Answered words input old new =
    (note : List ℕ) × IsNoteAsked words input note × IsWritten Wrote Answered note old new

-- The words ask for a run, and what they say of it is good. Without that nothing is read.
abbrev pub AsksForInput : List (List ℕ) → Type 0
AsksForInput words = (texts : Texts) × AsksForLink words texts × (run : RunParts) × SaysRun texts run

-- The words ask for that table, or for help or the version, of whose text no more is said.
abbrev pub IsAsked : List (List ℕ) → Option (List ℕ) → List ℕ → Type 0
IsAsked words input text =
    ((texts : Texts) × AsksForLink words texts × IsTableFor texts input text) ⊎ AsksForText words

-- What was asked for was written behind what was there.
abbrev pub Answers : List (List ℕ) → Option (List ℕ) → Option (List ℕ) → Option (List ℕ) → Type 0
Answers words input old new = (text : List ℕ) × IsAsked words input text × Appends old new text

-- A front of it was written behind what was there.
abbrev pub Begins : List (List ℕ) → Option (List ℕ) → Option (List ℕ) → Option (List ℕ) → Type 0
Begins words input old new =
    (text : List ℕ) × IsAsked words input text × (count : ℕ) × Appends old new (take count text)

-- The texts say a run, and the fault is one of the input.
pub record FailsInInput (Is : TraceFaults) (texts : Texts) (input : Option (List ℕ)) (why : ProgramFault) : Type 0 where
  pub run : RunParts
  pub said : SaysRun texts run
  pub fault : IsInputFault Is input why

-- The fault is one of a run with these texts and this input. The texts are looked at first, then the input. After
-- these a run fails for want of memory alone: it is never too long for its table.
abbrev pub IsRunFault : TraceFaults → Texts → Option (List ℕ) → ProgramFault → Type 0
IsRunFault Is texts input (fault.Row number what found) = FailsInInput Is texts input (fault.Row number what found)
IsRunFault Is texts input (fault.CommandLine text) = ⊥
IsRunFault Is texts input fault.NotUtf8 = ⊥
IsRunFault Is texts input (fault.Value name what found) = IsWordsFault texts (fault.Value name what found)
IsRunFault Is texts input (fault.Seed found) = IsWordsFault texts (fault.Seed found)
IsRunFault Is texts input (fault.Params what found) = IsWordsFault texts (fault.Params what found)
IsRunFault Is texts input fault.Memory = Unit {0}
IsRunFault Is texts input fault.Write = ⊥

-- The fault is one of these words and this input, before anything is written. That memory was wanting can't be said.
abbrev pub IsFaultOn : TraceFaults → List (List ℕ) → Option (List ℕ) → ProgramFault → Type 0
IsFaultOn Is words input (fault.CommandLine text) = IsLinkMistake words
IsFaultOn Is words input fault.Memory = Unit {0}
IsFaultOn Is words input fault.NotUtf8 = ⊥
IsFaultOn Is words input fault.Write = ⊥
IsFaultOn Is words input (fault.Value name what found) =
    (texts : Texts) × AsksForLink words texts × IsRunFault Is texts input (fault.Value name what found)
IsFaultOn Is words input (fault.Seed found) =
    (texts : Texts) × AsksForLink words texts × IsRunFault Is texts input (fault.Seed found)
IsFaultOn Is words input (fault.Params what found) =
    (texts : Texts) × AsksForLink words texts × IsRunFault Is texts input (fault.Params what found)
IsFaultOn Is words input (fault.Row number what found) =
    (texts : Texts) × AsksForLink words texts × IsRunFault Is texts input (fault.Row number what found)

-- The same by which the writer came from what it held to what it holds: a front of what was asked for more, where a
-- write failed, and else what it held.
abbrev pub FailsBy : TraceFaults → List (List ℕ) → Option (List ℕ) → Option (List ℕ) → Option (List ℕ)
    → ProgramFault → Type 0
FailsBy Is words input old new fault.Write = Begins words input old new
FailsBy Is words input old new why = IsFaultOn Is words input why × Keeps old new
