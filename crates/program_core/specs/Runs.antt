-- What the program answers to a command line.
use Rattle.std.specs.Prelude.{◌≡◌, ◌⊎◌, ℕ, List, IfSome, Option, Some, Ok, take}
use Rattle.std.specs.Io.KnownBytes.{Appends}
use Rattle.packet_core.specs.Words.{params_of_words}
use Rattle.packet_core.specs.declared.flow.Seed.{Seed}
use Rattle.packet_core.specs.declared.params.ParamFields.{ParamFields}
use Rattle.trace_core.specs.Report.{IsReportOf, journal_text}
use Rattle.command_core.specs.CommandLine.{AsksForHelp, AsksForLanes, AsksForLocked, AsksForTrace, IsMonitorCount, IsSenderCount, monitors_text, parameter_words, seed_text, senders_text}
use Rattle.run_core.specs.Journals.{AreLanesJournal, AreLockedJournal, Journals}
use Rattle.row_core.specs.Traces.{trace_of}
use Rattle.journal_core.specs.declared.event.Event.{Event}
use Rattle.journal_core.specs.declared.step.Step.{Step}
use Rattle.trace_core.specs.declared.journal_report.SenderRow.{SenderRow}
use Rattle.command_core.specs.Seeds.{seed_given}
use Rattle.program_core.specs.Watched.{TellsSeenOf}

-- The text of the seed and the parameter words are good, and of the report of the input with that seed and those
-- parameters this holds.
pub record IsRunFor (seed_text : Option (List ℕ)) (parameter_words : List (List ℕ)) (input : Option (List ℕ))
    (Wrote : List ℕ → Type 0) : Type 0 where
  pub seed : Seed
  pub params : ParamFields
  pub seed_read : seed_given seed_text ≡ Some seed.0
  pub params_read : params_of_words parameter_words ≡ Ok params
  pub report : IfSome input (λ bytes. (text : List ℕ) × IsReportOf params seed bytes text × Wrote text)

-- The text of the seed and the parameter words are good, and a front of the report was written behind what was there.
abbrev pub BeginsReport : Option (List ℕ) → List (List ℕ) → Option (List ℕ) → Option (List ℕ) → Option (List ℕ) → Type 0
BeginsReport seed_text parameter_words input old new =
    IsRunFor seed_text parameter_words input (λ text. (count : ℕ) × Appends old new (take count text))

-- The text is the journal of such a run of a trace with these bytes by so many senders.
pub record IsJournalOf (Are : Journals) (p : ParamFields) (seed : Seed) (senders : ℕ)
    (bytes text : List ℕ) : Type 0 where
  pub steps : List Step
  pub events : List Event
  pub rows : List SenderRow
  pub read : trace_of bytes ≡ Ok steps
  pub made : Are p seed senders steps events rows
  pub told : text ≡ journal_text events rows

-- The text of the seed and the parameter words are good, and of a journal of the input by so many senders, with that
-- seed and those parameters, this holds. Which journals these are depends on how the senders reach the scheduler.
pub record IsSendersRunFor (Are : Journals) (seed_text : Option (List ℕ))
    (parameter_words : List (List ℕ)) (senders : ℕ) (input : Option (List ℕ))
    (Wrote : List ℕ → Type 0) : Type 0 where
  pub seed : Seed
  pub params : ParamFields
  pub seed_read : seed_given seed_text ≡ Some seed.0
  pub params_read : params_of_words parameter_words ≡ Ok params
  pub journal : IfSome input (λ bytes. (text : List ℕ) × IsJournalOf Are params seed senders bytes text × Wrote text)

-- The text of the seed and the parameter words are good, and a front of a journal was written behind what was there.
abbrev pub StartsJournal : Journals → Option (List ℕ) → List (List ℕ) → ℕ → Option (List ℕ) → Option (List ℕ)
    → Option (List ℕ) → Type 0
StartsJournal Are seed_text parameter_words senders input old new =
    IsSendersRunFor Are seed_text parameter_words senders input
    (λ text. (count : ℕ) × Appends old new (take count text))

-- The words ask for a run, and its report was written behind what was there.
abbrev pub AnswersRun : List (List ℕ) → Option (List ℕ) → Option (List ℕ) → Option (List ℕ) → Type 0
AnswersRun words input old new =
    AsksForTrace words × IsRunFor (seed_text words) (parameter_words words) input (λ text. Appends old new text)

-- The words ask for a run, and a front of its report was written behind what was there.
abbrev pub BeginsRun : List (List ℕ) → Option (List ℕ) → Option (List ℕ) → Option (List ℕ) → Type 0
BeginsRun words input old new =
    AsksForTrace words × BeginsReport (seed_text words) (parameter_words words) input old new

-- The words say how many senders there are, and a journal of a run by them was written behind what was there.
abbrev pub AnswersSenders : Journals → List (List ℕ) → Option (List ℕ) → Option (List ℕ) → Option (List ℕ) → Type 0
AnswersSenders Are words input old new =
    (senders : ℕ) × IsSenderCount (senders_text words) senders
    × IsSendersRunFor Are (seed_text words) (parameter_words words) senders input (λ text. Appends old new text)

-- The words say how many senders and monitors there are. A journal of a run by these senders through lanes was written
-- behind what was there, and the lines of what the monitors saw of it behind what was told before.
abbrev pub AnswersWatched : List (List ℕ) → Option (List ℕ) → Option (List ℕ) → Option (List ℕ) → Option (List ℕ)
    → Option (List ℕ) → Type 0
AnswersWatched words input old new told_old told_new =
    (senders : ℕ) × IsSenderCount (senders_text words) senders
    × (monitors : ℕ) × IsMonitorCount (monitors_text words) monitors
    × IsSendersRunFor AreLanesJournal (seed_text words) (parameter_words words) senders input
    (λ text. Appends old new text × TellsSeenOf monitors text told_old told_new)

-- The words say how many senders there are, and a front of a journal of a run by them was written behind what was
-- there.
abbrev pub BeginsSenders : Journals → List (List ℕ) → Option (List ℕ) → Option (List ℕ) → Option (List ℕ) → Type 0
BeginsSenders Are words input old new =
    (senders : ℕ) × IsSenderCount (senders_text words) senders
    × StartsJournal Are (seed_text words) (parameter_words words) senders input old new

-- The words ask for help, and a text was written behind what was there.
abbrev pub AnswersHelp : List (List ℕ) → Option (List ℕ) → Option (List ℕ) → Type 0
AnswersHelp words old new = AsksForHelp words × (text : List ℕ) × Appends old new text

-- The words ask for help, and a front of a text was written behind what was there.
abbrev pub BeginsHelp : List (List ℕ) → Option (List ℕ) → Option (List ℕ) → Type 0
BeginsHelp words old new = AsksForHelp words × (text : List ℕ) × (count : ℕ) × Appends old new (take count text)

-- what the program writes where nothing fails
abbrev pub Answers : List (List ℕ) → Option (List ℕ) → Option (List ℕ) → Option (List ℕ) → Type 0
Answers words input old new =
    AnswersRun words input old new
    ⊎ (AsksForLocked words × AnswersSenders AreLockedJournal words input old new)
    ⊎ (AsksForLanes words × AnswersSenders AreLanesJournal words input old new)
    ⊎ AnswersHelp words old new

-- what the program has written where a write fails
abbrev pub Begins : List (List ℕ) → Option (List ℕ) → Option (List ℕ) → Option (List ℕ) → Type 0
Begins words input old new =
    BeginsRun words input old new
    ⊎ (AsksForLocked words × BeginsSenders AreLockedJournal words input old new)
    ⊎ (AsksForLanes words × BeginsSenders AreLanesJournal words input old new)
    ⊎ BeginsHelp words old new

-- The words ask for no monitors: none is the only number of them that they say.
abbrev pub IsUnwatched : List (List ℕ) → Type 0
IsUnwatched words = (monitors : ℕ) → IsMonitorCount (monitors_text words) monitors → monitors ≡ 0
