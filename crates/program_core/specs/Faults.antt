-- Why the program fails, and what status it ends with then.
use Rattle.std.specs.Prelude.{◌≡◌, ◌≢◌, ◌⊎◌, ◌≤◌, ◌<◌, ℕ, List, IfSome, IsOk, Option, None, Err, length}
use Rattle.std.specs.Io.KnownBytes.{Keeps}
use Rattle.packet_core.specs.Words.{params_of_words}
use Rattle.row_core.specs.Traces.{TraceFaults, trace_of}
use Rattle.row_core.specs.declared.faults.TraceFaultKind.{TraceFaultKind}
use Rattle.row_core.specs.declared.faults.TraceFaultKind.TheVariants as trace_fault
use Rattle.trace_core.specs.declared.trace_run.RunFault.{RunFault}
use Rattle.trace_core.specs.declared.trace_run.RunFault.TheVariants as run_fault
use Rattle.command_core.specs.CommandLine.{AsksForLanes, AsksForLocked, AsksForRun, IsMistake, IsMonitorCount, IsSenderCount, monitors_text, parameter_words, seed_text, senders_text}
use Rattle.run_core.specs.Journals.{AreLanesJournal, AreLockedJournal}
use Rattle.program_core.specs.Runs.{Begins, StartsJournal, BeginsReport}
use Rattle.command_core.specs.Seeds.{seed_given}
use Rattle.run_core.specs.declared.senders_fault.SendersFault.{SendersFault}
use Rattle.run_core.specs.declared.senders_fault.SendersFault.TheVariants as senders_fault
use Rattle.command_core.specs.declared.command_line.CommandFault.{CommandFault}
use Rattle.command_core.specs.declared.command_line.CommandFault.TheVariants as command_fault
use Rattle.program_core.specs.declared.faults.ProgramFault.{ProgramFault}
use Rattle.program_core.specs.declared.faults.ProgramFault.TheVariants as program_fault

-- the status for a fault of the trace: 1 where the machine failed, and 2 where the trace is wrong
abbrev pub trace_status : TraceFaultKind → ℕ
trace_status trace_fault.Read = 1
trace_status trace_fault.Memory = 1
trace_status _ = 2

-- the status for a fault: 1 where the machine failed, and 2 where something that was given is wrong
abbrev pub status_of : ProgramFault → ℕ
status_of (program_fault.CommandLine text) = 2
status_of program_fault.NotUtf8 = 2
status_of program_fault.Seed = 2
status_of (program_fault.Params fault) = 2
status_of (program_fault.Trace fault) = trace_status fault.what
status_of program_fault.Memory = 1
status_of program_fault.Write = 1
status_of program_fault.Settle = 1
status_of (program_fault.Lane lane) = 1
status_of (program_fault.Monitor monitor) = 1

-- The fault is one of the words of a run: of the seed or of a parameter.
abbrev pub IsOfWords : ProgramFault → Type 0
IsOfWords program_fault.Seed = Unit {0}
IsOfWords (program_fault.Params fault) = Unit {0}
IsOfWords (program_fault.CommandLine text) = ⊥
IsOfWords program_fault.NotUtf8 = ⊥
IsOfWords (program_fault.Trace fault) = ⊥
IsOfWords program_fault.Memory = ⊥
IsOfWords program_fault.Write = ⊥
IsOfWords program_fault.Settle = ⊥
IsOfWords (program_fault.Lane lane) = ⊥
IsOfWords (program_fault.Monitor monitor) = ⊥

-- The seed of that text and the parameters of those words are good.
pub record AreGood (seed : Option (List ℕ)) (words : List (List ℕ)) : Type 0 where
  pub seed_read : seed_given seed ≢ None
  pub params_read : IsOk (params_of_words words)

-- So is the trace: a run of it was begun.
pub record IsBegun (seed : Option (List ℕ)) (words : List (List ℕ)) (input : Option (List ℕ)) : Type 0 where
  pub good : AreGood seed words
  pub read : IfSome input (λ bytes. IsOk (trace_of bytes))

-- The words ask for a run, and their seed and their parameters are good. Without that nothing is read.
abbrev pub AsksForInput : List (List ℕ) → Type 0
AsksForInput words = AsksForRun words × AreGood (seed_text words) (parameter_words words)

-- The fault is one of a run of the input, with the seed of that text and the parameters of those words, by which the
-- writer came from what it held to what it holds. Which faults the input's bytes may have is given. The seed is looked
-- at first, then the parameters, then the input. With a failed write it holds a front of the report more, and with any
-- other fault what it held. Memory is asked for once the input was read, which has no more than 134,217,728 bytes then.
-- That it was wanting can't be said.
abbrev pub IsRunFault : TraceFaults → Option (List ℕ) → List (List ℕ) → Option (List ℕ) → Option (List ℕ)
    → Option (List ℕ) → ProgramFault → Type 0
IsRunFault Is seed words input old new program_fault.Seed = (seed_given seed ≡ None) × Keeps old new
IsRunFault Is seed words input old new (program_fault.Params fault) =
    (seed_given seed ≢ None) × (params_of_words words ≡ Err fault) × Keeps old new
IsRunFault Is seed words input old new (program_fault.Trace fault) =
    (seed_given seed ≢ None) × IsOk (params_of_words words) × IfSome input (λ bytes. Is bytes fault)
    × Keeps old new
IsRunFault Is seed words input old new program_fault.Memory =
    AreGood seed words × IfSome input (λ bytes. length bytes ≤ 134217728) × Keeps old new
IsRunFault Is seed words input old new program_fault.Write = BeginsReport seed words input old new
IsRunFault Is seed words input old new (program_fault.CommandLine text) = ⊥
IsRunFault Is seed words input old new program_fault.NotUtf8 = ⊥
IsRunFault Is seed words input old new program_fault.Settle = ⊥
IsRunFault Is seed words input old new (program_fault.Lane lane) = ⊥
IsRunFault Is seed words input old new (program_fault.Monitor monitor) = ⊥

-- The fault is one of a run by so many senders, with a front of its journal where a write failed. Seed, parameters and
-- input are looked at before a run is begun, so the others come once these are good. What the engine has may differ from
-- what the seats were told.
abbrev pub IsLockedFault : TraceFaults → Option (List ℕ) → List (List ℕ) → ℕ → Option (List ℕ) → Option (List ℕ)
    → Option (List ℕ) → ProgramFault → Type 0
IsLockedFault Is seed words senders input old new program_fault.Write =
    StartsJournal AreLockedJournal seed words senders input old new
IsLockedFault Is seed words senders input old new program_fault.Memory = IsBegun seed words input × Keeps old new
IsLockedFault Is seed words senders input old new program_fault.Settle = IsBegun seed words input × Keeps old new
IsLockedFault Is seed words senders input old new fault = IsRunFault Is seed words input old new fault

-- The same where they have lanes, with so many monitors. A sender may have more packets than its lane has room for, or
-- its lane may have no end. A monitor may have read more than the journal has.
abbrev pub IsLanesFault : TraceFaults → Option (List ℕ) → List (List ℕ) → ℕ → ℕ → Option (List ℕ)
    → Option (List ℕ) → Option (List ℕ) → ProgramFault → Type 0
IsLanesFault Is seed words senders monitors input old new program_fault.Write =
    StartsJournal AreLanesJournal seed words senders input old new
IsLanesFault Is seed words senders monitors input old new program_fault.Memory =
    IsBegun seed words input × Keeps old new
IsLanesFault Is seed words senders monitors input old new (program_fault.Lane lane) =
    (lane < senders) × IsBegun seed words input × Keeps old new
IsLanesFault Is seed words senders monitors input old new (program_fault.Monitor monitor) =
    (monitor < monitors) × IsBegun seed words input × Keeps old new
IsLanesFault Is seed words senders monitors input old new fault = IsRunFault Is seed words input old new fault

-- The fault is one of these words and this input, by which the writer came from what it held to what it holds. Of
-- the words nothing is said at want of memory, since `clap` may want it whatever they are.
abbrev pub IsFaultOn : TraceFaults → List (List ℕ) → Option (List ℕ) → Option (List ℕ) → Option (List ℕ)
    → ProgramFault → Type 0
IsFaultOn Is words input old new (program_fault.CommandLine text) = IsMistake words × Keeps old new
IsFaultOn Is words input old new program_fault.NotUtf8 = ⊥
IsFaultOn Is words input old new program_fault.Seed =
    AsksForRun words × IsRunFault Is (seed_text words) (parameter_words words) input old new program_fault.Seed
IsFaultOn Is words input old new (program_fault.Params fault) =
    AsksForRun words
    × IsRunFault Is (seed_text words) (parameter_words words) input old new (program_fault.Params fault)
IsFaultOn Is words input old new (program_fault.Trace fault) =
    AsksForRun words × IsRunFault Is (seed_text words) (parameter_words words) input old new (program_fault.Trace fault)
IsFaultOn Is words input old new program_fault.Memory = Keeps old new
IsFaultOn Is words input old new program_fault.Write = Begins words input old new
IsFaultOn Is words input old new program_fault.Settle =
    AsksForLocked words × IsBegun (seed_text words) (parameter_words words) input × Keeps old new
IsFaultOn Is words input old new (program_fault.Lane lane) =
    AsksForLanes words × ((senders : ℕ) × IsSenderCount (senders_text words) senders × (lane < senders))
    × IsBegun (seed_text words) (parameter_words words) input × Keeps old new
IsFaultOn Is words input old new (program_fault.Monitor monitor) =
    AsksForLanes words × ((monitors : ℕ) × IsMonitorCount (monitors_text words) monitors × (monitor < monitors))
    × IsBegun (seed_text words) (parameter_words words) input × Keeps old new

-- the fault of the program for one of the command line
abbrev pub command_fault_told : CommandFault → ProgramFault
command_fault_told (command_fault.Mistake text) = program_fault.CommandLine text
command_fault_told command_fault.Memory = program_fault.Memory

-- the fault of the program for one of the run
abbrev pub run_fault_told : RunFault → ProgramFault
run_fault_told (run_fault.Trace fault) = program_fault.Trace fault
run_fault_told run_fault.Memory = program_fault.Memory
run_fault_told run_fault.Write = program_fault.Write

-- the fault of the program for one of a run by senders
abbrev pub senders_fault_told : SendersFault → ProgramFault
senders_fault_told senders_fault.Memory = program_fault.Memory
senders_fault_told senders_fault.Settle = program_fault.Settle
senders_fault_told (senders_fault.Lane lane) = program_fault.Lane lane
senders_fault_told (senders_fault.Monitor monitor) = program_fault.Monitor monitor
