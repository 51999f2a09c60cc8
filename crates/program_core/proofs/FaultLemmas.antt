-- A fault of a run is one of the words that ask for it.
use Rattle.std.proofs.Common.{◌≡◌, ◌⊎◌, ℕ, List, Option, Result, Ok, Err, inl, inr, subst, ⊎_elim}
use Rattle.std.specs.Prelude.{IfErr}
use Rattle.command_core.specs.CommandLine.{AsksForLanes, AsksForLocked, AsksForRun, AsksForTrace, IsMonitorCount, IsSenderCount, monitors_text, parameter_words, seed_text, senders_text}
use Rattle.row_core.specs.Traces.{TraceFaults}
use Rattle.program_core.specs.Faults.{AreGood, AsksForInput, IsFaultOn, IsLanesFault, IsLockedFault, IsRunFault}
use Rattle.program_core.specs.declared.faults.ProgramFault.{ProgramFault}
use Rattle.program_core.specs.declared.faults.ProgramFault.TheVariants as program_fault

trace_on : (Is : TraceFaults) (words : List (List ℕ)) (input old new : Option (List ℕ)) (fault : ProgramFault) → AsksForTrace words
    → IsRunFault Is (seed_text words) (parameter_words words) input old new fault → IsFaultOn Is words input old new fault
trace_on Is words input old new (program_fault.CommandLine text) asked is = absurd is
trace_on Is words input old new program_fault.NotUtf8 asked is = is
trace_on Is words input old new program_fault.Seed asked is = (asked.0, is)
trace_on Is words input old new (program_fault.Params why) asked is = (asked.0, is)
trace_on Is words input old new (program_fault.Trace why) asked is = (asked.0, is)
trace_on Is words input old new program_fault.Memory asked is = is.2
trace_on Is words input old new program_fault.Write asked is = inl (asked, is)
trace_on Is words input old new program_fault.Settle asked is = absurd is
trace_on Is words input old new (program_fault.Lane lane) asked is = absurd is
trace_on Is words input old new (program_fault.Monitor monitor) asked is = absurd is

locked_on : (Is : TraceFaults) (words : List (List ℕ)) (n : ℕ) (input old new : Option (List ℕ)) (fault : ProgramFault) → IsSenderCount (senders_text words) n → AsksForLocked words
    → IsLockedFault Is (seed_text words) (parameter_words words) n input old new fault → IsFaultOn Is words input old new fault
locked_on Is words n input old new (program_fault.CommandLine text) count asked is = absurd is
locked_on Is words n input old new program_fault.NotUtf8 count asked is = is
locked_on Is words n input old new program_fault.Seed count asked is = (asked.0, is)
locked_on Is words n input old new (program_fault.Params why) count asked is = (asked.0, is)
locked_on Is words n input old new (program_fault.Trace why) count asked is = (asked.0, is)
locked_on Is words n input old new program_fault.Memory count asked is = is.1
locked_on Is words n input old new program_fault.Write count asked is = inr (inl (asked, (n, count, is)))
locked_on Is words n input old new program_fault.Settle count asked is = (asked, is.0, is.1)
locked_on Is words n input old new (program_fault.Lane lane) count asked is = absurd is
locked_on Is words n input old new (program_fault.Monitor monitor) count asked is = absurd is

lanes_on : (Is : TraceFaults) (words : List (List ℕ)) (n m : ℕ) (input old new : Option (List ℕ)) (fault : ProgramFault) → IsSenderCount (senders_text words) n
    → IsMonitorCount (monitors_text words) m → AsksForLanes words
    → IsLanesFault Is (seed_text words) (parameter_words words) n m input old new fault → IsFaultOn Is words input old new fault
lanes_on Is words n m input old new (program_fault.CommandLine text) count counted asked is = absurd is
lanes_on Is words n m input old new program_fault.NotUtf8 count counted asked is = is
lanes_on Is words n m input old new program_fault.Seed count counted asked is = (asked.0, is)
lanes_on Is words n m input old new (program_fault.Params why) count counted asked is = (asked.0, is)
lanes_on Is words n m input old new (program_fault.Trace why) count counted asked is = (asked.0, is)
lanes_on Is words n m input old new program_fault.Memory count counted asked is = is.1
lanes_on Is words n m input old new program_fault.Write count counted asked is = inr (inr (inl (asked, (n, count, is))))
lanes_on Is words n m input old new program_fault.Settle count counted asked is = absurd is
lanes_on Is words n m input old new (program_fault.Lane lane) count counted asked is = (asked, (n, count, is.0), is.1, is.2)
lanes_on Is words n m input old new (program_fault.Monitor monitor) count counted asked is = (asked, (m, counted, is.0), is.1, is.2)

-- what holds of each error that was told
err_so : {X E : Type 0} (r : Result X E) (P Q : E → Type 0) → ((e : E) → P e → Q e) → IfErr r P → IfErr r Q
err_so (Ok x) P Q so is = tt
err_so (Err e) P Q so is = so e is

-- the same where the seed and the parameters of a run are those of the words
pub trace_fault_on : (Is : TraceFaults) {X : Type 0} (words : List (List ℕ)) (seed : Option (List ℕ)) (given : List (List ℕ)) (input old new : Option (List ℕ)) (r : Result X ProgramFault)
    → seed ≡ seed_text words → given ≡ parameter_words words → AsksForTrace words
    → IfErr r (IsRunFault Is seed given input old new) → IfErr r (IsFaultOn Is words input old new)
trace_fault_on Is words seed given input old new r seed_is given_is asked is =
    err_so r (IsRunFault Is seed given input old new) (IsFaultOn Is words input old new)
    (λ fault told. trace_on Is words input old new fault asked
    (subst (λ s. IsRunFault Is s (parameter_words words) input old new fault) seed_is (subst (λ ps. IsRunFault Is seed ps input old new fault) given_is told))) is

pub locked_fault_on : (Is : TraceFaults) {X : Type 0} (words : List (List ℕ)) (seed : Option (List ℕ)) (given : List (List ℕ)) (n : ℕ) (input old new : Option (List ℕ)) (r : Result X ProgramFault)
    → seed ≡ seed_text words → given ≡ parameter_words words → IsSenderCount (senders_text words) n → AsksForLocked words
    → IfErr r (IsLockedFault Is seed given n input old new) → IfErr r (IsFaultOn Is words input old new)
locked_fault_on Is words seed given n input old new r seed_is given_is count asked is =
    err_so r (IsLockedFault Is seed given n input old new) (IsFaultOn Is words input old new)
    (λ fault told. locked_on Is words n input old new fault count asked
    (subst (λ s. IsLockedFault Is s (parameter_words words) n input old new fault) seed_is (subst (λ ps. IsLockedFault Is seed ps n input old new fault) given_is told))) is

pub lanes_fault_on : (Is : TraceFaults) {X : Type 0} (words : List (List ℕ)) (seed : Option (List ℕ)) (given : List (List ℕ)) (n m : ℕ) (input old new : Option (List ℕ)) (r : Result X ProgramFault)
    → seed ≡ seed_text words → given ≡ parameter_words words → IsSenderCount (senders_text words) n → IsMonitorCount (monitors_text words) m → AsksForLanes words
    → IfErr r (IsLanesFault Is seed given n m input old new) → IfErr r (IsFaultOn Is words input old new)
lanes_fault_on Is words seed given n m input old new r seed_is given_is count counted asked is =
    err_so r (IsLanesFault Is seed given n m input old new) (IsFaultOn Is words input old new)
    (λ fault told. lanes_on Is words n m input old new fault count counted asked
    (subst (λ s. IsLanesFault Is s (parameter_words words) n m input old new fault) seed_is (subst (λ ps. IsLanesFault Is seed ps n m input old new fault) given_is told))) is

-- the input is asked for where something of it may have been read
pub input_asked : (words : List (List ℕ)) (seed : Option (List ℕ)) (given : List (List ℕ)) (Same : Type 0)
    → seed ≡ seed_text words → given ≡ parameter_words words → AsksForRun words → AreGood seed given ⊎ Same → AsksForInput words ⊎ Same
input_asked words seed given Same seed_is given_is asked is =
    ⊎_elim (λ good. inl (asked, subst (λ s. AreGood s (parameter_words words)) seed_is (subst (λ ps. AreGood seed ps) given_is good))) (λ same. inr same) is
