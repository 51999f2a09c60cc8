-- What a run by senders comes to, where it wrote a journal and where it failed.
use Rattle.std.proofs.Common.{◌≡◌, ◌≢◌, ◌∙◌, ◌<◌, ◌≤◌, length, ℕ, List, Option, Some, None, Result, Ok, Err, IsOk, codes, refl, rules, subst, sym, ⊎_elim}
use Rattle.std.specs.Prelude.{IfErr, IfSome, IsErrAnd, OnOk}
use Rattle.std.specs.Io.KnownBytes.{Appends, Keeps}
use Rattle.std.proofs.KnownBytes.{Keeps-refl}
use Rattle.packet_core.specs.Words.{params_of_words}
use Rattle.packet_core.specs.declared.flow.Seed.{Seed}
use Rattle.packet_core.specs.declared.params.ParamFields.{ParamFields}
use Rattle.journal_core.specs.declared.event.Event.{Event}
use Rattle.journal_core.specs.declared.step.Step.{Step}
use Rattle.trace_core.specs.Report.{journal_text}
use Rattle.row_core.specs.Traces.{TraceFaults, trace_of}
use Rattle.trace_core.specs.declared.journal_report.SenderRow.{SenderRow}
use Rattle.trace_core.specs.declared.trace_run.RunFault.{RunFault}
use Rattle.trace_core.specs.declared.trace_run.RunFault.TheVariants as run_fault
use Rattle.command_core.specs.CommandLine.{AsksForHelp, AsksForLanes, AsksForLocked, AsksForTrace, IsMonitorCount, IsSenderCount, monitors_text, parameter_words, seed_text, senders_text}
use Rattle.row_core.specs.declared.faults.TraceFault.{TraceFault}
use Rattle.program_core.specs.Faults.{AreGood, IsBegun, IsLanesFault, IsLockedFault, IsRunFault, run_fault_told, senders_fault_told}
use Rattle.run_core.specs.SendersFaults.{IsLanesRunFault, IsLockedRunFault}
use Rattle.run_core.specs.declared.senders_fault.SendersFault.{SendersFault}
use Rattle.run_core.specs.declared.senders_fault.SendersFault.TheVariants as senders_fault
use Rattle.run_core.specs.Journals.{AreLanesJournal, AreLockedJournal, Journals}
use Rattle.program_core.specs.Runs.{AnswersSenders, AnswersWatched, BeginsReport, StartsJournal, IsJournalOf, IsSendersRunFor}
use Rattle.program_core.specs.Watched.{TellsSeenOf}
use Rattle.command_core.specs.Seeds.{seed_given}

-- a journal was made and written so
pub senders_run : (Are : Journals) (seed_words : Option (List ℕ)) (words : List (List ℕ)) (n : ℕ) (input : Option (List ℕ)) (Wrote : List ℕ → Type 0)
    (seed : Seed) (params : ParamFields) (steps : List Step) (events : List Event) (rows : List SenderRow)
    → seed_given seed_words ≡ Some seed.0 → params_of_words words ≡ Ok params → IfSome input (λ bytes. trace_of bytes ≡ Ok steps)
    → Are params seed n steps events rows → Wrote (journal_text events rows) → IsSendersRunFor Are seed_words words n input Wrote
senders_run Are seed_words words n input Wrote seed params steps events rows seed_read params_read read made wrote = record {
  seed = seed;
  params = params;
  seed_read = seed_read;
  params_read = params_read;
  journal = go input read;
}
  where
    go : (known : Option (List ℕ)) → IfSome known (λ bytes. trace_of bytes ≡ Ok steps)
        → IfSome known (λ bytes. (text : List ℕ) × IsJournalOf Are params seed n bytes text × Wrote text)
    go (Some bytes) h = (journal_text events rows, record { steps = steps; events = events; rows = rows; read = h; made = made; told = refl }, wrote)
    go None h = tt

-- the seed and the parameters were good
pub good : (seed_words : Option (List ℕ)) (words : List (List ℕ)) (seed : List ℕ) (params : ParamFields)
    → seed_given seed_words ≡ Some seed → params_of_words words ≡ Ok params → AreGood seed_words words
good seed_words words seed params seed_read params_read = record {
  seed_read = λ none. (let same : Some seed ≡ None = sym seed_read ∙ none in absurd (search (rules, same)));
  params_read = subst IsOk (sym params_read) refl;
}

-- and so was the trace
pub begun : (seed_words : Option (List ℕ)) (words : List (List ℕ)) (input : Option (List ℕ)) (seed : List ℕ) (params : ParamFields) (steps : List Step)
    → seed_given seed_words ≡ Some seed → params_of_words words ≡ Ok params → IfSome input (λ bytes. trace_of bytes ≡ Ok steps)
    → IsBegun seed_words words input
begun seed_words words input seed params steps seed_read params_read read = record {
  good = good seed_words words seed params seed_read params_read;
  read = go input read;
}
  where
    go : (known : Option (List ℕ)) → IfSome known (λ bytes. trace_of bytes ≡ Ok steps) → IfSome known (λ bytes. IsOk (trace_of bytes))
    go (Some bytes) h = subst IsOk (sym h) refl
    go None h = tt

-- a fault of the run itself
pub locked_run_fault : (Is : TraceFaults) (seed_words : Option (List ℕ)) (words : List (List ℕ)) (n : ℕ) (input old : Option (List ℕ)) (fault : SendersFault)
    → IsLockedRunFault fault → IsBegun seed_words words input → IsLockedFault Is seed_words words n input old old (senders_fault_told fault)
locked_run_fault Is seed_words words n input old senders_fault.Memory is begun' = (begun', Keeps-refl old)
locked_run_fault Is seed_words words n input old senders_fault.Settle is begun' = (begun', Keeps-refl old)
locked_run_fault Is seed_words words n input old (senders_fault.Lane lane) is begun' =
    absurd (⊎_elim (λ one. search (rules, one)) (λ other. search (rules, other)) is)
locked_run_fault Is seed_words words n input old (senders_fault.Monitor monitor) is begun' =
    absurd (⊎_elim (λ one. search (rules, one)) (λ other. search (rules, other)) is)

-- the same of a run through lanes
pub lanes_run_fault : (Is : TraceFaults) (seed_words : Option (List ℕ)) (words : List (List ℕ)) (n monitors : ℕ) (input old : Option (List ℕ)) (fault : SendersFault)
    → IsLanesRunFault n monitors fault → IsBegun seed_words words input
    → IsLanesFault Is seed_words words n monitors input old old (senders_fault_told fault)
lanes_run_fault Is seed_words words n monitors input old senders_fault.Memory is begun' = (begun', Keeps-refl old)
lanes_run_fault Is seed_words words n monitors input old senders_fault.Settle is begun' =
    absurd (⊎_elim (⊎_elim (λ one. search (rules, one)) (λ t. search (rules, t.2))) (λ t. search (rules, t.2)) is)
lanes_run_fault Is seed_words words n monitors input old (senders_fault.Lane lane) is begun' = (
  ⊎_elim
      (⊎_elim (λ one. absurd (search (rules, one))) (λ t. (let same : lane ≡ t.0 = cc t.2 in subst (λ k. k < n) (sym same) t.1)))
      (λ t. absurd (search (rules, t.2)))
      is,
  begun',
  Keeps-refl old,
)
lanes_run_fault Is seed_words words n monitors input old (senders_fault.Monitor monitor) is begun' = (
  ⊎_elim
      (⊎_elim (λ one. absurd (search (rules, one))) (λ t. absurd (search (rules, t.2))))
      (λ t. (let same : monitor ≡ t.0 = cc t.2 in subst (λ k. k < monitors) (sym same) t.1))
      is,
  begun',
  Keeps-refl old,
)

-- a fault of a run of one thread
pub plain_fault : (Is : TraceFaults) (seed_words : Option (List ℕ)) (words : List (List ℕ)) (input old new : Option (List ℕ)) (fault : RunFault)
    → AreGood seed_words words → ((why : TraceFault) → fault ≡ run_fault.Trace why → IfSome input (λ bytes. Is bytes why))
    → (fault ≡ run_fault.Write → BeginsReport seed_words words input old new) → (fault ≡ run_fault.Memory → IfSome input (λ bytes. length bytes ≤ 134217728))
    → (fault ≢ run_fault.Write → Keeps old new) → IsRunFault Is seed_words words input old new (run_fault_told fault)
plain_fault Is seed_words words input old new run_fault.Write ready trace front memory kept = front refl
plain_fault Is seed_words words input old new run_fault.Memory ready trace front memory kept = (ready, memory refl, kept (λ is. search (rules, is)))
plain_fault Is seed_words words input old new (run_fault.Trace why) ready trace front memory kept =
    (ready.seed_read, ready.params_read, trace why refl, kept (λ is. search (rules, is)))

-- a fault of the journal's writing, told as one of the run
pub locked_fault : (Is : TraceFaults) (seed_words : Option (List ℕ)) (words : List (List ℕ)) (n : ℕ) (input old new : Option (List ℕ)) (fault : RunFault)
    → IsBegun seed_words words input → (fault ≡ run_fault.Write → StartsJournal AreLockedJournal seed_words words n input old new) → (fault ≢ run_fault.Write → fault ≡ run_fault.Memory)
    → (fault ≢ run_fault.Write → Keeps old new) → IsLockedFault Is seed_words words n input old new (run_fault_told fault)
locked_fault Is seed_words words n input old new run_fault.Write begun' front memory kept = front refl
locked_fault Is seed_words words n input old new run_fault.Memory begun' front memory kept = (begun', kept (λ is. search (rules, is)))
locked_fault Is seed_words words n input old new (run_fault.Trace why) begun' front memory kept =
    let never : run_fault.Trace why ≡ run_fault.Memory = memory (λ is. search (rules, is)) in
    absurd (search (rules, never))

-- the same of a run through lanes
pub lanes_fault : (Is : TraceFaults) (seed_words : Option (List ℕ)) (words : List (List ℕ)) (n monitors : ℕ) (input old new : Option (List ℕ)) (fault : RunFault)
    → IsBegun seed_words words input → (fault ≡ run_fault.Write → StartsJournal AreLanesJournal seed_words words n input old new) → (fault ≢ run_fault.Write → fault ≡ run_fault.Memory)
    → (fault ≢ run_fault.Write → Keeps old new) → IsLanesFault Is seed_words words n monitors input old new (run_fault_told fault)
lanes_fault Is seed_words words n monitors input old new run_fault.Write begun' front memory kept = front refl
lanes_fault Is seed_words words n monitors input old new run_fault.Memory begun' front memory kept = (begun', kept (λ is. search (rules, is)))
lanes_fault Is seed_words words n monitors input old new (run_fault.Trace why) begun' front memory kept =
    let never : run_fault.Trace why ≡ run_fault.Memory = memory (λ is. search (rules, is)) in
    absurd (search (rules, never))

-- what is said of the error that a result has
pub err_told : {X E : Type 0} (r : Result X E) (e : E) (P : E → Type 0) → IsErrAnd r (λ f. f ≡ e) → P e → IfErr r P
err_told (Ok x) e P h told = tt
err_told (Err f) e P h told = rw h told

-- the answer to words that ask for a run by senders
pub answers_senders : {X E : Type 0} (Are : Journals) (words : List (List ℕ)) (input old new : Option (List ℕ)) (r : Result X E) (seed_words : Option (List ℕ))
    (given : List (List ℕ)) (n : ℕ) → seed_words ≡ seed_text words → given ≡ parameter_words words
    → IsSenderCount (senders_text words) n → OnOk r (IsSendersRunFor Are seed_words given n input (λ text. Appends old new text))
    → OnOk r (AnswersSenders Are words input old new)
answers_senders Are words input old new (Ok x) seed_words given n seed_is given_is count made = (
  n,
  count,
  subst (λ s. IsSendersRunFor Are s (parameter_words words) n input (λ text. Appends old new text)) seed_is
      (subst (λ ps. IsSendersRunFor Are seed_words ps n input (λ text. Appends old new text)) given_is made),
)
answers_senders Are words input old new (Err e) seed_words given n seed_is given_is count made = tt

-- the same with what monitors saw
pub answers_watched : {X E : Type 0} (words : List (List ℕ)) (input old new told_old told_new : Option (List ℕ)) (r : Result X E) (seed_words : Option (List ℕ))
    (given : List (List ℕ)) (n monitors : ℕ) → seed_words ≡ seed_text words → given ≡ parameter_words words
    → IsSenderCount (senders_text words) n → IsMonitorCount (monitors_text words) monitors
    → OnOk r (IsSendersRunFor AreLanesJournal seed_words given n input (λ text. Appends old new text × TellsSeenOf monitors text told_old told_new))
    → OnOk r (AsksForLanes words → AnswersWatched words input old new told_old told_new)
answers_watched words input old new told_old told_new (Ok x) seed_words given n monitors seed_is given_is count counted made = λ asked. (
  n,
  count,
  monitors,
  counted,
  subst (λ s. IsSendersRunFor AreLanesJournal s (parameter_words words) n input (λ text. Appends old new text × TellsSeenOf monitors text told_old told_new)) seed_is
      (subst (λ ps. IsSendersRunFor AreLanesJournal seed_words ps n input (λ text. Appends old new text × TellsSeenOf monitors text told_old told_new)) given_is made),
)
answers_watched words input old new told_old told_new (Err e) seed_words given n monitors seed_is given_is count counted made = tt

-- words that ask for something else ask for no lanes
pub trace_has_no_lanes : (words : List (List ℕ)) → AsksForTrace words → AsksForLanes words → ⊥
trace_has_no_lanes words trace lanes = trace.2 lanes.1

pub locked_has_no_lanes : (words : List (List ℕ)) → AsksForLocked words → AsksForLanes words → ⊥
locked_has_no_lanes words locked lanes =
    let same : Some (codes "locked") ≡ Some (codes "lanes") = sym locked.1 ∙ lanes.1 in absurd (search (rules, same))

pub help_has_no_lanes : (words : List (List ℕ)) → AsksForHelp words → AsksForLanes words → ⊥
help_has_no_lanes words help lanes = rw lanes.0 at help

-- an answer to words that ask for one of the four
pub answers_so : {X E : Type 0} (r : Result X E) (A B : Type 0) → (A → B) → OnOk r A → OnOk r B
answers_so (Ok x) A B so a = so a
answers_so (Err e) A B so a = tt

-- what holds anyway holds where there is no fault
pub on_ok : {X E : Type 0} (r : Result X E) (P : Type 0) → P → OnOk r P
on_ok (Ok x) P h = h
on_ok (Err e) P h = tt
