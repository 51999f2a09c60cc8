-- The faults of a run, by the step that they come from.
use Rattle.std.proofs.Common.{◌≡◌, ◌≢◌, ◌≤◌, ◌⊎◌, ℕ, Bool, List, Option, Some, None, Result, Ok, Err, true, false, String, Global, inl, inr, refl, ap, length, subst, sym, arith, ◌*◌, ◌∙◌}
use Rattle.std.specs.Prelude.{IfErr, IfSome, IsErrAnd, option_map}
use Rattle.journal_core.specs.declared.event.Event.{Event}
use Rattle.journal_core.specs.declared.step.Step.{Step}
use Rattle.journal_core.specs.JournalLaws.{JournalLaws}
use Rattle.journal_core.specs.Runs.{Made, journal_of}
use Rattle.journal_core.specs.State.{State}
use Rattle.packet_core.specs.declared.flow.Seed.{Seed as SeedOfRun}
use Rattle.packet_core.specs.declared.packet.FiveTuple.{FiveTuple}
use Rattle.packet_core.specs.declared.params.ParamFields.{ParamFields}
use Rattle.fair_core.specs.FairQueues.{FairQueues}
use Rattle.link_core.specs.declared.arrival.Arrival.{Arrival}
use Rattle.link_core.specs.Fifo.{IsFifoJournal}
use Rattle.link_core.specs.LinkRuns.{HasRunLink, IsLinkRun}
use Rattle.link_core.specs.declared.link.LinkFields.{LinkFields}
use Rattle.sched_core.specs.Engines.{Running}
use Rattle.link_report.specs.FlowTables.{Ended, flows_text, known_flows_text, packets_of}
use Rattle.link_report.specs.declared.flows.RunPackets.{RunPackets}
use Rattle.link_report.specs.PacketTables.{known_packets_text, packets_text}
use Rattle.link_report.specs.Packets.{Known, known_of}
use Rattle.link_report.specs.declared.summary.TheConstants.{MAX_EVENTS}
use Rattle.link_report.proofs.PacketLemmas.{few_packets}
use Rattle.link_report.specs.Binnings.{AreToldInOrder}
use Rattle.link_report.specs.SeriesTables.{queue_text, series_text}
use Rattle.link_report.specs.declared.table.Queue.{Queue}
use Rattle.link_report.specs.StepTables.{steps_text}
use Rattle.link_command.specs.CommandLine.{AsksForLink, IsLinkMistake, Texts}
use Rattle.link_command.specs.FaultsOn.{IsWordsFault}
use Rattle.row_core.specs.Traces.{TraceFaults}
use Rattle.link_command.specs.InputFaults.{IsInputFault}
use Rattle.std.specs.Io.KnownBytes.{Keeps}
use Rattle.link_command.specs.Notes.{run_note}
use Rattle.link_command.specs.Runs.{FailsBy, IsBeside, IsComparedText, IsFaultOn, IsJournalOf, IsNoteOf, IsRunFault, IsTable, ended}
use Rattle.link_command.specs.RunsTold.{EndsBy, known_told}
use Rattle.link_command.specs.declared.program_run.Told.{Told}
use Rattle.link_command.specs.Values.{RunParts, SaysRun}
use Rattle.link_command.specs.declared.command_line.TableName.{TableName}
use Rattle.link_command.specs.declared.command_line.TableName.TheVariants.{Flows, Packets, Series, Steps, Svg}
use Rattle.link_command.specs.declared.faults.ProgramFault.{ProgramFault}
use Rattle.link_command.specs.declared.faults.ProgramFault.TheVariants.{CommandLine, NotUtf8, Value, Seed, Params, Row, Memory, Write}

-- Before anything is written the writer holds what it held.
pub fails_unwritten : (Is : TraceFaults) (words : List (List ℕ)) (input old new : Option (List ℕ)) (why : ProgramFault) → IsFaultOn Is words input why → Keeps old new
    → FailsBy Is words input old new why
fails_unwritten Is words input old new (CommandLine text) h kept = (h, kept)
fails_unwritten Is words input old new NotUtf8 h kept = absurd h
fails_unwritten Is words input old new (Value name what found) h kept = (h, kept)
fails_unwritten Is words input old new (Seed found) h kept = (h, kept)
fails_unwritten Is words input old new (Params what found) h kept = (h, kept)
fails_unwritten Is words input old new (Row number what found) h kept = (h, kept)
fails_unwritten Is words input old new Memory h kept = (h, kept)
fails_unwritten Is words input old new Write h kept = absurd h

-- of the words
pub words_fail : (Is : TraceFaults) (texts : Texts) (input : Option (List ℕ)) (why : ProgramFault) → IsWordsFault texts why → IsRunFault Is texts input why
words_fail Is texts input (CommandLine text) h = h
words_fail Is texts input NotUtf8 h = h
words_fail Is texts input (Value name what found) h = h
words_fail Is texts input (Seed found) h = h
words_fail Is texts input (Params what found) h = h
words_fail Is texts input (Row number what found) h = absurd h
words_fail Is texts input Memory h = tt
words_fail Is texts input Write h = h

-- of the input
pub input_fails : (Is : TraceFaults) (texts : Texts) (input : Option (List ℕ)) (run : RunParts) (why : ProgramFault) → SaysRun texts run → IsInputFault Is input why
    → IsRunFault Is texts input why
input_fails Is texts input run (CommandLine text) said h = h
input_fails Is texts input run NotUtf8 said h = h
input_fails Is texts input run (Value name what found) said h = absurd h
input_fails Is texts input run (Seed found) said h = absurd h
input_fails Is texts input run (Params what found) said h = absurd h
input_fails Is texts input run (Row number what found) said h = record { run = run; said = said; fault = h }
input_fails Is texts input run Memory said h = tt
input_fails Is texts input run Write said h = h

-- of the table, which fails for want of memory alone
pub table_fails : (Is : TraceFaults) (texts : Texts) (input : Option (List ℕ)) (why : ProgramFault) → why ≡ Memory → IsRunFault Is texts input why
table_fails Is texts input why memory = rw memory tt

-- of words that ask for a run
pub run_fails : (Is : TraceFaults) (words : List (List ℕ)) (texts : Texts) (input : Option (List ℕ)) (why : ProgramFault) → AsksForLink words texts → IsRunFault Is texts input why
    → IsFaultOn Is words input why
run_fails Is words texts input (CommandLine text) asks h = absurd h
run_fails Is words texts input NotUtf8 asks h = h
run_fails Is words texts input (Value name what found) asks h = (texts, asks, h)
run_fails Is words texts input (Seed found) asks h = (texts, asks, h)
run_fails Is words texts input (Params what found) asks h = (texts, asks, h)
run_fails Is words texts input (Row number what found) asks h = (texts, asks, h)
run_fails Is words texts input Memory asks h = tt
run_fails Is words texts input Write asks h = h

-- of words that ask for nothing
pub parse_fails : (Is : TraceFaults) (words : List (List ℕ)) (input : Option (List ℕ)) (why : ProgramFault) → (why ≡ Memory) ⊎ ((text : String Global) × (why ≡ CommandLine text))
    → ((text : String Global) → why ≡ CommandLine text → IsLinkMistake words) → IsFaultOn Is words input why
parse_fails Is words input why (inl memory) mistake = rw memory tt
parse_fails Is words input why (inr command) mistake = rw command.1 (mistake command.0 command.1)

-- want of memory is a fault of each step
pub memory_fails : {X : Type 0} (r : Result X ProgramFault) (P : ProgramFault → Type 0) → IsErrAnd r (λ why. why ≡ Memory) → P Memory → IfErr r P
memory_fails (Ok x) P h fails = tt
memory_fails (Err why) P h fails = rw h fails

-- a table of journals is one that isn't of steps
pub journal_table : (table : TableName) (has_fifo : Bool) (run : RunParts) (arrivals : List Arrival) (steps : List Step) (events : List Event) (text : List ℕ)
    → table ≢ Steps → IsComparedText table has_fifo run arrivals events text → IsTable table has_fifo run arrivals steps events text
journal_table Flows has_fifo run arrivals steps events text other is = is
journal_table Packets has_fifo run arrivals steps events text other is = is
journal_table Series has_fifo run arrivals steps events text other is = is
journal_table Steps has_fifo run arrivals steps events text other is = absurd (other refl)
journal_table Svg has_fifo run arrivals steps events text other is = is

-- and that of steps
pub steps_table : (table : TableName) (has_fifo : Bool) (run : RunParts) (arrivals : List Arrival) (steps : List Step) (events : List Event) (text : List ℕ)
    → table ≡ Steps → text ≡ steps_text steps → IsTable table has_fifo run arrivals steps events text
steps_table table has_fifo run arrivals steps events text same is = rw same is

-- the journal of an engine that made a link's steps
pub journal_of_engine : (run : RunParts) (arrivals : List Arrival) (e : Running) → HasRunLink run.params run.seed run.link arrivals e
    → IsJournalOf run arrivals e.steps e.sched.standing.events
journal_of_engine run arrivals e has = record { made = has.made; last = e.sched.standing.state; runs = has.run; journal = has.journal }

-- the journal of a FIFO stands beside one where that is asked for
pub beside_fifo : (has_fifo : Bool) (run : RunParts) (arrivals : List Arrival) (fifo : List Event) → has_fifo ≡ true → IsFifoJournal run.params run.seed run.link arrivals fifo
    → IsBeside has_fifo run arrivals (Some fifo)
beside_fifo has_fifo run arrivals fifo asked is = rw asked is

-- and none where it isn't
pub beside_none : (has_fifo : Bool) (run : RunParts) (arrivals : List Arrival) → has_fifo ≡ false → IsBeside has_fifo run arrivals None
beside_none has_fifo run arrivals alone = rw alone tt

-- a table of bins
pub bins_table : (table : TableName) (has_fifo : Bool) (run : RunParts) (arrivals : List Arrival) (steps : List Step) (events : List Event) (fifo : Option (List Event)) (text : List ℕ)
    → table ≡ Series → IsBeside has_fifo run arrivals fifo → text ≡ series_text run.every events fifo → IsTable table has_fifo run arrivals steps events text
bins_table table has_fifo run arrivals steps events fifo text same beside told = rw same (record { fifo = fifo; beside = beside; journals = told })

-- A recorder of bins was told a run's events in order, so it has their part of the table.
pub rows_told : (queue : Queue) (every : ℕ) (flow_of : FiveTuple → ℕ) (events told : List Event) (text : List ℕ) → told ≡ events → JournalLaws flow_of events → (AreToldInOrder told → text ≡ queue_text queue every told) → text ≡ queue_text queue every events
rows_told queue every flow_of events told text same laws is =
    let order : AreToldInOrder events = record { ids = laws.ids_in_order; follow = laws.fates_follow } in
    is (subst AreToldInOrder (sym same) order) ∙ ap (queue_text queue every) same

-- the tables of packets are those of the journals whose packets they are
pub flows_of_packets : (ends : List Event → ℕ) (told : Told) (fifo : Option Told) → EndsBy ends told → IfSome fifo (EndsBy ends)
    → known_flows_text (known_told told) (option_map known_told fifo) ≡ flows_text (ended ends told.events.now.events) (option_map (ended ends) (option_map (λ t. t.events.now.events) fifo))
flows_of_packets ends told None its none = ap (λ (n : ℕ). flows_text (record { of = told.events.now.events; end = n }) None) its
flows_of_packets ends told (Some fifo) its beside =
    (λ i. flows_text (record { of = told.events.now.events; end = its i }) (Some (record { of = fifo.events.now.events; end = beside i })))

pub rows_of_packets : (told : Told) (fifo : Option Told) → known_packets_text (known_of told.events.now.events) (option_map (λ t. known_of t.events.now.events) fifo) ≡ packets_text told.events.now.events (option_map (λ t. t.events.now.events) fifo)
rows_of_packets told None = refl
rows_of_packets told (Some fifo) = refl

-- so many packets as a table sums up
abbrev pub AreFew : Known → Type 0
AreFew known = length known.packets ≤ MAX_EVENTS

few_of_journal : {B : Type 0} (journal : B → List Event) (fifo : Option B) → IfSome fifo (λ e. length (journal e) ≤ MAX_EVENTS) → IfSome (option_map (λ e. known_of (journal e)) fifo) AreFew
few_of_journal journal None few = tt
few_of_journal journal (Some fifo) few = omega (arith, few_packets (journal fifo), few)

few_shown : {A : Type 0} (view : A → Known) (others : Option A) → IfSome (option_map view others) AreFew → IfSome others (λ p. AreFew (view p))
few_shown view None few = tt
few_shown view (Some others) few = few

-- a journal of few events has few packets
pub few_others : {A B : Type 0} (view : A → Known) (journal : B → List Event) (others : Option A) (fifo : Option B) → option_map view others ≡ option_map (λ e. known_of (journal e)) fifo
    → IfSome fifo (λ e. length (journal e) ≤ MAX_EVENTS) → IfSome others (λ p. AreFew (view p))
few_others view journal others fifo same few = few_shown view others (rw same (few_of_journal journal fifo few))

-- and so with its end
pub few_ended : (t : Told) (run : RunPackets) → packets_of run ≡ known_told t → length t.events.now.events ≤ MAX_EVENTS → length run.packets.now.packets ≤ MAX_EVENTS
few_ended t run is few =
    let same : run.packets.now ≡ known_of t.events.now.events = ap (λ (e : Ended Known). e.of) is in
    rw same (omega (arith, few_packets t.events.now.events, few))

pub few_ended_others : (fifo : Option Told) (runs : Option RunPackets) → option_map packets_of runs ≡ option_map known_told fifo → IfSome fifo (λ t. length t.events.now.events ≤ MAX_EVENTS) → IfSome runs (λ r. length r.packets.now.packets ≤ MAX_EVENTS)
few_ended_others fifo None is few = tt
few_ended_others None (Some run) is few = absurd cc
few_ended_others (Some t) (Some run) is few =
    let same : packets_of run ≡ known_told t = cc in
    few_ended t run same few

-- the journals of runs have few events where few packets came
pub few_of_engine : (run : RunParts) (arrivals : List Arrival) (e : Running)
    → ((p : ParamFields) (seed : SeedOfRun) (link : LinkFields) (all : List Arrival) (steps : List Step) (made : List Made) (last : State FairQueues) → IsLinkRun p seed link all steps made last → length (journal_of made) ≤ 2 * length all)
    → HasRunLink run.params run.seed run.link arrivals e → length arrivals ≤ 1000000 → length e.sched.standing.events ≤ MAX_EVENTS
few_of_engine run arrivals e law has few =
    let made = law run.params run.seed run.link arrivals e.steps has.made e.sched.standing.state has.run in
    let all = ap length has.journal in
    omega arith

-- the note on what a recorder was told is that on the engine's run
pub note_of_engine : (run : RunParts) (arrivals : List Arrival) (e : Running) (told : List Event) (note : List ℕ) → told ≡ e.sched.standing.events → HasRunLink run.params run.seed run.link arrivals e
    → note ≡ run_note arrivals run.params (known_of told) → IsNoteOf run arrivals note
note_of_engine run arrivals e told note same has is = record {
  steps = e.steps;
  events = e.sched.standing.events;
  journal = journal_of_engine run arrivals e has;
  text = is ∙ ap (λ events. run_note arrivals run.params (known_of events)) same;
}
