-- How a trace's text reads, as its steps or the first fault with its row.
use Rattle.std.specs.Prelude.{◌≡◌, ◌≢◌, ◌≤◌, ◌⊎◌, ℕ, ◌+◌, Bool, true, false, List, [], ◌∷◌, ◌++◌, length, nat_lt, ◌==◌, ◌&&◌}
use Rattle.std.specs.Prelude.{Option, Some, IfSome, Result, Ok, Err, if◌then◌else◌}
use Rattle.std.specs.List.{fold}
use Rattle.std.proofs.Common.{Bor}
use Rattle.csv.specs.Reading.{ExplainsRead, Reached, Ready, default_config, error_kind, has_failed, is_flexible, is_io}
use Rattle.csv.specs.Reading.{reader_config, reader_state, reader_trim, records, source_of, strip_bom}
use Rattle.csv.specs.declared.error.Error.{Error}
use Rattle.csv.specs.declared.error.ErrorKind.{ErrorKind}
use Rattle.csv.specs.declared.error.ErrorKind.TheVariants as csv_error
use Rattle.csv.specs.declared.parser.State.TheVariants as st
use Rattle.csv.specs.declared.reader.Reader.{Reader}
use Rattle.csv.specs.declared.reader.Trim.TheVariants as trim
use Rattle.journal_core.specs.declared.step.Step.{Step}
use Rattle.row_core.specs.declared.reader.Next.{Next}
use Rattle.row_core.specs.declared.reader.Next.TheVariants as next
use Rattle.row_core.specs.declared.faults.TraceFault.{TraceFault}
use Rattle.row_core.specs.declared.faults.TraceFaultKind.{TraceFaultKind}
use Rattle.row_core.specs.declared.faults.TraceFaultKind.TheVariants.{Memory, Read, TooLarge}
use Rattle.row_core.specs.declared.reader.TraceRows.{TraceRows}
use Rattle.row_core.specs.declared.row.Version.{Version}
use Rattle.row_core.specs.declared.row.Version.TheVariants.{One}
use Rattle.row_core.specs.Rows.{◌>>=◌, field_of, step_of_row, tells_version, version_of}

-- whether a record's only field is empty: it stands for no row, and isn't counted
abbrev pub is_blank : List (List ℕ) → Bool
is_blank fields = (length fields == 1) && (length (field_of fields 0) == 0)

-- what a row reads as, a fault with the row's number
abbrev pub at_row : {A : Type 0} → ℕ → Result A TraceFaultKind → Result A TraceFault
at_row row (Ok x) = Ok x
at_row row (Err what) = Err (record { row = row; what = what })

-- What the rows so far told: the number of the next row, from 1, the version of the trace, which is 1 where no row told
-- another, and the steps that they asked for.
pub record RowsSoFar : Type 0 where
  pub next_row : ℕ
  pub version : Version
  pub steps : List Step

-- before the first row
abbrev pub no_rows : RowsSoFar
no_rows = record { next_row = 1; version = One; steps = [] }

-- behind one row more, which asks for this step
abbrev pub with_step : RowsSoFar → Step → RowsSoFar
with_step rows step = record { next_row = rows.next_row + 1; version = rows.version; steps = rows.steps ++ step ∷ [] }

-- behind one row more, which tells this version and asks for no step
abbrev pub with_version : RowsSoFar → Version → RowsSoFar
with_version rows version = record { next_row = rows.next_row + 1; version = version; steps = rows.steps }

-- These rows and one more. There are at most 1,000,000, and the first one alone can tell the version.
abbrev pub with_row_more : RowsSoFar → List (List ℕ) → Result RowsSoFar TraceFault
with_row_more rows fields =
    if nat_lt 1000000 rows.next_row then Err (record { row = rows.next_row; what = TooLarge })
    else if tells_version rows.next_row fields
    then (at_row rows.next_row (version_of fields) >>= λ version. Ok (with_version rows version))
    else (at_row rows.next_row (step_of_row rows.version fields) >>= λ step. Ok (with_step rows step))

-- the same of a record, and of rows that were refused, if there was a faulty row before
abbrev pub with_record : Result RowsSoFar TraceFault → List (List ℕ) → Result RowsSoFar TraceFault
with_record so_far fields = so_far >>= λ rows. if is_blank fields then Ok rows else with_row_more rows fields

-- what the rows of records told, or the fault of the first faulty row
unfoldable pub rows_of_records : List (List (List ℕ)) → Result RowsSoFar TraceFault
rows_of_records records = fold with_record (Ok no_rows) records

-- the steps that rows asked for, if none of them was refused
abbrev pub steps_told : Result RowsSoFar TraceFault → Result (List Step) TraceFault
steps_told so_far = so_far >>= λ rows. Ok rows.steps

-- the steps of a text, which `csv` cuts into records
abbrev pub steps_of : List ℕ → Result (List Step) TraceFault
steps_of text = steps_told (rows_of_records (records default_config (strip_bom text)))

-- the steps of a trace, which has at most 134,217,728 bytes
abbrev pub trace_of : List ℕ → Result (List Step) TraceFault
trace_of text = if nat_lt 134217728 (length text) then Err (record { row = 0; what = TooLarge }) else steps_of text

-- The text reads up to this row: no row before it is faulty.
pub record ReadsUpTo (row : ℕ) (text : List ℕ) : Type 0 where
  pub before : List (List (List ℕ))
  pub behind : List (List (List ℕ))
  pub cut : records default_config (strip_bom text) ≡ before ++ behind
  pub so_far : RowsSoFar
  pub read : rows_of_records before ≡ Ok so_far
  pub row_number : row ≡ so_far.next_row

-- a reader of `csv` over a text, and the bytes that such a text has left
abbrev pub TextReader : Type 0
TextReader = Reader (Bor (List ℕ))

abbrev pub text_left : Bor (List ℕ) → Option (List ℕ)
text_left text = Some text.now

-- The reader has read these records of a text, and reads on behind them.
pub record HasRead (text : List ℕ) (reader : TextReader) (before : List (List (List ℕ))) : Type 0 where
  pub trim : reader_trim reader ≡ trim.None
  pub ready : Ready reader
  pub flexible : is_flexible reader ≡ true
  pub config : reader_config reader ≡ default_config
  pub rest : List ℕ
  pub source : source_of text_left reader ≡ Some rest
  pub reached : Reached default_config st.StartRecord (strip_bom text) before (reader_state reader) rest

-- which answer of `csv` takes its reader over a text from one state to another
abbrev pub CsvCalls : Type 1
CsvCalls = TextReader → Result Bool Error → TextReader → Type 0

-- A reader of `csv` that stood behind these records of a text has failed at its next read: a call was answered with an
-- error of the reader underneath it. Want of memory aside it can tell no other there.
pub record FailsBehind (Cut : CsvCalls) (text : List ℕ) (before : List (List (List ℕ))) (reader : TextReader)
    : Type 0 where
  pub old : TextReader
  pub stood : HasRead text old before
  pub error : Error
  pub answered : Cut old (Err error) reader
  pub why : ExplainsRead text_left old reader false (error_kind error)
  pub io : is_io (error_kind error) ≡ true
  pub failed : has_failed reader ≡ true

-- The text reads up to this row, and there its reader of `csv` has failed.
abbrev pub FailsAtRow : CsvCalls → ℕ → List ℕ → TextReader → Type 0
FailsAtRow Cut row text reader = (upto : ReadsUpTo row text) × FailsBehind Cut text upto.before reader

-- the same of a reader of `csv` that isn't named
abbrev pub CsvFails : CsvCalls → ℕ → List ℕ → Type 0
CsvFails Cut row text = (reader : TextReader) × FailsAtRow Cut row text reader

-- Reading stopped with this fault and no fault of the text: at a row up to which the text reads, memory was wanting
-- or the reader of its records failed.
abbrev pub StopsAtRow : CsvCalls → List ℕ → TraceFault → Type 0
StopsAtRow Cut text fault =
    ((fault.what ≡ Memory) × ReadsUpTo fault.row text) ⊎ ((fault.what ≡ Read) × CsvFails Cut fault.row text)

-- The same of a whole trace, whose bytes are read first, as row 0: there its source has failed, or memory was wanting.
abbrev pub StopsReading : Type 0 → CsvCalls → List ℕ → TraceFault → Type 0
StopsReading source_failed Cut bytes fault =
    ((fault.row ≡ 0) × (((fault.what ≡ Read) × source_failed) ⊎ (fault.what ≡ Memory))) ⊎ StopsAtRow Cut bytes fault

-- The fault of a trace with these bytes: the first one of the grammar, or reading stopped before there was one.
abbrev pub IsFaultOf : Type 0 → CsvCalls → List ℕ → TraceFault → Type 0
IsFaultOf source_failed Cut bytes fault = (trace_of bytes ≡ Err fault) ⊎ StopsReading source_failed Cut bytes fault

-- which faults a trace with some bytes has
abbrev pub TraceFaults : Type 1
TraceFaults = List ℕ → TraceFault → Type 0

-- A read failed at this row of a trace, whose bytes may be known: at row 0 its source has failed, and at a later one
-- the reader of `csv` over its text.
abbrev pub ReadFails : Option (List ℕ) → Type 0 → CsvCalls → ℕ → Type 0
ReadFails known source_failed Cut row =
    ((row ≡ 0) × source_failed) ⊎ ((text : List ℕ) × IfSome known (λ bytes. text ≡ bytes) × CsvFails Cut row text)

-- the fault for an error of `csv`
abbrev pub csv_fault : ErrorKind → TraceFaultKind
csv_fault csv_error.OutOfMemory = Memory
csv_fault (csv_error.Io why) = Read
csv_fault (csv_error.Utf8 place why) = Read
csv_fault (csv_error.UnequalLengths place expected len) = Read
csv_fault (csv_error.Serialize why) = Read
csv_fault (csv_error.Deserialize place why) = Read

-- The fault of the rows of a text, with their reader of `csv`: the first one of the grammar, or want of memory or a
-- failed read at a row up to which the text reads.
abbrev pub IsRowsFault : CsvCalls → List ℕ → TextReader → TraceFault → Type 0
IsRowsFault Cut text reader fault =
    ((fault.what ≢ Read) × (steps_of text ≡ Err fault))
    ⊎ ((fault.what ≡ Memory) × ReadsUpTo fault.row text)
    ⊎ ((fault.what ≡ Read) × FailsAtRow Cut fault.row text reader)

-- the reader of `csv` under the rows of a text, and the number of their next row
abbrev pub reader_of : TraceRows → TextReader
reader_of rows = rows.records

abbrev pub next_number : TraceRows → ℕ
next_number rows = rows.row_number

-- what the rows that were taken told, where they asked for these steps
abbrev pub rows_so_far : TraceRows → List Step → RowsSoFar
rows_so_far rows steps = record { next_row = next_number rows; version = rows.version; steps = steps }

-- So many records or more of a text that is no longer than a trace were taken, which ask for these steps, and the
-- next row has its number.
pub record HasTaken (text : List ℕ) (rows : TraceRows) (turns : ℕ) (steps : List Step) : Type 0 where
  pub small : length text ≤ 134217728
  pub before : List (List (List ℕ))
  pub read : HasRead text (reader_of rows) before
  pub many : turns ≤ length before
  pub asked : rows_of_records before ≡ Ok (rows_so_far rows steps)

-- What was taken next: a row asks for one step more, a blank record or the row that tells the version for none, and at
-- the end the steps are those of the text.
abbrev pub TakesNext : TraceRows → Next → TraceRows → Type 0
TakesNext old (next.Row step) new = (text : List ℕ) (turns : ℕ) (steps : List Step)
    → HasTaken text old turns steps → HasTaken text new (turns + 1) (steps ++ step ∷ [])
TakesNext old next.NoStep new = (text : List ℕ) (turns : ℕ) (steps : List Step)
    → HasTaken text old turns steps → HasTaken text new (turns + 1) steps
TakesNext old next.End new = (text : List ℕ) (turns : ℕ) (steps : List Step)
    → HasTaken text old turns steps → steps_of text ≡ Ok steps

-- What a record says behind the rows before it: a row asks for one step more, a blank record or the row that tells the
-- version for none.
abbrev pub SaysNext : TraceRows → List (List ℕ) → Next → TraceRows → Type 0
SaysNext old fields (next.Row step) new = (steps : List Step)
    → with_record (Ok (rows_so_far old steps)) fields ≡ Ok (rows_so_far new (steps ++ step ∷ []))
SaysNext old fields next.NoStep new = (steps : List Step)
    → with_record (Ok (rows_so_far old steps)) fields ≡ Ok (rows_so_far new steps)
SaysNext old fields next.End new = ⊥

-- the fault of a record behind the rows before it: one of the grammar
abbrev pub IsRecordFault : TraceRows → List (List ℕ) → TraceFault → Type 0
IsRecordFault old fields fault = (fault.what ≢ Read) × (fault.what ≢ Memory)
    × ((steps : List Step) → with_record (Ok (rows_so_far old steps)) fields ≡ Err fault)

-- the reader of `csv` under the rows has failed
abbrev pub HasFailed : TraceRows → Type 0
HasFailed rows = has_failed (reader_of rows) ≡ true

-- a row that asks for a step is counted
abbrev pub IsRowCounted : TraceRows → Next → TraceRows → Type 0
IsRowCounted old (next.Row step) new = next_number new ≡ next_number old + 1
IsRowCounted old next.NoStep new = Unit {0}
IsRowCounted old next.End new = Unit {0}
