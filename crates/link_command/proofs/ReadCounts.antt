-- How many steps a trace has, and so how many arrivals.
use Rattle.std.proofs.Common.{◌≡◌, ◌∙◌, ℕ, ◌+◌, ◌≤◌, List, [], ◌∷◌, Result, Ok, Err, ap, length, ltb, sym, arith, inl, inr}
use Rattle.std.specs.Prelude.{IfOk}
use Rattle.std.specs.List.{fold}
use Rattle.std.proofs.lemmas.Bool.{cases_Bool, ltb-false}
use Rattle.std.proofs.lemmas.List.{length-map, length_push}
use Rattle.csv.specs.Reading.{default_config, records, strip_bom}
use Rattle.journal_core.specs.declared.step.Step.{Step}
use Rattle.row_core.specs.Rows.{◌>>=◌, step_of_row, tells_version, version_of}
use Rattle.row_core.specs.Traces.{RowsSoFar, at_row, is_blank, no_rows, rows_of_records, steps_of, steps_told, trace_of, with_record, with_row_more, with_step, with_version}
use Rattle.row_core.specs.declared.faults.TraceFault.{TraceFault}
use Rattle.row_core.specs.declared.faults.TraceFaultKind.{TraceFaultKind}
use Rattle.row_core.specs.declared.row.Version.{Version}
use Rattle.link_core.specs.declared.arrival.Arrival.{Arrival}
use Rattle.link_command.specs.ArrivalTexts.{IsArrivalText, arrival_step, without_lane}

-- a row asks for one step at most, and there are at most 1,000,000 rows
record AreFewRows (rows : RowsSoFar) : Type 0 where
  pub steps : length rows.steps + 1 ≤ rows.next_row
  pub rows_few : rows.next_row ≤ 1000001

-- behind a row that tells the version
version_few : (rows : RowsSoFar) (r : Result Version TraceFaultKind) → AreFewRows rows → rows.next_row ≤ 1000000 → IfOk (at_row rows.next_row r >>= λ version. Ok (with_version rows version)) AreFewRows
version_few rows (Err what) h room = tt
version_few rows (Ok version) h room = let steps = h.steps in record { steps = omega arith; rows_few = omega arith }

-- behind a row that asks for a step
step_few : (rows : RowsSoFar) (r : Result Step TraceFaultKind) → AreFewRows rows → rows.next_row ≤ 1000000 → IfOk (at_row rows.next_row r >>= λ step. Ok (with_step rows step)) AreFewRows
step_few rows (Err what) h room = tt
step_few rows (Ok step) h room = let steps = h.steps in record { steps = omega (arith, length_push rows.steps step); rows_few = omega arith }

row_few : (rows : RowsSoFar) (fields : List (List ℕ)) → AreFewRows rows → IfOk (with_row_more rows fields) AreFewRows
row_few rows fields h = elim (cases_Bool (ltb 1000000 rows.next_row)) [
  | inl many ↦ rw many tt
  | inr few ↦
      let room = ltb-false 1000000 rows.next_row few in
      rw few (elim (cases_Bool (tells_version rows.next_row fields)) [
        | inl version ↦ rw version (version_few rows (version_of fields) h room)
        | inr step ↦ rw step (step_few rows (step_of_row rows.version fields) h room)
      ])
]

-- a blank record is no row
record_few : (so_far : Result RowsSoFar TraceFault) (fields : List (List ℕ)) → IfOk so_far AreFewRows → IfOk (with_record so_far fields) AreFewRows
record_few (Err fault) fields h = tt
record_few (Ok rows) fields h = elim (cases_Bool (is_blank fields)) [ inl blank ↦ rw blank h | inr some ↦ rw some (row_few rows fields h) ]

records_few : (so_far : Result RowsSoFar TraceFault) (all : List (List (List ℕ))) → IfOk so_far AreFewRows → IfOk (fold with_record so_far all) AreFewRows
records_few so_far [] h = h
records_few so_far (fields ∷ all) h = records_few (with_record so_far fields) all (record_few so_far fields h)

told_few : (so_far : Result RowsSoFar TraceFault) (steps : List Step) → IfOk so_far AreFewRows → steps_told so_far ≡ Ok steps → length steps ≤ 1000000
told_few (Err fault) steps h told = absurd cc
told_few (Ok rows) steps h told =
    let same : rows.steps ≡ steps = cc in
    let all = ap length same in
    omega (arith, h.steps, h.rows_few)

steps_few : (text : List ℕ) (steps : List Step) → steps_of text ≡ Ok steps → length steps ≤ 1000000
unfolding rows_of_records
steps_few text steps read =
    told_few (rows_of_records (records default_config (strip_bom text))) steps (records_few (Ok no_rows) (records default_config (strip_bom text)) (record { steps = omega arith; rows_few = omega arith })) read

-- a trace has at most a million steps
pub trace_few : (text : List ℕ) (steps : List Step) → trace_of text ≡ Ok steps → length steps ≤ 1000000
trace_few text steps read = elim (cases_Bool (ltb 134217728 (length text))) [
  | inl large ↦ absurd (let bad = rw large at read in cc)
  | inr small ↦ steps_few text steps (rw small at read)
]

-- so the arrivals of a text are no more
pub few_arrivals : (bytes : List ℕ) (arrivals : List Arrival) → IsArrivalText bytes arrivals → length arrivals ≤ 1000000
few_arrivals bytes arrivals is =
    let few = trace_few bytes is.steps is.read in
    let same : length is.steps ≡ length arrivals = sym (length-map is.steps without_lane) ∙ ap length is.same ∙ length-map arrivals arrival_step in
    omega arith
