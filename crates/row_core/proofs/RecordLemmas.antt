-- Facts on the records that a reader has reached, and on the steps of records.
use Rattle.std.proofs.Common.{◌≡◌, ◌∙◌, ℕ, zero, suc, ◌+◌, ◌≤◌, List, [], ◌∷◌, ◌++◌, Option, Some, None, Ok, Err, true, false, length, length-append, refl, ap, sym, arith, inl, inr, ◌-◌}
use Rattle.std.specs.Prelude.{IfErr, IfOk, IfSome, Result}
use Rattle.std.specs.List.{fold}
use Rattle.std.proofs.lemmas.Bool.{cases_Bool, le-ltb}
use Rattle.std.proofs.lemmas.List.{append-nil}
use Rattle.std.proofs.lemmas.List.Folds.{fold_stays}
use Rattle.std.proofs.lemmas.List.Sums.{fold-append, fold_push}
use Rattle.std.proofs.lemmas.Option.{IfSome_then}
use Rattle.csv.specs.Machine.{Read as Cut, ends_at_end, field_after, fields_after, is_end, next_record, step}
use Rattle.csv.specs.Reading.{ExplainsRead, Reached, default_config, has_failed, is_bom, is_flexible, is_io, reader_state, records, records_from}
use Rattle.csv.specs.Reading.{stops_reader, strip_bom}
use Rattle.csv.specs.declared.error.ErrorKind.{ErrorKind}
use Rattle.csv.specs.declared.error.ErrorKind.TheVariants as csv_error
use Rattle.csv.specs.declared.parser.Config.{Config}
use Rattle.csv.specs.declared.parser.State.{State}
use Rattle.csv.specs.declared.parser.State.TheVariants as st
use Rattle.journal_core.specs.declared.step.Step.{Step}
use Rattle.row_core.specs.declared.faults.TraceFault.{TraceFault}
use Rattle.row_core.specs.declared.faults.TraceFaultKind.TheVariants.{Memory, Read}
use Rattle.row_core.specs.declared.reader.Next.{Next}
use Rattle.row_core.specs.declared.reader.Next.TheVariants as next
use Rattle.row_core.specs.declared.reader.TraceRows.{TraceRows}
use Rattle.row_core.specs.Traces.{CsvCalls, HasRead, HasTaken, IsFaultOf, IsRowsFault, ReadFails, ReadsUpTo, RowsSoFar, SaysNext, TakesNext, TextReader}
use Rattle.row_core.specs.Traces.{csv_fault, no_rows, reader_of, rows_of_records, rows_so_far, steps_of, steps_told, text_left, with_record}

-- a record leaves no more than the text behind its first byte
shorter : (cfg : Config) (s : State) (fields : List (List ℕ)) (field xs : List ℕ) (p : Cut)
    → next_record cfg s fields field xs ≡ Some p → length p.2 ≤ length xs - 1
unfolding next_record
shorter cfg s fields field [] p e = elim (cases_Bool (ends_at_end s)) [
  | inl holds ↦ let same : [] ≡ p.2 = let h = rw holds at e in cc in rw (← same) (omega arith)
  | inr fails ↦ cc (rw fails at e)
]
shorter cfg s fields field (c ∷ xs) p e = elim (cases_Bool (is_end (step cfg s c).1)) [
  | inl holds ↦ let same : xs ≡ p.2 = let h = rw holds at e in cc in rw (← same) (omega arith)
  | inr fails ↦
      let next = (step cfg s c).1 in
      let less = shorter cfg (step cfg s c).0 (fields_after next fields field) (field_after next c field) xs p (rw fails at e) in
      omega arith
]

-- at the end of the text there is one record more at most
last_one : (cfg : Config) (s s2 : State) (ys : List ℕ) (rs : List (List (List ℕ))) → Reached cfg s [] rs s2 ys → length rs ≤ 1
unfolding Reached next_record
last_one cfg s s2 ys [] h = omega arith
last_one cfg s s2 ys (r ∷ []) h = omega arith
last_one cfg s s2 ys (r ∷ r2 ∷ rs) h = elim (cases_Bool (ends_at_end s)) [
  | inl holds ↦
      let first = rw holds at h.1 in
      let state : st.StartRecord ≡ h.0.1 = cc first in
      let rest : [] ≡ h.0.2 = cc first in
      cc (rw (← state, ← rest) at h.3.1)
  | inr fails ↦ cc (rw fails at h.1)
]

-- there are at most one more records than bytes
records_few : (cfg : Config) (s s2 : State) (xs ys : List ℕ) (rs : List (List (List ℕ))) → Reached cfg s xs rs s2 ys → length rs ≤ length xs + 1
unfolding Reached
records_few cfg s s2 xs ys [] h = omega arith
records_few cfg s s2 [] ys (r ∷ rs) h = let few = last_one cfg s s2 ys (r ∷ rs) h in omega arith
records_few cfg s s2 (c ∷ xs) ys (r ∷ rs) h =
    let less = shorter cfg s [] [] (c ∷ xs) h.0 h.1 in
    let few = records_few cfg h.0.1 s2 h.0.2 ys rs h.3 in
    omega arith

-- what was reached stands at the front of the records
records-from : (cfg : Config) (n m : ℕ) (s s2 : State) (xs ys : List ℕ) (rs : List (List (List ℕ))) → n ≡ length rs + m → Reached cfg s xs rs s2 ys
    → records_from cfg n s xs ≡ rs ++ records_from cfg m s2 ys
unfolding Reached records_from
records-from cfg n m s s2 xs ys [] e h = let same : n ≡ m = omega arith in rw (same, h.0, h.1) refl
records-from cfg zero m s s2 xs ys (r ∷ rs) e h = absurd (omega arith)
records-from cfg (suc n) m s s2 xs ys (r ∷ rs) e h =
    let more = records-from cfg n m h.0.1 s2 h.0.2 ys rs (omega arith) h.3 in
    rw (h.1, h.2) (ap (λ l. h.0.0 ∷ l) more)

no-more : (cfg : Config) (m : ℕ) (s : State) (ys : List ℕ) → next_record cfg s [] [] ys ≡ None → records_from cfg m s ys ≡ []
unfolding records_from
no-more cfg zero s ys e = refl
no-more cfg (suc m) s ys e = rw e refl

-- a mark at the start aside, a text gets no longer
strip_shorter : (text : List ℕ) → length (strip_bom text) ≤ length text
unfolding strip_bom
strip_shorter [] = omega arith
strip_shorter (a ∷ []) = omega arith
strip_shorter (a ∷ b ∷ []) = omega arith
strip_shorter (a ∷ b ∷ c ∷ rest) = elim (cases_Bool (is_bom a b c)) [
  | inl holds ↦ rw holds (omega arith)
  | inr fails ↦ rw fails (omega arith)
]

-- Records that a reader has read of a text.
module _ (text : List ℕ) (reader : TextReader) (before : List (List (List ℕ))) (h : HasRead text reader before) where
  -- those behind them follow
  pub follow : (m : ℕ) × (records default_config (strip_bom text) ≡ before ++ records_from default_config m (reader_state reader) h.rest)
  follow =
      let xs = strip_bom text in
      let few = records_few default_config st.StartRecord (reader_state reader) xs h.rest before h.reached in
      let room : (m : ℕ) × (length xs + 1 ≡ length before + m) = (length xs + 1 - length before, omega arith) in
      (room.0, records-from default_config (length xs + 1) room.0 st.StartRecord (reader_state reader) xs h.rest before room.1 h.reached)

  -- where there is no further one they are all
  pub all_records : next_record default_config (reader_state reader) [] [] h.rest ≡ None → records default_config (strip_bom text) ≡ before
  all_records e = follow.1 ∙ ap (λ l. before ++ l) (no-more default_config follow.0 (reader_state reader) h.rest e) ∙ append-nil before

  -- the text reads up to the row behind them
  abbrev pub reads_up_to : (rows : RowsSoFar) → rows_of_records before ≡ Ok rows → ReadsUpTo rows.next_row text
  reads_up_to rows e =
      record { before = before; behind = records_from default_config follow.0 (reader_state reader) h.rest; cut = follow.1; so_far = rows; read = e; row_number = refl }

-- the turns of a loop over the records of a text are few
pub few_turns : (text : List ℕ) (rows : TraceRows) (turns : ℕ) (steps : List Step) → HasTaken text rows turns steps → turns ≤ 134217729
few_turns text rows turns steps taken =
    let few = records_few default_config st.StartRecord _ (strip_bom text) taken.read.rest taken.before taken.read.reached in
    let size = strip_shorter text in
    omega (arith, taken.small, taken.many)

-- The error of a failed read that isn't want of memory is one of the reader underneath, which stops.
pub io_alone : (kind : ErrorKind) (old new : TextReader) → is_flexible old ≡ true → ExplainsRead text_left old new false kind
    → csv_fault kind ≡ Read → (is_io kind ≡ true) × (stops_reader kind ≡ true)
io_alone (csv_error.Io why) old new flexible explained told = (refl, refl)
io_alone (csv_error.Utf8 place why) old new flexible explained told = cc (explained.0)
io_alone csv_error.OutOfMemory old new flexible explained told = cc told
io_alone (csv_error.UnequalLengths place expected len) old new flexible explained told = cc (flexible, explained.0)
io_alone (csv_error.Serialize why) old new flexible explained told = absurd explained
io_alone (csv_error.Deserialize place why) old new flexible explained told = absurd explained

-- want of memory stops a reader
pub memory_stops : (kind : ErrorKind) → csv_fault kind ≡ Memory → stops_reader kind ≡ true
memory_stops (csv_error.Io why) told = refl
memory_stops (csv_error.Utf8 place why) told = cc told
memory_stops csv_error.OutOfMemory told = refl
memory_stops (csv_error.UnequalLengths place expected len) told = cc told
memory_stops (csv_error.Serialize why) told = cc told
memory_stops (csv_error.Deserialize place why) told = cc told

-- a reader that reads on has not failed
pub reads_on : (text : List ℕ) (reader : TextReader) (before : List (List (List ℕ))) → HasRead text reader before → has_failed reader ≡ true → ⊥
reads_on text reader before read failed = let none = rw failed at read.source in cc none

-- what the rows with one record more told
pub record_more : (before : List (List (List ℕ))) (fields : List (List ℕ)) (rows : RowsSoFar) → rows_of_records before ≡ Ok rows
    → rows_of_records (before ++ fields ∷ []) ≡ with_record (Ok rows) fields
unfolding rows_of_records
record_more before fields rows e = fold_push with_record (Ok no_rows) before fields ∙ ap (λ so_far. with_record so_far fields) e

-- a fault of one record more is that of the text
pub fault_behind : (text : List ℕ) (reader : TextReader) (before : List (List (List ℕ))) (fields : List (List ℕ)) (rows : RowsSoFar) (fault : TraceFault)
    → HasRead text reader (before ++ fields ∷ []) → rows_of_records before ≡ Ok rows → with_record (Ok rows) fields ≡ Err fault
    → steps_of text ≡ Err fault
unfolding rows_of_records
fault_behind text reader before fields rows fault read e faulty =
    let all = follow text reader (before ++ fields ∷ []) read in
    let rest = records_from default_config all.0 (reader_state reader) read.rest in
    ap steps_told (ap (fold with_record (Ok no_rows)) all.1 ∙ fold-append with_record (Ok no_rows) (before ++ fields ∷ []) rest
    ∙ ap (λ so_far. fold with_record so_far rest) (record_more before fields rows e ∙ faulty) ∙ fold_stays with_record (Err fault) (λ x. refl) rest)

-- what holds of each value, or of each error, holds of that of a result
pub ok_then : {A E : Type 0} {P Q : A → Type 0} (r : Result A E) → IfOk r P → ((x : A) → P x → Q x) → IfOk r Q
ok_then (Ok x) holds f = f x holds
ok_then (Err e) holds f = holds

pub err_then : {A E : Type 0} {P Q : E → Type 0} (r : Result A E) → IfErr r P → ((e : E) → P e → Q e) → IfErr r Q
err_then (Ok x) holds f = holds
err_then (Err e) holds f = f e holds

-- What was taken next, where a record more was read and says so behind the rows before it.
pub takes_more : (old mid new : TraceRows) (fields : List (List ℕ)) (next : Next)
    → ((steps : List Step) → rows_so_far mid steps ≡ rows_so_far old steps)
    → ((text : List ℕ) (before : List (List (List ℕ))) → HasRead text (reader_of old) before → HasRead text (reader_of new) (before ++ fields ∷ []))
    → SaysNext mid fields next new → TakesNext old next new
takes_more old mid new fields (next.Row step) same more says = λ text turns steps taken. record {
  small = taken.small;
  before = taken.before ++ fields ∷ [];
  read = more text taken.before taken.read;
  many = omega (arith, taken.many, length-append taken.before (fields ∷ []));
  asked = record_more taken.before fields (rows_so_far old steps) taken.asked ∙ ap (λ rows. with_record (Ok rows) fields) (sym (same steps)) ∙ says steps;
}
takes_more old mid new fields next.NoStep same more says = λ text turns steps taken. record {
  small = taken.small;
  before = taken.before ++ fields ∷ [];
  read = more text taken.before taken.read;
  many = omega (arith, taken.many, length-append taken.before (fields ∷ []));
  asked = record_more taken.before fields (rows_so_far old steps) taken.asked ∙ ap (λ rows. with_record (Ok rows) fields) (sym (same steps)) ∙ says steps;
}
takes_more old mid new fields next.End same more says = absurd says

module _ (known : Option (List ℕ)) (text : List ℕ) (Cut : CsvCalls) (reader : TextReader) (fault : TraceFault)
    (same : IfSome known (λ bytes. text ≡ bytes)) (stops : IsRowsFault Cut text reader fault) where
  -- the fault of a text's rows is that of the trace
  pub rows_fault : (failed : Type 0) → length text ≤ 134217728 → IfSome known (λ bytes. IsFaultOf failed Cut bytes fault)
  rows_fault failed small = IfSome_then known same (λ bytes is. rw (← is) (elim stops [
    | inl first ↦ inl (rw (le-ltb 134217728 (length text) small) first.1)
    | inr (inl memory) ↦ inr (inr (inl memory))
    | inr (inr behind) ↦ inr (inr (inr (behind.0, (reader, behind.1))))
  ]))

  -- a failed read behind the first row is one of `csv`'s reader
  pub rows_read : (failed : Type 0) → fault.what ≡ Read → ReadFails known failed Cut fault.row
  rows_read failed is_read = inr (
    text,
    same,
    (
      reader,
      (elim stops [
        | inl first ↦ absurd (first.0 is_read)
        | inr (inl memory) ↦ cc (memory.0, is_read)
        | inr (inr behind) ↦ behind.1
      ]),
    ),
  )

-- what holds of a trace whose source hasn't failed holds whatever happened to its source
pub source_aside : (failed : Type 0) (Cut : CsvCalls) (bytes : List ℕ) (fault : TraceFault) → IsFaultOf ⊥ Cut bytes fault → IsFaultOf failed Cut bytes fault
source_aside failed Cut bytes fault (inl first) = inl first
source_aside failed Cut bytes fault (inr (inl (row, inl read))) = absurd read.1
source_aside failed Cut bytes fault (inr (inl (row, inr memory))) = inr (inl (row, inr memory))
source_aside failed Cut bytes fault (inr (inr stops)) = inr (inr stops)
