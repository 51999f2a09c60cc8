-- As many five-tuples can be seen as there is memory for rows.
use Rattle.std.proofs.Common.{◌≡◌, ◌⊎◌, inl, inr, ◌<◌, ◌≤◌, ℕ, Result, Ok, Err, arith, max}
use Rattle.std.proofs.lemmas.Bool.{cases_lt}
use Rattle.std.specs.Prelude.{OnErr, OnOk}
use Rattle.journal_core.specs.Tallies.{HasRowRoom}
use Rattle.journal_core.specs.declared.tuple_rows.RowsByTuple.{RowsByTuple}
use Rattle.journal_core.proofs.tally.Tally.grow.Goals as goal

pub returns-in_err-reserve-clause-room : goal.returns-in_err-reserve-clause-room
returns-in_err-reserve-clause-room c = λ had.
    let left = c.in_err-reserve.ensures in
    (rw (left.tuples, left.rows, left.places) had.0, left.room _ had.1)

-- how many five-tuples can be seen, where memory was given and where it was refused
capacity_is : {T E : Type 0} (r : Result T E) (new old wanted : ℕ) → OnOk r (new ≡ max old wanted) → OnErr r (new ≡ old) → (new ≤ old) ⊎ (new ≤ wanted)
capacity_is (Ok x) new old wanted ok err = by (cases_lt old wanted)
  where
    by : (old < wanted) ⊎ (wanted ≤ old) → (new ≤ old) ⊎ (new ≤ wanted)
    by (inl less) = inr (omega (arith, ok))
    by (inr more) = inl (omega (arith, ok))
capacity_is (Err e) new old wanted ok err = inl (omega (arith, err))

either_fits : (rows : RowsByTuple) (new old wanted : ℕ) → (new ≤ old) ⊎ (new ≤ wanted) → HasRowRoom old rows → HasRowRoom wanted rows → HasRowRoom new rows
either_fits rows new old wanted (inl less) had has = (omega (arith, had.0), omega (arith, had.1), omega (arith, had.2))
either_fits rows new old wanted (inr less) had has = (omega (arith, has.0), omega (arith, has.1), omega (arith, has.2))

pub returns-clause-room : goal.returns-clause-room
returns-clause-room c = λ had.
    let left = c.in_ok-reserve.ensures in
    let capacity = capacity_is c.reserve_exact.result _ _ _ c.reserve_exact.ensures.capacity_exact c.reserve_exact.ensures.err in
    (rw (left.tuples, left.rows, left.places) had.0, either_fits c.reserve.new.self _ _ _ capacity (left.room _ had.1) (rw c.len-2.ensures at left.ok))
