-- What the calls of a stream were answered with, and when a reading or a writing gives it up.
use Rattle.std.specs.Prelude.{◌≡◌, ◌≢◌, ◌<◌, ◌≤◌, ◌⊎◌, ℕ, ◌+◌, Result, Ok, Err}
use Rattle.std.specs.IoError.{error_kind}
use Rattle.std.specs.declared.io.Error.{Error}
use Rattle.std.specs.declared.io.ErrorKind.TheVariants.{Interrupted}

-- Calls of a stream, one after another, took it from the first state to the last one. So many of them were
-- interrupted, and each of the others was answered with a byte or more.
pub data Goes {S : Type 0} (Answered : S → Result ℕ Error → S → Type 0) (first : S) : ℕ → S → Type 0 where
  none : Goes Answered first 0 first
  moved : {interruptions : ℕ} {old : S} (new : S) (count : ℕ) → Goes Answered first interruptions old
      → 0 < count → Answered old (Ok count) new → Goes Answered first interruptions new
  interrupted : {interruptions : ℕ} {old : S} (new : S) (why : Error) → Goes Answered first interruptions old
      → error_kind why ≡ Interrupted → Answered old (Err why) new → Goes Answered first (interruptions + 1) new

-- After such calls there was a last one, with an answer that ends them.
pub record EndsWith {S : Type 0} (Answered : S → Result ℕ Error → S → Type 0) (Ends : ℕ → Result ℕ Error → Type 0)
    (first last : S) : Type 0 where
  pub interruptions : ℕ
  pub before : S
  pub goes : Goes Answered first interruptions before
  pub answer : Result ℕ Error
  pub answered : Answered before answer last
  pub ends : Ends interruptions answer

-- what ends a reading well, after so many interruptions: no byte, and there were no more than 1,000
abbrev pub IsEnd : ℕ → Result ℕ Error → Type 0
IsEnd interruptions answer = (answer ≡ Ok 0) × (interruptions ≤ 1000)

-- for what error a stream is given up, after so many interruptions: for one that is no interruption, and for the
-- 1,001st interruption
abbrev pub IsLast : ℕ → Error → Type 0
IsLast interruptions why = (error_kind why ≢ Interrupted) ⊎ (interruptions ≡ 1000)

-- A reader is given up after this answer: an error, and no other answer.
abbrev pub IsReadFailure : ℕ → Result ℕ Error → Type 0
IsReadFailure interruptions answer = (why : Error) × (answer ≡ Err why) × IsLast interruptions why

-- A writer is given up after this answer: an error, or that it took none of one byte or more.
abbrev pub IsWriteFailure : ℕ → Result ℕ Error → Type 0
IsWriteFailure interruptions answer = (answer ≡ Ok 0) ⊎ IsReadFailure interruptions answer

-- A writing ended well: such calls took the writer from the first state to the last one, and no more than 1,000 of
-- them were interrupted.
abbrev pub WentOn : {S : Type 0} → (S → Result ℕ Error → S → Type 0) → S → S → Type 0
WentOn Answered first last = (interruptions : ℕ) × (interruptions ≤ 1000) × Goes Answered first interruptions last
