-- The steps of a run by senders and a main thread that call one scheduler.
use Rattle.std.specs.Prelude.{◌≡◌, ◌≤◌, ◌<◌, ◌==◌, ◌⊎◌, ℕ, Bool, true, false, List, [], ◌∷◌, ◌++◌, Vec, if◌then◌else◌, drop, get_or, length, max, replicate, slice_index_or, take}
use Rattle.std.specs.Global.{Global}
use Rattle.std.specs.List.{flat_map}
use mathlib.Core.List.{IsPrefix}
use Rattle.packet_core.specs.Packets.{PacketParts}
use Rattle.journal_core.specs.declared.step.Step.{Step}
use Rattle.journal_core.specs.declared.step.Step.TheVariants.{Enqueue, Dequeue, Close}

-- the moment of the last step, which is that moment where there is no step
abbrev pub moment_after : ℕ → List Step → ℕ
moment_after last [] = last
moment_after last (Enqueue moment lane packet ∷ steps) = moment_after moment steps
moment_after last (Dequeue moment ∷ steps) = moment_after moment steps
moment_after last (Close moment ∷ steps) = moment_after moment steps

-- The steps that those calls make, one after the other: each at its own moment, or at the last step's where that is
-- later.
abbrev pub made_by : ℕ → List Step → List Step
made_by last [] = []
made_by last (Enqueue moment lane packet ∷ calls) =
    Enqueue (max moment last) lane packet ∷ made_by (max moment last) calls
made_by last (Dequeue moment ∷ calls) = Dequeue (max moment last) ∷ made_by (max moment last) calls
made_by last (Close moment ∷ calls) = Close (max moment last) ∷ made_by (max moment last) calls

-- the call of a sender, with its moment
abbrev pub sender_call : ℕ → Step → List (ℕ × PacketParts)
sender_call sender (Enqueue moment lane packet) = if lane == sender then (moment, packet) ∷ [] else []
sender_call sender (Dequeue moment) = []
sender_call sender (Close moment) = []

-- those of a sender among the calls, in order
abbrev pub sender_calls : ℕ → List Step → List (ℕ × PacketParts)
sender_calls sender calls = flat_map (sender_call sender) calls

-- the call of the main thread
abbrev pub main_call : Step → List Step
main_call (Enqueue moment lane packet) = []
main_call (Dequeue moment) = Dequeue moment ∷ []
main_call (Close moment) = Close moment ∷ []

-- those of the main thread among the calls, in order
abbrev pub main_calls : List Step → List Step
main_calls calls = flat_map main_call calls

-- What the main thread calls for the rows of a trace: each dequeue, and the first close, unless there was a close
-- before. Where there is none, a close comes last, at the moment of the last step.
abbrev pub main_rows : Bool → List Step → List Step
main_rows closed [] = if closed then [] else Close 0 ∷ []
main_rows closed (Enqueue moment lane packet ∷ rows) = main_rows closed rows
main_rows closed (Dequeue moment ∷ rows) = Dequeue moment ∷ main_rows closed rows
main_rows closed (Close moment ∷ rows) = if closed then main_rows true rows else Close moment ∷ main_rows true rows

-- The steps are made by some interleaving of calls: of each of so many senders the first calls that it has, and of the
-- main thread those for the rows, and then so many dequeues, at the moment of the last step.
pub record IsInterleaving (senders : ℕ) (calls_of : ℕ → List (ℕ × PacketParts)) (rows made : List Step) : Type 0 where
  pub calls : List Step
  pub in_turn : made ≡ made_by 0 calls
  pub each : (i : ℕ) → i < senders → IsPrefix (sender_calls i calls) (calls_of i)
  pub no_other : (i : ℕ) → senders ≤ i → sender_calls i calls ≡ []
  pub dequeues : ℕ
  pub main : main_calls calls ≡ main_rows false rows ++ replicate dequeues (Dequeue 0)

-- The next call of the main thread, of those that it has left, and what is left then. Where none is left, it is a
-- dequeue at the moment of the last step.
abbrev pub CallsNext : List Step → Step → List Step → Type 0
CallsNext left call rest = (left ≡ call ∷ rest) ⊎ ((left ≡ []) × (call ≡ Dequeue 0) × (rest ≡ []))

-- The main thread makes those calls, one after the other.
abbrev pub MakesMain : List Step → List Step → List Step → Type 0
MakesMain left [] rest = rest ≡ left
MakesMain left (call ∷ calls) rest = (mid : List Step) × CallsNext left call mid × MakesMain mid calls rest

-- The call is the main thread's, and it makes that step, after a step at that moment. The step has this moment.
pub record IsMadeBy (last : ℕ) (call step : Step) (moment : ℕ) : Type 0 where
  pub makes : step ∷ [] ≡ made_by last (call ∷ [])
  pub moment_is : moment ≡ moment_after last (step ∷ [])
  pub no_sender : (i : ℕ) → sender_call i call ≡ []
  pub main : main_call call ≡ call ∷ []

-- The steps have come so far through the calls that made them: the last one has this moment, so many calls of each
-- sender were met, and those of the main thread for the rows before that one.
pub record Comes (lists : List (Vec (ℕ × PacketParts) Global)) (rows before : List Step) (last : ℕ) (met : List ℕ)
    (row : ℕ) (closed : Bool) : Type 0 where
  pub calls : List Step
  pub in_turn : before ≡ made_by 0 calls
  pub last_is : last ≡ moment_after 0 before
  pub senders : (i : ℕ) (d : Vec (ℕ × PacketParts) Global) → i < length lists
      → sender_calls i calls ≡ take (get_or met i 0) (slice_index_or lists i d).items
  pub no_other : (i : ℕ) → length lists ≤ i → sender_calls i calls ≡ []
  pub main : MakesMain (main_rows false rows) (main_calls calls) (main_rows closed (drop row rows))

-- The steps may come after those that were met: they are made, one after the other, by calls of which so many of each
-- sender were met, and those of the main thread for the rows before that one. The last step before has this moment.
pub record MayCome (lists : List (Vec (ℕ × PacketParts) Global)) (rows steps : List Step) (last : ℕ) (met : List ℕ)
    (row : ℕ) (closed : Bool) : Type 0 where
  pub calls : List Step
  pub in_turn : steps ≡ made_by last calls
  pub each : (i : ℕ) (d : Vec (ℕ × PacketParts) Global) → i < length lists
      → IsPrefix (sender_calls i calls) (drop (get_or met i 0) (slice_index_or lists i d).items)
  pub no_other : (i : ℕ) → length lists ≤ i → sender_calls i calls ≡ []
  pub dequeues : ℕ
  pub main : main_calls calls ≡ main_rows closed (drop row rows) ++ replicate dequeues (Dequeue 0)
