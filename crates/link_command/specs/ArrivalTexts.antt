-- The arrivals that a trace has, and what is wrong with one that has others.
use Rattle.std.specs.Prelude.{◌≡◌, ℕ, ◌+◌, ◌-◌, ◌<◌, List, [], ◌∷◌, ◌++◌, Option, Some, None, Ok, get_or, length, map, nat_le, nat_lt, take, if◌then◌else◌}
use Rattle.journal_core.specs.declared.step.Step.{Step}
use Rattle.journal_core.specs.declared.step.Step.TheVariants.{Enqueue, Dequeue, Close}
use Rattle.row_core.specs.Traces.{HasTaken, TraceFaults, next_number, trace_of}
use Rattle.row_core.specs.declared.reader.TraceRows.{TraceRows}
use Rattle.row_core.specs.declared.faults.TraceFaultKind.TheVariants as kind
use Rattle.link_core.specs.Arrivals.{AreArrivals, moment_at}
use Rattle.link_core.specs.declared.arrival.Arrival.{Arrival}
use Rattle.link_core.specs.declared.arrival.TheConstants.{MAX_ARRIVAL_MOMENT}
use Rattle.link_command.specs.declared.arrivals.NoArrivals.{NoArrivals}
use Rattle.link_command.specs.declared.arrivals.NoArrivals.TheVariants as no_arrivals
use Rattle.link_command.specs.declared.faults.RowFault.{RowFault}
use Rattle.link_command.specs.declared.faults.RowFault.TheVariants.{Trace, NotAnArrival, TooLate, Backwards}

-- the step without the lane by which its packet comes: a link has one
abbrev pub without_lane : Step → Step
without_lane (Enqueue moment lane packet) = Enqueue moment 0 packet
without_lane (Dequeue moment) = Dequeue moment
without_lane (Close moment) = Close moment

-- the step of an arrival
abbrev pub arrival_step : Arrival → Step
arrival_step a = Enqueue a.moment 0 a.packet

-- The bytes are a trace whose steps are these arrivals and no others.
pub record IsArrivalText (bytes : List ℕ) (arrivals : List Arrival) : Type 0 where
  pub steps : List Step
  pub read : trace_of bytes ≡ Ok steps
  pub same : map without_lane steps ≡ map arrival_step arrivals

-- the moment of the last of some arrivals, and 0 of none
abbrev pub last_arrival_of : List Arrival → ℕ
last_arrival_of arrivals = moment_at arrivals (length arrivals - 1)

-- what is wrong with a step as an arrival after one that came at that moment, if anything is
abbrev pub step_fault : ℕ → Step → Option RowFault
step_fault last (Enqueue moment lane packet) =
    if nat_le MAX_ARRIVAL_MOMENT moment then Some TooLate
    else if nat_lt moment last then Some Backwards
    else None
step_fault last (Dequeue moment) = Some NotAnArrival
step_fault last (Close moment) = Some NotAnArrival

-- The steps before this place are arrivals, and the step at it isn't one.
pub record IsStepFault (steps : List Step) (place : ℕ) (what : RowFault) : Type 0 where
  pub within : place < length steps
  pub arrivals : List Arrival
  pub are : AreArrivals arrivals
  pub before : map without_lane (take place steps) ≡ map arrival_step arrivals
  pub fault : step_fault (last_arrival_of arrivals) (get_or steps place (Close 0)) ≡ Some what

-- The rows before this one ask for as many steps as stand before the place. This row asks for one more: the step at the
-- place.
pub record IsRowOfStep (text : List ℕ) (row place : ℕ) : Type 0 where
  pub rows : TraceRows
  pub turns : ℕ
  pub steps : List Step
  pub taken : HasTaken text rows turns steps
  pub number : row ≡ next_number rows
  pub before : length steps ≡ place
  pub step : Step
  pub after : TraceRows
  pub asked : HasTaken text after (turns + 1) (steps ++ step ∷ [])
  pub counted : next_number after ≡ row + 1

-- The text is a trace, of whose steps the one that this row asks for is the first that is no arrival.
pub record IsNoArrivalAt (text : List ℕ) (row : ℕ) (what : RowFault) : Type 0 where
  pub steps : List Step
  pub read : trace_of text ≡ Ok steps
  pub place : ℕ
  pub fault : IsStepFault steps place what
  pub row_is : IsRowOfStep text row place

-- The fault of a row, which is counted from 1. It is the first fault of the grammar of traces, or that of the first step
-- that is no arrival, where the text has no fault of the grammar. Which faults a trace has is given.
abbrev pub IsRowFault : TraceFaults → List ℕ → ℕ → RowFault → Type 0
IsRowFault Is text row (Trace what) = Is text (record { row = row; what = what })
IsRowFault Is text row NotAnArrival = IsNoArrivalAt text row NotAnArrival
IsRowFault Is text row TooLate = IsNoArrivalAt text row TooLate
IsRowFault Is text row Backwards = IsNoArrivalAt text row Backwards

-- The text is a trace.
abbrev pub IsTrace : List ℕ → Type 0
IsTrace text = (steps : List Step) × (trace_of text ≡ Ok steps)

-- The fault is the first one of the text, or no row's. It is no row's only where each row is one of a trace.
abbrev pub IsTextFault : TraceFaults → List ℕ → NoArrivals → Type 0
IsTextFault Is text (no_arrivals.Row row what) = IsRowFault Is text row what
IsTextFault Is text no_arrivals.Memory = IsTrace text

-- Memory was wanting at a row.
abbrev pub IsMemoryOfRow : NoArrivals → Type 0
IsMemoryOfRow (no_arrivals.Row row what) = what ≡ Trace kind.Memory
IsMemoryOfRow no_arrivals.Memory = ⊥

-- The fault is that of the step at this place. It is none of the grammar.
abbrev pub IsPlaceFault : List Step → ℕ → RowFault → Type 0
IsPlaceFault steps place (Trace what) = ⊥
IsPlaceFault steps place NotAnArrival = IsStepFault steps place NotAnArrival
IsPlaceFault steps place TooLate = IsStepFault steps place TooLate
IsPlaceFault steps place Backwards = IsStepFault steps place Backwards

-- The row's own fault is that of the step at this place, if it is a row's.
abbrev pub IsOwnFault : List Step → ℕ → NoArrivals → Type 0
IsOwnFault steps place (no_arrivals.Row row what) = IsPlaceFault steps place what
IsOwnFault steps place no_arrivals.Memory = Unit {0}

-- Its row is the one that asks for that step.
abbrev pub IsOwnRow : List ℕ → ℕ → NoArrivals → Type 0
IsOwnRow text place (no_arrivals.Row row what) = IsRowOfStep text row place
IsOwnRow text place no_arrivals.Memory = Unit {0}
