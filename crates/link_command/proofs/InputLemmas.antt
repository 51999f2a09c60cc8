-- The faults of an input, by the row that they are told at.
use Rattle.std.proofs.Common.{◌≡◌, ℕ, List, Option, Some, None, subst}
use Rattle.std.specs.Prelude.{IfSome}
use Rattle.std.proofs.lemmas.Option.{IfSome_then}
use Rattle.row_core.specs.Traces.{TraceFaults}
use Rattle.row_core.specs.declared.faults.TraceFault.{TraceFault}
use Rattle.link_core.specs.declared.arrival.Arrival.{Arrival}
use Rattle.link_command.specs.ArrivalTexts.{IsArrivalText, IsRowFault, IsTextFault}
use Rattle.link_command.specs.InputFaults.{IsInputFault, IsToldAs, IsToldAt}
use Rattle.link_command.specs.declared.arrivals.NoArrivals.{NoArrivals}
use Rattle.link_command.specs.declared.arrivals.NoArrivals.TheVariants as no_arrivals
use Rattle.link_command.specs.declared.faults.ProgramFault.{ProgramFault}
use Rattle.link_command.specs.declared.faults.ProgramFault.TheVariants.{CommandLine, NotUtf8, Value, Seed, Params, Row, Memory, Write}
use Rattle.link_command.specs.declared.faults.RowFault.{RowFault}
use Rattle.link_command.specs.declared.faults.RowFault.TheVariants.{Trace, NotAnArrival, TooLate, Backwards}

-- the fault of a row
pub told_at : (Is : TraceFaults) (known : Option (List ℕ)) (row : ℕ) (what : RowFault) (f : ProgramFault) → IsToldAt row what f → IfSome known (λ bytes. IsRowFault Is bytes row what)
    → IsInputFault Is known f
told_at Is known row what (Row number is found) h g = rw (h.0, h.1) g
told_at Is known row what Memory h g = tt
told_at Is known row what (CommandLine text) h g = h
told_at Is known row what NotUtf8 h g = h
told_at Is known row what (Value name why found) h g = h
told_at Is known row what (Seed found) h g = h
told_at Is known row what (Params why found) h g = h
told_at Is known row what Write h g = h

-- the fault of a text that has no arrivals
pub told_as : (Is : TraceFaults) (text : List ℕ) (none : NoArrivals) (f : ProgramFault) → IsToldAs none f → IsTextFault Is text none → IsInputFault Is (Some text) f
told_as Is text (no_arrivals.Row row what) f h g = told_at Is (Some text) row what f h g
told_as Is text no_arrivals.Memory f h g = rw h tt

-- what holds of each fault of a trace holds of each row's
row_so : (Is Also : TraceFaults) → ((bytes : List ℕ) (f : TraceFault) → Is bytes f → Also bytes f) → (text : List ℕ) (row : ℕ) (what : RowFault)
    → IsRowFault Is text row what → IsRowFault Also text row what
row_so Is Also so text row (Trace what) h = so text _ h
row_so Is Also so text row NotAnArrival h = h
row_so Is Also so text row TooLate h = h
row_so Is Also so text row Backwards h = h

-- a text that was read is the input, where that is known
pub fault_of_input : (Is Also : TraceFaults) → ((bytes : List ℕ) (f : TraceFault) → Is bytes f → Also bytes f)
    → (known : Option (List ℕ)) (text : List ℕ) (f : ProgramFault) → IfSome known (λ bytes. text ≡ bytes) → IsInputFault Is (Some text) f → IsInputFault Also known f
fault_of_input Is Also so known text (Row number what found) same h =
    IfSome_then known {Q = λ bytes. IsRowFault Also bytes number what} same (λ bytes is. rw (← is) (row_so Is Also so text number what h))
fault_of_input Is Also so known text Memory same h = tt
fault_of_input Is Also so known text (CommandLine t) same h = h
fault_of_input Is Also so known text NotUtf8 same h = h
fault_of_input Is Also so known text (Value name why found) same h = h
fault_of_input Is Also so known text (Seed found) same h = h
fault_of_input Is Also so known text (Params why found) same h = h
fault_of_input Is Also so known text Write same h = h

pub arrivals_of_input : (known : Option (List ℕ)) (text : List ℕ) (arrivals : List Arrival) → IfSome known (λ bytes. text ≡ bytes) → IsArrivalText text arrivals
    → IfSome known (λ bytes. IsArrivalText bytes arrivals)
arrivals_of_input (Some bytes) text arrivals same h = subst (λ (b : List ℕ). IsArrivalText b arrivals) same h
arrivals_of_input None text arrivals same h = tt
