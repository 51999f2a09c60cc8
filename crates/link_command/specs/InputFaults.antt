-- The faults of an input.
use Rattle.std.specs.Prelude.{◌≡◌, ℕ, List, Option, IfSome}
use Rattle.row_core.specs.Traces.{TraceFaults}
use Rattle.link_command.specs.ArrivalTexts.{IsRowFault}
use Rattle.link_command.specs.declared.arrivals.NoArrivals.{NoArrivals}
use Rattle.link_command.specs.declared.arrivals.NoArrivals.TheVariants as no_arrivals
use Rattle.link_command.specs.declared.faults.ProgramFault.{ProgramFault}
use Rattle.link_command.specs.declared.faults.ProgramFault.TheVariants as fault
use Rattle.link_command.specs.declared.faults.RowFault.{RowFault}

-- The fault is that of this row, or memory for it was wanting.
abbrev pub IsToldAt : ℕ → RowFault → ProgramFault → Type 0
IsToldAt row what (fault.Row number is found) = (number ≡ row) × (is ≡ what)
IsToldAt row what fault.Memory = Unit {0}
IsToldAt row what (fault.CommandLine text) = ⊥
IsToldAt row what fault.NotUtf8 = ⊥
IsToldAt row what (fault.Value name why found) = ⊥
IsToldAt row what (fault.Seed found) = ⊥
IsToldAt row what (fault.Params why found) = ⊥
IsToldAt row what fault.Write = ⊥

-- The fault is that of the row, or want of memory where no row is wrong.
abbrev pub IsToldAs : NoArrivals → ProgramFault → Type 0
IsToldAs (no_arrivals.Row row what) told = IsToldAt row what told
IsToldAs no_arrivals.Memory told = told ≡ fault.Memory

-- The fault is one of arrivals with these bytes, where they are known. That memory was wanting can't be said.
abbrev pub IsInputFault : TraceFaults → Option (List ℕ) → ProgramFault → Type 0
IsInputFault Is input (fault.Row number what found) = IfSome input (λ bytes. IsRowFault Is bytes number what)
IsInputFault Is input fault.Memory = Unit {0}
IsInputFault Is input (fault.CommandLine text) = ⊥
IsInputFault Is input fault.NotUtf8 = ⊥
IsInputFault Is input (fault.Value name why found) = ⊥
IsInputFault Is input (fault.Seed found) = ⊥
IsInputFault Is input (fault.Params why found) = ⊥
IsInputFault Is input fault.Write = ⊥
