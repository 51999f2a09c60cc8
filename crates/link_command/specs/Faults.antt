-- The statuses that the program ends with.
use Rattle.std.specs.Prelude.{ℕ}
use Rattle.row_core.specs.declared.faults.TraceFaultKind.{TraceFaultKind}
use Rattle.row_core.specs.declared.faults.TraceFaultKind.TheVariants as kind
use Rattle.link_command.specs.declared.faults.RowFault.{RowFault}
use Rattle.link_command.specs.declared.faults.RowFault.TheVariants as row
use Rattle.link_command.specs.declared.faults.ProgramFault.{ProgramFault}
use Rattle.link_command.specs.declared.faults.ProgramFault.TheVariants as fault

-- 1 where the machine failed, and 2 where the input is wrong
abbrev pub trace_status : TraceFaultKind → ℕ
trace_status kind.Read = 1
trace_status kind.Memory = 1
trace_status kind.TooLarge = 2
trace_status kind.BadKind = 2
trace_status kind.BadFieldCount = 2
trace_status kind.BadNumber = 2
trace_status kind.BadAddress = 2
trace_status kind.BadEcn = 2
trace_status kind.LengthOutOfRange = 2

abbrev pub row_status : RowFault → ℕ
row_status (row.Trace what) = trace_status what
row_status row.NotAnArrival = 2
row_status row.TooLate = 2
row_status row.Backwards = 2

abbrev pub status_of : ProgramFault → ℕ
status_of (fault.CommandLine text) = 2
status_of fault.NotUtf8 = 2
status_of (fault.Value name what found) = 2
status_of (fault.Seed found) = 2
status_of (fault.Params what found) = 2
status_of (fault.Row number what found) = row_status what
status_of fault.Memory = 1
status_of fault.Write = 1
