-- No fault has the status 0.
use Rattle.std.proofs.Common.{◌≡◌, arith}
use Rattle.row_core.specs.declared.faults.TraceFaultKind.{TraceFaultKind}
use Rattle.row_core.specs.declared.faults.TraceFaultKind.TheVariants as kind
use Rattle.link_command.specs.Faults.{row_status, status_of, trace_status}
use Rattle.link_command.specs.declared.faults.RowFault.{RowFault}
use Rattle.link_command.specs.declared.faults.RowFault.TheVariants as row
use Rattle.link_command.specs.declared.faults.ProgramFault.{ProgramFault}
use Rattle.link_command.specs.declared.faults.ProgramFault.TheVariants as fault

trace_fails : (what : TraceFaultKind) → trace_status what ≡ 0 → ⊥
trace_fails kind.Read e = omega (arith, e)
trace_fails kind.Memory e = omega (arith, e)
trace_fails kind.TooLarge e = omega (arith, e)
trace_fails kind.BadKind e = omega (arith, e)
trace_fails kind.BadFieldCount e = omega (arith, e)
trace_fails kind.BadNumber e = omega (arith, e)
trace_fails kind.BadAddress e = omega (arith, e)
trace_fails kind.BadEcn e = omega (arith, e)
trace_fails kind.LengthOutOfRange e = omega (arith, e)

row_fails : (what : RowFault) → row_status what ≡ 0 → ⊥
row_fails (row.Trace what) e = trace_fails what e
row_fails row.NotAnArrival e = omega (arith, e)
row_fails row.TooLate e = omega (arith, e)
row_fails row.Backwards e = omega (arith, e)

pub fails : (why : ProgramFault) → status_of why ≡ 0 → ⊥
fails (fault.CommandLine text) e = omega (arith, e)
fails fault.NotUtf8 e = omega (arith, e)
fails (fault.Value name what found) e = omega (arith, e)
fails (fault.Seed found) e = omega (arith, e)
fails (fault.Params what found) e = omega (arith, e)
fails (fault.Row number what found) e = row_fails what e
fails fault.Memory e = omega (arith, e)
fails fault.Write e = omega (arith, e)
