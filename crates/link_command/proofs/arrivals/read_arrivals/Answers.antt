use Rattle.std.proofs.lemmas.Result.{IfErr-weaker}
use Rattle.row_core.proofs.RecordLemmas.{source_aside}
use Rattle.row_core.specs.Streams.{EndsWith, IsReadFailure}
use Rattle.row_core.specs.Traces.{IsFaultOf}
use Rattle.link_command.proofs.InputLemmas.{fault_of_input, told_at}
use Rattle.link_command.specs.declared.faults.RowFault.TheVariants.{Trace}
use Rattle.link_command.proofs.arrivals.read_arrivals.Goals as goal

pub returns-in-Ok-clause-fault : goal.returns-in-Ok-clause-fault
returns-in-Ok-clause-fault g c =
    let Cut = g.R.Records.Cut in
    let failed = EndsWith g.R.Source.Answered IsReadFailure c.args.reader.now c.whole_text.new.reader in
    let fault = rw c.deref.ensures.value at c.text_arrivals.ensures.fault in
    IfErr-weaker c.text_arrivals.result _ _
    (λ why h. fault_of_input (IsFaultOf ⊥ Cut) (IsFaultOf failed Cut) (source_aside failed Cut) (g.R.Source.remaining c.args.reader.now) c.in-Ok.text.items why c.in-Ok.ensures.whole h) fault

pub returns-in-Err-clause-fault : goal.returns-in-Err-clause-fault
returns-in-Err-clause-fault g c =
    let failed = EndsWith g.R.Source.Answered IsReadFailure c.args.reader.now c.whole_text.new.reader in
    let fault = c.in-Err.fault in
    told_at (IsFaultOf failed g.R.Records.Cut) (g.R.Source.remaining c.args.reader.now) fault.row (Trace fault.what) c.trace_fault.result c.trace_fault.ensures c.in-Err.ensures.fault
