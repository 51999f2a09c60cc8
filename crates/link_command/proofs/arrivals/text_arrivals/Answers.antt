use Rattle.row_core.specs.Traces.{IsFaultOf}
use Rattle.link_command.proofs.InputLemmas.{told_as}
use Rattle.link_command.proofs.ReadCounts.{few_arrivals}
use Rattle.link_command.proofs.arrivals.text_arrivals.Goals as goal

pub returns-clause-fault : goal.returns-clause-fault
returns-clause-fault g c =
    told_as (IsFaultOf ⊥ g.C.Records.Cut) c.args.text.now c.in-Err.why c.text_fault.result c.text_fault.ensures (c.in-Err.ensures.fault c.args.text.now c.new-rows.ensures)

pub returns-in-Ok-clause-arrivals : goal.returns-in-Ok-clause-arrivals
returns-in-Ok-clause-arrivals g c = c.in-Ok.ensures.arrivals c.args.text.now c.new-rows.ensures

pub returns-in-Ok-clause-text : goal.returns-in-Ok-clause-text
returns-in-Ok-clause-text g c = c.in-Ok.ensures.text c.args.text.now c.new-rows.ensures

pub returns-in-Ok-clause-few : goal.returns-in-Ok-clause-few
returns-in-Ok-clause-few g c = few_arrivals c.args.text.now c.in-Ok.arrivals.items (c.in-Ok.ensures.text c.args.text.now c.new-rows.ensures)
