use Rattle.std.proofs.Common.{◌≡◌, arith, take}
use Rattle.std.proofs.lemmas.List.{take_all}
use Rattle.trace_core.specs.Report.{event_line}
use Rattle.trace_core.proofs.ReportLemmas.{adds_line, adds_none}
use Rattle.trace_core.proofs.report.Rows.events.Goals as goal

pub loop-event-init : goal.loop-event-init
loop-event-init c = adds_none c.args.self.now

pub loop-event-preserved : goal.loop-event-preserved
loop-event-preserved c =
    adds_line event_line c.args.events.now c.loop-event.event-index _ _ _ _ _ (omega arith) c.event-item.is c.loop-event.invariant c.in_ok-event.ensures

pub returns : goal.returns
returns c =
    let all : take c.loop-event.event-index c.args.events.now ≡ c.args.events.now = take_all _ _ (omega arith) in
    rw all at c.loop-event.invariant
