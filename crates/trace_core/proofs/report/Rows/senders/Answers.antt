use Rattle.std.proofs.Common.{◌≡◌, arith, refl, take}
use Rattle.std.proofs.lemmas.List.{take_all}
use Rattle.trace_core.specs.Report.{sender_line}
use Rattle.trace_core.proofs.ReportLemmas.{adds_line, adds_none}
use Rattle.trace_core.proofs.report.Rows.senders.Goals as goal

pub loop-sender-init : goal.loop-sender-init
loop-sender-init c = adds_none c.args.self.now

pub loop-sender-preserved : goal.loop-sender-preserved
loop-sender-preserved c =
    adds_line sender_line c.args.senders.now c.loop-sender.sender-index _ _ _ _ _ (omega arith) refl c.loop-sender.invariant c.in_ok-sender.ensures

pub returns : goal.returns
returns c =
    let all : take c.loop-sender.sender-index c.args.senders.now ≡ c.args.senders.now = take_all _ _ (omega arith) in
    rw all at c.loop-sender.invariant
