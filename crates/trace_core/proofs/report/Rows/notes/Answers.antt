use Rattle.std.proofs.Common.{◌≡◌, arith, refl, take}
use Rattle.std.proofs.lemmas.List.{take_all}
use Rattle.trace_core.specs.Report.{note_line}
use Rattle.trace_core.proofs.ReportLemmas.{adds_line, adds_none}
use Rattle.trace_core.proofs.report.Rows.notes.Goals as goal

pub loop-note-init : goal.loop-note-init
loop-note-init c = adds_none c.args.self.now

pub loop-note-preserved : goal.loop-note-preserved
loop-note-preserved c =
    adds_line note_line c.args.notes.now c.loop-note.note-index _ _ _ _ _ (omega arith) refl c.loop-note.invariant c.in_ok-note.ensures

pub returns : goal.returns
returns c =
    let all : take c.loop-note.note-index c.args.notes.now ≡ c.args.notes.now = take_all _ _ (omega arith) in
    rw all at c.loop-note.invariant
