use Rattle.std.proofs.Common.{◌≡◌, ◌≢◌, ◌++◌, ◌∙◌, Bor, List, ℕ, Some, ap, map}
use Rattle.csv.specs.Writing.{writer_setup}
use Rattle.text_core.specs.Texts.{Adds}
use Rattle.csv.specs.declared.writer.QuoteStyle.TheVariants as style
use Rattle.text_core.proofs.RowLemmas.{row_is}
use Rattle.text_core.proofs.rows.Rows.row.Goals.{in-Ok, in-Err}
use Rattle.text_core.proofs.rows.Rows.row.Goals as goal

pub returns : goal.returns
unfolding Adds
returns c = elim c.match-write_fields.branch [
  | in-Ok w ↦ rw w.result-is (λ text h.
      let unlike : (writer_setup c.args.self.now.writer).style ≢ style.NonNumeric = rw h.setup (λ e. cc e) in
      let before : c.args.self.now.writer.wtr.inner.items ++ c.args.self.now.writer.wtr.buf ≡ text = cc h.written in
      let bytes = rw (before, h.setup, row_is (map (λ (f : Bor (List ℕ)). f.now) c.args.fields.now) c.requires) at (w.in-Ok.ensures.bytes h.fields h.wrote unlike) in
      record { setup = w.in-Ok.ensures.setup ∙ h.setup; fields = w.in-Ok.ensures.ended; wrote = w.in-Ok.ensures.clean; written = ap Some bytes })
  | in-Err w ↦ rw w.result-is tt
]
