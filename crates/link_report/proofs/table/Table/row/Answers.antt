use Rattle.std.proofs.lemmas.Result.{on_ok_weaker}
use Rattle.link_report.proofs.TableLemmas.{adds_within}
use Rattle.link_report.proofs.table.Table.row.Goals as goal

pub returns : goal.returns
returns c = on_ok_weaker c.row.result (λ adds. adds_within _ _ _ adds) c.row.ensures
