use Rattle.link_report.proofs.TableLemmas.{adds_none}
use Rattle.link_report.proofs.binned.write_heading.Goals as goal

pub returns-in-Fifo : goal.returns-in-Fifo
returns-in-Fifo c = rw c.in-Fifo.is (adds_none c.args.table.now)
