use Rattle.std.proofs.lemmas.Result.{on_ok_weaker}
use Rattle.link_report.proofs.TableLemmas.{adds_both}
use Rattle.link_report.proofs.series.write_series.Goals as goal

pub returns-in-Some : goal.returns-in-Some
returns-in-Some c =
    on_ok_weaker c.queue_rows-in-Some.result
    (λ more. rw c.in-Some.is (adds_both _ _ _ _ _ (adds_both _ _ _ _ _ (c.in_ok-header.ensures {u = tt}) (c.in_ok-queue_rows.ensures {u = tt})) more))
    c.queue_rows-in-Some.ensures

pub returns-in-None : goal.returns-in-None
returns-in-None c = rw c.in-None.is (adds_both _ _ _ _ _ (c.in_ok-header.ensures {u = tt}) (c.in_ok-queue_rows.ensures {u = tt}))
