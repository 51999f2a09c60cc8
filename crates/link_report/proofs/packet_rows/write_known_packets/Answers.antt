use Rattle.std.proofs.lemmas.Result.{on_ok_weaker}
use Rattle.link_report.proofs.TableLemmas.{adds_both}
use Rattle.link_report.proofs.packet_rows.write_known_packets.Goals as goal

pub returns-in-Some : goal.returns-in-Some
returns-in-Some c =
    let first = rw c.records.ensures at (c.in_ok-rows.ensures {u = tt}) in
    on_ok_weaker c.rows-in-Some.result
    (λ more. rw c.in-Some.is (adds_both _ _ _ _ _ (adds_both _ _ _ _ _ (c.in_ok-header.ensures {u = tt}) first) (rw c.records-in-Some.ensures at more)))
    c.rows-in-Some.ensures

pub returns-in-None : goal.returns-in-None
returns-in-None c =
    let first = rw c.records.ensures at (c.in_ok-rows.ensures {u = tt}) in
    rw c.in-None.is (adds_both _ _ _ _ _ (c.in_ok-header.ensures {u = tt}) first)
