use Rattle.std.proofs.Common.{ap, length}
use Rattle.std.proofs.lemmas.Result.{on_ok_weaker}
use Rattle.link_report.proofs.BinLemmas.{told_last}
use Rattle.link_report.proofs.binned.follow_event.Goals as goal

pub returns-clause-walk : goal.returns-clause-walk
returns-clause-walk c =
    let series = c.args.series.now in
    let widens = c.in_ok-widen.ensures {u = tt} in
    on_ok_weaker c.take.result
    (λ takes. λ before earlier is order at. told_last before series c.widen.new.self c.take.new.self c.args.table.now c.take.new.table series.queue series.every c.args.gathered.now.events earlier c.args.event.now c.all_packets-packets.result.now (length c.tuples.result.now) c.records.result.now c.all_packets-packets.ensures
    (ap length c.tuples.ensures) c.records.ensures is order widens.walk (takes before) at)
    c.take.ensures.walk
