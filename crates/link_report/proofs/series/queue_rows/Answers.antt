use Rattle.std.proofs.Common.{◌≡◌, ◌∙◌, ap, arith, length, take}
use Rattle.std.proofs.lemmas.List.{take_all}
use Rattle.std.proofs.lemmas.Result.{on_ok_weaker}
use Rattle.link_report.specs.Packets.{Known, known_of}
use Rattle.link_report.specs.SeriesTables.{walked}
use Rattle.link_report.proofs.SeriesLemmas.{walk_begins, walk_ends, walk_goes_on}
use Rattle.link_report.proofs.series.queue_rows.Goals as goal

pub loop-event-init : goal.loop-event-init
loop-event-init c = λ before has.
    let count = ap length c.tuples.ensures ∙ ap (λ (known : Known). length known.tuples) (c.in_ok-packets.ensures {u = tt}) in
    walk_begins before c.in_ok-series.series c.args.table.now c.args.queue c.args.every (length (known_of c.args.events.now).tuples) (length c.tuples.result.now) count (c.in_ok-series.ensures {u = tt}) has

pub loop-event-preserved : goal.loop-event-preserved
loop-event-preserved c = λ before has.
    let events = c.args.events.now in
    let known = known_of events in
    let told = c.in_ok-take.ensures {u = tt} in
    let same = c.records.ensures ∙ ap (λ (k : Known). k.packets) (c.in_ok-packets.ensures {u = tt}) in
    walk_goes_on before c.take.new.self c.take.new.table c.args.queue c.args.every (length known.tuples) known.packets c.records.result.now events c.loop-event.event-index c.event-item.result (omega arith) c.event-item.is same (told.walk before _ (c.loop-event.invariant before has))

pub returns : goal.returns
returns c =
    let events = c.args.events.now in
    let known = known_of events in
    let all : take c.loop-event.event-index events ≡ events = take_all _ _ (omega arith) in
    let at = rw all at c.loop-event.invariant in
    on_ok_weaker c.write.result (λ ends. walk_ends c.args.table.now c.loop-event.table c.write.new.table c.loop-event.series c.write.new.self (walked c.args.queue c.args.every (length known.tuples) known.packets events) at ends) c.write.ensures.walk
