use Rattle.std.proofs.Common.{◌≡◌, ◌∙◌, ◌++◌, ◌∷◌, [], ap}
use Rattle.packet_core.specs.Packets.{same_tuple}
use Rattle.journal_core.specs.TupleRows.{with_new}
use Rattle.link_report.specs.declared.packets.Fate.TheVariants.{Waiting}
use Rattle.link_report.specs.Packets.{number_of}
use Rattle.link_report.proofs.packets.Packets.arrive.Goals as goal

pub returns : goal.returns
returns c =
    let known = c.self.inside.tuples.keys in
    let before = c.self.inside.records.items in
    let put = c.in_ok-tuple.ensures {u = tt} in
    let tuples : c.number_of.new.tuples.keys ≡ with_new same_tuple known c.args.packet.now.tuple = put.tuples ∙ ap (λ t. with_new same_tuple known t) c.tuple.ensures in
    let number : c.in_ok-tuple.tuple ≡ number_of known c.args.packet.now.tuple = put.number ∙ ap (λ t. number_of known t) c.tuple.ensures in
    let packets = (c.in_ok-push.ensures {u = tt}).items
    ∙ (λ k. before ++ record { id = c.args.id; tuple = number k; flow = c.args.flow; len = c.len.ensures.value k; ecn = c.ecn.ensures k; arrived = c.args.moment; fate = Waiting } ∷ []) in
    rw (← c.self.view_is) (λ k. record { tuples = tuples k; packets = packets k; sent = c.self.inside.sent })
