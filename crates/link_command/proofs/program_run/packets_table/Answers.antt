use Rattle.std.proofs.Common.{◌∙◌, arith}
use Rattle.link_report.proofs.PacketLemmas.{few_packets}
use Rattle.link_command.proofs.RunLemmas.{few_ended, few_ended_others, few_others, flows_of_packets, rows_of_packets}
use Rattle.link_command.proofs.program_run.packets_table.Goals as goal

pub flows_text_of-requires-clause-few : goal.flows_text_of-requires-clause-few
flows_text_of-requires-clause-few c =
    few_ended c.args.told c.in_ok-packets-in-Flows.packets (c.in_ok-packets-in-Flows.ensures {u = tt}) c.requires.few

pub flows_text_of-requires-clause-fifo_few : goal.flows_text_of-requires-clause-fifo_few
flows_text_of-requires-clause-fifo_few c =
    few_ended_others c.args.fifo c.in_ok-others-in-Flows.others (c.in_ok-others-in-Flows.ensures {u = tt}) c.requires.fifo_few

pub picture_text_of-requires-clause-few : goal.picture_text_of-requires-clause-few
picture_text_of-requires-clause-few c =
    rw (c.in_ok-packets-in-Svg.ensures {u = tt}).packets (omega (arith, few_packets c.args.told.events.now.events))

pub picture_text_of-requires-clause-fifo_few : goal.picture_text_of-requires-clause-fifo_few
picture_text_of-requires-clause-fifo_few c =
    few_others (λ p. p.now) (λ t. t.events.now.events) c.in_ok-others-in-Svg.others c.args.fifo (c.in_ok-others-in-Svg.ensures {u = tt}) c.requires.fifo_few

pub returns-in_ok-flows_text_of-in-Flows-clause-text : goal.returns-in_ok-flows_text_of-in-Flows-clause-text
returns-in_ok-flows_text_of-in-Flows-clause-text c =
    let packets = c.in_ok-packets-in-Flows.ensures {u = tt} in
    let others = c.in_ok-others-in-Flows.ensures {u = tt} in
    let text = rw (packets, others) at (c.in_ok-flows_text_of-in-Flows.ensures {u = tt}) in
    λ ends its beside. rw c.in-Flows.is (text ∙ flows_of_packets ends c.args.told c.args.fifo its beside)

pub returns-in_ok-packets_text_of-in-Packets-clause-text : goal.returns-in_ok-packets_text_of-in-Packets-clause-text
returns-in_ok-packets_text_of-in-Packets-clause-text c =
    let packets = (c.in_ok-packets-in-Packets.ensures {u = tt}).packets in
    let others = c.in_ok-others-in-Packets.ensures {u = tt} in
    let text = rw (packets, others) at (c.in_ok-packets_text_of-in-Packets.ensures {u = tt}) in
    λ ends its beside. rw c.in-Packets.is (text ∙ rows_of_packets c.args.told c.args.fifo)
