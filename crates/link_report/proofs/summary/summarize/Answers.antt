use Rattle.std.proofs.Common.{arith, refl}
use Rattle.link_report.proofs.SummaryLemmas.{few_delays}
use Rattle.link_report.proofs.summary.summarize.Goals as goal

pub spread-requires : goal.spread-requires
spread-requires c = rw (c.in_ok-delays.ensures {u = tt}) (omega (arith, few_delays c.args.packets.now))

pub returns : goal.returns
returns c =
    rw (c.rate.ensures, c.in_ok-spread.ensures {u = tt}, c.in_ok-delays.ensures {u = tt}, c.bytes.ensures, c.count_sent.ensures, c.sent_bytes-sent_bytes.ensures.value, c.count_codel_drops.ensures, c.count_overflow_drops.ensures, c.count_marked.ensures)
    refl
