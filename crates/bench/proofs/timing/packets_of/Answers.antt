use Rattle.std.proofs.Common.{◌≡◌, ℕ, subst, ◌++◌, ◌∷◌, [], ◌<◌, ◌≤◌, List, length, ⊎_elim, arith, rules, true, length-append}
use Rattle.std.specs.Result.{is_ok}
use Rattle.std.proofs.lemmas.Bool.{cases_lt}
use Rattle.std.proofs.lemmas.List.{get_or_append_left}
use Rattle.std.proofs.Math.Seq.{get_or-append_seam}
use Rattle.packet_core.specs.declared.packet.Ecn.{Ecn}
use Rattle.packet_core.specs.Packets.{PacketParts}
use Rattle.bench.specs.Traffic.{GoesTo, GoInTurn}
use Rattle.bench.proofs.timing.packets_of.Goals as goal

-- the packets go to the flows in turn where one to the next flow comes behind them
one_more : (flow : ℕ) (ecn : Ecn) (packets : List PacketParts) (next : PacketParts) → length packets ≡ flow → GoInTurn ecn packets → GoesTo flow ecn next → GoInTurn ecn (packets ++ next ∷ [])
one_more flow ecn packets next count each goes = λ other none within.
    ⊎_elim
    (λ (before : other < length packets). rw (get_or_append_left packets (next ∷ []) none other before) (each other none before))
    (λ (from : length packets ≤ other).
    let last : other ≡ length packets = omega (arith, rw (length-append packets (next ∷ [])) at within) in
    rw (last, get_or-append_seam packets next [] none, count) goes)
    (cases_lt other (length packets))

pub loop-flow-init : goal.loop-flow-init
loop-flow-init c = record {
  count = c.new-packets.ensures.len;
  each = λ flow none within. absurd (omega (arith, rw c.new-packets.ensures.items at within));
}

pub loop-flow-preserved : goal.loop-flow-preserved
loop-flow-preserved c =
    let good : is_ok c.push.result ≡ true = search rules in
    let items = rw good at c.push.ensures.items in
    let made = c.loop-flow.invariant in
    let goes : GoesTo c.loop-flow.flow c.args.workload.now.ecn c.in_ok-packet_to.field-0 = subst (λ (n : ℕ). GoesTo n c.args.workload.now.ecn c.in_ok-packet_to.field-0) c.in-Ok.ensures.1 c.in_ok-packet_to.ensures in
    record {
      count = grind (arith, made.count, items);
      each = rw items (one_more c.loop-flow.flow c.args.workload.now.ecn c.loop-flow.packets.items c.in_ok-packet_to.field-0 (omega (arith, made.count)) made.each goes);
    }

pub returns-clause-count : goal.returns-clause-count
returns-clause-count c = omega (arith, c.loop-flow.invariant.count)

pub returns-clause-each : goal.returns-clause-each
returns-clause-each c = c.loop-flow.invariant.each
