use Rattle.std.proofs.Common.{◌≡◌, ◌∙◌, ◌++◌, ◌∷◌, [], ◌%◌, ◌+◌, ◌<◌, ℕ, Vec, Global, arith, get_or, rules, slice_index_or, subst, sym, take}
use Rattle.packet_core.specs.Packets.{PacketParts}
use Rattle.journal_core.specs.declared.step.Step.{Step}
use Rattle.sender_core.specs.Senders.{AreCalls, sender_of}
use Rattle.sender_core.proofs.SenderLemmas.{calls_push, calls_skip, no_call}
use Rattle.sender_core.proofs.senders.lists_of.Goals.{in-Enqueue+in_ok-push-2, in_default}
use Rattle.sender_core.proofs.senders.lists_of.Goals as goal

pub loop-step-init : goal.loop-step-init
loop-step-init c = record {
  calls = record {
    number = omega (arith, c.loop-sender.invariant.0, c.loop-sender.auto._sender-end, c.loop-sender-test.false);
    each = λ i d less. c.loop-sender.invariant.1 i d (omega (arith, less, c.loop-sender-test.false));
  };
  chooser = (c.in_ok-chooser.ensures {u = tt}).made;
}

pub loop-step-preserved : goal.loop-step-preserved
loop-step-preserved c =
    let steps = c.args.steps.now in
    let k = c.loop-step.step-index in
    elim c.match-step.branch [
      | in-Enqueue+in_ok-push-2 w ↦
          let p = w.in-Enqueue.packet in
          let sender = w.flow_of.result % c.args.senders in
          let new = w.push-in-Enqueue.new.self in
          let stands = subst (λ (x : Step). x ≡ get_or steps k x) w.in-Enqueue.is c.step-item.is in
          let own : sender ≡ sender_of c.args.params.now c.args.seed.now c.args.senders p = search rules in
          let below : sender < c.args.senders = search rules in
          let pushed : new.items ≡ (slice_index_or c.loop-step.lists.items sender new).items ++ (w.in-Enqueue.moment, p) ∷ [] = search rules in
          record {
            chooser = rw w.chooser-is (w.flow_of.ensures.kept ∙ c.loop-step.invariant.chooser);
            calls = subst (λ (v : Vec (Vec (ℕ × PacketParts) Global) Global). AreCalls c.args.params.now c.args.seed.now c.args.senders (take (k + 1) steps) v.items) (sym w.lists-is)
                (calls_push c.args.params.now c.args.seed.now c.args.senders steps k w.in-Enqueue.moment w.in-Enqueue.lane p c.loop-step.lists.items sender new new
                c.loop-step-test.true stands own below pushed c.loop-step.invariant.calls);
          }
      | in_default w ↦
          record {
            chooser = rw w.chooser-is c.loop-step.invariant.chooser;
            calls = subst (λ (v : Vec (Vec (ℕ × PacketParts) Global) Global). AreCalls c.args.params.now c.args.seed.now c.args.senders (take (k + 1) steps) v.items) (sym w.lists-is)
                (calls_skip c.args.params.now c.args.seed.now c.args.senders steps k c.step-item.result c.loop-step.lists.items c.loop-step-test.true c.step-item.is
                (λ sender. no_call c.args.params.now c.args.seed.now c.args.senders sender c.step-item.result w.in_default.not-Enqueue) c.loop-step.invariant.calls);
          }
    ]
