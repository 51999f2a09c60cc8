use Rattle.std.proofs.Common.{◌≡◌, ℕ, zero, suc, false, List, [], refl, rules, arith}
use Rattle.std.proofs.lemmas.List.{length-replicate}
use Rattle.packet_core.specs.declared.packet.FiveTuple.{FiveTuple}
use Rattle.packet_core.specs.declared.packet.Waiting.{Waiting}
use Rattle.fair_core.specs.FairQueues.{no_queues, queue_of}
use Rattle.journal_core.specs.History.{IsHistory}
use Rattle.fair_core.proofs.CreditRanges.{opening_credits}
use Rattle.sched_core.proofs.sched.Sched.try_with_recorder.Goals as goal

no_packet : (flows flow : ℕ) → queue_of (no_queues flows) flow ≡ []
no_packet zero flow = refl
no_packet (suc flows) zero = refl
no_packet (suc flows) (suc flow) = no_packet flows flow

-- the history of no event
no_history : (flow_of : FiveTuple → ℕ) (flows : ℕ) → IsHistory flow_of (queue_of (no_queues flows)) [] 0 0 false
no_history flow_of flows = record {
  ids = refl;
  flows = search rules;
  rises = search rules;
  past = search rules;
  known = search rules;
  follow = search rules;
  one_fate = search rules;
  lines = λ flow. record { gone = []; rest = []; split = refl; fates = refl; queue = no_packet flows flow };
  close = refl;
  closed_for_good = search rules;
  honest = search rules;
  left = refl;
  left_bytes = refl;
}

-- part by part, since the whole is past the limits of the search
pub invariant_of-result : goal.invariant_of-result
invariant_of-result g c =
    let held = c.in_ok-try_new.ensures {u = tt} in
    let book = c.in_ok-try_over.ensures {u = tt} in
    record {
      book = record {
        some = search rules;
        flows = rw held.0 (omega (arith, length-replicate {A = List Waiting} c.flows.result [], c.flows.ensures.value));
        space = search rules;
        reserved = search rules;
        long = search rules;
        accepted = search rules;
        few = search rules;
        soon = search rules;
        history = rw (held.0, held.1, book.0) (no_history _ c.flows.result);
        sent = rw (book.0, book.1) refl;
        lost = rw (book.0, book.2) refl;
        counts = search rules;
        credits = rw (held.0, book.0) (opening_credits _ 1 c.flows.result (omega arith));
      };
      classifier = c.in_ok-classifier.ensures {u = tt};
      made_for = rw book.5 c.requires.made_for;
    }
