use Rattle.std.proofs.Common.{◌≡◌, ◌∷◌, ◌++◌, [], suc, ap, arith, inr, length, length-append, map, rules}
use Rattle.std.proofs.lemmas.Result.{err_from_is_err_and}
use Rattle.std.specs.Vec.Iter.{into_iter_items}
use Rattle.run_core.specs.Seeing.{IsSeenOf}
use Rattle.run_core.proofs.JournalLemmas.{all_push, map_more}
use Rattle.run_core.proofs.SeeingLemmas.{ahead}
use Rattle.run_core.proofs.monitors.seen_of_journal.Goals as goal

pub of_journal-requires : goal.of_journal-requires
of_journal-requires g c =
    let cut : into_iter_items c.loop-one.one-iterator ≡ c.in-Some.one ∷ into_iter_items c.next.new.self = search rules in
    (rw cut at c.loop-one.invariant.2) 0 c.in-Some.one (omega arith)

pub loop-one-preserved : goal.loop-one-preserved
loop-one-preserved g c =
    let cut : into_iter_items c.loop-one.one-iterator ≡ c.in-Some.one ∷ into_iter_items c.next.new.self = search rules in
    let all = rw cut at c.loop-one.invariant.2 in
    let last = c.in_ok-of_journal.field-0 in
    let pushed = map_more (λ r. r.1) c.loop-one.seen.items c.in-Some.one (into_iter_items c.next.new.self) _ (rw cut at c.loop-one.invariant.4) in (
      search rules,
      omega (arith, c.loop-one.invariant.1, ap length cut, ap length c.in_ok-push.ensures.items, length-append c.loop-one.seen.items (last ∷ [])),
      (λ k d less. all (suc k) d (omega (arith, less))),
      rw c.in_ok-push.ensures.items (all_push (IsSeenOf c.args.receipt.now) c.loop-one.seen.items last c.loop-one.invariant.3 c.in_ok-of_journal.ensures.seen),
      rw (c.in_ok-push.ensures.items, c.in_ok-of_journal.ensures.read) pushed,
    )

pub returns-in_err-of_journal-clause-fault : goal.returns-in_err-of_journal-clause-fault
returns-in_err-of_journal-clause-fault g c =
    let cut : into_iter_items c.loop-one.one-iterator ≡ c.in-Some.one ∷ into_iter_items c.next.new.self = search rules in
    let p = err_from_is_err_and c.from_residual.result c.from_residual.ensures.1 in
    rw (p.1, p.2) (inr (ahead c.args.receipt.now c.loop-one.seen.items c.in-Some.one.1 (map (λ r. r.1) (into_iter_items c.next.new.self)) _ _
    (rw cut at c.loop-one.invariant.4) (search rules) (search rules)))
