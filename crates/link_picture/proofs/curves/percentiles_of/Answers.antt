use Rattle.std.proofs.Common.{◌≡◌, ◌<◌, ◌∙◌, ◌++◌, ◌∷◌, [], ap, length, sym, arith}
use Rattle.std.proofs.lemmas.Grind.{common_steps}
use Rattle.std.proofs.lemmas.List.Sorted.{length_permutation}
use Rattle.link_report.proofs.SummaryLemmas.{sorted_up}
use Rattle.link_picture.proofs.PercentileCurves.{none_of_none, none_yet, one_more}
use Rattle.link_picture.proofs.curves.percentiles_of.Goals as goal

pub returns-then-is_empty : goal.returns-then-is_empty
returns-then-is_empty c =
    let ok = c.args.delays.ok in
    let none : length c.args.delays.items ≡ 0 = grind (arith, common_steps) in
    c.new-percentiles.ensures.items ∙ sym (none_of_none _ c.args.delays.items none)

pub loop-percent-init : goal.loop-percent-init
loop-percent-init c = c.new-percentiles.ensures.items ∙ sym (none_yet _)

pub percentile-requires : goal.percentile-requires
percentile-requires c =
    let ok = c.args.delays.ok in
    let order = c.in_ok-sort.ensures {u = tt} in
    let some : 0 < length c.args.delays.items = grind (arith, common_steps) in
    let same = length_permutation _ _ order.permutation in
    rw c.deref.ensures.value (record { some = omega arith; few = omega arith; range = omega arith; sorted = sorted_up _ order.sorted })

pub loop-percent-preserved : goal.loop-percent-preserved
loop-percent-preserved c =
    let ok = c.args.delays.ok in
    let order = c.in_ok-sort.ensures {u = tt} in
    let some : 0 < length c.args.delays.items = grind (arith, common_steps) in
    (c.in_ok-push.ensures {u = tt}).items ∙ ap (λ l. l ++ c.percentile.result ∷ []) c.loop-percent.invariant
    ∙ sym (one_more c.loop-percent.percent c.percentile.result c.args.delays.items _ some order.permutation (rw c.deref.ensures.value at c.percentile.ensures))
