use Rattle.std.proofs.Common.{◌≡◌, ◌∙◌, ◌<◌, ◌++◌, ◌∷◌, [], ap, length, arith}
use Rattle.link_report.specs.Groups.{GroupParts}
use Rattle.link_report.proofs.GroupLemmas.{groups_grow}
use Rattle.link_report.proofs.groups.empty_groups.Goals as goal

pub loop-number-preserved : goal.loop-number-preserved
loop-number-preserved c =
    groups_grow c.args.tuples.now c.loop-number.number _ c.loop-number.groups.items _ c.new.result.items (omega arith) c.new.ensures.items c.loop-number.invariant (c.in_ok-push.ensures {u = tt}).items
