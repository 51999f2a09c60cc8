use Rattle.std.proofs.Common.{◌∙◌, [], sym}
use Rattle.test_allocations.proofs.recorders.tally_of.Goals as goal

pub returns-in-Ok : goal.returns-in-Ok
returns-in-Ok c = λ a tuple flow. c.in-Ok.ensures.added [] a (tuple ∙ sym c.tuple-tuple.ensures) flow c.new-tally.ensures

pub returns-in-Ok-accept : goal.returns-in-Ok-accept
returns-in-Ok-accept c = λ a tuple flow.
    let empty = c.in-Err.ensures.unchanged [] c.new-tally.ensures in
    c.in-Ok-accept.ensures.added [] a (tuple ∙ sym c.tuple-tuple.ensures) flow empty
