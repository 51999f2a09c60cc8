use Rattle.std.proofs.Common.{◌+◌, List, ap, length, sym, ◌∙◌, arith}
use Rattle.journal_core.specs.declared.event.Event.{Event}
use Rattle.queue_disc_core.specs.Drops.{settled_drops}
use Rattle.queue_disc_core.proofs.Memory.{few_recent}
use Rattle.queue_disc_core.proofs.queue_disc.recent_drops.Goals as goal

pub kept-requires : goal.kept-requires
kept-requires c =
    let enough = c.recorder-drops.ensures.made_for_limit c.is_made_for_some.ensures in
    rw (c.recorder-drops.ensures.lost, c.recorder-drops.ensures.told)
    (omega (arith, few_recent c.args.sched.now c.has_laws.ensures.laws c.has_laws.ensures.counted c.requires, enough))

pub returns-clause-lost : goal.returns-clause-lost
returns-clause-lost c =
    ap length (sym c.recorder-drops.ensures.lost) ∙ c.kept.ensures ∙ ap (λ (es : List Event). c.kept.result + settled_drops es) c.recorder-drops.ensures.told

pub returns-clause-causes : goal.returns-clause-causes
returns-clause-causes c =
    sym c.drops_have_causes.ensures ∙ ap length (sym c.recorder-drops.ensures.lost) ∙ c.kept.ensures ∙ ap (λ (es : List Event). c.kept.result + settled_drops es) c.recorder-drops.ensures.told
