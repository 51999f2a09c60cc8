use Rattle.std.proofs.Common.{rules}
use Rattle.program_core.proofs.WatchedLemmas.{seen_drops_few}
use Rattle.program_core.proofs.monitors.line_of.Goals as goal

pub overflow_add-dropped : goal.overflow_add-dropped
overflow_add-dropped c =
    let few = seen_drops_few c.args.seen c.requires in
    search (rules, few)
