use Rattle.std.proofs.Common.{◌++◌, arith, take}
use Rattle.std.proofs.KnownBytes.{Appends-trans}
use Rattle.program_core.proofs.WatchedLemmas.{fronts_more}
use Rattle.program_core.proofs.monitors.tell_seen.Goals as goal

pub loop-monitor-preserved : goal.loop-monitor-preserved
loop-monitor-preserved g c =
    let told = c.loop-monitor.invariant.1 in
    let one = c.tell_one.ensures in (
      (λ none. absurd (omega (arith, none, c.loop-monitor-test.true))),
      (
        told.0 ++ take one.0 _,
        fronts_more c.args.seen.now c.loop-monitor.monitor _ one.0 told.0 c.loop-monitor-test.true told.1,
        Appends-trans _ _ _ told.0 _ told.2 one.1,
      ),
    )
