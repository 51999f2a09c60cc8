use Rattle.std.proofs.Common.{slice_index_or}
use Rattle.run_core.specs.DeviceRuns.{last_moment}
use Rattle.run_core.specs.Journals.{submitted_of}
use Rattle.run_core.proofs.LaneRunLemmas.{row_still}
use Rattle.run_core.proofs.lanes.ended.Goals as goal

pub returns-clause-rows : goal.returns-clause-rows
returns-clause-rows g c i r d less =
    row_still i (submitted_of (slice_index_or c.args.done.items i d).end) c.rows_of.new.device.engine.sched.standing.events c.finish.new.device.engine.sched.standing.events
    (slice_index_or c.in_ok-rows.rows.items i r) (c.finish.ensures.accepted i) (c.in_ok-rows.ensures.rows i r d less)

pub returns-clause-ends : goal.returns-clause-ends
returns-clause-ends g c = record { emptied = c.rows_of.new.device.engine.steps; empties = c.in_ok-rows.ensures.emptied; finishes = c.in_ok-finish.ensures.steps }

pub returns-clause-idle : goal.returns-clause-idle
returns-clause-idle g c = (last_moment c.rows_of.new.device.engine.steps, c.in_ok-finish.ensures.idle)
