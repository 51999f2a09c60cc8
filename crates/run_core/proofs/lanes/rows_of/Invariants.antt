use Rattle.std.proofs.Common.{◌≡◌, ◌≢◌, ◌≤◌, ◌<◌, ℕ, false, All, None, drop, length, slice_index_or}
use Rattle.std.specs.Vec.Iter.{into_iter_items, into_iter_len}
use Rattle.port_core.specs.declared.gate.Stop.TheVariants as stop
use Rattle.port_core.specs.declared.lane_sender.LaneDone.{LaneDone}
use Rattle.trace_core.specs.declared.journal_report.SenderRow.{SenderRow}
use Rattle.run_core.specs.DeviceRuns.{IsAny, PumpsAll, has_close, last_moment}
use Rattle.run_core.specs.Journals.{IsLaneRow, IsSameDevice, submitted_of}
use Rattle.run_core.proofs.lanes.rows_of.Given as goal

abbrev pub invariant-loop-one : goal.invariant-loop-one
invariant-loop-one g l =
    (into_iter_items l.one-iterator ≡ drop l.lane l.fn.done.items)
    × (into_iter_len l.one-iterator ≡ length (into_iter_items l.one-iterator))
    × (l.lane ≤ length l.fn.done.items)
    × (length l.rows.items ≡ l.lane)
    × IsSameDevice l.fn.device l.device
    × ((i : ℕ) (r : SenderRow) (d : LaneDone) → i < l.lane → IsLaneRow i (submitted_of (slice_index_or l.fn.done.items i d).end) l.device.engine.sched.standing.events (slice_index_or l.rows.items i r))
    × PumpsAll IsAny (last_moment l.fn.device.engine.steps) l.fn.device.engine.steps l.lane l.device.engine.steps
    × (has_close l.fn.device.engine.steps ≡ false → All (λ row. row.left ≡ 0) l.rows.items)
    × ((i : ℕ) (d : LaneDone) → i < l.lane → ((slice_index_or l.fn.done.items i d).stop ≡ stop.Done) × ((slice_index_or l.fn.done.items i d).end ≢ None))
