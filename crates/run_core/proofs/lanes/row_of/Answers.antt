use Rattle.std.proofs.Common.{◌≡◌, ◌≢◌, ◌∙◌, ◌++◌, ◌<◌, ℕ, ap, arith, length, slice_index_or, subst, sym}
use Rattle.sched_core.specs.Engines.{Running}
use Rattle.port_core.specs.Lanes.{LaneView, accepted}
use Rattle.run_core.specs.DeviceRuns.{EmptiesLane, has_close}
use Rattle.run_core.specs.Journals.{IsSameDevice}
use Rattle.run_core.proofs.LaneRunLemmas.{lane_counts, lane_row, same_by, same_more}
use Rattle.run_core.proofs.lanes.row_of.Goals as goal
use Rattle.run_core.proofs.lanes.row_of.Given.{Over}
use Rattle.run_core.proofs.lanes.row_of.Goals.{After-emptied, In_ok-left}

-- what was accepted from the other lanes stays
others : (g : Over) (c : After-emptied g) (i : ℕ) → i ≢ c.args.lane → accepted i c.emptied.new.device.engine.sched.standing.events ≡ accepted i c.args.device.now.engine.sched.standing.events
others g c i apart = c.emptied.ensures.others i apart ∙ ap (λ (e : Running). accepted i e.sched.standing.events) c.settle_lane-left.ensures.rest.0

same : (g : Over) (c : After-emptied g) → IsSameDevice c.args.device.now c.emptied.new.device
same g c = same_more c.args.device.now c.settle_lane-left.new.self c.emptied.new.device
    (same_by c.args.device.now c.settle_lane-left.new.self c.settle_lane-left.ensures.rings (ap (λ (e : Running). e.sched.params) c.settle_lane-left.ensures.rest.0) (ap (λ (e : Running). e.sched.seed) c.settle_lane-left.ensures.rest.0))
    c.emptied.ensures.same

there : (g : Over) (c : After-emptied g) → c.args.lane < length c.emptied.new.device.lanes
there g c = omega (arith, c.requires.lane, (same g c).number)

-- what was submitted was accepted, or is left
whole : (g : Over) (c : After-emptied g) (d : LaneView) → c.in-Some.end.submitted ≡ accepted c.args.lane c.emptied.new.device.engine.sched.standing.events ++ (slice_index_or c.emptied.new.device.lanes c.args.lane d).known
whole g c d = c.settle_lane-left.ensures.submitted d ∙ sym (c.emptied.ensures.taken d)

many : (g : Over) (c : After-emptied g) → c.args.done.submitted ≡ length c.in-Some.end.submitted
many g c = rw c.in-Some.is at c.requires.fits.submitted

pub returns-in_err-left-clause-others : goal.returns-in_err-left-clause-others
returns-in_err-left-clause-others g c = others g (goal.at.returns-in_err-left-clause-others g c).After-emptied

pub returns-clause-others : goal.returns-clause-others
returns-clause-others g c = others g (goal.at.returns-clause-others g c).After-emptied

pub overflow_sub-result : goal.overflow_sub-result
overflow_sub-result g c =
    let a = (goal.at.overflow_sub-result g c).After-emptied in
    let number = lane_counts c.emptied.new.device c.args.lane c.in_ok-left.left c.args.done.submitted c.in-Some.end.submitted (there g a) (whole g a) c.in_ok-left.ensures.left (many g a) in
    omega (arith, number)

pub returns-clause-row : goal.returns-clause-row
returns-clause-row g c =
    let a = (goal.at.returns-clause-row g c).After-emptied in
    rw c.in-Some.is (lane_row c.emptied.new.device c.args.lane c.in_ok-left.left c.args.done.submitted c.in-Some.end.submitted (there g a) (whole g a) c.in_ok-left.ensures.left (many g a))

pub returns-clause-emptied : goal.returns-clause-emptied
returns-clause-emptied g c =
    subst (λ (e : Running). EmptiesLane c.args.lane e.steps c.emptied.new.device.engine.steps) c.settle_lane-left.ensures.rest.0 c.in_ok-left.ensures.emptied

pub returns-clause-none_left : goal.returns-clause-none_left
returns-clause-none_left g c free = c.in_ok-left.ensures.none_left (ap (λ (e : Running). has_close e.steps) c.settle_lane-left.ensures.rest.0 ∙ free)
