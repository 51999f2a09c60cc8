-- The numbers of a state stay in range from one serve to the next.
use Rattle.std.proofs.Common.{ℕ, zero, suc, ◌+◌, ◌-◌, ◌<◌, ◌≤◌, ◌∙◌, List, Option, length, ap, arith, below_more}
use Rattle.std.proofs.lemmas.List.{length-drop}
use Rattle.std.specs.Prelude.{max}
use Rattle.std.proofs.lemmas.Bool.Decides.{nat_tests}
use Rattle.packet_core.specs.Params.{IsIntervalInRange}
use Rattle.packet_core.specs.declared.packet.Waiting.{Waiting}
use Rattle.packet_core.specs.declared.params.ParamFields.{ParamFields}
use Rattle.codel_core.specs.declared.served.Mark.{Mark}
use Rattle.codel_core.specs.declared.served.Served.{Served}
use Rattle.codel_core.specs.declared.state.CodelState.{CodelState}
use Rattle.codel_core.specs.Schedule.{drop_moment, resumed_count, entered, StaysInRange}
use Rattle.codel_core.specs.Verdict.{ServesLine, Stops, leaves, waits, marks, Verdict, nothing, first_mark, first_drop, drops}
use Rattle.codel_core.proofs.SpacingLemmas.{spacing_le}
use Rattle.codel_core.proofs.VerdictLemmas.{one_behind, within}

-- dropping begins with a count that is at most one more
resumed_range : (p : ParamFields) (now : ℕ) (s : CodelState) → (1 ≤ resumed_count p now s) × (resumed_count p now s ≤ s.count + 1)
resumed_range p now s = grind (arith, nat_tests)

-- behind places that were due, the schedule is at most an interval past now
moment_le : (interval now : ℕ) (s : CodelState) (k : ℕ) → ((j : ℕ) → j < k → drop_moment interval s j ≤ now) → drop_moment interval s k ≤ max s.drop_next (now + interval)
moment_le interval now s zero due = omega arith
moment_le interval now s (suc j) due = omega (arith, due j (omega arith), spacing_le interval (s.count + j + 1) (omega arith))

module _ (p : ParamFields) (now : ℕ) (q : List Waiting) (old : CodelState) (interval : IsIntervalInRange p.interval) where
  -- what a caller keeps behind k drops and one packet more
  abbrev pub StaysInRangeBehind : ℕ → CodelState → Type 0
  StaysInRangeBehind k new = StaysInRange p now old (length q) new (length q - (k + 1))

  entered_stays : (k : ℕ) → k < length q → StaysInRangeBehind k (entered p now old)
  entered_stays k within =
      let range = resumed_range p now old in
      let spaced = spacing_le p.interval (resumed_count p now old) range.0 in
      record { interval = interval; drop_next = omega (arith, spaced); count = omega (arith, range.1); lastcount = omega arith }

  stop_stays : {k : ℕ} {mark : Mark} {new : CodelState} → k < length q → ((j : ℕ) → j < k → drop_moment p.interval old j ≤ now) → Stops p now q old k mark new → StaysInRangeBehind k new
  stop_stays {k} within due (leaves n) =
      record { interval = interval; drop_next = moment_le p.interval now old (k - 1) (λ j h. due j (omega arith)); count = omega arith; lastcount = omega arith }
  stop_stays {k} within due (waits d early) =
      record { interval = interval; drop_next = moment_le p.interval now old k due; count = omega arith; lastcount = omega arith }
  stop_stays {k} within due (marks d at can) =
      let next = moment_le p.interval now old (k + 1) (below_more (λ j. drop_moment p.interval old j ≤ now) k due at) in
      record { interval = interval; drop_next = next; count = omega arith; lastcount = omega arith }

  pub verdict_stays : {k : ℕ} {mark : Mark} {new : CodelState} → Verdict p now q old k mark new → StaysInRangeBehind k new
  verdict_stays (nothing n) = record { interval = interval; drop_next = omega arith; count = omega arith; lastcount = omega arith }
  verdict_stays (first_mark d idle can) = entered_stays 0 (omega (arith, one_behind p now q old 0 d.0))
  verdict_stays (first_drop d idle cannot) = entered_stays 1 (omega (arith, one_behind p now q old 0 d.0))
  verdict_stays (drops {k} d dropping before stop) = stop_stays (within p now q old k d before) (λ j h. (before j h).due) stop

-- the numbers of a state stay in range over a serve
pub serves_stays : {A B : Type 0} {items : A → List Waiting} {pulled : A → ℕ → A → Type 0} {taken : B → List Waiting → B → Type 0}
    {p : ParamFields} {now : ℕ} {old : CodelState} {line : A} {sink : B} {answer : Option Served} {new : CodelState} {line' : A} {sink' : B}
    → IsIntervalInRange p.interval → ServesLine items pulled taken p now old line sink answer new line' sink'
    → StaysInRange p now old (length (items line)) new (length (items line'))
serves_stays {items = items} {p = p} {now = now} {old = old} {line = line} interval s =
    let q = items line in
    let kept = verdict_stays p now q old interval s.decides.verdict in
    let left = ap (λ (l : List Waiting). length l) s.left.rest ∙ length-drop (s.drops + 1) q in
    record { interval = kept.interval; drop_next = kept.drop_next; count = omega (arith, kept.count, left); lastcount = kept.lastcount }
