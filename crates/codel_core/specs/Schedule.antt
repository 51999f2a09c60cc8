use Rattle.std.specs.Prelude.{ℕ, zero, suc, ◌+◌, ◌-◌, ◌*◌, ◌^◌, ◌≤◌, max, if◌then◌else◌, nat_lt, nat_le, ◌&&◌, true, false}
use Rattle.packet_core.specs.Params.{IsIntervalInRange}
use Rattle.packet_core.specs.declared.params.ParamFields.{ParamFields}
use Rattle.codel_core.specs.declared.state.CodelState.{CodelState}

-- the greatest r, up to most, with r * r * n at most v
abbrev pub greatest_root : ℕ → ℕ → ℕ → ℕ
greatest_root v n zero = 0
greatest_root v n (suc r) = if nat_le (suc r * suc r * n) v then suc r else greatest_root v n r

-- interval / sqrt(n), rounded down
unfoldable pub spacing_of : ℕ → ℕ → ℕ
spacing_of interval n = greatest_root (interval * interval) n interval

-- the drop schedule: when the packet at place j is due, if all before it are dropped (RFC 8289, section 5.6)
abbrev pub drop_moment : ℕ → CodelState → ℕ → ℕ
drop_moment interval s zero = s.drop_next
drop_moment interval s (suc j) = drop_moment interval s j + spacing_of interval (s.count + j + 1)

-- the state of a queue that drops, behind so many drops of the schedule
abbrev pub after_drops : ℕ → CodelState → ℕ → CodelState
after_drops interval s k = record s { count = s.count + k; drop_next = drop_moment interval s k }

-- the same where it stops to drop: drop_next stays at the moment at which the last of them was due
abbrev pub stopped_after : ℕ → CodelState → ℕ → CodelState
stopped_after interval s k =
    record (after_drops interval s k) { dropping = false; drop_next = drop_moment interval s (k - 1) }

-- The count that dropping begins with. It goes on from what the count grew by when the queue dropped last, where that
-- was short ago.
abbrev pub resumed_count : ParamFields → ℕ → CodelState → ℕ
resumed_count p now s =
    if nat_lt 1 (s.count - s.lastcount) && nat_lt now (s.drop_next + 16 * p.interval) then s.count - s.lastcount else 1

-- a state that begins to drop
abbrev pub entered : ParamFields → ℕ → CodelState → CodelState
entered p now s =
    record s {
      dropping = true;
      count = resumed_count p now s;
      lastcount = resumed_count p now s;
      drop_next = now + spacing_of p.interval (resumed_count p now s);
    }

-- the numbers of a state, so that sums with them fit 64 bits
pub record IsStateInRange (s : CodelState) : Type 0 where
  pub drop_next : s.drop_next ≤ 2 ^ 61
  pub count : s.count ≤ 2 ^ 61
  pub lastcount : s.lastcount ≤ 2 ^ 61

-- How the numbers of a state go on from one serve to the next, so that a caller can keep them in range. `waiting` and
-- `waiting'` are the lengths of the line before the serve and behind it. drop_next goes at most an interval past now,
-- the count grows by at most the number of packets that leave the line, and lastcount stays or follows the count.
pub record StaysInRange (p : ParamFields) (now : ℕ) (old : CodelState) (waiting : ℕ) (new : CodelState) (waiting' : ℕ)
    : Type 0 where
  pub interval : IsIntervalInRange p.interval
  pub drop_next : new.drop_next ≤ max old.drop_next (now + p.interval)
  pub count : new.count + waiting' ≤ old.count + waiting
  pub lastcount : new.lastcount ≤ max old.lastcount new.count
