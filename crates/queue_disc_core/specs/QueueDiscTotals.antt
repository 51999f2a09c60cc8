-- The statistics of a queue disc over all its schedulers.
use Rattle.std.specs.Prelude.{ℕ, ◌+◌, ◌-◌, ◌≤◌, ◌^◌, false, min}
use Rattle.journal_core.specs.declared.totals.Totals.{Totals}
use Rattle.queue_disc_core.specs.declared.totals.FlushedCounts.{FlushedCounts}
use Rattle.queue_disc_core.specs.declared.totals.QueueDiscTotals.{QueueDiscTotals}

-- a count that stays at the most that 64 bits hold
abbrev pub capped : ℕ → ℕ
capped n = min n (2 ^ 64 - 1)

abbrev pub no_totals : QueueDiscTotals
no_totals = record {
  accepted = 0;
  accepted_bytes = 0;
  sent = 0;
  sent_bytes = 0;
  dropped_codel = 0;
  dropped_overflow = 0;
  dropped_bytes = 0;
  marked = 0;
  threshold_marked = 0;
  flushed = 0;
  flushed_bytes = 0;
  queued = 0;
  queued_bytes = 0;
  closed = false;
}

abbrev pub nothing_flushed : FlushedCounts
nothing_flushed = record { packets = 0; bytes = 0; marked = 0; threshold_marked = 0 }

-- The statistics of earlier schedulers, and those of the one that goes on, which counts a flushed packet as sent: so much
-- of it was flushed.
abbrev pub totals_by : QueueDiscTotals → Totals → FlushedCounts → QueueDiscTotals
totals_by past now flushed_counts = record {
  accepted = past.accepted + now.accepted;
  accepted_bytes = capped (past.accepted_bytes + now.accepted_bytes);
  sent = past.sent + (now.sent - flushed_counts.packets);
  sent_bytes = capped (past.sent_bytes + (now.sent_bytes - flushed_counts.bytes));
  dropped_codel = past.dropped_codel + now.dropped_codel;
  dropped_overflow = past.dropped_overflow + now.dropped_overflow;
  dropped_bytes = capped (past.dropped_bytes + now.dropped_bytes);
  marked = capped (past.marked + (now.marked - flushed_counts.marked));
  threshold_marked = capped (past.threshold_marked + (now.threshold_marked - flushed_counts.threshold_marked));
  flushed = past.flushed + flushed_counts.packets;
  flushed_bytes = capped (past.flushed_bytes + flushed_counts.bytes);
  queued = now.queued;
  queued_bytes = now.queued_bytes;
  closed = now.closed;
}

-- all that a scheduler counted as sent from one point to another is flushed, too
abbrev pub more_flushed : FlushedCounts → Totals → Totals → FlushedCounts
more_flushed flushed_counts before after = record {
  packets = flushed_counts.packets + (after.sent - before.sent);
  bytes = flushed_counts.bytes + (after.sent_bytes - before.sent_bytes);
  marked = flushed_counts.marked + (after.marked - before.marked);
  threshold_marked = flushed_counts.threshold_marked + (after.threshold_marked - before.threshold_marked);
}

-- No more was flushed than was counted as sent.
pub record IsFlushedWithin (flushed_counts : FlushedCounts) (now : Totals) : Type 0 where
  pub packets : flushed_counts.packets ≤ now.sent
  pub bytes : flushed_counts.bytes ≤ now.sent_bytes
  pub marked : flushed_counts.marked ≤ now.marked
  pub threshold_marked : flushed_counts.threshold_marked ≤ now.threshold_marked

-- What is counted of sent packets never falls.
pub record HasGrown (before after : Totals) : Type 0 where
  pub sent : before.sent ≤ after.sent
  pub bytes : before.sent_bytes ≤ after.sent_bytes
  pub marked : before.marked ≤ after.marked
  pub threshold_marked : before.threshold_marked ≤ after.threshold_marked
