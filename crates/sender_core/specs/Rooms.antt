-- What the run of a trace by senders is known to do before it starts, and how much its lists are given memory for.
use Rattle.std.specs.Prelude.{ℕ, ◌+◌, ◌*◌, ◌-◌, ◌^◌, ◌==◌, Bool, true, false, List, count_by, if◌then◌else◌, min}
use Rattle.std.specs.List.{list_any}
use Rattle.journal_core.specs.declared.step.Step.{Step}
use Rattle.journal_core.specs.declared.step.Step.TheVariants.{Enqueue, Dequeue, Close}

abbrev pub is_enqueue : Step → Bool
is_enqueue (Enqueue moment lane packet) = true
is_enqueue (Dequeue moment) = false
is_enqueue (Close moment) = false

abbrev pub is_dequeue : Step → Bool
is_dequeue (Enqueue moment lane packet) = false
is_dequeue (Dequeue moment) = true
is_dequeue (Close moment) = false

abbrev pub is_close : Step → Bool
is_close (Enqueue moment lane packet) = false
is_close (Dequeue moment) = false
is_close (Close moment) = true

-- how many of the steps are enqueues
abbrev pub enqueue_count : List Step → ℕ
enqueue_count steps = count_by is_enqueue steps

-- how many of the steps are dequeues
abbrev pub dequeue_count : List Step → ℕ
dequeue_count steps = count_by is_dequeue steps

-- whether one of the steps is a close
abbrev pub is_any_close : List Step → Bool
is_any_close steps = list_any is_close steps

-- the number, or the largest of a `usize`
abbrev pub within_usize : ℕ → ℕ
within_usize number = min number (2 ^ 64 - 1)

-- So many events are expected of so many packets and those that are taken ahead: each packet is accepted, and sent or
-- dropped. Then there is the close. Of no packet none is expected.
abbrev pub events_of : ℕ → ℕ → ℕ
events_of packets ahead = if packets == 0 then 0 else within_usize (2 * (packets + ahead) + 1)

-- And so many steps, beside the dequeues of the trace: after the last row there are a close, a dequeue for each packet
-- that waits, and one that finds none.
abbrev pub steps_of : ℕ → ℕ → ℕ → ℕ
steps_of packets dequeues ahead = if packets == 0 then 0 else within_usize (dequeues + 2 * (packets + ahead) + 2)
