-- A FIFO as callers see it, and what it keeps.
use Rattle.std.specs.Prelude.{◌≡◌, ℕ, ◌+◌, ◌<◌, false, List, All, fold, length, Some}
use Rattle.std.specs.List.{AllByRecursion, range_with_len}
use Rattle.packet_core.specs.declared.flow.Seed.{Seed}
use Rattle.packet_core.specs.declared.packet.Waiting.{Waiting}
use Rattle.packet_core.specs.declared.params.ParamFields.{ParamFields}
use Rattle.journal_core.specs.declared.event.Event.{Event}
use Rattle.journal_core.specs.declared.step.Step.{Step}
use Rattle.journal_core.specs.declared.step.Step.TheVariants.{Enqueue, Dequeue, Close}
use Rattle.journal_core.specs.Happened.{acceptances, accepted_ids, fate_ids}
use Rattle.journal_core.specs.Losses.{departed_packets, lost_packets, waited_as}
use Rattle.journal_core.specs.MadeFor.{MadeFor}
use Rattle.sched_core.specs.Choosing.{Choosing}
use Rattle.link_core.specs.Fifo.{fifo}
use Rattle.link_core.specs.QueueDisciplines.{Progress, Setting, no_progress}

-- what it was made with, the steps that it made, and the queue and the journal that they led to
pub record FifoQueue : Type 0 where
  pub setting : Setting
  pub so_far : Progress (List Waiting)

-- before the first packet
abbrev pub new_fifo : ParamFields → Seed → MadeFor → FifoQueue
new_fifo p seed made_for = record {
  setting = record { params = p; seed = seed; made_for = made_for };
  so_far = no_progress (fifo p seed);
}

abbrev pub step_moment : Step → ℕ
step_moment (Enqueue moment lane packet) = moment
step_moment (Dequeue moment) = moment
step_moment (Close moment) = moment

-- the moment of the last step, or 0 before the first
abbrev pub last_of : List Step → ℕ
last_of steps = fold (λ (last : ℕ) (s : Step). step_moment s) 0 steps

-- its queue, how many packets came, its steps and its journal, as a discipline's
abbrev pub progress_of : List Waiting → ℕ → List Step → List Event → Progress (List Waiting)
progress_of queue came steps events = record {
  standing = record {
    state = record { queues = queue; next_id = came; last = last_of steps; closed = false };
    events = events;
  };
  steps = steps;
}

-- The journal names what waits, as it waits, and each fate is of a packet that came. What left and what was lost is
-- what the journal names so.
pub record AreNamed (arrived : ℕ) (events : List Event) (queue sent lost : List Waiting) : Type 0 where
  pub ids : accepted_ids events ≡ range_with_len 0 arrived
  pub fates : AllByRecursion (λ id. id < arrived) (fate_ids events)
  pub waits : AllByRecursion (λ (w : Waiting). waited_as (acceptances events) w.id ≡ Some w) queue
  pub departed : sent ≡ departed_packets events
  pub gone : lost ≡ lost_packets events

-- What a FIFO keeps: it chooses flows by its parameters, what waits came before, and each packet that came waits or has
-- its fate.
pub record IsKept (p : ParamFields) (chooser : Choosing) (came : ℕ) (queue : List Waiting) (events : List Event)
    (sent lost : List Waiting) : Type 0 where
  pub chooses : chooser.params ≡ p
  pub known : All (λ (w : Waiting). w.id < came) queue
  pub many : length (fate_ids events) + length queue ≡ came
  pub named : AreNamed came events queue sent lost
