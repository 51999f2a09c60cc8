-- Why an enqueue is refused.
use Rattle.std.specs.Prelude.{Option}
use Rattle.journal_core.specs.State.{IsRefusal}
use Rattle.journal_core.specs.declared.step.Refusal.{Refusal}
use Rattle.queue_disc_core.specs.declared.answers.EnqueueFault.{EnqueueFault}
use Rattle.queue_disc_core.specs.declared.answers.EnqueueFault.TheVariants.{Refused, Unread}

-- A refusal of the scheduler is the one that the step has, or want of memory where it has none.
abbrev pub IsFault : Option Refusal → EnqueueFault → Type 0
IsFault expected Unread = Unit {0}
IsFault expected (Refused r) = IsRefusal expected r
