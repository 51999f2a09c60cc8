use Rattle.std.specs.Prelude.{◌≡◌, ℕ, List, ◌++◌, Option, None, option_map}
use Rattle.packet_core.specs.Packets.{PacketParts}
use Rattle.journal_core.specs.declared.event.Event.{Event}
use Rattle.journal_core.specs.declared.outcome.Answer.{Answer}
use Rattle.journal_core.specs.declared.step.Admitted.{Admitted}
use Rattle.journal_core.specs.declared.step.Sent.{Sent}
use Rattle.journal_core.specs.declared.step.CloseFault.{CloseFault}
use Rattle.journal_core.specs.declared.step.CloseFault.TheVariants as close_fault
use Rattle.journal_core.specs.declared.step.Refusal.{Refusal}
use Rattle.journal_core.specs.declared.step.Refusal.TheVariants as refusal
use Rattle.journal_core.specs.declared.step.Step.{Step}
use Rattle.journal_core.specs.declared.step.Step.TheVariants.{Dequeue}
use Rattle.codel_core.specs.Verdict.{sent_ecn}
use Rattle.journal_core.specs.Disciplines.{Discipline, Given}
use Rattle.journal_core.specs.State.{State, refusal_of}
use Rattle.journal_core.specs.Steps.{Makes, Serves}

-- a scheduler as callers see it: its state and its journal
pub record Standing (Q : Type 0) : Type 0 where
  pub state : State Q
  pub events : List Event

-- The step is not refused. It is made, and its events stand at the journal's end.
pub record Advances {Q : Type 0} (d : Discipline Q) (old : Standing Q) (step : Step) (answer : Answer)
    (new : Standing Q) : Type 0 where
  pub fits : refusal_of old.state step ≡ None
  pub made : List Event
  pub makes : Makes d old.state step answer made new.state
  pub journal : new.events ≡ old.events ++ made

-- what an enqueue answers
abbrev pub admitted_at : {Q : Type 0} → Discipline Q → State Q → ℕ → PacketParts → Admitted
admitted_at d old moment packet = record { id = old.next_id; moment = moment; flow = d.flow_of packet.tuple }

-- the packet that is given, with its field as sent
abbrev pub sent_at : ℕ → Given → Sent
sent_at moment g = record {
  id = g.waiting.id;
  moment = moment;
  packet = record g.waiting.packet { ecn = sent_ecn g.mark g.waiting.packet.ecn };
  mark = g.mark;
}

-- A dequeue is made, and the packet that it gives is answered.
pub record Gives {Q : Type 0} (d : Discipline Q) (old : Standing Q) (moment : ℕ) (sent : Option Sent)
    (new : Standing Q) : Type 0 where
  pub fits : refusal_of old.state (Dequeue moment) ≡ None
  pub given : Option Given
  pub made : List Event
  pub serves : Serves d old.state moment given made new.state
  pub journal : new.events ≡ old.events ++ made
  pub told : sent ≡ option_map (sent_at moment) given

-- the refusal that a close's fault is
abbrev pub close_refusal : CloseFault → Refusal
close_refusal (close_fault.Moment fault) = refusal.Moment fault
close_refusal close_fault.ClosedAlready = refusal.ClosedAlready
