use Rattle.std.specs.Prelude.{◌≡◌, ℕ, ◌^◌, Bool, false, Option, Some, None, option_map, Result, Ok, Err, nat_lt, nat_le, if◌then◌else◌}
use Rattle.packet_core.specs.Packets.{PacketParts}
use Rattle.packet_core.specs.declared.packet.Waiting.{Waiting}
use Rattle.journal_core.specs.declared.step.MomentFault.{MomentFault}
use Rattle.journal_core.specs.declared.step.MomentFault.TheVariants.{TooLarge, Backwards}
use Rattle.journal_core.specs.declared.step.Refusal.{Refusal}
use Rattle.journal_core.specs.declared.step.Refusal.TheVariants.{Moment, ClosedAlready, Exhausted, Memory}
use Rattle.journal_core.specs.declared.step.Step.{Step}
use Rattle.journal_core.specs.declared.step.Step.TheVariants.{Enqueue, Dequeue, Close}

-- What a scheduler keeps, whatever its queues are: the queues, the id that the next packet gets, the moment of
-- the last step that wasn't refused, in microseconds, and whether there was a close.
pub record State (Q : Type 0) : Type 0 where
  pub queues : Q
  pub next_id : ℕ
  pub last : ℕ
  pub closed : Bool

-- before the first step
abbrev pub opening_state : {Q : Type 0} → Q → State Q
opening_state queues = record { queues = queues; next_id = 0; last = 0; closed = false }

-- how a packet waits that is accepted at that moment
abbrev pub arrival : {Q : Type 0} → State Q → ℕ → PacketParts → Waiting
arrival old moment packet = record { id = old.next_id; stamp = moment; packet = packet }

-- A moment is below 2^60 and not before the last one.
abbrev pub moment_fault_of : ℕ → ℕ → Option MomentFault
moment_fault_of moment last =
    if nat_le (2 ^ 60) moment then Some TooLarge else (if nat_lt moment last then Some (Backwards last) else None)

-- the first of two answers that is there
abbrev pub first_of_two : {X : Type 0} → Option X → Option X → Option X
first_of_two (Some x) o = Some x
first_of_two None o = o

-- After the close nothing is accepted, and there is no other close.
abbrev pub closed_refusal_of : {Q : Type 0} → State Q → Option Refusal
closed_refusal_of old = if old.closed then Some ClosedAlready else None

-- There are ids for 2^40 packets.
abbrev pub id_refusal_of : {Q : Type 0} → State Q → Option Refusal
id_refusal_of old = if nat_le (2 ^ 40) old.next_id then Some Exhausted else None

-- why an enqueue at that moment is refused, if it is, apart from want of memory: the tests in their order
abbrev pub enqueue_refusal_of : {Q : Type 0} → State Q → ℕ → Option Refusal
enqueue_refusal_of old moment =
    first_of_two (option_map Moment (moment_fault_of moment old.last))
    (first_of_two (closed_refusal_of old) (id_refusal_of old))

-- and why a step is
abbrev pub refusal_of : {Q : Type 0} → State Q → Step → Option Refusal
refusal_of old (Enqueue moment lane packet) = enqueue_refusal_of old moment
refusal_of old (Dequeue moment) = option_map Moment (moment_fault_of moment old.last)
refusal_of old (Close moment) =
    first_of_two (option_map Moment (moment_fault_of moment old.last)) (closed_refusal_of old)

-- A test answers Err exactly where there is a refusal, and then with it.
abbrev pub Tests : {E : Type 0} → Option E → Result Unit E → Type 0
Tests refusal (Ok _) = refusal ≡ None
Tests refusal (Err e) = refusal ≡ Some e

-- why a call is refused: the step's own refusal, and want of memory only where there is none
abbrev pub IsRefusal : Option Refusal → Refusal → Type 0
IsRefusal (Some expected) r = r ≡ expected
IsRefusal None r = r ≡ Memory
