-- The senders of a trace: the calls of each, and what it did with them.
use Rattle.std.specs.Prelude.{◌≡◌, ◌≢◌, ◌⊎◌, ◌≤◌, ◌<◌, ℕ, ◌+◌, ◌%◌, ◌==◌, List, [], ◌∷◌, Option, IfSome, Vec, if◌then◌else◌, length, map, slice_index_or, take}
use Rattle.std.specs.Global.{Global}
use Rattle.std.specs.List.{flat_map}
use Rattle.packet_core.specs.FlowNumber.{flow_number}
use Rattle.packet_core.specs.Packets.{PacketParts}
use Rattle.packet_core.specs.declared.flow.Seed.{Seed}
use Rattle.packet_core.specs.declared.params.ParamFields.{ParamFields}
use Rattle.journal_core.specs.declared.step.Step.{Step}
use Rattle.journal_core.specs.declared.step.Step.TheVariants.{Enqueue, Dequeue, Close}
use Rattle.port_core.specs.Lanes.{Sending, finished_after}
use Rattle.port_core.specs.Ports.{Seat}
use Rattle.port_core.specs.Senders.{SendsAt, SendsSome, StopsAs, calls_answered}
use Rattle.port_core.specs.declared.gate.Stop.{Stop}
use Rattle.port_core.specs.declared.gate.Stop.TheVariants as stop

-- the sender of a packet: its flow modulo the number of senders
abbrev pub sender_of : ParamFields → Seed → ℕ → PacketParts → ℕ
sender_of p seed senders packet = flow_number p.classify p.flows seed packet.tuple % senders

-- the call that a step is for a sender: its packet, at its moment, where it has one of this sender's
abbrev pub calls_of_step : ParamFields → Seed → ℕ → ℕ → Step → List (ℕ × PacketParts)
calls_of_step p seed senders sender (Enqueue moment lane packet) =
    if sender_of p seed senders packet == sender then (moment, packet) ∷ [] else []
calls_of_step p seed senders sender (Dequeue moment) = []
calls_of_step p seed senders sender (Close moment) = []

-- the calls of a sender, in the order of the steps
abbrev pub calls_of : ParamFields → Seed → ℕ → ℕ → List Step → List (ℕ × PacketParts)
calls_of p seed senders sender steps = flat_map (calls_of_step p seed senders sender) steps

-- These are the calls of the senders, in their order.
pub record AreCalls (p : ParamFields) (seed : Seed) (senders : ℕ) (steps : List Step)
    (lists : List (Vec (ℕ × PacketParts) Global)) : Type 0 where
  pub number : length lists ≡ senders
  pub each : (i : ℕ) (d : Vec (ℕ × PacketParts) Global) → i < senders
      → (slice_index_or lists i d).items ≡ calls_of p seed senders i steps

-- A sender with that seat and that list made so many calls and stopped so, and has this seat then. Each of its calls was
-- made at its moment. All were accepted or passed over, unless the last one was refused.
pub record IsDone (old : Seat) (list : List (ℕ × PacketParts)) (calls : ℕ) (why : Stop) (new : Seat) : Type 0 where
  pub told : SendsSome old (map (λ p. p.1) list) calls new
  pub done : why ≡ stop.Done → calls ≡ length list
  pub moments : SendsAt old list (calls_answered why calls) new
  pub stops : StopsAs list calls why

-- A gate let each of so many calls through.
abbrev pub LetsThrough : (ℕ → Type 0) → ℕ → Type 0
LetsThrough Let calls = (call : ℕ) → 0 < call → call ≤ calls → Let call

-- Where a sender stalled after so many calls, its gate held the next one up.
abbrev pub IsHeldUp : (ℕ → Type 0) → ℕ → Stop → Type 0
IsHeldUp Held calls why = why ≡ stop.Stalled → Held (calls + 1)

-- A sender with that end of its lane and those packets submitted so many of them and stopped so. It is done exactly
-- where it submitted all of them. Its lane wasn't full where it had room for all of them. What is left of it stands
-- beside it, unless the device was dropped before.
pub record IsLaneDone (old : Sending) (packets : List PacketParts) (submitted : ℕ) (why : Stop)
    (end : Option Sending) : Type 0 where
  pub most : submitted ≤ length packets
  pub done : why ≡ stop.Done → submitted ≡ length packets
  pub all : submitted ≡ length packets → why ≡ stop.Done
  pub stops : (why ≡ stop.Done) ⊎ (why ≡ stop.Stalled) ⊎ (why ≡ stop.Full)
  pub fits : length packets ≤ old.room → why ≢ stop.Full
  pub ends : IfSome end (λ e. e ≡ finished_after old (take submitted packets))
