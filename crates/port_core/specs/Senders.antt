use Rattle.std.specs.Prelude.{◌≡◌, ◌≢◌, ◌<◌, ◌≤◌, ℕ, ◌-◌, ◌^◌, List, ◌∷◌, [], ◌++◌, Err, length, map, slice_index_or, take}
use Rattle.packet_core.specs.Packets.{PacketParts}
use Rattle.journal_core.specs.declared.event.Event.{Event}
use Rattle.journal_core.specs.declared.event.Event.TheVariants.{Accepted}
use Rattle.journal_core.specs.declared.step.Admitted.{Admitted}
use Rattle.journal_core.specs.declared.step.Refusal.TheVariants.{ClosedAlready}
use Rattle.journal_core.specs.Happened.{acceptances}
use Rattle.journal_core.specs.declared.step.Step.TheVariants.{Enqueue}
use Rattle.port_core.specs.LockedCalls.{IsRefusedBy}
use Rattle.port_core.specs.Ports.{Refuses, Seat}
use Rattle.port_core.specs.declared.gate.Stop.{Stop}
use Rattle.port_core.specs.declared.gate.Stop.TheVariants.{Done, Stalled, Full, Refused}

-- The first list is the second with some of its members left out.
pub data IsSubsequence {X : Type 0} : List X → List X → Type 0 where
  ends : IsSubsequence [] []
  takes : {some all : List X} → (x : X) → IsSubsequence some all → IsSubsequence (some ++ x ∷ []) (all ++ x ∷ [])
  leaves : {some all : List X} → (x : X) → IsSubsequence some all → IsSubsequence some (all ++ x ∷ [])

-- the packets of acceptances, in order
abbrev pub packets_told : List Event → List PacketParts
packets_told events = map (λ a. a.packet) (acceptances events)

-- After so many calls, one for each of the first packets, the seat was told of some of them, in their order.
pub record SendsSome (old : Seat) (packets : List PacketParts) (calls : ℕ) (new : Seat) : Type 0 where
  pub news : List Event
  pub told : new ≡ record old { told = old.told ++ news }
  pub some : IsSubsequence (packets_told news) (take calls packets)

-- These events answer those calls of a lane, in their order. Each is the acceptance of its call's packet, at the call's
-- moment or later. The other calls were refused for the close.
pub data Answers (lane : ℕ) : List Event → List (ℕ × PacketParts) → Type 0 where
  no_calls : Answers lane [] []
  accepts : {events : List Event} {calls : List (ℕ × PacketParts)} → (call : ℕ × PacketParts) (id moment flow : ℕ)
      → call.0 < 2 ^ 60 → call.0 ≤ moment → Answers lane events calls
      → Answers lane (events ++ Accepted lane id moment flow call.1 ∷ []) (calls ++ call ∷ [])
  passes : {events : List Event} {calls : List (ℕ × PacketParts)} → (call : ℕ × PacketParts)
      → call.0 < 2 ^ 60 → IsRefusedBy (λ moment. Enqueue moment lane call.1) call.0 ClosedAlready
      → Answers lane events calls → Answers lane events (calls ++ call ∷ [])

-- So many first calls were accepted or passed over, and of the accepted ones the seat was told.
pub record SendsAt (old : Seat) (packets : List (ℕ × PacketParts)) (calls : ℕ) (new : Seat) : Type 0 where
  pub news : List Event
  pub told : new ≡ record old { told = old.told ++ news }
  pub answers : Answers old.lane news (take calls packets)

-- how many of a sender's calls were accepted or passed over, by why it stopped
abbrev pub calls_answered : Stop → ℕ → ℕ
calls_answered Done calls = calls
calls_answered Stalled calls = calls
calls_answered Full calls = calls
calls_answered (Refused why) calls = calls - 1

-- What the stop of a sender says after so many calls, one for each of the first packets: it is done exactly after the
-- last packet, unless that one was refused. A refused call is the last one, and isn't refused for the close.
abbrev pub StopsAs : List (ℕ × PacketParts) → ℕ → Stop → Type 0
StopsAs packets calls Done = calls ≡ length packets
StopsAs packets calls Stalled = calls < length packets
StopsAs packets calls Full = ⊥
StopsAs packets calls (Refused why) = (0 < calls) × (calls ≤ length packets) × (why ≢ ClosedAlready)
    × ((d : ℕ × PacketParts) → Refuses {X = Admitted} ((slice_index_or packets (calls - 1) d).0) (Err why))
