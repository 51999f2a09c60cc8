use Rattle.std.specs.Prelude.{◌≡◌, ◌≢◌, ℕ, zero, suc, ◌+◌, ◌^◌, ◌<◌, ◌≤◌, Bool, false, List, [], ◌∷◌, ◌++◌, filter, max, Result, Ok, Err, ◌==◌}
use Rattle.packet_core.specs.Packets.{PacketParts}
use Rattle.packet_core.specs.declared.flow.Seed.{Seed}
use Rattle.packet_core.specs.declared.params.ParamFields.{ParamFields}
use Rattle.journal_core.specs.Calls.{Standing}
use Rattle.journal_core.specs.Runs.{IsRunOf}
use Rattle.journal_core.specs.Statistics.{statistics}
use Rattle.journal_core.specs.declared.event.Event.{Event}
use Rattle.journal_core.specs.declared.event.Event.TheVariants.{Accepted, Sent, Dropped, Closed}
use Rattle.journal_core.specs.declared.step.Admitted.{Admitted}
use Rattle.journal_core.specs.declared.step.MomentFault.TheVariants.{TooLarge, Backwards}
use Rattle.journal_core.specs.declared.step.Refusal.{Refusal}
use Rattle.journal_core.specs.declared.step.Refusal.TheVariants.{Moment}
use Rattle.journal_core.specs.declared.step.Step.{Step}
use Rattle.journal_core.specs.declared.totals.Totals.{Totals}
use Rattle.fair_core.specs.FairQueues.{FairQueues}
use Rattle.fair_core.specs.FqCodel.{fq_codel}
use Rattle.sched_core.specs.Engines.{Running}

-- A port as callers see it: what its engine was started with, and how many seats it has.
pub record Port : Type 0 where
  pub params : ParamFields
  pub seed : Seed
  pub seats : ℕ

-- A seat as callers see it: its number, which is the lane of its packets, the acceptances that it was told of, in
-- order, and how many packets it was given.
pub record Seat : Type 0 where
  pub lane : ℕ
  pub told : List Event
  pub sent : ℕ

-- the acceptance that an answer tells of, for that packet of the seat's
abbrev pub told_event : Seat → Admitted → PacketParts → Event
told_event s a packet = Accepted s.lane a.id a.moment a.flow packet

-- the seat, told of one more acceptance of its own
abbrev pub told_also : Seat → Admitted → PacketParts → Seat
told_also s a packet = record s { told = s.told ++ told_event s a packet ∷ [] }

-- the seat, given one more packet
abbrev pub sent_also : Seat → Seat
sent_also s = record s { sent = s.sent + 1 }

-- a seat that was told of nothing and given nothing
abbrev pub new_seat : ℕ → Seat
new_seat lane = record { lane = lane; told = []; sent = 0 }

-- the seats below a number
abbrev pub new_seats : ℕ → List Seat
new_seats zero = []
new_seats (suc n) = new_seats n ++ new_seat n ∷ []

-- whether an event is an acceptance from that lane
abbrev pub is_of : ℕ → Event → Bool
is_of lane (Accepted from id moment flow packet) = from == lane
is_of lane (Sent id moment ecn mark) = false
is_of lane (Dropped id moment cause) = false
is_of lane (Closed moment) = false

-- the acceptances of a lane, in order
abbrev pub of_lane : ℕ → List Event → List Event
of_lane lane events = filter (is_of lane) events

-- Why a call at `now` is refused: a moment is too large exactly where `now` is 2^60 or more, and it is never before the
-- last one, since a step is made at the later of the two.
abbrev pub Refuses : {X : Type 0} → ℕ → Result X Refusal → Type 0
Refuses now (Ok answer) = now < 2 ^ 60
Refuses now (Err why) =
    (2 ^ 60 ≤ now → why ≡ Moment TooLarge) × (why ≡ Moment TooLarge → 2 ^ 60 ≤ now)
    × ((last : ℕ) → why ≢ Moment (Backwards last))

-- the moment of a step of the engine's that is asked for at `now`: time doesn't go back
abbrev pub moment_at : Running → ℕ → ℕ
moment_at engine now = max now engine.sched.standing.state.last

-- These are the statistics of the journal of some run of steps.
pub record AreTotalsOfARun (totals : Totals) : Type 0 where
  pub params : ParamFields
  pub seed : Seed
  pub made : List Step
  pub standing : Standing FairQueues
  pub run : IsRunOf (fq_codel params seed) made standing
  pub are : totals ≡ statistics standing.events
