-- The drops that a journal tells, and those of them that are kept.
use Rattle.std.specs.Prelude.{◌≡◌, ℕ, ◌+◌, Bool, true, false, List, [], ◌∷◌, ◌++◌, map, length, Option, Some, None, IsSomeAnd, slice_get, if◌then◌else◌}
use Rattle.std.specs.List.{filter_map, list_any}
use Rattle.packet_core.specs.declared.packet.Waiting.{Waiting}
use Rattle.journal_core.specs.declared.event.Cause.{Cause}
use Rattle.journal_core.specs.declared.event.Event.{Event}
use Rattle.journal_core.specs.declared.event.Event.TheVariants.{Accepted, Sent, Dropped, Closed}
use Rattle.queue_disc_core.specs.declared.answers.Dropped.{Dropped as Drop}
use Rattle.queue_disc_core.specs.declared.answers.Handle.{Handle}

-- the cause that a Dropped tells
abbrev pub cause_of : Event → Option Cause
cause_of (Accepted lane id moment flow packet) = None
cause_of (Sent id moment ecn mark) = None
cause_of (Dropped id moment cause) = Some cause
cause_of (Closed moment) = None

-- the causes of the drops, in order
abbrev pub causes_of : List Event → List Cause
causes_of events = filter_map cause_of events

abbrev pub is_accepted : Event → Bool
is_accepted (Accepted lane id moment flow packet) = true
is_accepted (Sent id moment ecn mark) = false
is_accepted (Dropped id moment cause) = false
is_accepted (Closed moment) = false

-- how many drops stand before the last acceptance, and none where there is no acceptance
abbrev pub settled_drops : List Event → ℕ
settled_drops [] = 0
settled_drops (e ∷ events) =
    if list_any is_accepted events then length (causes_of (e ∷ [])) + settled_drops events else 0

-- The drop is the one of that number, from 0: the packet is the lost one of that number, and the cause is that which the
-- drop of that number tells.
pub record IsDropAt (events : List Event) (lost : List Waiting) (n : ℕ) (d : Drop) : Type 0 where
  pub packet : IsSomeAnd (slice_get lost n) (λ w. (d.tag ≡ w.packet.tag) × (d.id ≡ w.id))
  pub cause : slice_get (causes_of events) n ≡ Some d.cause

-- what a lost packet is known by
abbrev pub loss_of : Waiting → Handle
loss_of w = record { tag = w.packet.tag; id = w.id }

-- what a drop's packet is known by
abbrev pub drop_handle_of : Drop → Handle
drop_handle_of d = record { tag = d.tag; id = d.id }

-- The drops that are kept are the last ones: those before are forgotten, which are the ones before the last acceptance.
pub record AreRecent (drops : List Drop) (told : List Event) (lost : List Waiting) : Type 0 where
  pub past_losses : List Handle
  pub past_causes : List Cause
  pub losses_are : map loss_of lost ≡ past_losses ++ map drop_handle_of drops
  pub causes_are : causes_of told ≡ past_causes ++ map (λ (d : Drop). d.cause) drops
  pub as_many : length past_losses ≡ length past_causes
  pub settled : length past_causes ≡ settled_drops told

-- what a recorder was told: the events, the packets sent and the packets lost, how many events more it can be told, and
-- for how many drops it was made
pub record DropTale : Type 0 where
  pub events : List Event
  pub sent : List Waiting
  pub lost : List Waiting
  pub room : ℕ
  pub made_for : ℕ
