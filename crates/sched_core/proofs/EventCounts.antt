-- How many events a journal has.
use Rattle.std.proofs.Common.{◌≡◌, ◌+◌, false, List, [], ◌∷◌, length, refl, ap, arith}
use mir.Val.{bool_byte}
use Rattle.std.specs.List.{list_any}
use Rattle.journal_core.specs.declared.event.Event.{Event}
use Rattle.journal_core.specs.declared.event.Event.TheVariants.{Accepted, Closed, Dropped, Sent}
use Rattle.journal_core.specs.Happened.{acceptances, fate_ids, is_closed}
use Rattle.journal_core.specs.JournalLaws.{IsClosedForGood, is_barred}

-- where nothing is barred there is no close
no_close : (events : List Event) → list_any is_barred events ≡ false → list_any is_closed events ≡ false
no_close [] none = refl
no_close (Accepted lane id moment flow packet ∷ events) none = absurd (cc none)
no_close (Sent id moment ecn mark ∷ events) none = no_close events none
no_close (Dropped id moment cause ∷ events) none = no_close events none
no_close (Closed moment ∷ events) none = absurd (cc none)

-- Each event is an acceptance, a fate or the close.
pub number_of_events : (events : List Event) → IsClosedForGood events
    → length events ≡ length (acceptances events) + length (fate_ids events) + bool_byte (list_any is_closed events)
number_of_events [] good = refl
number_of_events (Accepted lane id moment flow packet ∷ events) good = omega (arith, number_of_events events good.1)
number_of_events (Sent id moment ecn mark ∷ events) good = omega (arith, number_of_events events good.1)
number_of_events (Dropped id moment cause ∷ events) good = omega (arith, number_of_events events good.1)
number_of_events (Closed moment ∷ events) good =
    omega (arith, number_of_events events good.1, ap (λ b. bool_byte b) (no_close events (good.0 refl)))
