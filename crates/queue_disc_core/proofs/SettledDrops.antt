-- How many drops stand before the last acceptance, where events come to the journal's end.
use Rattle.std.proofs.Common.{◌≡◌, ℕ, ◌+◌, Bool, true, false, ◌||◌, List, [], ◌∷◌, ◌++◌, length, refl, ap, ◌∙◌, arith}
use Rattle.std.specs.List.{list_any}
use Rattle.packet_core.specs.Packets.{PacketParts}
use Rattle.journal_core.specs.declared.event.Event.{Event}
use Rattle.journal_core.specs.declared.event.Event.TheVariants.{Accepted, Sent, Dropped, Closed}
use Rattle.queue_disc_core.specs.Drops.{causes_of, is_accepted, settled_drops}

or_true : (b : Bool) → (b || true) ≡ true
or_true true = refl
or_true false = refl

any_stays : (xs ys : List Event) → list_any is_accepted ys ≡ false → list_any is_accepted (xs ++ ys) ≡ list_any is_accepted xs
any_stays [] ys none = none
any_stays (x ∷ xs) ys none = ap (λ b. is_accepted x || b) (any_stays xs ys none)

settled_none : (ys : List Event) → list_any is_accepted ys ≡ false → settled_drops ys ≡ 0
settled_none [] none = refl
settled_none (Accepted lane id moment flow packet ∷ ys) none = absurd (cc none)
settled_none (Sent id moment ecn mark ∷ ys) none = rw none refl
settled_none (Dropped id moment cause ∷ ys) none = rw none refl
settled_none (Closed moment ∷ ys) none = rw none refl

-- Events without an acceptance leave the number.
pub settled_stays : (xs ys : List Event) → list_any is_accepted ys ≡ false → settled_drops (xs ++ ys) ≡ settled_drops xs
settled_stays [] ys none = settled_none ys none
settled_stays (x ∷ xs) ys none = rw (any_stays xs ys none, settled_stays xs ys none) refl

pub causes_from : (x : Event) (xs : List Event) → length (causes_of (x ∷ xs)) ≡ length (causes_of (x ∷ [])) + length (causes_of xs)
causes_from (Accepted lane id moment flow packet) xs = omega arith
causes_from (Sent id moment ecn mark) xs = omega arith
causes_from (Dropped id moment cause) xs = omega arith
causes_from (Closed moment) xs = omega arith

module _ (lane id moment flow : ℕ) (packet : PacketParts) (ys : List Event) where
  abbrev accepted : Event
  accepted = Accepted lane id moment flow packet

  any_there : (xs : List Event) → list_any is_accepted (xs ++ accepted ∷ ys) ≡ true
  any_there [] = refl
  any_there (x ∷ xs) = ap (λ b. is_accepted x || b) (any_there xs) ∙ or_true (is_accepted x)

  -- With an acceptance, all drops so far are settled.
  pub settled_accept : (xs : List Event) → list_any is_accepted ys ≡ false → settled_drops (xs ++ accepted ∷ ys) ≡ length (causes_of xs)
  settled_accept [] none = rw none refl
  settled_accept (x ∷ xs) none = rw (any_there xs) (omega (arith, settled_accept xs none, causes_from x xs))
