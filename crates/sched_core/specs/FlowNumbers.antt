use Rattle.std.specs.Prelude.{◌≡◌, ◌<◌, ◌≤◌, ◌⊎◌, All, vec_len}
use Rattle.packet_core.specs.FlowNumber.{flow_number}
use Rattle.packet_core.specs.declared.flow.Seed.{Seed}
use Rattle.packet_core.specs.declared.packet.FiveTuple.{FiveTuple}
use Rattle.packet_core.specs.declared.params.Classify.TheVariants.{Hash}
use Rattle.packet_core.specs.declared.params.ParamFields.{ParamFields}
use Rattle.sched_core.specs.Hashing.{Hashing}
use Rattle.sched_core.specs.declared.flow_numbers.FlowNumbers.TheInside.{Inside}
use Rattle.sched_core.specs.declared.flow_numbers.Numbered.{Numbered}
use Rattle.sched_core.specs.declared.flow_numbers.Place.{Place}

-- what flow numbers are by
abbrev pub hashing_of : Inside → Hashing
hashing_of numbers = record { flows = numbers.params.flows; seed = numbers.seed }

-- beside the five-tuple stands the number of its flow
pub record HasFlowNumber (p : ParamFields) (seed : Seed) (known : Numbered) : Type 0 where
  pub value : known.flow ≡ flow_number p.classify p.flows seed known.tuple
  pub below : known.flow < p.flows

-- The numbers are by the hash, and so is each that stands in a place; and there are places.
pub record AreFlowNumbers (numbers : Inside) : Type 0 where
  pub hash : numbers.params.classify ≡ Hash
  pub later : All (λ place. HasFlowNumber numbers.params numbers.seed place.later) numbers.places.items
  pub earlier : All (λ place. HasFlowNumber numbers.params numbers.seed place.earlier) numbers.places.items
  pub some : 1 ≤ vec_len numbers.places

-- a five-tuple stands in a place
unfoldable pub Remembers : Place → FiveTuple → Type 0
Remembers place tuple =
    (place.later.tuple ≡ tuple) ⊎ (place.earlier.tuple ≡ tuple)
