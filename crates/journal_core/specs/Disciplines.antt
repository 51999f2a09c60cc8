use Rattle.std.specs.Prelude.{◌≡◌, ◌≢◌, ℕ, List, [], ◌∷◌, ◌++◌, Option, Some, None, IfSome, if◌then◌else◌, ◌==◌}
use Rattle.std.specs.List.{flat_map}
use Rattle.packet_core.specs.declared.packet.FiveTuple.{FiveTuple}
use Rattle.packet_core.specs.declared.packet.Waiting.{Waiting}
use Rattle.packet_core.specs.declared.packet.Ecn.{Ecn}
use Rattle.packet_core.specs.declared.packet.Ecn.TheVariants.{NotEct}
use Rattle.codel_core.specs.declared.served.Mark.{Mark}
use Rattle.codel_core.specs.declared.served.Mark.TheVariants.{NoMark, CodelMark, Threshold}

-- a packet that is given to the device, as it waited, and what marks it
pub record Given : Type 0 where
  pub waiting : Waiting
  pub mark : Mark

-- Only a packet whose sender takes part may be marked (RFC 3168, section 5).
abbrev pub MayHave : Mark → Ecn → Type 0
MayHave NoMark ecn = Unit {0}
MayHave CodelMark ecn = ecn ≢ NotEct
MayHave Threshold ecn = ecn ≢ NotEct

-- What a scheduling discipline does with its queues. `admits old w lost new`: with w accepted, the packets
-- lost are dropped, in this order. `serves old moment dropped given new`: a dequeue drops those packets, in
-- this order, and then gives that one.
pub record Discipline (Q : Type 0) : Type 1 where
  pub opening : Q
  pub flow_of : FiveTuple → ℕ
  pub admits : Q → Waiting → List Waiting → Q → Type 0
  pub serves : Q → ℕ → List Waiting → Option Given → Q → Type 0

-- the packets at the head of a flow's queue, and none of any other flow's
abbrev pub heads : ℕ → List Waiting → ℕ → List Waiting
heads flow gone f = if flow == f then gone else []

-- the queues by flow, once those packets have left the head of that flow's queue
abbrev pub LeavesHead : (ℕ → List Waiting) → ℕ → List Waiting → (ℕ → List Waiting) → Type 0
LeavesHead old flow gone new = (f : ℕ) → old f ≡ heads flow gone f ++ new f

-- packets that leave the head of one flow's queue
pub record Batch : Type 0 where
  pub flow : ℕ
  pub gone : List Waiting

-- the packets of all batches, in order
abbrev pub packets_of : List Batch → List Waiting
packets_of batches = flat_map (λ b. b.gone) batches

-- the queues by flow, once each batch in turn has left the head of its flow's queue
abbrev pub LeaveHeads : (ℕ → List Waiting) → List Batch → (ℕ → List Waiting) → Type 0
LeaveHeads old batches new = (f : ℕ) → old f ≡ flat_map (λ b. heads b.flow b.gone f) batches ++ new f

-- the queues by flow, once the packet stands at the tail of its flow's
abbrev pub with_arrival : (ℕ → List Waiting) → ℕ → Waiting → ℕ → List Waiting
with_arrival old flow w f = old f ++ (if flow == f then w ∷ [] else [])

-- the packet that a dequeue gives, as a list
abbrev pub given_packet : Option Given → List Waiting
given_packet None = []
given_packet (Some g) = g.waiting ∷ []

-- The discipline drops from heads alone: what an acceptance loses, batch by batch, and what a dequeue drops of one
-- flow's queue, and then it gives the packet behind those. It takes a packet in at the tail of its flow's queue,
-- and it marks only packets that may be. The laws of the journal hold of every such discipline.
pub record IsFifoByFlow {Q : Type 0} (d : Discipline Q) (queue_of : Q → ℕ → List Waiting) : Type 0 where
  pub opens : (f : ℕ) → queue_of d.opening f ≡ []
  pub admits : (old : Q) (w : Waiting) (lost : List Waiting) (new : Q) → d.admits old w lost new
      → (batches : List Batch) × (lost ≡ packets_of batches)
      × LeaveHeads (with_arrival (queue_of old) (d.flow_of w.packet.tuple) w) batches (queue_of new)
  pub serves : (old : Q) (moment : ℕ) (dropped : List Waiting) (given : Option Given) (new : Q)
      → d.serves old moment dropped given new
      → ((flow : ℕ) × LeavesHead (queue_of old) flow (dropped ++ given_packet given) (queue_of new))
      × IfSome given (λ g. MayHave g.mark g.waiting.packet.ecn)
