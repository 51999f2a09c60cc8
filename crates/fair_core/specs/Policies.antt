use Rattle.std.specs.Prelude.{◌≡◌, ℕ, ◌<◌, All, List, [], ◌∷◌, get_or, length, slice_get, Some}
use Rattle.packet_core.specs.Packets.{IsLengthInRange}
use Rattle.packet_core.specs.declared.packet.Waiting.{Waiting}
use Rattle.codel_core.specs.declared.served.Mark.{Mark}
use Rattle.codel_core.specs.declared.state.CodelState.{CodelState}
use Rattle.journal_core.specs.Disciplines.{Batch, LeaveHeads, MayHave}
use Rattle.fair_core.specs.Turns.{Policy}

-- The laws of the journal ask this of a policy: it marks only packets that may be marked, and what overflows leaves
-- from the heads of the queues.
pub record DropsFromHeads (p : Policy) : Type 0 where
  pub honest : (now : ℕ) (queue : List Waiting) (codel : CodelState) (drops : ℕ) (mark : Mark) (codel' : CodelState)
      → p.verdict now queue codel drops mark codel'
      → (w : Waiting) → slice_get queue drops ≡ Some w → MayHave mark w.packet.ecn
  pub heads : (queues : List (List Waiting)) (batches : List Batch) (queues' : List (List Waiting))
      → p.overflow queues batches queues'
      → LeaveHeads (λ flow. get_or queues flow []) batches (λ flow. get_or queues' flow [])
  pub flows : (queues : List (List Waiting)) (batches : List Batch) (queues' : List (List Waiting))
      → p.overflow queues batches queues' → length queues' ≡ length queues

-- Serving chains end, and there is one, where a flow's turn gives it credits and a verdict is always there, one alone,
-- and gives a packet of a queue that isn't empty. Every list of steps has a run, one alone, where an overflow is always
-- there too, one alone. It is asked of queues whose packets have lengths that packets have: none is without bytes.
pub record IsDecided (p : Policy) : Type 0 where
  pub quantum : 0 < p.quantum
  pub gives : (now : ℕ) (w : Waiting) (queue : List Waiting) (codel : CodelState)
      → (drops : ℕ) × (mark : Mark) × (codel' : CodelState) × (given : Waiting)
      × (p.verdict now (w ∷ queue) codel drops mark codel') × (slice_get (w ∷ queue) drops ≡ Some given)
  pub empties : (now : ℕ) (codel : CodelState)
      → (mark : Mark) × (codel' : CodelState) × p.verdict now [] codel 0 mark codel'
  pub once : (now : ℕ) (queue : List Waiting) (codel : CodelState)
      (drops drops' : ℕ) (mark mark' : Mark) (codel' codel'' : CodelState)
      → p.verdict now queue codel drops mark codel' → p.verdict now queue codel drops' mark' codel''
      → (drops ≡ drops') × (mark ≡ mark') × (codel' ≡ codel'')
  pub overflows : (queues : List (List Waiting)) → All (All (λ w. IsLengthInRange w.packet.len)) queues
      → (batches : List Batch) × (queues' : List (List Waiting)) × p.overflow queues batches queues'
  pub overflows_once : (queues queues' queues'' : List (List Waiting)) (batches batches' : List Batch)
      → p.overflow queues batches queues' → p.overflow queues batches' queues''
      → (batches ≡ batches') × (queues' ≡ queues'')
