use Rattle.std.specs.Prelude.{◌≡◌, ℕ, ◌/◌, ◌<◌, ◌⊎◌, List, [], ◌∷◌, IsSomeAnd, drop, get_or, length, max, min, set, sum_by, take}
use Rattle.packet_core.specs.declared.packet.Waiting.{Waiting}
use Rattle.packet_core.specs.declared.params.ParamFields.{ParamFields}
use Rattle.codel_core.specs.Queue.{bytes_of}
use Rattle.flow_core.specs.Fattest.{IsFattest}
use Rattle.journal_core.specs.Disciplines.{Batch}

-- More packets wait than `limit` (RFC 8290, section 5.2.3), or more bytes than `memory_limit`, where that is set
-- (tc-fq_codel(8)).
abbrev pub Exceeds : ParamFields → List (List Waiting) → Type 0
Exceeds p queues =
    (p.limit < sum_by length queues) ⊎ IsSomeAnd p.memory_limit (λ most. most < sum_by bytes_of queues)

-- how many packets a flow with n of them loses at once: half of them, but at least one, and at most so many (RFC 8290,
-- section 4.1)
abbrev pub batch_size : ℕ → ℕ → ℕ
batch_size most n = min most (max 1 (n / 2))

-- the packets that a flow loses at once, from its head
abbrev pub batch_of : ℕ → List (List Waiting) → ℕ → Batch
batch_of most queues flow = record {
  flow = flow;
  gone = take (batch_size most (length (get_or queues flow []))) (get_or queues flow []);
}

-- and the queues behind that
abbrev pub without_batch : ℕ → List (List Waiting) → ℕ → List (List Waiting)
without_batch most queues flow =
    set queues flow (drop (batch_size most (length (get_or queues flow []))) (get_or queues flow []))

-- Those batches are lost, one after another: as long as too much waits, the flow that is the fattest then loses one,
-- and nothing else changes (RFC 8290, section 4.1; that it goes on until nothing is exceeded is our own).
abbrev pub Overflow : ParamFields → List (List Waiting) → List Batch → List (List Waiting) → Type 0
Overflow p queues [] queues' = (¬ Exceeds p queues) × (queues' ≡ queues)
Overflow p queues (batch ∷ more) queues' =
    Exceeds p queues × IsFattest queues batch.flow × (batch ≡ batch_of p.drop_batch queues batch.flow)
    × Overflow p (without_batch p.drop_batch queues batch.flow) more queues'
