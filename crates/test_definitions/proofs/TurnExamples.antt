-- Worked examples of the turns, by computation: which flow is looked at, whose credits are used up, and in how many turns.
use Rattle.std.proofs.Common.{◌≡◌, [], ◌∷◌, refl}
use Rattle.packet_core.specs.Params.{standard_fields}
use Rattle.packet_core.specs.declared.params.Classify.TheVariants.{Dport}
use Rattle.packet_core.specs.declared.flow.Seed.{Seed}
use Rattle.packet_core.specs.declared.params.EcnUse.TheVariants.{Drop}
use Rattle.packet_core.specs.declared.params.ParamFields.{ParamFields}
use Rattle.journal_core.specs.declared.step.Step.TheVariants.{Dequeue}
use Rattle.fair_core.specs.TurnBound.{turns_at_most}
use Rattle.test_definitions.proofs.ComputedRuns.{MakesTurns, RunGives, RunLeaves, accepts, arrives, idles, run_gives, run_leaves, run_turns, sends}

-- four flows with a quantum of 300 bytes, and no marks
abbrev small_quantum : ParamFields
small_quantum = record standard_fields { flows = 4; quantum = 300; ecn = Drop; classify = Dport }

-- The first packet uses up the credits of flow 1, and flow 2 may send twice before flow 1 has credits again.
small_quantum_two_flows : (seed : Seed)
    → RunGives small_quantum seed
    (arrives 1 500 ∷ arrives 1 500 ∷ arrives 2 200 ∷ arrives 2 200 ∷ Dequeue 1 ∷ Dequeue 1 ∷ Dequeue 1 ∷ Dequeue 1 ∷ Dequeue 1 ∷ [])
    (accepts 0 1 500 ∷ accepts 1 1 500 ∷ accepts 2 2 200 ∷ accepts 3 2 200 ∷ sends 0 1 ∷ sends 2 1 ∷ sends 3 1 ∷ sends 1 1 ∷ idles ∷ [])
small_quantum_two_flows seed = run_gives small_quantum seed _ refl

-- the turns of its second dequeue, and of the last: used up, unlisted, used up, unlisted
small_quantum_second_turns : (seed : Seed)
    → RunLeaves small_quantum seed (arrives 1 500 ∷ arrives 1 500 ∷ arrives 2 200 ∷ arrives 2 200 ∷ Dequeue 1 ∷ []) (MakesTurns small_quantum 1 2)
small_quantum_second_turns seed = run_turns small_quantum seed _ 1 2 refl refl

small_quantum_last_turns : (seed : Seed)
    → RunLeaves small_quantum seed (arrives 1 500 ∷ arrives 1 500 ∷ arrives 2 200 ∷ arrives 2 200 ∷ Dequeue 1 ∷ Dequeue 1 ∷ Dequeue 1 ∷ Dequeue 1 ∷ [])
    (MakesTurns small_quantum 1 4)
small_quantum_last_turns seed = run_turns small_quantum seed _ 1 4 refl refl

-- Where a flow owes 65,534 bytes and a quantum is one, a dequeue makes 65,537 turns at most.
giant_packets_bound : (seed : Seed)
    → RunLeaves (record small_quantum { quantum = 1 }) seed (arrives 1 65535 ∷ arrives 1 65535 ∷ Dequeue 1 ∷ []) (λ s. turns_at_most 1 s.queues ≡ 65537)
giant_packets_bound seed = run_leaves (record small_quantum { quantum = 1 }) seed _ (λ s. turns_at_most 1 s.queues ≡ 65537) refl refl

-- A packet as long as the quantum leaves 0 credits, and these are used up: flow 2 is next.
exact_credits_use_up : (seed : Seed)
    → RunGives small_quantum seed
    (arrives 1 300 ∷ arrives 1 300 ∷ arrives 2 300 ∷ Dequeue 1 ∷ Dequeue 1 ∷ Dequeue 1 ∷ [])
    (accepts 0 1 300 ∷ accepts 1 1 300 ∷ accepts 2 2 300 ∷ sends 0 1 ∷ sends 2 1 ∷ sends 1 1 ∷ [])
exact_credits_use_up seed = run_gives small_quantum seed _ refl

-- A turn finds flow 1 empty and makes it an old flow. Its next packet waits behind that of flow 3, which is new.
old_flow_waits_for_new : (seed : Seed)
    → RunGives small_quantum seed
    (arrives 1 100 ∷ Dequeue 0 ∷ arrives 2 100 ∷ Dequeue 0 ∷ arrives 1 100 ∷ arrives 3 100 ∷ Dequeue 0 ∷ Dequeue 0 ∷ [])
    (accepts 0 1 100 ∷ sends 0 0 ∷ accepts 1 2 100 ∷ sends 1 0 ∷ accepts 2 1 100 ∷ accepts 3 3 100 ∷ sends 3 0 ∷ sends 2 0 ∷ [])
old_flow_waits_for_new seed = run_gives small_quantum seed _ refl
