-- Worked examples of overflow, by computation: which flow loses packets, how many and in which order.
use Rattle.std.proofs.Common.{ℕ, List, [], ◌∷◌, ◌++◌, Some, map, replicate, refl}
use Rattle.std.specs.List.{range_with_len}
use Rattle.packet_core.specs.Params.{standard_fields}
use Rattle.packet_core.specs.declared.params.Classify.TheVariants.{Dport}
use Rattle.packet_core.specs.declared.flow.Seed.{Seed}
use Rattle.packet_core.specs.declared.params.EcnUse.TheVariants.{Drop}
use Rattle.packet_core.specs.declared.params.ParamFields.{ParamFields}
use Rattle.journal_core.specs.declared.event.Cause.TheVariants.{Overflow}
use Rattle.journal_core.specs.declared.event.Event.TheVariants.{Dropped}
use Rattle.journal_core.specs.declared.outcome.Answer.TheVariants as answer
use Rattle.journal_core.specs.declared.step.Step.TheVariants.{Dequeue}
use Rattle.journal_core.specs.Runs.{Made}
use Rattle.test_definitions.proofs.ComputedRuns.{RunGives, acceptance, accepts, arrives, idles, run_gives, sends}

-- four flows with that limit, and no marks
abbrev limited : ℕ → ParamFields
limited limit = record standard_fields { limit = limit; flows = 4; ecn = Drop; classify = Dport }

-- an acceptance after which those packets are dropped
abbrev accepts_over : ℕ → ℕ → ℕ → List ℕ → Made
accepts_over id flow len lost = record { answer = answer.Accepted; events = acceptance id flow len ∷ map (λ gone. Dropped gone 0 Overflow) lost }

-- The fattest flow has the most bytes, not the packet that came last: flow 1 loses its head.
fattest_by_bytes : (seed : Seed)
    → RunGives (limited 4) seed
    (arrives 1 1000 ∷ arrives 1 1000 ∷ arrives 1 1000 ∷ arrives 2 100 ∷ arrives 2 100 ∷ [])
    (accepts 0 1 1000 ∷ accepts 1 1 1000 ∷ accepts 2 1 1000 ∷ accepts 3 2 100 ∷ accepts_over 4 2 100 (0 ∷ []) ∷ [])
fattest_by_bytes seed = run_gives (limited 4) seed _ refl

-- The packet that came last is its flow's head, and the flow is the fattest one.
fattest_is_the_last_arrival : (seed : Seed) → RunGives (limited 1) seed (arrives 1 100 ∷ arrives 2 200 ∷ []) (accepts 0 1 100 ∷ accepts_over 1 2 200 (1 ∷ []) ∷ [])
fattest_is_the_last_arrival seed = run_gives (limited 1) seed _ refl

-- Of two flows with as many bytes the least one loses its packet. It stays listed, and a turn finds it empty.
tie_goes_to_least_flow : (seed : Seed)
    → RunGives (limited 1) seed (arrives 1 100 ∷ arrives 2 100 ∷ Dequeue 0 ∷ Dequeue 0 ∷ []) (accepts 0 1 100 ∷ accepts_over 1 2 100 (0 ∷ []) ∷ sends 1 0 ∷ idles ∷ [])
tie_goes_to_least_flow seed = run_gives (limited 1) seed _ refl

-- four flows with that many bytes at most
abbrev limited_to_bytes : ℕ → ParamFields
limited_to_bytes bytes = record (limited 10240) { memory_limit = Some bytes }

-- Two batches at one arrival: flow 1 loses one packet of three, is still the fattest, and loses one of two.
two_batches : (seed : Seed)
    → RunGives (limited_to_bytes 1000) seed (arrives 1 300 ∷ arrives 1 300 ∷ arrives 1 300 ∷ arrives 2 500 ∷ [])
    (accepts 0 1 300 ∷ accepts 1 1 300 ∷ accepts 2 1 300 ∷ accepts_over 3 2 500 (0 ∷ 1 ∷ []) ∷ [])
two_batches seed = run_gives (limited_to_bytes 1000) seed _ refl

-- Each batch is of the flow that is the fattest then: of three with as many bytes flow 1, and of two then flow 2.
batches_of_two_flows : (seed : Seed)
    → RunGives (limited_to_bytes 400) seed (arrives 1 100 ∷ arrives 1 100 ∷ arrives 2 100 ∷ arrives 2 100 ∷ arrives 3 200 ∷ [])
    (accepts 0 1 100 ∷ accepts 1 1 100 ∷ accepts 2 2 100 ∷ accepts 3 2 100 ∷ accepts_over 4 3 200 (0 ∷ 2 ∷ []) ∷ [])
batches_of_two_flows seed = run_gives (limited_to_bytes 400) seed _ refl

-- The packet that came last may be lost alone.
arrival_over_bytes : (seed : Seed) → RunGives (limited_to_bytes 99) seed (arrives 1 100 ∷ Dequeue 0 ∷ []) (accepts_over 0 1 100 (0 ∷ []) ∷ idles ∷ [])
arrival_over_bytes seed = run_gives (limited_to_bytes 99) seed _ refl

-- one flow with a limit of 200 packets, and no marks
abbrev one_flow : ParamFields
one_flow = record standard_fields { limit = 200; flows = 1; ecn = Drop; classify = Dport }

-- The packet past the limit finds 201, half of which are more than a batch: 64 are dropped.
batch_of_sixty_four : (seed : Seed)
    → RunGives one_flow seed (replicate 201 (arrives 0 100)) (map (λ id. accepts id 0 100) (range_with_len 0 200) ++ accepts_over 200 0 100 (range_with_len 0 64) ∷ [])
batch_of_sixty_four seed = run_gives one_flow seed _ refl

-- With batches of ten packets ten are dropped.
batch_of_ten : (seed : Seed)
    → RunGives (record one_flow { drop_batch = 10 }) seed (replicate 201 (arrives 0 100))
    (map (λ id. accepts id 0 100) (range_with_len 0 200) ++ accepts_over 200 0 100 (range_with_len 0 10) ∷ [])
batch_of_ten seed = run_gives (record one_flow { drop_batch = 10 }) seed _ refl
