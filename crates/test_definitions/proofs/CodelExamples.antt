-- Worked examples of CoDel in a flow, by computation: how far apart drops are, when packets are dropped or marked, and
-- what its state is then.
use Rattle.std.proofs.Common.{◌≡◌, ℕ, true, false, List, [], ◌∷◌, ◌++◌, map, Some, None, refl, lit<, lit≤}
use Rattle.std.specs.List.{range_with_len}
use Rattle.packet_core.specs.Params.{standard_fields}
use Rattle.packet_core.specs.declared.flow.Seed.{Seed}
use Rattle.packet_core.specs.Packets.{PacketParts}
use Rattle.packet_core.specs.declared.packet.Ecn.{Ecn}
use Rattle.packet_core.specs.declared.packet.Ecn.TheVariants.{NotEct, Ect0, Ect1, Ce}
use Rattle.packet_core.specs.declared.params.Classify.TheVariants.{Dport}
use Rattle.packet_core.specs.declared.params.EcnUse.{EcnUse}
use Rattle.packet_core.specs.declared.params.EcnUse.TheVariants as ecn_use
use Rattle.packet_core.specs.declared.params.ParamFields.{ParamFields}
use Rattle.codel_core.specs.Schedule.{spacing_of}
use Rattle.codel_core.specs.Spacing.{IsSpacing}
use Rattle.codel_core.specs.declared.served.Mark.{Mark}
use Rattle.codel_core.specs.declared.served.Mark.TheVariants.{NoMark, CodelMark, Threshold}
use Rattle.codel_core.specs.declared.state.CodelState.{CodelState}
use Rattle.journal_core.specs.declared.event.Cause.TheVariants.{Codel}
use Rattle.journal_core.specs.declared.event.Event.TheVariants.{Accepted, Sent, Dropped}
use Rattle.journal_core.specs.declared.outcome.Answer.TheVariants as answer
use Rattle.journal_core.specs.declared.step.Step.{Step}
use Rattle.journal_core.specs.declared.step.Step.TheVariants.{Enqueue, Dequeue}
use Rattle.fair_core.specs.FairQueues.{FairQueues, flow_state_at}
use Rattle.journal_core.specs.Runs.{Made}
use Rattle.journal_core.specs.State.{State}
use Rattle.test_definitions.proofs.ComputedRuns.{RunGives, RunLeaves, accepts, arrives, idles, packet_to, run_gives, run_leaves, sends}

-- THE SPACING OF DROPS

-- with an interval of 100 milliseconds, behind two drops and three
spacings_in_milliseconds : IsSpacing 100000 2 70710 × IsSpacing 100000 3 57735
spacings_in_milliseconds = ((lit≤ tt, lit< tt), (lit≤ tt, lit< tt))

-- with an interval of 100 microseconds, behind one, two and three, as a number that computes
spacings_computed : map (spacing_of 100) (1 ∷ 2 ∷ 3 ∷ []) ≡ 100 ∷ 70 ∷ 57 ∷ []
unfolding spacing_of
spacings_computed = refl

-- TEN PACKETS

-- one flow, with times a thousandth of the standard ones: so a spacing is found from the interval downwards in few steps
abbrev one_flow : EcnUse → ParamFields
one_flow ecn = record standard_fields { flows = 1; ecn = ecn; classify = Dport; target = 5; interval = 100 }

-- so many packets of that length, and dequeues at those moments
abbrev packets : ℕ → ℕ → List ℕ → List Step
packets count len moments = map (λ _. arrives 0 len) (range_with_len 0 count) ++ map Dequeue moments

-- a dequeue that drops those packets and sends the next one
abbrev drops_and_sends : List ℕ → ℕ → ℕ → Made
drops_and_sends dropped sent moment =
    record { answer = answer.Sent; events = map (λ id. Dropped id moment Codel) dropped ++ Sent sent moment NotEct NoMark ∷ [] }

-- CoDel's state in the only flow is that
abbrev CodelIs : CodelState → State FairQueues → Type 0
CodelIs codel s = (flow_state_at s.queues 0).codel ≡ codel

-- The first is late; an interval later one is dropped, and more from the moments that are due. With one packet behind it
-- no packet is late.
ten_packets_drop_and_send : (seed : Seed)
    → RunGives (one_flow ecn_use.Drop) seed (packets 10 1000 (5 ∷ 105 ∷ 205 ∷ 275 ∷ 332 ∷ 333 ∷ 334 ∷ []))
    (map (λ id. accepts id 0 1000) (range_with_len 0 10)
    ++ sends 0 5 ∷ drops_and_sends (1 ∷ []) 2 105 ∷ drops_and_sends (3 ∷ []) 4 205 ∷ drops_and_sends (5 ∷ []) 6 275
    ∷ drops_and_sends (7 ∷ []) 8 332 ∷ sends 9 333 ∷ idles ∷ [])
unfolding spacing_of
ten_packets_drop_and_send seed = run_gives (one_flow ecn_use.Drop) seed _ refl

-- The state behind the fifth dequeue: drop_next stayed when dropping ended.
abbrev after_fifth : CodelState
after_fifth = record { first_above = None; drop_next = 332; count = 4; lastcount = 1; dropping = false }

ten_packets_after_fifth : (seed : Seed)
    → RunLeaves (one_flow ecn_use.Drop) seed (packets 10 1000 (5 ∷ 105 ∷ 205 ∷ 275 ∷ 332 ∷ [])) (CodelIs after_fifth)
unfolding spacing_of
ten_packets_after_fifth seed = run_leaves (one_flow ecn_use.Drop) seed _ (CodelIs after_fifth) refl refl

-- A BURST OF DROPS

-- an interval of one microsecond, in which packets are late at once
abbrev tight : ParamFields
tight = record (one_flow ecn_use.Drop) { target = 0; interval = 1; mtu = 0 }

-- All drops from the second on are due at once.
drop_burst : (seed : Seed)
    → RunGives tight seed (packets 7 100 (0 ∷ 1 ∷ 2 ∷ []))
    (map (λ id. accepts id 0 100) (range_with_len 0 7)
    ++ sends 0 0 ∷ drops_and_sends (1 ∷ []) 2 1 ∷ drops_and_sends (3 ∷ 4 ∷ 5 ∷ []) 6 2 ∷ [])
unfolding spacing_of
drop_burst seed = run_gives tight seed _ refl

-- MARKS IN PLACE OF DROPS

-- a packet from a sender that takes part, and what its arrival gives
abbrev willing : Step
willing = Enqueue 0 0 (record (packet_to 0 1000) { ecn = Ect0 })

abbrev accepts_willing : ℕ → Made
accepts_willing id = record { answer = answer.Accepted; events = Accepted 0 id 0 0 (record (packet_to 0 1000) { ecn = Ect0 }) ∷ [] }

abbrev sends_marked : ℕ → ℕ → Made
sends_marked id moment = record { answer = answer.Sent; events = Sent id moment Ce CodelMark ∷ [] }

abbrev ten_willing : List Step
ten_willing = map (λ _. willing) (range_with_len 0 10) ++ Dequeue 5 ∷ Dequeue 105 ∷ Dequeue 205 ∷ []

-- What would be dropped is marked and sent, and no second packet leaves.
ten_packets_marked : (seed : Seed)
    → RunGives (one_flow ecn_use.Mark) seed ten_willing
    (map accepts_willing (range_with_len 0 10)
    ++ record { answer = answer.Sent; events = Sent 0 5 Ect0 NoMark ∷ [] } ∷ sends_marked 1 105 ∷ sends_marked 2 205 ∷ [])
unfolding spacing_of
ten_packets_marked seed = run_gives (one_flow ecn_use.Mark) seed _ refl

abbrev after_marks : CodelState
after_marks = record { first_above = Some 105; drop_next = 275; count = 2; lastcount = 1; dropping = true }

ten_packets_marked_state : (seed : Seed) → RunLeaves (one_flow ecn_use.Mark) seed ten_willing (CodelIs after_marks)
unfolding spacing_of
ten_packets_marked_state seed = run_leaves (one_flow ecn_use.Mark) seed _ (CodelIs after_marks) refl refl

-- MARKS FOR THE THRESHOLD

-- a packet with that field, and what its arrival gives
abbrev with_field : Ecn → PacketParts
with_field field = record (packet_to 0 100) { ecn = field }

abbrev accepts_field : ℕ → Ecn → Made
accepts_field id field = record { answer = answer.Accepted; events = Accepted 0 id 0 0 (with_field field) ∷ [] }

abbrev sends_field : ℕ → ℕ → Ecn → Mark → Made
sends_field id moment field mark = record { answer = answer.Sent; events = Sent id moment field mark ∷ [] }

-- Of four packets the first waits as long as the threshold and no longer, the second's sender doesn't take part, and the
-- last had CE. So the third alone is marked, though CoDel marks none.
threshold_by_field : (seed : Seed)
    → RunGives (record (one_flow ecn_use.Drop) { ce_threshold = Some 1 }) seed
    (Enqueue 0 0 (with_field Ect0) ∷ Enqueue 0 0 (with_field NotEct) ∷ Enqueue 0 0 (with_field Ect1) ∷ Enqueue 0 0 (with_field Ce)
    ∷ Dequeue 1 ∷ Dequeue 2 ∷ Dequeue 2 ∷ Dequeue 2 ∷ [])
    (accepts_field 0 Ect0 ∷ accepts_field 1 NotEct ∷ accepts_field 2 Ect1 ∷ accepts_field 3 Ce
    ∷ sends_field 0 1 Ect0 NoMark ∷ sends_field 1 2 NotEct NoMark ∷ sends_field 2 2 Ce Threshold ∷ sends_field 3 2 Ce NoMark ∷ [])
threshold_by_field seed = run_gives (record (one_flow ecn_use.Drop) { ce_threshold = Some 1 }) seed _ refl

-- What CoDel marks keeps its mark, and its state is as it was without a threshold.
threshold_beside_codel : (seed : Seed)
    → RunGives (record (one_flow ecn_use.Mark) { ce_threshold = Some 1 }) seed ten_willing
    (map accepts_willing (range_with_len 0 10) ++ sends_field 0 5 Ce Threshold ∷ sends_marked 1 105 ∷ sends_marked 2 205 ∷ [])
unfolding spacing_of
threshold_beside_codel seed = run_gives (record (one_flow ecn_use.Mark) { ce_threshold = Some 1 }) seed _ refl

threshold_beside_codel_state : (seed : Seed) → RunLeaves (record (one_flow ecn_use.Mark) { ce_threshold = Some 1 }) seed ten_willing (CodelIs after_marks)
unfolding spacing_of
threshold_beside_codel_state seed = run_leaves (record (one_flow ecn_use.Mark) { ce_threshold = Some 1 }) seed _ (CodelIs after_marks) refl refl
