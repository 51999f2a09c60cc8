-- Steps that aren't refused.
use Rattle.std.proofs.Common.{◌≡◌, ℕ, ◌<◌, ◌≤◌, ◌^◌, false, None, leb, ltb, le-ltb, refl, arith}
use Rattle.std.proofs.lemmas.Bool.{lt-leb}
use Rattle.packet_core.specs.Packets.{PacketParts}
use Rattle.fair_core.specs.FairQueues.{no_queues}
use Rattle.journal_core.specs.State.{State, moment_fault_of, opening_state, refusal_of}
use Rattle.journal_core.specs.declared.step.Step.TheVariants.{Dequeue, Enqueue}
use Rattle.journal_core.proofs.RefusalLemmas.{enqueue_open}
use Rattle.queue_disc_core.specs.QueueDiscs.{MayCome, DiscState}

moment_fits : (moment last : ℕ) → moment < 2 ^ 60 → last ≤ moment → moment_fault_of moment last ≡ None
moment_fits moment last soon later =
    let small : leb (2 ^ 60) moment ≡ false = lt-leb (2 ^ 60) moment soon in
    let past : ltb moment last ≡ false = le-ltb moment last later in
    rw (small, past)

-- A dequeue at the moment of the last step is made.
pub dequeue_fits : {Q : Type 0} (s : State Q) → s.last < 2 ^ 60 → refusal_of s (Dequeue s.last) ≡ None
dequeue_fits s soon = let fits = moment_fits s.last s.last soon (omega arith) in rw fits refl

-- A new scheduler accepts a packet at any moment in range.
pub first_fits : (flows moment : ℕ) (packet : PacketParts) → moment < 2 ^ 60 → refusal_of (opening_state (no_queues flows)) (Enqueue moment 0 packet) ≡ None
first_fits flows moment packet soon = let fits = moment_fits moment 0 soon (omega arith) in rw fits refl

-- A packet that isn't refused may come.
pub may_come : (s : DiscState) (moment : ℕ) (packet : PacketParts) → refusal_of s.sched.standing.state (Enqueue moment 0 packet) ≡ None → MayCome s moment
may_come s moment packet fits =
    let open' = (enqueue_open s.sched.standing.state moment 0 packet fits).0 in
    record { later = open'.next.later; soon = open'.next.soon; open' = open'.open' }
