-- What the calls from C do with the queue disc behind a handle.
use Rattle.std.specs.Prelude.{◌≡◌, ◌≢◌, ◌<◌, ◌%◌, ◌⊎◌, ◌↔◌, ℕ, ℤ, List, [], ◌∷◌, length, map, slice_get, take, Some, None}
use Rattle.std.specs.declared.option.Option.{Option}
use Rattle.std.specs.declared.option.Option.TheVariants as option
use Rattle.std.specs.Str.{IsUtf8}
use Rattle.packet_core.specs.Packets.{PacketParts}
use Rattle.packet_core.specs.declared.flow.Seed.{Seed}
use Rattle.packet_core.specs.declared.params.ParamFields.{ParamFields}
use Rattle.journal_core.specs.Calls.{close_refusal}
use Rattle.journal_core.specs.State.{refusal_of}
use Rattle.journal_core.specs.declared.step.CloseFault.{CloseFault}
use Rattle.journal_core.specs.declared.step.MomentFault.{MomentFault}
use Rattle.journal_core.specs.declared.step.Refusal.TheVariants as refusal
use Rattle.journal_core.specs.declared.step.Sent.{Sent}
use Rattle.journal_core.specs.declared.step.Step.TheVariants.{Close, Dequeue, Enqueue}
use Rattle.queue_disc_core.specs.Faults.{IsFault}
use Rattle.queue_disc_core.specs.QueueDiscs.{AreFlushed, AreRead, FindsNone, IsDiscDequeued, IsEnqueued, MayCome, DiscState, new_disc}
use Rattle.queue_disc_core.specs.declared.answers.Dequeued.{Dequeued}
use Rattle.queue_disc_core.specs.declared.answers.Dropped.{Dropped}
use Rattle.queue_disc_core.specs.declared.answers.EnqueueFault.{EnqueueFault}
use Rattle.queue_disc_core.specs.declared.answers.EnqueueFault.TheVariants.{Refused, Unread}
use Rattle.queue_disc_core.specs.declared.answers.Enqueued.{Enqueued}
use Rattle.queue_disc_core.specs.declared.answers.Handle.{Handle}
use Rattle.queue_disc_core.specs.declared.queue_disc.TheConstants.{RENEW_AFTER}
use Rattle.maltcove_c.specs.Records.{SaysInFlow, admitted_told, dropped_told, flushed_told, idle_told, nothing_told, sent_told}
use Rattle.maltcove_c.specs.Statuses.{close_code, enqueue_code, moment_code}
use Rattle.maltcove_c.specs.Texts.{IsWrong, SaysParams}
use Rattle.maltcove_c.specs.declared.opening.NoParams.{NoParams}
use Rattle.maltcove_c.specs.declared.opening.NoParams.TheVariants as no_params
use Rattle.maltcove_c.specs.declared.records.MaltcoveAdmitted.{MaltcoveAdmitted}
use Rattle.maltcove_c.specs.declared.records.MaltcoveDropped.{MaltcoveDropped}
use Rattle.maltcove_c.specs.declared.records.MaltcoveFault.{MaltcoveFault}
use Rattle.maltcove_c.specs.declared.records.MaltcoveFlushed.{MaltcoveFlushed}
use Rattle.maltcove_c.specs.declared.records.MaltcoveSent.{MaltcoveSent}
use Rattle.maltcove_c.specs.declared.status.TheConstants.{BAD_PACKET, BAD_SEED, BAD_WORDS, MEMORY}

-- Both times there is a queue disc behind the handle, and the two are in that relation.
abbrev pub Behind : (DiscState → DiscState → Type 0) → Option DiscState → Option DiscState → Type 0
Behind R (option.Some a) (option.Some b) = R a b
Behind R (option.Some a) option.None = ⊥
Behind R option.None b = ⊥

-- Of the queue disc behind the handle, if there is one, that holds.
abbrev pub IfBehind : (DiscState → Type 0) → Option DiscState → Type 0
IfBehind P (option.Some a) = P a
IfBehind P option.None = Unit {0}

-- A packet that may come is accepted, and C reads what is said of it.
pub record AnswersAdmitted (old : DiscState) (moment : ℕ) (packet : PacketParts) (out : MaltcoveAdmitted) (new : DiscState)
    : Type 0 where
  pub said : Enqueued
  pub may_come : MayCome old moment
  pub enqueued : IsEnqueued old moment packet said new
  pub told : out ≡ admitted_told said

-- An enqueue is refused for that, by the tests in their order: a drop wasn't read, or the scheduler refuses the step.
-- It is never refused for want of memory.
pub record RefusesEnqueue (old : DiscState) (moment : ℕ) (packet : PacketParts) (answer : ℤ) : Type 0 where
  pub fault : EnqueueFault
  pub unread : (fault ≡ Unread) ↔ (0 < old.unread)
  pub is_fault : IsFault (refusal_of old.sched.standing.state (Enqueue moment 0 packet)) fault
  pub memory : fault ≢ Refused refusal.Memory
  pub code : answer ≡ enqueue_code fault

-- An enqueue to a flow of the caller's is refused: no packet is what the caller says, or the packet that it says is
-- refused.
abbrev pub RefusesInFlow : DiscState → ℕ → ℕ → ℕ → ℕ → ℕ → ℤ → Type 0
RefusesInFlow old moment flow len ecn tag answer =
    ((answer ≡ BAD_PACKET)
    × ((packet : PacketParts) → ¬ SaysInFlow (flow % old.sched.params.flows) len ecn tag packet))
    ⊎ ((packet : PacketParts) × SaysInFlow (flow % old.sched.params.flows) len ecn tag packet
    × RefusesEnqueue old moment packet answer)

-- A dequeue is made that sends a packet, and C reads what is said of it.
pub record AnswersSent (old : DiscState) (moment : ℕ) (out : MaltcoveSent) (new : DiscState) : Type 0 where
  pub said : Dequeued
  pub sent : Sent
  pub dequeued : IsDiscDequeued old moment said new
  pub is_sent : said.sent ≡ Some sent
  pub told : out ≡ sent_told sent said.drops

-- A dequeue is made that sends none.
pub record Idles (old : DiscState) (moment : ℕ) (out : MaltcoveSent) (new : DiscState) : Type 0 where
  pub said : Dequeued
  pub dequeued : IsDiscDequeued old moment said new
  pub none_sent : said.sent ≡ None
  pub told : out ≡ idle_told said.drops

-- Packets are sent at that moment, one after another, and C reads of each in its place.
abbrev pub AreSent : DiscState → ℕ → List MaltcoveSent → DiscState → Type 0
AreSent old moment [] new = new ≡ old
AreSent old moment (out ∷ outs) new = (mid : DiscState) × AnswersSent old moment out mid × AreSent mid moment outs new

-- So many are, and then none waits, of which C reads in the next place.
pub record SendsAll (old : DiscState) (moment : ℕ) (outs : List MaltcoveSent) (given : ℕ) (new : DiscState) : Type 0 where
  pub mid : DiscState
  pub sends : AreSent old moment (take given outs) mid
  pub last : MaltcoveSent
  pub place : slice_get outs given ≡ Some last
  pub idles : Idles mid moment last new

-- A dequeue is refused for its moment.
pub record RefusesDequeue (old : DiscState) (moment : ℕ) (answer : ℤ) : Type 0 where
  pub fault : MomentFault
  pub is_fault : refusal_of old.sched.standing.state (Dequeue moment) ≡ Some (refusal.Moment fault)
  pub code : answer ≡ moment_code fault

-- A queue disc is opened with these parameters and a seed, which has 16 bytes.
pub record OpensWith (params : ParamFields) (seed : List ℕ) (new : DiscState) : Type 0 where
  pub secret : Seed
  pub seed_is : secret.0 ≡ seed
  pub long : length seed ≡ 16
  pub is_new : new ≡ new_disc params secret RENEW_AFTER

-- A queue disc is opened by words and a seed.
pub record Opens (words seed : List ℕ) (new : DiscState) : Type 0 where
  pub params : ParamFields
  pub says : SaysParams words params
  pub opens : OpensWith params seed new

-- what is answered where there are no parameters
abbrev pub why_code : NoParams → ℤ
why_code (no_params.Words told) = BAD_WORDS
why_code no_params.Memory = MEMORY

-- and what C reads then
abbrev pub why_told : NoParams → MaltcoveFault
why_told (no_params.Words told) = told
why_told no_params.Memory = nothing_told

-- why none is opened where there are parameters
abbrev pub RefusesSeed : List ℕ → ℤ → Type 0
RefusesSeed seed answer = ((answer ≡ BAD_SEED) × (length seed ≢ 16)) ⊎ ((answer ≡ MEMORY) × (length seed ≡ 16))

-- Why none is opened, and what C reads as the fault. Memory is taken first for the words of a text that is UTF-8, then,
-- where words and seed are right, for the queue disc.
abbrev pub RefusesOpen : List ℕ → List ℕ → MaltcoveFault → ℤ → Type 0
RefusesOpen words seed told answer =
    ((answer ≡ BAD_WORDS) × IsWrong words told)
    ⊎ ((answer ≡ BAD_SEED) × (told ≡ nothing_told) × (length seed ≢ 16)
    × ((params : ParamFields) × SaysParams words params))
    ⊎ ((answer ≡ MEMORY) × (told ≡ nothing_told) × IsUtf8 words)

-- A close is refused for that.
pub record RefusesClose (old : DiscState) (moment : ℕ) (answer : ℤ) : Type 0 where
  pub fault : CloseFault
  pub is_fault : refusal_of old.sched.standing.state (Close moment) ≡ Some (close_refusal fault)
  pub code : answer ≡ close_code fault

-- Drops are read, and C reads them: each the first of those that weren't read.
pub record ReadsDrops (old : DiscState) (outs : List MaltcoveDropped) (new : DiscState) : Type 0 where
  pub drops : List Dropped
  pub reads : AreRead old drops new
  pub told : outs ≡ map dropped_told drops

-- Packets that wait are flushed, and C reads them.
pub record Flushes (old : DiscState) (outs : List MaltcoveFlushed) (new : DiscState) : Type 0 where
  pub packets : List Handle
  pub flushes : AreFlushed old packets new
  pub told : outs ≡ map flushed_told packets

-- The same, and then none waits.
pub record FlushesAllTold (old : DiscState) (outs : List MaltcoveFlushed) (new : DiscState) : Type 0 where
  pub mid : DiscState
  pub flushes : Flushes old outs mid
  pub ends : FindsNone mid new
