-- The definitions that contracts over the names of this crate cite, and the types that they speak of.

-- Packets, parameters, and the flow of a packet.
pub use Rattle.packet_core.specs.Packets
pub use Rattle.packet_core.specs.Params
pub use Rattle.packet_core.specs.Words
pub use Rattle.packet_core.specs.FlowNumber
pub use Rattle.packet_core.specs.TupleHash
pub use Rattle.packet_core.specs.declared.packet.FiveTuple
pub use Rattle.packet_core.specs.declared.packet.Ip
pub use Rattle.packet_core.specs.declared.packet.Ecn
pub use Rattle.packet_core.specs.declared.packet.Waiting
pub use Rattle.packet_core.specs.declared.params.ParamFields
pub use Rattle.packet_core.specs.declared.params.ParamName
pub use Rattle.packet_core.specs.declared.params.Classify
pub use Rattle.packet_core.specs.declared.params.EcnUse
pub use Rattle.packet_core.specs.declared.words.ParamFault
pub use Rattle.packet_core.specs.declared.flow.Seed
-- CoDel (RFC 8289): the spacing of drops, and the verdict over a queue.
pub use Rattle.codel_core.specs.Root
pub use Rattle.codel_core.specs.Spacing
pub use Rattle.codel_core.specs.Schedule
pub use Rattle.codel_core.specs.Queue
pub use Rattle.codel_core.specs.Verdict
pub use Rattle.codel_core.specs.declared.state.CodelState
pub use Rattle.codel_core.specs.declared.served.Mark
pub use Rattle.codel_core.specs.declared.served.Served
-- The queues of all flows.
pub use Rattle.flow_core.specs.Queues
pub use Rattle.flow_core.specs.FlowLists
-- Steps and their answers, the journal, its laws and its statistics, for every discipline.
pub use Rattle.journal_core.specs.State
pub use Rattle.journal_core.specs.Disciplines
pub use Rattle.journal_core.specs.Steps
pub use Rattle.journal_core.specs.Runs
pub use Rattle.journal_core.specs.Happened
pub use Rattle.journal_core.specs.JournalLaws
pub use Rattle.journal_core.specs.Statistics
pub use Rattle.journal_core.specs.TupleRows
pub use Rattle.journal_core.specs.Recorders
pub use Rattle.journal_core.specs.Losses
pub use Rattle.journal_core.specs.Calls
pub use Rattle.journal_core.specs.History
pub use Rattle.journal_core.specs.declared.step.Step
pub use Rattle.journal_core.specs.declared.step.Refusal
pub use Rattle.journal_core.specs.declared.step.MomentFault
pub use Rattle.journal_core.specs.declared.step.CloseFault
pub use Rattle.journal_core.specs.declared.step.Admitted
pub use Rattle.journal_core.specs.declared.step.Sent
pub use Rattle.journal_core.specs.declared.outcome.Answer
pub use Rattle.journal_core.specs.declared.outcome.Outcome
pub use Rattle.journal_core.specs.declared.event.Event
pub use Rattle.journal_core.specs.declared.event.Cause
pub use Rattle.journal_core.specs.declared.totals.Totals
pub use Rattle.journal_core.specs.declared.tuple_rows.TupleRow
-- FQ-CoDel (RFC 8290): credits, turns and overflow.
pub use Rattle.fair_core.specs.FairQueues
pub use Rattle.fair_core.specs.Turns
pub use Rattle.fair_core.specs.FairQueueing
pub use Rattle.fair_core.specs.Overflow
pub use Rattle.fair_core.specs.Policies
pub use Rattle.fair_core.specs.FqCodel
pub use Rattle.fair_core.specs.TurnBound
pub use Rattle.fair_core.specs.NewFlows
pub use Rattle.fair_core.specs.Credits
pub use Rattle.fair_core.specs.Shown
pub use Rattle.fair_core.specs.declared.flow_view.FlowView
-- The scheduler and the engine, whose calls are steps, and the laws of fair shares.
pub use Rattle.sched_core.specs.Schedulers
pub use Rattle.sched_core.specs.AnyStep
pub use Rattle.sched_core.specs.LastSteps
pub use Rattle.sched_core.specs.Choosing
pub use Rattle.sched_core.specs.Engines
pub use Rattle.sched_core.specs.Shares
pub use Rattle.sched_core.specs.Starvation
pub use Rattle.sched_core.specs.Remaining
-- The scheduler for embedders.
pub use Rattle.queue_disc_core.specs.Drops
pub use Rattle.queue_disc_core.specs.QueueDiscTotals as TotalsOfQueueDiscs
pub use Rattle.queue_disc_core.specs.PacketLists
pub use Rattle.queue_disc_core.specs.QueueDiscs
pub use Rattle.queue_disc_core.specs.Faults
pub use Rattle.queue_disc_core.specs.Calls as QueueDiscCalls
pub use Rattle.queue_disc_core.specs.Laws as QueueDiscLaws
pub use Rattle.queue_disc_core.specs.declared.answers.Handle
pub use Rattle.queue_disc_core.specs.declared.answers.Dropped
pub use Rattle.queue_disc_core.specs.declared.answers.Enqueued
pub use Rattle.queue_disc_core.specs.declared.answers.EnqueueFault
pub use Rattle.queue_disc_core.specs.declared.answers.Dequeued
pub use Rattle.queue_disc_core.specs.declared.totals.QueueDiscTotals
