-- The numbers that C is answered where a call is refused.
use Rattle.std.specs.Prelude.{ℤ}
use Rattle.header_core.specs.declared.header.Verdict.{Verdict}
use Rattle.header_core.specs.declared.header.Verdict.TheVariants as verdict
use Rattle.header_core.specs.declared.link_types.Carried.{Carried}
use Rattle.header_core.specs.declared.link_types.Carried.TheVariants as carried
use Rattle.journal_core.specs.declared.step.CloseFault.{CloseFault}
use Rattle.journal_core.specs.declared.step.CloseFault.TheVariants as close_fault
use Rattle.journal_core.specs.declared.step.MomentFault.{MomentFault}
use Rattle.journal_core.specs.declared.step.MomentFault.TheVariants.{TooLarge, Backwards}
use Rattle.journal_core.specs.declared.step.Refusal.{Refusal}
use Rattle.journal_core.specs.declared.step.Refusal.TheVariants as refusal
use Rattle.queue_disc_core.specs.declared.answers.EnqueueFault.{EnqueueFault}
use Rattle.queue_disc_core.specs.declared.answers.EnqueueFault.TheVariants as fault
use Rattle.maltcove_c.specs.declared.status.TheConstants.{BACKWARDS, BAD_CHAIN, BAD_IHL, BAD_JUMBO, BAD_LENGTH, CLOSED, CUT, EXHAUSTED, FINE, MEMORY, NOT_IP, OVERRUN, SHORT, TOO_LARGE, TOO_LONG, UNKNOWN_LINK, UNREAD}

-- why a moment is refused
abbrev pub moment_code : MomentFault → ℤ
moment_code TooLarge = TOO_LARGE
moment_code (Backwards last) = BACKWARDS

-- why a step is refused
abbrev pub refusal_code : Refusal → ℤ
refusal_code (refusal.Moment fault) = moment_code fault
refusal_code refusal.ClosedAlready = CLOSED
refusal_code refusal.Exhausted = EXHAUSTED
refusal_code refusal.Memory = MEMORY

-- why an enqueue is refused
abbrev pub enqueue_code : EnqueueFault → ℤ
enqueue_code fault.Unread = UNREAD
enqueue_code (fault.Refused r) = refusal_code r

-- why a close is refused
abbrev pub close_code : CloseFault → ℤ
close_code (close_fault.Moment fault) = moment_code fault
close_code close_fault.ClosedAlready = CLOSED

-- what a packet's bytes are found to be
abbrev pub verdict_code : Verdict → ℤ
verdict_code verdict.Fine = FINE
verdict_code verdict.Short = SHORT
verdict_code verdict.NotIp = NOT_IP
verdict_code verdict.BadIhl = BAD_IHL
verdict_code verdict.BadLength = BAD_LENGTH
verdict_code verdict.Overrun = OVERRUN
verdict_code verdict.BadChain = BAD_CHAIN
verdict_code verdict.TooLong = TOO_LONG
verdict_code verdict.BadJumbo = BAD_JUMBO
verdict_code verdict.Cut = CUT

-- what a link delivered
abbrev pub carried_code : Carried → ℤ
carried_code (carried.Packet p) = FINE
carried_code (carried.Another p) = NOT_IP
carried_code carried.Cut = CUT
carried_code carried.Unknown = UNKNOWN_LINK
