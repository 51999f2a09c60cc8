-- Worked examples of what happens between two points of a run, by computation: the bytes of a flow, the longest packet so
-- far, the fates of a flow's packets, and the dequeues.
use Rattle.std.proofs.Common.{◌≡◌, List, [], ◌∷◌, take, refl}
use Rattle.packet_core.specs.declared.packet.Ecn.TheVariants.{NotEct, Ce}
use Rattle.codel_core.specs.declared.served.Mark.TheVariants.{NoMark, CodelMark}
use Rattle.journal_core.specs.declared.event.Cause.TheVariants.{Codel, Overflow}
use Rattle.journal_core.specs.declared.event.Event.{Event}
use Rattle.journal_core.specs.declared.event.Event.TheVariants as event
use Rattle.journal_core.specs.declared.outcome.Answer.{Answer}
use Rattle.journal_core.specs.declared.outcome.Answer.TheVariants as answer
use Rattle.journal_core.specs.Happened.{acceptances}
use Rattle.journal_core.specs.Runs.{Made, journal_of}
use Rattle.sched_core.specs.Shares.{bytes_between, longest}
use Rattle.sched_core.specs.Starvation.{dequeues_between, fates_between}
use Rattle.test_definitions.proofs.ComputedRuns.{acceptance}

abbrev makes : Answer → List Event → Made
makes said events = record { answer = said; events = events }

-- Flows 1 and 2 have packets of 500, 200, 300 and 40 bytes, ids 0 to 3 in turn. Ids 0 and 1 are sent, id 1 marked; id 2 is
-- dropped by CoDel, and id 3 by overflow as a packet of 900 bytes comes in flow 1, which is sent last.
abbrev steps_made : List Made
steps_made =
    makes answer.Accepted (acceptance 0 1 500 ∷ []) ∷ makes answer.Accepted (acceptance 1 2 200 ∷ [])
    ∷ makes answer.Accepted (acceptance 2 1 300 ∷ []) ∷ makes answer.Accepted (acceptance 3 2 40 ∷ [])
    ∷ makes answer.Sent (event.Sent 0 1 NotEct NoMark ∷ []) ∷ makes answer.Sent (event.Dropped 2 1 Codel ∷ event.Sent 1 1 Ce CodelMark ∷ [])
    ∷ makes answer.Accepted (acceptance 4 1 900 ∷ event.Dropped 3 1 Overflow ∷ []) ∷ makes answer.Sent (event.Sent 4 2 NotEct NoMark ∷ []) ∷ []

-- from the opening to the end, as accepted: what is dropped doesn't count
of_flow_1 : bytes_between steps_made 0 8 1 ≡ 1400
of_flow_1 = refl

of_flow_2 : bytes_between steps_made 0 8 2 ≡ 200
of_flow_2 = refl

-- the step behind point 4 is that of the first dequeue, and the step before point 7 an acceptance
between_dequeues : bytes_between steps_made 4 7 1 ≡ 500
between_dequeues = refl

from_one_point : bytes_between steps_made 5 5 2 ≡ 0
from_one_point = refl

of_another_flow : bytes_between steps_made 0 8 3 ≡ 0
of_another_flow = refl

-- the longest packet before any came, of four, and of all
longest_of_none : longest [] ≡ 1
longest_of_none = refl

longest_of_four : longest (acceptances (journal_of (take 6 steps_made))) ≡ 500
longest_of_four = refl

longest_of_all : longest (acceptances (journal_of steps_made)) ≡ 900
longest_of_all = refl

-- what was sent, dropped by CoDel and lost by overflow
fates_of_flow_1 : fates_between steps_made 0 8 1 ≡ 0 ∷ 2 ∷ 4 ∷ []
fates_of_flow_1 = refl

fates_of_flow_2 : fates_between steps_made 4 7 2 ≡ 1 ∷ 3 ∷ []
fates_of_flow_2 = refl

-- three dequeues, of which one stands before point 5
all_dequeues : dequeues_between steps_made 0 8 ≡ 3
all_dequeues = refl

later_dequeues : dequeues_between steps_made 5 8 ≡ 2
later_dequeues = refl
