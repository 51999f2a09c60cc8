-- A link's run on the way: what has been done, and what is still to come.
use Rattle.std.specs.Prelude.{◌≡◌, ℕ, ◌+◌, ◌*◌, ◌^◌, ◌<◌, ◌≤◌, false, List, [], ◌∷◌, All, length, Option, Some, None, IfSome}
use Rattle.journal_core.specs.declared.event.Event.{Event}
use Rattle.journal_core.specs.declared.step.Sent.{Sent}
use Rattle.journal_core.specs.declared.step.Step.{Step}
use Rattle.journal_core.specs.Calls.{Standing}
use Rattle.journal_core.specs.Disciplines.{Discipline, Given}
use Rattle.journal_core.specs.Runs.{Made, Runs, is_refused, journal_of}
use Rattle.journal_core.specs.State.{opening_state}
use Rattle.link_core.specs.declared.arrival.Arrival.{Arrival}
use Rattle.link_core.specs.declared.arrival.TheConstants.{MAX_ARRIVAL_MOMENT}
use Rattle.link_core.specs.declared.free_at.FreeAt.{FreeAt}
use Rattle.link_core.specs.declared.link.LinkFields.{LinkFields}
use Rattle.link_core.specs.Arrivals.{length_at}
use Rattle.link_core.specs.LinkLaw.{Follows, LinkPoint, LinkState}
use Rattle.link_core.specs.LinkLaw.LinkState.{idle, free}
use Rattle.link_core.specs.LinkLaws.{sendings, sent_after}
use Rattle.link_core.specs.Links.{work}
use Rattle.link_core.specs.QueueDisciplines.{HasServed, Progress, sent_count}

-- a time, in units of which a microsecond has as many as the rate has bits per second
abbrev pub units_of : LinkFields → FreeAt → ℕ
units_of link f = f.moment * link.rate + f.rest

-- what the link does, by when it gets free
abbrev pub state_of : LinkFields → Option FreeAt → LinkState
state_of link None = idle
state_of link (Some f) = free (units_of link f)

-- before the first step
abbrev pub start_of : List Arrival → LinkPoint
start_of arrivals = record { state = idle; coming = arrivals }

-- The steps so far are those of the link up to that point, a scheduler of that discipline has made them, and none was
-- refused. What came has an id each.
pub record IsUnderway {Q : Type 0} (d : Discipline Q) (link : LinkFields) (arrivals : List Arrival) (steps : List Step)
    (at : Standing Q) (point : LinkPoint) : Type 0 where
  pub made : List Made
  pub follows : Follows link arrivals (start_of arrivals) steps made point
  pub runs : Runs d (opening_state d.opening) steps made at.state
  pub journal : at.events ≡ journal_of made
  pub none_refused : All (λ (m : Made). is_refused m.answer ≡ false) made
  pub ids : at.state.next_id + length point.coming ≡ length arrivals
  pub opened : at.state.closed ≡ false

-- What is to come doesn't come before that moment, nor too late, and moments don't fall.
abbrev pub AreComing : ℕ → List Arrival → Type 0
AreComing last [] = Unit {0}
AreComing last (a ∷ rest) = (last ≤ a.moment) × (a.moment < MAX_ARRIVAL_MOMENT) × AreComing a.moment rest

-- the most microseconds, and one more, that a packet takes
abbrev pub longest_wire_time : ℕ
longest_wire_time = 532280001

-- The link gets free not before the last step, and not too late: so many packets were sent.
pub record IsFreeInTime (link : LinkFields) (last sent : ℕ) (f : FreeAt) : Type 0 where
  pub rest : f.rest < link.rate
  pub later : last ≤ f.moment
  pub soon : f.moment ≤ MAX_ARRIVAL_MOMENT + longest_wire_time * sent

-- The same, with all that the next steps want to know: that no moment is refused.
pub record IsOnTime {Q : Type 0} (link : LinkFields) (at : Standing Q) (busy : Option FreeAt)
    (coming : List Arrival) : Type 0 where
  pub frees : IfSome busy (IsFreeInTime link at.state.last (sent_count at.events))
  pub comes : AreComing at.state.last coming

-- A discipline has made the steps of the link so far, and goes on without a refusal. No more packets were sent than
-- came.
pub record IsOnLink {Q : Type 0} (d : Discipline Q) (link : LinkFields) (arrivals : List Arrival) (at : Progress Q)
    (busy : Option FreeAt) (coming : List Arrival) : Type 0 where
  pub underway : IsUnderway d link arrivals at.steps at.standing
      (record { state = state_of link busy; coming = coming })
  pub on_time : IsOnTime link at.standing busy coming
  pub few : sent_count at.standing.events ≤ at.standing.state.next_id

-- The link sends a packet of that length from then on: when it gets free again.
pub record IsFreeAfter (link : LinkFields) (now : FreeAt) (len : ℕ) (f : FreeAt) : Type 0 where
  pub exact : units_of link f ≡ units_of link now + work link len
  pub rest : f.rest < link.rate
  pub later : now.moment ≤ f.moment
  pub soon : f.moment ≤ now.moment + longest_wire_time

-- It sends the packet that was given, if one was.
abbrev pub SendsGiven : LinkFields → List Arrival → FreeAt → Option Given → Option FreeAt → Type 0
SendsGiven link arrivals now None None = Unit {0}
SendsGiven link arrivals now None (Some f) = ⊥
SendsGiven link arrivals now (Some g) None = ⊥
SendsGiven link arrivals now (Some g) (Some f) = IsFreeAfter link now (length_at arrivals g.waiting.id) f

-- A discipline was asked for a packet, and the link sends what it gave.
pub record HasAsked {Q : Type 0} (d : Discipline Q) (link : LinkFields) (arrivals : List Arrival) (now : FreeAt)
    (old : Progress Q) (busy : Option FreeAt) (new : Progress Q) : Type 0 where
  pub sent : Option Sent
  pub serves : HasServed d old now.moment sent new
  pub sends : SendsGiven link arrivals now serves.gives.given busy

-- The next packet is to come, at that moment at the latest.
abbrev pub ComesBy : ℕ → List Arrival → Type 0
ComesBy moment [] = ⊥
ComesBy moment (a ∷ rest) = a.moment ≤ moment

-- Where a packet is to come, the next one comes after that moment.
abbrev pub ComesAfter : ℕ → List Arrival → Type 0
ComesAfter moment [] = Unit {0}
ComesAfter moment (a ∷ rest) = moment < a.moment

-- whether the link is busy, as a number
abbrev pub busy_count : Option FreeAt → ℕ
busy_count None = 0
busy_count (Some f) = 1

-- The link has sent at that time what it was given: when it gets free, or before the next packet comes to an idle link.
abbrev pub IsFreeFrom : LinkFields → Option FreeAt → List Arrival → FreeAt → Type 0
IsFreeFrom link (Some f) coming done = done ≡ f
IsFreeFrom link None [] done = Unit {0}
IsFreeFrom link None (a ∷ rest) done = units_of link done ≤ a.moment * link.rate

-- That is when the link has sent the packets of these events whole.
pub record HasSentBy (link : LinkFields) (arrivals : List Arrival) (events : List Event) (busy : Option FreeAt)
    (coming : List Arrival) (done : FreeAt) : Type 0 where
  pub exact : units_of link done ≡ sent_after link arrivals 0 (sendings events)
  pub from : IsFreeFrom link busy coming done
  pub rest : done.rest ≤ link.rate
  pub soon : done.moment ≤ 2 ^ 60 + longest_wire_time

-- the time at which a link gets free that sends, and otherwise the one that is given
abbrev pub free_or : Option FreeAt → FreeAt → FreeAt
free_or None done = done
free_or (Some f) done = f
