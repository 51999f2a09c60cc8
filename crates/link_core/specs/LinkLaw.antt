-- The link's law. The link sends one packet after another and takes `work` for each. It asks for a packet at the moment
-- at which it gets free, after the arrivals of that microsecond, and at once where a packet comes while it is idle. Its
-- time is a whole number of units of 1/rate microseconds, so nothing is rounded from packet to packet; only a step's
-- moment is, down to whole microseconds.
use Rattle.std.specs.Prelude.{◌≡◌, ℕ, ◌+◌, ◌*◌, ◌/◌, ◌<◌, ◌≤◌, ◌⊎◌, List, [], ◌∷◌}
use Rattle.std.specs.List.{filter_map}
use Rattle.journal_core.specs.declared.event.Event.{Event}
use Rattle.journal_core.specs.declared.step.Step.{Step}
use Rattle.journal_core.specs.declared.step.Step.TheVariants.{Enqueue, Dequeue}
use Rattle.journal_core.specs.Runs.{Made}
use Rattle.journal_core.specs.Statistics.{sent_of}
use Rattle.link_core.specs.declared.arrival.Arrival.{Arrival}
use Rattle.link_core.specs.declared.link.LinkFields.{LinkFields}
use Rattle.link_core.specs.Arrivals.{length_at}
use Rattle.link_core.specs.Links.{work}

-- What the link is doing. It is idle; or it is idle and asks now, since a packet came at that moment; or it sends, and
-- gets free at so many units.
pub data LinkState : Type 0 where
  idle : LinkState
  asks : ℕ → LinkState
  free : ℕ → LinkState

-- The link, and the packets that are still to come.
pub record LinkPoint : Type 0 where
  pub state : LinkState
  pub coming : List Arrival

-- what the link does once it has asked at so many units: it sends the packet that came out, or is idle
abbrev pub after_ids : LinkFields → List Arrival → ℕ → List ℕ → LinkState
after_ids link arrivals units [] = idle
after_ids link arrivals units (id ∷ ids) = free (units + work link (length_at arrivals id))

abbrev pub after : LinkFields → List Arrival → ℕ → List Event → LinkState
after link arrivals units events = after_ids link arrivals units (filter_map sent_of events)

-- The next packet comes in, by lane 0.
pub record Comes (a : Arrival) (rest : List Arrival) (state : LinkState) (step : Step) (new : LinkPoint) : Type 0 where
  pub enqueues : step ≡ Enqueue a.moment 0 a.packet
  pub leads : new ≡ record { state = state; coming = rest }

-- The link asks for a packet, at that moment, which is so many units exactly.
pub record Asks (link : LinkFields) (arrivals coming : List Arrival) (moment units : ℕ) (step : Step)
    (events : List Event) (new : LinkPoint) : Type 0 where
  pub dequeues : step ≡ Dequeue moment
  pub leads : new ≡ record { state = after link arrivals units events; coming = coming }

-- What the link does next, by its state and by what is still to come:
-- an idle link waits for the next packet, and then asks at once; where none is to come, that is the end;
-- a link that sends takes in what comes up to the microsecond in which it gets free, and then asks.
abbrev pub MovesFrom : LinkFields → List Arrival → LinkState → List Arrival → Step → List Event → LinkPoint → Type 0
MovesFrom link arrivals idle [] step events new = ⊥
MovesFrom link arrivals idle (a ∷ rest) step events new = Comes a rest (asks a.moment) step new
MovesFrom link arrivals (asks moment) coming step events new =
    Asks link arrivals coming moment (moment * link.rate) step events new
MovesFrom link arrivals (free units) [] step events new =
    Asks link arrivals [] (units / link.rate) units step events new
MovesFrom link arrivals (free units) (a ∷ rest) step events new =
    ((a.moment ≤ units / link.rate) × Comes a rest (free units) step new)
    ⊎ ((units / link.rate < a.moment) × Asks link arrivals (a ∷ rest) (units / link.rate) units step events new)

abbrev pub Moves : LinkFields → List Arrival → LinkPoint → Step → List Event → LinkPoint → Type 0
Moves link arrivals old step events new = MovesFrom link arrivals old.state old.coming step events new

-- Each of the steps, with what it made, is what the link does next, from one point to another.
abbrev pub Follows : LinkFields → List Arrival → LinkPoint → List Step → List Made → LinkPoint → Type 0
Follows link arrivals old [] [] new = new ≡ old
Follows link arrivals old [] (m ∷ made) new = ⊥
Follows link arrivals old (step ∷ steps) [] new = ⊥
Follows link arrivals old (step ∷ steps) (m ∷ made) new =
    (mid : LinkPoint) × Moves link arrivals old step m.events mid × Follows link arrivals mid steps made new

-- The steps are those of the link for these arrivals, from the first to the last: it begins and ends idle.
abbrev pub LinkLaw : LinkFields → List Arrival → List Step → List Made → Type 0
LinkLaw link arrivals steps made =
    Follows link arrivals (record { state = idle; coming = arrivals }) steps made (record { state = idle; coming = [] })
