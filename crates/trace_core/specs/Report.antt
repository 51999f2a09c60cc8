-- The text of a run's report.
use Rattle.std.specs.Prelude.{◌≡◌, ◌<◌, ℕ, Bool, true, false, List, [], ◌∷◌, ◌++◌, Ok}
use Rattle.std.specs.Prelude.{codes}
use Rattle.std.specs.Fmt.{decimal}
use Rattle.std.specs.List.{flat_map}
use Rattle.journal_core.specs.Runs.{Made, Runs, journal_of}
use Rattle.journal_core.specs.Statistics.{statistics}
use Rattle.journal_core.specs.declared.event.Event.{Event}
use Rattle.journal_core.specs.declared.event.Event.TheVariants as event
use Rattle.journal_core.specs.declared.outcome.Answer.{Answer}
use Rattle.journal_core.specs.declared.outcome.Answer.TheVariants as answer
use Rattle.journal_core.specs.declared.step.MomentFault.{MomentFault}
use Rattle.journal_core.specs.declared.step.MomentFault.TheVariants as moment_fault
use Rattle.journal_core.specs.declared.step.Refusal.{Refusal}
use Rattle.journal_core.specs.declared.step.Refusal.TheVariants as refusal
use Rattle.journal_core.specs.declared.totals.Totals.{Totals}
use Rattle.journal_core.specs.declared.note.Note.{Note}
use Rattle.journal_core.specs.declared.note.Note.TheVariants as note
use Rattle.journal_core.specs.declared.tuple_rows.TupleRow.{TupleRow}
use Rattle.journal_core.specs.TupleRows.{tuple_rows}
use Rattle.packet_core.specs.declared.flow.Seed.{Seed}
use Rattle.packet_core.specs.declared.params.ParamFields.{ParamFields}
use Rattle.fair_core.specs.FairQueues.{FairQueues, no_queues}
use Rattle.fair_core.specs.FqCodel.{fq_codel}
use Rattle.journal_core.specs.State.{State, opening_state}
use Rattle.journal_core.specs.declared.step.Step.{Step}
use Rattle.sched_core.specs.Schedulers.{Scheduler, discipline_of}
use Rattle.journal_core.specs.Steps.{Steps}
use Rattle.row_core.specs.Traces.{steps_of, trace_of}
use Rattle.trace_core.specs.declared.journal_report.SenderRow.{SenderRow}
use Rattle.trace_core.specs.declared.report.Rows.{Rows}
use Rattle.text_core.specs.Texts as texts
pub use Rattle.text_core.specs.Texts.{IsFilled, address_text, cause_name, ecn_digit}
unfoldable pub use Rattle.text_core.specs.Texts.{line_of}

-- the word for whether there was a close
abbrev pub state_name : Bool → List ℕ
state_name true = codes "closed"
state_name false = codes "open"

-- the fields of an event's row
abbrev pub event_row : Event → List (List ℕ)
event_row (event.Accepted lane id moment flow packet) = codes "accepted" ∷ decimal id ∷ decimal flow ∷ []
event_row (event.Sent id moment ecn mark) = codes "sent" ∷ decimal id ∷ ecn_digit ecn ∷ []
event_row (event.Dropped id moment why) = codes "dropped" ∷ decimal id ∷ cause_name why ∷ []
event_row (event.Closed moment) = codes "closed" ∷ []

-- the fields of the row of a step that is refused for its moment
abbrev pub moment_row : MomentFault → List (List ℕ)
moment_row (moment_fault.Backwards last) = codes "refused" ∷ codes "backwards" ∷ decimal last ∷ []
moment_row moment_fault.TooLarge = codes "refused" ∷ codes "too_large" ∷ []

-- the fields of a refusal's row
abbrev pub refusal_row : Refusal → List (List ℕ)
refusal_row (refusal.Moment fault) = moment_row fault
refusal_row refusal.ClosedAlready = codes "refused" ∷ codes "closed" ∷ []
refusal_row refusal.Exhausted = codes "refused" ∷ codes "exhausted" ∷ []
refusal_row refusal.Memory = codes "refused" ∷ codes "memory" ∷ []

-- the row of an event
abbrev pub event_line : Event → List ℕ
event_line event = line_of (event_row event)

-- the fields of an event's row, by its note
abbrev pub note_row : Note → List (List ℕ)
note_row (note.Accepted flow id) = codes "accepted" ∷ decimal id ∷ decimal flow ∷ []
note_row (note.Sent ecn id) = codes "sent" ∷ decimal id ∷ ecn_digit ecn ∷ []
note_row (note.Dropped why id) = codes "dropped" ∷ decimal id ∷ cause_name why ∷ []
note_row note.Closed = codes "closed" ∷ []

-- the row of an event, by its note
abbrev pub note_line : Note → List ℕ
note_line n = line_of (note_row n)

-- the rows of an answer, beside those of its events: an idle step and a refused one have a row each
abbrev pub answer_lines : Answer → List ℕ
answer_lines answer.Accepted = []
answer_lines answer.Sent = []
answer_lines answer.Closed = []
answer_lines answer.Idle = line_of (codes "idle" ∷ [])
answer_lines (answer.Refused why) = line_of (refusal_row why)

-- the rows of what a step gave: one for each event, in order, and then that of its answer
abbrev pub made_lines : Made → List ℕ
made_lines m = flat_map event_line m.events ++ answer_lines m.answer

-- the fields of the totals' row
abbrev pub totals_row : Totals → List (List ℕ)
totals_row t =
    codes "totals" ∷ decimal t.accepted ∷ decimal t.accepted_bytes ∷ decimal t.sent ∷ decimal t.sent_bytes
    ∷ decimal t.dropped_codel ∷ decimal t.dropped_overflow ∷ decimal t.dropped_bytes ∷ decimal t.marked
    ∷ decimal t.threshold_marked ∷ decimal t.queued ∷ decimal t.queued_bytes ∷ state_name t.closed ∷ []

-- the fields of the row of a five-tuple
abbrev pub tuple_row : TupleRow → List (List ℕ)
tuple_row row =
    codes "tuple" ∷ decimal row.tuple.proto ∷ address_text row.tuple.src ∷ address_text row.tuple.dst
    ∷ decimal row.tuple.sport ∷ decimal row.tuple.dport ∷ decimal row.flow
    ∷ decimal row.accepted ∷ decimal row.sent ∷ decimal row.dropped ∷ decimal row.queued ∷ []

-- the row of a five-tuple
abbrev pub tuple_line : TupleRow → List ℕ
tuple_line row = line_of (tuple_row row)

-- the fields of the row of a sender
abbrev pub sender_row : SenderRow → List (List ℕ)
sender_row row =
    codes "sender" ∷ decimal row.sender ∷ decimal row.submitted ∷ decimal row.accepted ∷ decimal row.left ∷ []

-- the row of a sender
abbrev pub sender_line : SenderRow → List ℕ
sender_line row = line_of (sender_row row)

-- The text of a journal: a row for each event, the row of the totals, the row of each five-tuple, in order of first
-- acceptance, and that of each sender.
abbrev pub journal_text : List Event → List SenderRow → List ℕ
journal_text events senders =
    ((flat_map event_line events ++ line_of (totals_row (statistics events)))
    ++ flat_map tuple_line (tuple_rows events)) ++ flat_map sender_line senders

-- The report of a run: the rows of each step, in order, the row of the totals of the whole journal, and the row of
-- each five-tuple, in order of first acceptance.
abbrev pub report_of : List Made → List ℕ
report_of made =
    (flat_map made_lines made ++ line_of (totals_row (statistics (journal_of made))))
    ++ flat_map tuple_line (tuple_rows (journal_of made))

-- The text is the report of a trace with these bytes: that of the run of its steps with a new scheduler of those
-- parameters and that seed.
pub record IsReportOf (p : ParamFields) (seed : Seed) (bytes text : List ℕ) : Type 0 where
  pub steps : List Step
  pub made : List Made
  pub last : State FairQueues
  pub read : trace_of bytes ≡ Ok steps
  pub runs : Runs (fq_codel p seed) (opening_state (no_queues p.flows)) steps made last
  pub told : text ≡ report_of made

-- The rows that were written are this text, and the next row starts at its end.
abbrev pub HasReportText : Rows → List ℕ → Type 0
HasReportText rows text = texts.HasText rows.rows text

-- These bytes are written after the rows so far, whatever those are.
unfoldable pub AddsToReport : Rows → Rows → List ℕ → Type 0
AddsToReport old new more = (text : List ℕ) → HasReportText old text → HasReportText new (text ++ more)

-- A step is made, and the rows of what it gave are written.
pub record RunsStep (step : Step) (old new : Scheduler) (before after : Rows) : Type 0 where
  pub made : Made
  pub steps : Steps (discipline_of old) old.standing.state step made.answer made.events new.standing.state
  pub journal : new.standing.events ≡ old.standing.events ++ made.events
  pub params : new.params ≡ old.params
  pub seed : new.seed ≡ old.seed
  pub told : AddsToReport before after (made_lines made)

-- These steps are made in turn, and the rows of what they gave are written.
pub record RunsSteps (steps : List Step) (old new : Scheduler) (before after : Rows) : Type 0 where
  pub made : List Made
  pub runs : Runs (discipline_of old) old.standing.state steps made new.standing.state
  pub journal : new.standing.events ≡ old.standing.events ++ journal_of made
  pub params : new.params ≡ old.params
  pub seed : new.seed ≡ old.seed
  pub told : AddsToReport before after (flat_map made_lines made)

-- The same of the steps of a text.
abbrev pub RunsText : List ℕ → Scheduler → Scheduler → Rows → Rows → Type 0
RunsText text old new before after =
    (steps : List Step) × (steps_of text ≡ Ok steps) × RunsSteps steps old new before after
