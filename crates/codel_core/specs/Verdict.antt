use Rattle.std.specs.Prelude.{◌≡◌, ℕ, ◌+◌, ◌<◌, ◌≤◌, List, drop, take, slice_get, Option, Some, None, option_map, unwrap_or, true, false, if◌then◌else◌}
use Rattle.packet_core.specs.declared.packet.Waiting.{Waiting}
use Rattle.packet_core.specs.declared.packet.Ecn.{Ecn}
use Rattle.packet_core.specs.declared.packet.Ecn.TheVariants.{Ce}
use Rattle.packet_core.specs.declared.params.ParamFields.{ParamFields}
use Rattle.codel_core.specs.declared.served.Mark.{Mark}
use Rattle.codel_core.specs.declared.served.Mark.TheVariants.{NoMark, CodelMark, Threshold}
use Rattle.codel_core.specs.declared.served.Served.{Served}
use Rattle.codel_core.specs.declared.state.CodelState.{CodelState}
use Rattle.codel_core.specs.Queue.{IsDroppable, IsLate, IsLateWith, IsMarkableAt, bytes_of, is_past_threshold}
use Rattle.codel_core.specs.Schedule.{after_drops, drop_moment, entered, stopped_after}

-- What becomes of first_above: it is given up where the packet isn't late. Where it is, it stays, or is set an interval
-- ahead if it wasn't set.
pub data FirstAbove (late : Type 0) (interval now : ℕ) (old : Option ℕ) : Option ℕ → Type 0 where
  given_up : ¬ late → FirstAbove late interval now old None
  stays : late → FirstAbove late interval now old (Some (unwrap_or old (now + interval)))

-- while the queue drops, the packet at place j is dropped
pub record IsDropped (p : ParamFields) (now : ℕ) (q : List Waiting) (old : CodelState) (j : ℕ) : Type 0 where
  pub droppable : IsDroppable p now q old.first_above j
  pub due : drop_moment p.interval old j ≤ now
  pub unmarkable : ¬ IsMarkableAt p q j

-- How a queue that drops stops, behind k drops: the mark of the packet at place k and the new state, apart from
-- first_above. The first of these that applies: that packet isn't droppable; it isn't due yet; it is marked.
pub data Stops (p : ParamFields) (now : ℕ) (q : List Waiting) (old : CodelState) (k : ℕ)
    : Mark → CodelState → Type 0 where
  leaves : ¬ IsDroppable p now q old.first_above k
      → Stops p now q old k NoMark (stopped_after p.interval old k)
  waits : IsDroppable p now q old.first_above k → now < drop_moment p.interval old k
      → Stops p now q old k NoMark (after_drops p.interval old k)
  marks : IsDroppable p now q old.first_above k → drop_moment p.interval old k ≤ now → IsMarkableAt p q k
      → Stops p now q old k CodelMark (after_drops p.interval old (k + 1))

-- CoDel's verdict (RFC 8289, section 5, with the marks of RFC 8290, section 4): how many packets are dropped from the
-- head of the queue, the mark of the next one, which is given, and the new state, apart from first_above.
pub data Verdict (p : ParamFields) (now : ℕ) (q : List Waiting) (old : CodelState)
    : ℕ → Mark → CodelState → Type 0 where
  nothing : ¬ IsDroppable p now q old.first_above 0
      → Verdict p now q old 0 NoMark (record old { dropping = false })
  first_mark : IsDroppable p now q old.first_above 0 → old.dropping ≡ false → IsMarkableAt p q 0
      → Verdict p now q old 0 CodelMark (entered p now old)
  first_drop : IsDroppable p now q old.first_above 0 → old.dropping ≡ false → ¬ IsMarkableAt p q 0
      → Verdict p now q old 1 NoMark (entered p now old)
  drops : {k : ℕ} {mark : Mark} {new : CodelState}
      → IsDroppable p now q old.first_above 0 → old.dropping ≡ true → ((j : ℕ) → j < k → IsDropped p now q old j)
      → Stops p now q old k mark new
      → Verdict p now q old k mark new

-- That packet stands at place k of the queue, with so many bytes behind it.
pub record IsAt (w : Waiting) (behind : ℕ) (q : List Waiting) (k : ℕ) : Type 0 where
  pub head_is : Some w ≡ slice_get q k
  pub bytes : behind ≡ bytes_of (drop (k + 1) q)

-- On each queue with that head, and with so many bytes behind it, CoDel drops nothing and gives the head without a
-- mark. The new state is that one.
pub record SendsHead (p : ParamFields) (now : ℕ) (w : Waiting) (behind : ℕ) (old new : CodelState) : Type 0 where
  pub first_above : FirstAbove (IsLateWith p now w behind) p.interval now old.first_above new.first_above
  pub verdict :
      (q : List Waiting) → IsAt w behind q 0
      → Verdict p now q old 0 NoMark (record new { first_above = old.first_above })

-- the mark of a packet that CoDel gives without one
abbrev pub threshold_mark : ParamFields → ℕ → Waiting → Mark
threshold_mark p now w = if is_past_threshold p now w then Threshold else NoMark

-- The mark of the packet that is given, if one is, by the mark that CoDel gives it: the threshold marks what CoDel
-- doesn't mark (RFC 8290, section 5.2.7).
abbrev pub final_mark : ParamFields → ℕ → Option Waiting → Mark → Mark
final_mark p now None by_codel = by_codel
final_mark p now (Some w) NoMark = threshold_mark p now w
final_mark p now (Some w) CodelMark = CodelMark
final_mark p now (Some w) Threshold = Threshold

-- The verdict with the whole new state: k packets are dropped from the head of the queue, the one at place k is given
-- with that mark (none where the queue is empty), and that is the state behind it. The threshold changes the mark
-- alone.
pub record Decides (p : ParamFields) (now : ℕ) (q : List Waiting) (old : CodelState) (k : ℕ) (mark : Mark)
    (new : CodelState) : Type 0 where
  pub by_codel : Mark
  pub verdict : Verdict p now q old k by_codel (record new { first_above = old.first_above })
  pub mark_is : mark ≡ final_mark p now (slice_get q k) by_codel
  pub first_above : FirstAbove (IsLate p now q k) p.interval now old.first_above new.first_above

-- the ECN field that a packet is sent with: a mark is CE (RFC 3168, section 5)
abbrev pub sent_ecn : Mark → Ecn → Ecn
sent_ecn NoMark field = field
sent_ecn CodelMark field = Ce
sent_ecn Threshold field = Ce

-- a packet as it is given
abbrev pub served : Mark → Waiting → Served
served mark w =
    record { waiting = record w { packet = record w.packet { ecn = sent_ecn mark w.packet.ecn } }; mark = mark }

-- What a verdict of k drops makes of the line and of the sink: k pulls and one more, one after another, make the new
-- line, and the packets dropped, taken in order, make the new sink.
pub record PassesDrops {A B : Type 0} (items : A → List Waiting) (pulled : A → ℕ → A → Type 0)
    (taken : B → List Waiting → B → Type 0) (k : ℕ) (line : A) (sink : B) (line' : A) (sink' : B) : Type 0 where
  pub pulls : pulled line (k + 1) line'
  pub rest : items line' ≡ drop (k + 1) (items line)
  pub takes : taken sink (take k (items line)) sink'

-- What a serve does with a state, a line and a sink.
pub record ServesLine {A B : Type 0} (items : A → List Waiting) (pulled : A → ℕ → A → Type 0)
    (taken : B → List Waiting → B → Type 0) (p : ParamFields) (now : ℕ) (old : CodelState) (line : A) (sink : B)
    (answer : Option Served) (new : CodelState) (line' : A) (sink' : B) : Type 0 where
  -- how many packets are dropped
  pub drops : ℕ
  -- the mark of the packet that is given
  pub mark : Mark
  pub decides : Decides p now (items line) old drops mark new
  pub given : answer ≡ option_map (served mark) (slice_get (items line) drops)
  pub left : PassesDrops items pulled taken drops line sink line' sink'

-- the state of a queue that nothing was taken from
abbrev pub opening : CodelState
opening = record { first_above = None; drop_next = 0; count = 0; lastcount = 0; dropping = false }
