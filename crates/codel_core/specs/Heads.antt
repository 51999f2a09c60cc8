-- What becomes of the head of a line.
use Rattle.std.specs.Prelude.{◌≡◌, ℕ, List, [], ◌∷◌, drop, take, slice_get, Some}
use Rattle.packet_core.specs.declared.packet.Waiting.{Waiting}
use Rattle.codel_core.specs.declared.served.Mark.{Mark}
use Rattle.codel_core.specs.declared.state.CodelState.{CodelState}
use Rattle.packet_core.specs.declared.params.ParamFields.{ParamFields}
use Rattle.codel_core.specs.Verdict.{Decides}

-- The head leaves the line by a pull.
pub record Leaves {A : Type 0} (items : A → List Waiting) (pulled : A → ℕ → A → Type 0) (line line' : A) : Type 0 where
  pub rest : items line' ≡ drop 1 (items line)
  pub step : pulled line 1 line'

-- The head leaves the line and is dropped: the sink takes it.
pub record DropsHead {A B : Type 0} (items : A → List Waiting) (pulled : A → ℕ → A → Type 0)
    (taken : B → List Waiting → B → Type 0) (line : A) (sink : B) (line' : A) (sink' : B) : Type 0 where
  pub head : Waiting
  pub head_is : Some head ≡ slice_get (items line) 0
  pub leaves : Leaves items pulled line line'
  pub takes : taken sink (head ∷ []) sink'

-- The mark is that which a packet like the head of the line gets.
pub record MarksHead {A : Type 0} (items : A → List Waiting) (mark : Waiting → Mark) (line : A) (answer : Mark)
    : Type 0 where
  pub head : Waiting
  pub head_is : Some head ≡ slice_get (items line) 0
  pub mark_is : answer ≡ mark head

-- After k drops the packet at place k stands at the head of the line.
pub record Stands {A B : Type 0} (items : A → List Waiting) (pulled : A → ℕ → A → Type 0)
    (taken : B → List Waiting → B → Type 0) (line : A) (sink : B) (k : ℕ) (line' : A) (sink' : B) : Type 0 where
  pub pulls : pulled line k line'
  pub rest : items line' ≡ drop k (items line)
  pub takes : taken sink (take k (items line)) sink'

-- What a judgement of the heads of a line does with a state, a line and a sink: so many packets are dropped, and the
-- one after them stays at the head, to be given with that mark.
pub record JudgesLine {A B : Type 0} (items : A → List Waiting) (pulled : A → ℕ → A → Type 0)
    (taken : B → List Waiting → B → Type 0) (p : ParamFields) (now : ℕ) (old : CodelState) (line : A) (sink : B)
    (mark : Mark) (new : CodelState) (line' : A) (sink' : B) : Type 0 where
  pub drops : ℕ
  pub decides : Decides p now (items line) old drops mark new
  pub stands : Stands items pulled taken line sink drops line' sink'
