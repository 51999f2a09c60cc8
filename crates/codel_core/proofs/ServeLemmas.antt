-- What each step of a serve makes of the state, the line and the sink, over plain variables.
use Rattle.std.proofs.Common.{◌≡◌, ℕ, zero, suc, ◌+◌, ◌-◌, ◌<◌, ◌≤◌, ◌↔◌, Bool, true, false, List, [], ◌∷◌, ◌++◌, length, take, drop, Option, Some, None, refl, sym, ap, subst, ◌∙◌, arith, add-one, below_more}
use Rattle.std.specs.Prelude.{slice_get, option_map, IsTrue}
use Rattle.std.proofs.Math.Seq.{take-suc}
use Rattle.std.proofs.lemmas.List.{drop-drop}
use Rattle.std.proofs.lemmas.Option.{slice_get_within, get_or_from_slice_get}
use Rattle.std.proofs.lemmas.Bool.{both_ways, iff_false}
use Rattle.packet_core.specs.declared.packet.Waiting.{Waiting}
use Rattle.packet_core.specs.declared.params.ParamFields.{ParamFields}
use Rattle.codel_core.specs.declared.served.Mark.{Mark}
use Rattle.codel_core.specs.declared.served.Mark.TheVariants.{NoMark, CodelMark}
use Rattle.codel_core.specs.declared.served.Served.{Served}
use Rattle.codel_core.specs.declared.state.CodelState.{CodelState}
use Rattle.codel_core.specs.Queue.{IsLateWith, IsLate, HasCome, IsDroppable, IsMarkableAt, is_markable}
use Rattle.codel_core.specs.Schedule.{spacing_of, drop_moment, after_drops, entered}
use Rattle.codel_core.specs.Spacing.{IsSpacing}
use Rattle.codel_core.proofs.SpacingLemmas.{one_spacing_is}
use Rattle.codel_core.specs.Heads.{DropsHead, JudgesLine, Stands}
use Rattle.codel_core.specs.Verdict.{FirstAbove, given_up, stays, leaves, waits, marks, IsAt, IsDropped, SendsHead, Verdict, nothing, drops, served, ServesLine, final_mark}

-- QUEUES AND STATES

-- the head of what is behind k places
pub at_head : {X : Type 0} (q : List X) (k : ℕ) → slice_get (drop k q) 0 ≡ slice_get q k
at_head q zero = refl
at_head [] (suc k) = refl
at_head (x ∷ xs) (suc k) = at_head xs k

-- one packet more is dropped
next_taken : (q : List Waiting) (k : ℕ) (w : Waiting) → Some w ≡ slice_get q k → take (k + 1) q ≡ take k q ++ w ∷ []
next_taken q k w e =
    let get = get_or_from_slice_get q k w w (sym e) in
    rw add-one (take-suc q k w (slice_get_within q k w (sym e)) ∙ ap (λ (x : Waiting). take k q ++ x ∷ []) get)

-- whether the packet in hand may be marked is told by its own field
pub unmarkable_at : (p : ParamFields) (q : List Waiting) (k : ℕ) (head : Waiting) → Some head ≡ slice_get q k → is_markable p.ecn head.packet.ecn ≡ false → ¬ IsMarkableAt p q k
unmarkable_at p q k head is cannot = rw (← is) (λ can. both_ways (is_markable p.ecn head.packet.ecn) cannot can)

-- a droppable packet leaves first_above as it was
pub first_above_kept : {late : Type 0} {interval now : ℕ} {old new : Option ℕ} → FirstAbove late interval now old new → late → HasCome old now → new ≡ old
first_above_kept (given_up early) l h = absurd (early l)
first_above_kept {old = None} (stays late) l h = absurd h
first_above_kept {old = Some t} (stays late) l h = refl

-- so that is its fate
pub fate_of_droppable : {late : Type 0} {interval now : ℕ} (old : Option ℕ) → late → HasCome old now → FirstAbove late interval now old old
fate_of_droppable None l h = absurd h
fate_of_droppable (Some t) l h = stays l

-- a state that begins to drop, behind a judgement
pub entered_from : (p : ParamFields) (now : ℕ) (old state new : CodelState)
    → record state { first_above = old.first_above } ≡ old → new ≡ entered p now state → entered p now old ≡ record new { first_above = old.first_above }
entered_from p now old state new same e =
    sym (ap (λ (s : CodelState). record s { first_above = old.first_above }) e ∙ ap (λ (s : CodelState). entered p now s) same)

-- a state behind one drop more, or behind a mark
pub one_drop_more : (interval i k r : ℕ) (old state : CodelState) → state ≡ after_drops interval old k → i ≡ interval → IsSpacing i (state.count + 1) r
    → record state { count = state.count + 1; drop_next = state.drop_next + r } ≡ after_drops interval old (k + 1)
one_drop_more interval i k r old state is same spaced =
    let more : suc k ≡ k + 1 = omega arith in
    let counts : state.count + 1 ≡ old.count + (k + 1) = omega (arith, ap (λ (s : CodelState). s.count) is) in
    let moments = one_spacing_is i (state.count + 1) r (omega arith) spaced in
    ap (λ (s : CodelState). record s { count = state.count + 1; drop_next = state.drop_next + r }) is
    ∙ (λ x. record old { count = counts x; drop_next = (is x).drop_next + moments x })
    ∙ (λ x. record old { count = old.count + (k + 1); drop_next = drop_moment interval old k + spacing_of (same x) (ap (λ (s : CodelState). s.count + 1) is x) })
    ∙ ap (λ (n : ℕ). record old { count = old.count + (k + 1); drop_next = drop_moment interval old n }) more

-- a state after one drop more, where the next packet was judged in between
pub drop_judged : (interval i k r : ℕ) (old state judged : CodelState) → state ≡ after_drops interval old k
    → judged.first_above ≡ state.first_above → record judged { first_above = state.first_above } ≡ record state { count = state.count + 1 }
    → i ≡ interval → IsSpacing i judged.count r
    → record judged { drop_next = judged.drop_next + r } ≡ after_drops interval old (k + 1)
drop_judged interval i k r old state judged is kept same equal spaced =
    let counted : judged ≡ record state { count = state.count + 1 } = (λ x. record judged { first_above = kept x }) ∙ same in
    ap (λ (s : CodelState). record s { drop_next = s.drop_next + r }) counted
    ∙ one_drop_more interval i k r old state is equal (subst (λ (n : ℕ). IsSpacing i n r) (ap (λ (s : CodelState). s.count) counted) spaced)

-- JUDGEMENTS

-- what a judgement of the packet at place k finds
pub judged_at : (p : ParamFields) (now : ℕ) {q : List Waiting} {k : ℕ} {w : Waiting} {behind : ℕ} {droppable : Bool} {held before first_above : Option ℕ}
    → IsAt w behind q k → before ≡ held
    → (IsTrue droppable ↔ (IsLateWith p now w behind × HasCome before now))
    → FirstAbove (IsLateWith p now w behind) p.interval now before first_above
    → FirstAbove (IsLate p now q k) p.interval now held first_above × (IsTrue droppable ↔ IsDroppable p now q held k)
judged_at p now is same judged fate = (rw (← is.head_is, ← is.bytes, ← same) fate, rw (← is.head_is, ← is.bytes, ← same) judged)

-- a packet that isn't droppable is sent, and the queue stops to drop
pub sends_undroppable : (p : ParamFields) (now : ℕ) {w : Waiting} {behind : ℕ} {droppable : Bool} {old judged : CodelState}
    → (IsTrue droppable ↔ (IsLateWith p now w behind × HasCome old.first_above now))
    → FirstAbove (IsLateWith p now w behind) p.interval now old.first_above judged.first_above
    → record judged { first_above = old.first_above } ≡ old → droppable ≡ false
    → SendsHead p now w behind old (record judged { dropping = false })
sends_undroppable p now {old = old} {judged = judged} is fate same cannot = record {
  first_above = fate;
  verdict = λ q at.
      let told = judged_at p now {q = q} {k = 0} at refl is fate in
      subst (λ (s : CodelState). Verdict p now q old 0 NoMark s)
      (sym (ap (λ (s : CodelState). record s { dropping = false }) same)) (nothing (iff_false told.1 cannot));
}

-- so is a droppable one while the queue drops and no drop is due yet
pub sends_early : (p : ParamFields) (now : ℕ) {w : Waiting} {behind : ℕ} (old : CodelState)
    → IsLateWith p now w behind → HasCome old.first_above now → old.dropping ≡ true → now < old.drop_next
    → SendsHead p now w behind old old
sends_early p now old late come dropping early = record {
  first_above = fate_of_droppable old.first_above late come;
  verdict = λ q at.
      let is : IsDroppable p now q old.first_above 0 = rw (← at.head_is, ← at.bytes) (late, come) in
      let none : old.count + 0 ≡ old.count = omega arith in
      subst (λ (s : CodelState). Verdict p now q old 0 NoMark s) (λ x. record old { count = none x })
      (drops is dropping (λ j below. absurd (omega arith)) (waits is early));
}

-- WHILE A QUEUE DROPS

-- k packets were dropped, and the one at place k is droppable.
pub record Dropping (p : ParamFields) (now : ℕ) (q : List Waiting) (old : CodelState) (k : ℕ) (state : CodelState) : Type 0 where
  pub droppable : IsDroppable p now q old.first_above k
  pub dropped : (j : ℕ) → j < k → IsDropped p now q old j
  pub first : IsDroppable p now q old.first_above 0
  pub dropping : old.dropping ≡ true
  pub state_is : state ≡ after_drops p.interval old k

-- none was dropped yet
pub drops_none : (p : ParamFields) (now : ℕ) (q : List Waiting) (old : CodelState) → IsDroppable p now q old.first_above 0 → old.dropping ≡ true → Dropping p now q old 0 old
drops_none p now q old is dropping =
    let none : old.count ≡ old.count + 0 = omega arith in
    record { droppable = is; dropped = λ j below. absurd (omega arith); first = is; dropping = dropping; state_is = (λ x. record old { count = none x }) }

module _ {p : ParamFields} {now : ℕ} {q : List Waiting} {old : CodelState} {k : ℕ} {state : CodelState} (way : Dropping p now q old k state) where
  -- the packet at place k is one to drop
  is_dropped : state.drop_next ≤ now → ¬ IsMarkableAt p q k → (j : ℕ) → j < k + 1 → IsDropped p now q old j
  is_dropped due cannot =
      let moment = ap (λ (s : CodelState). s.drop_next) way.state_is in
      below_more (λ j. IsDropped p now q old j) k way.dropped (record { droppable = way.droppable; due = omega (arith, moment); unmarkable = cannot })

  -- so first_above stays
  pub fate_at : FirstAbove (IsLate p now q k) p.interval now old.first_above state.first_above
  fate_at = rw (ap (λ (s : CodelState). s.first_above) way.state_is) (fate_of_droppable old.first_above way.droppable.0 way.droppable.1)

  -- it isn't due yet
  pub waits_at : now < state.drop_next → Verdict p now q old k NoMark (record state { first_above = old.first_above })
  waits_at early =
      let moment = ap (λ (s : CodelState). s.drop_next) way.state_is in
      subst (λ (s : CodelState). Verdict p now q old k NoMark s) (sym (ap (λ (s : CodelState). record s { first_above = old.first_above }) way.state_is))
      (drops way.first way.dropping way.dropped (waits way.droppable (omega (arith, moment))))

  -- it is marked
  pub marks_at : {i : ℕ} (r : ℕ) → state.drop_next ≤ now → IsMarkableAt p q k → i ≡ p.interval → IsSpacing i (state.count + 1) r
      → Verdict p now q old k CodelMark (record state { first_above = old.first_above; count = state.count + 1; drop_next = state.drop_next + r })
  marks_at {i = i} r due can same spaced =
      let moment = ap (λ (s : CodelState). s.drop_next) way.state_is in
      let next = one_drop_more p.interval i k r old state way.state_is same spaced in
      subst (λ (s : CodelState). Verdict p now q old k CodelMark s) (sym (ap (λ (s : CodelState). record s { first_above = old.first_above }) next))
      (drops way.first way.dropping way.dropped (marks way.droppable (omega (arith, moment)) can))

  -- it is dropped, and the next one isn't droppable
  pub leaves_at : (judged : CodelState) → state.drop_next ≤ now → ¬ IsMarkableAt p q k → ¬ IsDroppable p now q old.first_above (k + 1)
      → record judged { first_above = state.first_above } ≡ record state { count = state.count + 1 }
      → Verdict p now q old (k + 1) NoMark (record judged { first_above = old.first_above; dropping = false })
  leaves_at judged due cannot not same =
      let counts : old.count + k + 1 ≡ old.count + (k + 1) = omega arith in
      let place : k ≡ k + 1 - 1 = omega arith in
      subst (λ (s : CodelState). Verdict p now q old (k + 1) NoMark s)
      (sym ((λ x. record (same x) { first_above = old.first_above; dropping = false })
      ∙ (λ x. record (way.state_is x) { first_above = old.first_above; dropping = false; count = (way.state_is x).count + 1 })
      ∙ (λ x. record old { dropping = false; count = counts x; drop_next = drop_moment p.interval old (place x) })))
      (drops way.first way.dropping (is_dropped due cannot) (leaves not))

  -- it is dropped, and the next one is droppable
  pub drops_at : (judged : CodelState) {i : ℕ} (r : ℕ) → state.drop_next ≤ now → ¬ IsMarkableAt p q k → IsDroppable p now q old.first_above (k + 1)
      → judged.first_above ≡ state.first_above → record judged { first_above = state.first_above } ≡ record state { count = state.count + 1 }
      → i ≡ p.interval → IsSpacing i judged.count r
      → Dropping p now q old (k + 1) (record judged { drop_next = judged.drop_next + r })
  drops_at judged {i = i} r due cannot is kept same equal spaced = record {
    droppable = is;
    dropped = is_dropped due cannot;
    first = way.first;
    dropping = way.dropping;
    state_is = drop_judged p.interval i k r old state judged way.state_is kept same equal spaced;
  }

-- STEPS

-- what a judgement of the head finds, after k packets have left the queue
pub judged_behind : (p : ParamFields) (now : ℕ) (q rest : List Waiting) (k : ℕ) {droppable : Bool} {held before first_above : Option ℕ}
    → rest ≡ drop k q → before ≡ held
    → (IsTrue droppable ↔ IsDroppable p now rest before 0)
    → FirstAbove (IsLate p now rest 0) p.interval now before first_above
    → FirstAbove (IsLate p now q k) p.interval now held first_above × (IsTrue droppable ↔ IsDroppable p now q held k)
judged_behind p now q rest k left same judged fate =
    let at = at_head q k in
    let tail = drop-drop 1 k q in
    (rw (← at, ← tail, ← left, ← same) fate, rw (← at, ← tail, ← left, ← same) judged)

-- While the queue drops, in place: so many packets were dropped.
pub record WalksOn {A B : Type 0} (items : A → List Waiting) (pulled : A → ℕ → A → Type 0) (taken : B → List Waiting → B → Type 0) (room : B → ℕ)
    (p : ParamFields) (now : ℕ) (old : CodelState) (line : A) (sink : B) (state : CodelState) (line' : A) (sink' : B) : Type 0 where
  pub drops : ℕ
  pub stands : Stands items pulled taken line sink drops line' sink'
  pub way : Dropping p now (items line) old drops state
  pub fits : length (items line') ≤ room sink'

module _ {A B : Type 0} {items : A → List Waiting} {pulled : A → ℕ → A → Type 0} {taken : B → List Waiting → B → Type 0} {line : A} {sink : B} where
  -- nothing was dropped yet
  pub stands_first : ((a : A) → pulled a 0 a) → ((b : B) → taken b [] b) → Stands items pulled taken line sink 0 line sink
  stands_first pulled_none taken_none = record { pulls = pulled_none line; rest = refl; takes = taken_none sink }

  -- that is the packet at the head
  pub stands_at : {k : ℕ} {line' : A} {sink' : B} {head : Waiting} → Stands items pulled taken line sink k line' sink' → Some head ≡ slice_get (items line') 0 → Some head ≡ slice_get (items line) k
  stands_at {k = k} s is = is ∙ ap (λ (l : List Waiting). slice_get l 0) s.rest ∙ at_head (items line) k

  -- one drop more
  pub stands_next : {k : ℕ} {line' line'' : A} {sink' sink'' : B}
      → ((a b c : A) (n : ℕ) → pulled a n b → pulled b 1 c → pulled a (n + 1) c)
      → ((a b c : B) (ws : List Waiting) (w : Waiting) → taken a ws b → taken b (w ∷ []) c → taken a (ws ++ w ∷ []) c)
      → Stands items pulled taken line sink k line' sink' → DropsHead items pulled taken line' sink' line'' sink''
      → Stands items pulled taken line sink (k + 1) line'' sink''
  stands_next {k = k} {line' = line'} {line'' = line''} {sink' = sink'} {sink'' = sink''} pulled_more taken_more s d =
      let q = items line in
      let is = stands_at s d.head_is in
      let takes = taken_more sink sink' sink'' (take k q) d.head s.takes d.takes in
      record {
        pulls = pulled_more line line' line'' k s.pulls d.leaves.step;
        rest = d.leaves.rest ∙ ap (λ (l : List Waiting). drop 1 l) s.rest ∙ drop-drop 1 k q;
        takes = rw (next_taken q k d.head is) takes;
      }

  -- the packet at the head is judged
  pub judges_head : {p : ParamFields} {now : ℕ} {old new : CodelState} {k : ℕ} {line' : A} {sink' : B} {head : Waiting} (by_codel : Mark) {mark : Mark}
      → Stands items pulled taken line sink k line' sink' → Some head ≡ slice_get (items line') 0 → mark ≡ final_mark p now (Some head) by_codel
      → FirstAbove (IsLate p now (items line) k) p.interval now old.first_above new.first_above
      → Verdict p now (items line) old k by_codel (record new { first_above = old.first_above })
      → JudgesLine items pulled taken p now old line sink mark new line' sink'
  judges_head {p = p} {now = now} {k = k} by_codel s is told fate verdict = record {
    drops = k;
    decides = record { by_codel = by_codel; verdict = verdict; mark_is = told ∙ ap (λ (o : Option Waiting). final_mark p now o by_codel) (stands_at s is); first_above = fate };
    stands = s;
  }

  -- the head that was judged is pulled, if there is one
  pub serves_judged : {p : ParamFields} {now : ℕ} {old new : CodelState} {line' line'' : A} {sink' : B} {mark : Mark} {popped : Option Waiting} {answer : Option Served}
      → ((a b c : A) (n : ℕ) → pulled a n b → pulled b 1 c → pulled a (n + 1) c)
      → JudgesLine items pulled taken p now old line sink mark new line' sink'
      → popped ≡ slice_get (items line') 0 → items line'' ≡ drop 1 (items line') → pulled line' 1 line'' → answer ≡ option_map (served mark) popped
      → ServesLine items pulled taken p now old line sink answer new line'' sink'
  serves_judged {line' = line'} {line'' = line''} {mark = mark} pulled_more j is rest step told =
      let q = items line in
      let s = j.stands in
      record {
        drops = j.drops;
        mark = mark;
        decides = j.decides;
        given = told ∙ ap (option_map (served mark)) (is ∙ ap (λ (l : List Waiting). slice_get l 0) s.rest ∙ at_head q j.drops);
        left = record {
          pulls = pulled_more line line' line'' j.drops s.pulls step;
          rest = rest ∙ ap (λ (l : List Waiting). drop 1 l) s.rest ∙ drop-drop 1 j.drops q;
          takes = s.takes;
        };
      }
