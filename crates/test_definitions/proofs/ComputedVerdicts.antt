-- CoDel's verdict, computed for the worked examples together with the proof that it is the verdict of the definitions.
use Rattle.std.proofs.Common.{◌≡◌, ℕ, zero, suc, ◌+◌, ◌-◌, ◌<◌, ◌≤◌, ◌⊎◌, Bool, true, false, List, drop, Option, Some, None, slice_get, IsSomeAnd, IsTrue, nat_le, nat_lt, refl, inl, inr, arith}
use Rattle.std.proofs.lemmas.Bool.{both_ways, leb-true, ltb-true, le-leb, lt-ltb}
use borrow.Author.Count.{below_none, below_more}
use Rattle.packet_core.specs.declared.packet.Waiting.{Waiting}
use Rattle.packet_core.specs.declared.params.ParamFields.{ParamFields}
use Rattle.codel_core.specs.Queue.{bytes_of, is_markable, IsDroppable, IsLate, IsMarkableAt}
use Rattle.codel_core.specs.Schedule.{after_drops, drop_moment, entered, stopped_after}
use Rattle.codel_core.specs.Verdict.{final_mark, Decides, FirstAbove, IsDropped, Verdict}
use Rattle.codel_core.specs.Verdict.FirstAbove.{given_up, stays}
use Rattle.codel_core.specs.Verdict.Stops.{leaves, waits, marks}
use Rattle.codel_core.specs.Verdict.Verdict.{nothing, first_mark, first_drop, drops}
use Rattle.codel_core.specs.declared.served.Mark.{Mark}
use Rattle.codel_core.specs.declared.served.Mark.TheVariants.{NoMark, CodelMark}
use Rattle.codel_core.specs.declared.state.CodelState.{CodelState}

-- TESTS, WITH WHAT THEY TELL

-- it holds, or it doesn't
abbrev Tells : Type 0 → Type 0
Tells P = P ⊎ (¬ P)

abbrev told : (P : Type 0) (b : Bool) → (b ≡ true → P) → (P → b ≡ true) → Tells P
told P true so back = inl (so refl)
told P false so back = inr (λ h. both_ways false refl (back h))

abbrev at_most : (a b : ℕ) → Tells (a ≤ b)
at_most a b = told (a ≤ b) (nat_le a b) (leb-true a b) (le-leb a b)

abbrev below : (a b : ℕ) → Tells (a < b)
below a b = told (a < b) (nat_lt a b) (ltb-true a b) (lt-ltb a b)

abbrev both : (P Q : Type 0) → Tells P → Tells Q → Tells (P × Q)
both P Q (inl one) (inl other) = inl (one, other)
both P Q (inl one) (inr never) = inr (λ h. never h.1)
both P Q (inr never) other = inr (λ h. never h.0)

abbrev of_some : (A : Type 0) (P : A → Type 0) → ((a : A) → Tells (P a)) → (o : Option A) → Tells (IsSomeAnd o P)
of_some A P test None = inr (λ h. h)
of_some A P test (Some a) = test a

-- THE VERDICT

-- a verdict
pub record Judged (p : ParamFields) (now : ℕ) (q : List Waiting) (s : CodelState) : Type 0 where
  pub drops : ℕ
  pub mark : Mark
  pub codel : CodelState
  pub decides : Decides p now q s drops mark codel

-- a place, all places before which are dropped
record Front (p : ParamFields) (now : ℕ) (q : List Waiting) (s : CodelState) : Type 0 where
  place : ℕ
  before : (j : ℕ) → j < place → IsDropped p now q s j

-- what becomes of first_above
record Above (late : Type 0) (interval now : ℕ) (old : Option ℕ) : Type 0 where
  above : Option ℕ
  right : FirstAbove late interval now old above

module _ (p : ParamFields) (now : ℕ) (q : List Waiting) (s : CodelState) where
  abbrev late : (j : ℕ) → Tells (IsLate p now q j)
  late j =
      of_some Waiting _ (λ w. both (w.stamp + p.target ≤ now) (p.mtu < bytes_of (drop (j + 1) q)) (at_most (w.stamp + p.target) now) (below p.mtu (bytes_of (drop (j + 1) q))))
      (slice_get q j)

  abbrev droppable : (j : ℕ) → Tells (IsDroppable p now q s.first_above j)
  droppable j = both _ _ (late j) (of_some ℕ _ (λ t. at_most t now) s.first_above)

  abbrev markable : (j : ℕ) → Tells (IsMarkableAt p q j)
  markable j =
      of_some Waiting _ (λ w. told (IsTrue (is_markable p.ecn w.packet.ecn)) (is_markable p.ecn w.packet.ecn) (λ e. e) (λ e. e)) (slice_get q j)

  abbrev due : (j : ℕ) → Tells (drop_moment p.interval s j ≤ now)
  due j = at_most (drop_moment p.interval s j) now

  abbrev first_above : (P : Type 0) → Tells P → (old : Option ℕ) → Above P p.interval now old
  first_above P (inr never) old = record { above = None; right = given_up never }
  first_above P (inl is) (Some t) = record { above = Some t; right = stays is }
  first_above P (inl is) None = record { above = Some (now + p.interval); right = stays is }

  -- so many drops, that mark by CoDel, and that state but for first_above
  abbrev judge : (k : ℕ) (mark : Mark) (codel : CodelState)
      → Verdict p now q s k mark (record codel { first_above = s.first_above }) → Judged p now q s
  judge k mark codel verdict =
      let a = first_above (IsLate p now q k) (late k) s.first_above in
      record {
        drops = k;
        mark = final_mark p now (slice_get q k) mark;
        codel = record codel { first_above = a.above };
        decides = record { by_codel = mark; verdict = verdict; mark_is = refl; first_above = a.right };
      }

  -- the first place from that one on that isn't dropped, as far as the fuel goes
  abbrev go_on : (Front p now q s → Front p now q s) → (f : Front p now q s)
      → Tells (IsDroppable p now q s.first_above f.place) → Tells (drop_moment p.interval s f.place ≤ now)
      → Tells (IsMarkableAt p q f.place) → Front p now q s
  go_on further f (inl stands) (inl come) (inr never) = further (record {
    place = f.place + 1;
    before = below_more (IsDropped p now q s) f.place f.before (record { droppable = stands; due = come; unmarkable = never });
  })
  go_on further f (inl stands) (inl come) (inl marked) = f
  go_on further f (inl stands) (inr early) marked = f
  go_on further f (inr never) come marked = f

  abbrev first_stop : ℕ → Front p now q s → Front p now q s
  first_stop zero f = f
  first_stop (suc fuel) f = go_on (λ f'. first_stop fuel f') f (droppable f.place) (due f.place) (markable f.place)

  abbrev stopped : s.dropping ≡ true → IsDroppable p now q s.first_above 0 → (f : Front p now q s)
      → Tells (IsDroppable p now q s.first_above f.place) → Tells (drop_moment p.interval s f.place ≤ now)
      → Tells (IsMarkableAt p q f.place) → Option (Judged p now q s)
  stopped is first f (inr never) come marked =
      Some (judge f.place NoMark (stopped_after p.interval s f.place) (drops first is f.before (leaves never)))
  stopped is first f (inl stands) (inr early) marked =
      Some (judge f.place NoMark (after_drops p.interval s f.place) (drops first is f.before (waits stands (omega arith))))
  stopped is first f (inl stands) (inl come) (inl marked) =
      Some (judge f.place CodelMark (after_drops p.interval s (f.place + 1)) (drops first is f.before (marks stands come marked)))
  stopped is first f (inl stands) (inl come) (inr never) = None

  -- the verdict on a head that isn't droppable, as that of an empty queue
  abbrev pub undropped : ¬ IsDroppable p now q s.first_above 0 → Judged p now q s
  undropped never = judge 0 NoMark (record s { dropping = false }) (nothing never)

  abbrev judged_by : Tells (IsDroppable p now q s.first_above 0) → (b : Bool) → s.dropping ≡ b → Tells (IsMarkableAt p q 0)
      → Option (Judged p now q s)
  judged_by (inr never) b is marked = Some (undropped never)
  judged_by (inl first) false is (inl marked) =
      Some (judge 0 CodelMark (entered p now s) (first_mark first is marked))
  judged_by (inl first) false is (inr never) =
      Some (judge 1 NoMark (entered p now s) (first_drop first is never))
  judged_by (inl first) true is marked =
      let f = first_stop 10 (record { place = 0; before = below_none (IsDropped p now q s) }) in
      stopped is first f (droppable f.place) (due f.place) (markable f.place)

  -- the verdict, if no more than ten packets are dropped
  abbrev pub judged : Option (Judged p now q s)
  judged = judged_by (droppable 0) s.dropping refl (markable 0)
