-- There is one verdict on each queue, state and moment, and no other.
use Rattle.std.proofs.Common.{◌≡◌, ◌≢◌, ℕ, zero, suc, ◌+◌, ◌<◌, ◌≤◌, Bool, true, false, ◌⊎◌, inl, inr, List, [], ◌∷◌, length, drop, Option, Some, None, refl, sym, ap, subst, ◌∙◌, arith, below_more}
use Rattle.std.specs.Prelude.{slice_get, IsSomeAnd, IfSome, IsTrue, unwrap_or}
use Rattle.std.proofs.lemmas.List.{length-drop, nil_from_length}
use Rattle.std.proofs.lemmas.Bool.{cases_lt, cases_order, cases_Bool}
use Rattle.packet_core.specs.declared.packet.Waiting.{Waiting}
use Rattle.packet_core.specs.declared.packet.Ecn.{Ecn}
use Rattle.packet_core.specs.declared.packet.Ecn.TheVariants.{NotEct, Ect1, Ect0, Ce}
use Rattle.packet_core.specs.declared.params.EcnUse.{EcnUse}
use Rattle.packet_core.specs.declared.params.EcnUse.TheVariants as ecn
use Rattle.packet_core.specs.declared.params.ParamFields.{ParamFields}
use Rattle.codel_core.specs.declared.served.Mark.{Mark}
use Rattle.codel_core.specs.declared.served.Mark.TheVariants.{NoMark, CodelMark, Threshold}
use Rattle.codel_core.specs.declared.state.CodelState.{CodelState}
use Rattle.codel_core.specs.Queue.{bytes_of, IsLateBefore, IsLate, IsDroppable, IsMarkableAt, is_markable, is_past_threshold}
use Rattle.codel_core.specs.Schedule.{drop_moment}
use Rattle.codel_core.specs.Verdict.{FirstAbove, given_up, stays, IsDropped, Stops, leaves, waits, marks, Verdict, nothing, first_mark, first_drop, drops, Decides, final_mark}

-- WHAT CAN BE TOLD

-- either it holds or it doesn't
abbrev IsTold : Type 0 → Type 0
IsTold P = P ⊎ ¬ P

both_told : {P Q : Type 0} → IsTold P → IsTold Q → IsTold (P × Q)
both_told (inl p) (inl q) = inl (p, q)
both_told (inl p) (inr n) = inr (λ h. n h.1)
both_told (inr n) told = inr (λ h. n h.0)

not_told : {P : Type 0} → IsTold P → IsTold (¬ P)
not_told (inl p) = inr (λ n. n p)
not_told (inr n) = inl n

le_told : (a b : ℕ) → IsTold (a ≤ b)
le_told a b = elim (cases_lt b a) [ inl more ↦ inr (λ h. omega arith) | inr h ↦ inl h ]

-- what can be told of each value can be told of the one that may be there
some_told : {X : Type 0} (P : X → Type 0) → ((x : X) → IsTold (P x)) → (o : Option X) → IsTold (IsSomeAnd o P)
some_told P told None = inr (λ h. h)
some_told P told (Some x) = told x

true_told : (b : Bool) → IsTold (IsTrue b)
true_told true = inl refl
true_told false = inr (λ h. cc)

-- what becomes of first_above can be told, and is one thing
first_above_of : {late : Type 0} (interval now : ℕ) (old : Option ℕ) → IsTold late → (new : Option ℕ) × FirstAbove late interval now old new
first_above_of interval now old (inr early) = (None, given_up early)
first_above_of interval now old (inl late) = (Some (unwrap_or old (now + interval)), stays late)

one_first_above : {late : Type 0} {interval now : ℕ} {old new new' : Option ℕ} → FirstAbove late interval now old new → FirstAbove late interval now old new' → new ≡ new'
one_first_above (given_up n) (given_up n') = refl
one_first_above (given_up n) (stays l) = absurd (n l)
one_first_above (stays l) (given_up n) = absurd (n l)
one_first_above (stays l) (stays l') = refl

-- PLACES AND MARKS

-- where bytes wait, a packet waits
some_wait : (q : List Waiting) (n : ℕ) → n < bytes_of q → 0 < length q
some_wait [] n h = omega arith
some_wait (w ∷ ws) n h = omega arith

-- bytes wait behind a late packet, so a packet does
behind_late : (o : Option Waiting) (p : ParamFields) (now : ℕ) (behind : List Waiting) → IsSomeAnd o (λ w. IsLateBefore p now w behind) → 0 < length behind
behind_late None p now behind h = absurd h
behind_late (Some w) p now behind h = some_wait behind p.mtu h.1

-- what a markable packet is
markable_is : (marking : EcnUse) (field : Ecn) → IsTrue (is_markable marking field) → (marking ≡ ecn.Mark) × (field ≢ NotEct)
markable_is ecn.Drop field h = cc
markable_is ecn.Mark NotEct h = cc
markable_is ecn.Mark Ect1 h = (refl, λ e. cc)
markable_is ecn.Mark Ect0 h = (refl, λ e. cc)
markable_is ecn.Mark Ce h = (refl, λ e. cc)

markable_place : (p : ParamFields) (o : Option Waiting) → IsSomeAnd o (λ w. IsTrue (is_markable p.ecn w.packet.ecn)) → IsSomeAnd o (λ w. (p.ecn ≡ ecn.Mark) × (w.packet.ecn ≢ NotEct))
markable_place p None h = h
markable_place p (Some w) h = markable_is p.ecn w.packet.ecn h

-- a mark of CoDel's is what CoDel itself gave
codel_mark : (p : ParamFields) (now : ℕ) (o : Option Waiting) (by_codel : Mark) → final_mark p now o by_codel ≡ CodelMark → by_codel ≡ CodelMark
codel_mark p now None by_codel e = e
codel_mark p now (Some w) NoMark e =
    elim (cases_Bool (is_past_threshold p now w)) [ inl past ↦ let h = rw past at e in cc | inr not ↦ let h = rw not at e in cc ]
codel_mark p now (Some w) CodelMark e = refl
codel_mark p now (Some w) Threshold e = cc

-- what is marked for the threshold, where CoDel itself marks nothing so, is past it
past_at : (p : ParamFields) (now : ℕ) (o : Option Waiting) (by_codel : Mark) → (by_codel ≡ Threshold → ⊥) → final_mark p now o by_codel ≡ Threshold
    → IsSomeAnd o (λ w. IsTrue (is_past_threshold p now w))
past_at p now None by_codel never e = absurd (never e)
past_at p now (Some w) NoMark never e =
    elim (cases_Bool (is_past_threshold p now w)) [ inl past ↦ past | inr not ↦ let h = rw not at e in absurd cc ]
past_at p now (Some w) CodelMark never e = absurd cc
past_at p now (Some w) Threshold never e = absurd (never refl)

-- what isn't marked isn't past it
not_past : (p : ParamFields) (now : ℕ) (o : Option Waiting) (by_codel : Mark) → final_mark p now o by_codel ≡ NoMark
    → IfSome o (λ w. ¬ IsTrue (is_past_threshold p now w))
not_past p now None by_codel e = tt
not_past p now (Some w) NoMark e = λ past. let h = rw past at e in cc
not_past p now (Some w) CodelMark e = absurd cc
not_past p now (Some w) Threshold e = absurd cc

-- a place that all before have a property and that hasn't it itself is the only such place
one_cut : (P : ℕ → Type 0) (k k' : ℕ) → ((j : ℕ) → j < k → P j) → ¬ P k → ((j : ℕ) → j < k' → P j) → ¬ P k' → k ≡ k'
one_cut P k k' before at before' at' =
    elim (cases_order k k') [
      | inl same ↦ same
      | inr order ↦ elim order [ inl less ↦ absurd (at (before' k less)) | inr more ↦ absurd (at' (before k' more)) ]
    ]

module _ (p : ParamFields) (now : ℕ) (q : List Waiting) (old : CodelState) where
  -- a late packet has another one behind it
  pub one_behind : (j : ℕ) → IsLate p now q j → j + 1 < length q
  one_behind j late = omega (arith, behind_late (slice_get q j) p now (drop (j + 1) q) late, length-drop (j + 1) q)

  -- behind k drops, k is a place of the queue
  pub within : (k : ℕ) → IsDroppable p now q old.first_above 0 → ((j : ℕ) → j < k → IsDropped p now q old j) → k < length q
  within zero first before = omega (arith, one_behind 0 first.0)
  within (suc j) first before = omega (arith, one_behind j (before j (omega arith)).droppable.0)

  late_told : (j : ℕ) → IsTold (IsLate p now q j)
  late_told j =
      let behind = drop (j + 1) q in
      some_told (λ w. IsLateBefore p now w behind) (λ w. both_told (le_told (w.stamp + p.target) now) (le_told (suc p.mtu) (bytes_of behind))) (slice_get q j)

  droppable_told : (j : ℕ) → IsTold (IsDroppable p now q old.first_above j)
  droppable_told j = both_told (late_told j) (some_told (λ t. t ≤ now) (λ t. le_told t now) old.first_above)

  markable_told : (j : ℕ) → IsTold (IsMarkableAt p q j)
  markable_told j = some_told (λ w. IsTrue (is_markable p.ecn w.packet.ecn)) (λ w. true_told (is_markable p.ecn w.packet.ecn)) (slice_get q j)

  dropped_told : (j : ℕ) → IsTold (IsDropped p now q old j)
  dropped_told j =
      elim (both_told (droppable_told j) (both_told (le_told (drop_moment p.interval old j) now) (not_told (markable_told j)))) [
        | inl d ↦ inl (record { droppable = d.0; due = d.1.0; unmarkable = d.1.1 })
        | inr n ↦ inr (λ d. n (d.droppable, (d.due, d.unmarkable)))
      ]

  -- THERE IS A VERDICT

  abbrev HasVerdict : Type 0
  HasVerdict = (k : ℕ) × (mark : Mark) × (new : CodelState) × Decides p now q old k mark new

  -- a verdict, with what becomes of first_above
  decided : {k : ℕ} {mark : Mark} {new : CodelState} → Verdict p now q old k mark new → new ≡ record new { first_above = old.first_above } → HasVerdict
  decided {k} {mark} {new} verdict same =
      let fate = first_above_of p.interval now old.first_above (late_told k) in
      (k, final_mark p now (slice_get q k) mark, record new { first_above = fate.0 }, record { by_codel = mark; verdict = subst (λ (s : CodelState). Verdict p now q old k mark s) same verdict; mark_is = refl; first_above = fate.1 })

  -- the first place from k on that isn't dropped, where the queue ends within so many places
  first_kept : (left k : ℕ) → length q ≤ k + left → ((j : ℕ) → j < k → IsDropped p now q old j)
      → (m : ℕ) × ((j : ℕ) → j < m → IsDropped p now q old j) × ¬ IsDropped p now q old m
  first_kept zero k ends before = (k, before, λ d. omega (arith, one_behind k d.droppable.0))
  first_kept (suc left) k ends before =
      elim (dropped_told k) [
        | inl d ↦ first_kept left (k + 1) (omega arith) (below_more (λ j. IsDropped p now q old j) k before d)
        | inr n ↦ (k, before, n)
      ]

  -- a queue that drops stops at the first place that isn't dropped
  stopped : (k : ℕ) → IsDroppable p now q old.first_above 0 → old.dropping ≡ true → ((j : ℕ) → j < k → IsDropped p now q old j) → ¬ IsDropped p now q old k → HasVerdict
  stopped k first dropping before at =
      elim (droppable_told k) [
        | inr n ↦ decided (drops first dropping before (leaves n)) refl
        | inl d ↦
            elim (cases_lt now (drop_moment p.interval old k)) [
              | inl early ↦ decided (drops first dropping before (waits d early)) refl
              | inr due ↦
                  elim (markable_told k) [
                    | inl can ↦ decided (drops first dropping before (marks d due can)) refl
                    | inr cannot ↦ absurd (at (record { droppable = d; due = due; unmarkable = cannot }))
                  ]
            ]
      ]

  pub verdict_exists : HasVerdict
  verdict_exists =
      elim (droppable_told 0) [
        | inr n ↦ decided (nothing n) refl
        | inl d ↦
            elim (cases_Bool old.dropping) [
              | inl dropping ↦ let m = first_kept (length q) 0 (omega arith) (λ j h. absurd (omega arith)) in stopped m.0 d dropping m.1 m.2
              | inr idle ↦ elim (markable_told 0) [ inl can ↦ decided (first_mark d idle can) refl | inr cannot ↦ decided (first_drop d idle cannot) refl ]
            ]
      ]

  -- AND NO OTHER

  -- a queue stops at a place that isn't dropped
  stop_kept : {k : ℕ} {mark : Mark} {new : CodelState} → Stops p now q old k mark new → ¬ IsDropped p now q old k
  stop_kept (leaves n) d = n d.droppable
  stop_kept (waits droppable early) d = omega (arith, d.due)
  stop_kept (marks droppable due can) d = d.unmarkable can

  -- and in one way only
  one_stop : {k : ℕ} {mark mark' : Mark} {new new' : CodelState} → Stops p now q old k mark new → Stops p now q old k mark' new' → (mark ≡ mark') × (new ≡ new')
  one_stop (leaves n) (leaves n') = (refl, refl)
  one_stop (leaves n) (waits d early) = absurd (n d)
  one_stop (leaves n) (marks d due can) = absurd (n d)
  one_stop (waits d early) (leaves n) = absurd (n d)
  one_stop (waits d early) (waits d' early') = (refl, refl)
  one_stop (waits d early) (marks d' due can) = absurd (omega arith)
  one_stop (marks d due can) (leaves n) = absurd (n d)
  one_stop (marks d due can) (waits d' early) = absurd (omega arith)
  one_stop (marks d due can) (marks d' due' can') = (refl, refl)

  -- the four ways of a verdict keep out one another
  one_way : {k k' : ℕ} {mark mark' : Mark} {new new' : CodelState} → Verdict p now q old k mark new → Verdict p now q old k' mark' new' → (k ≡ k') × (mark ≡ mark') × (new ≡ new')
  one_way (nothing n) (nothing n') = (refl, refl, refl)
  one_way (nothing n) (first_mark d idle can) = absurd (n d)
  one_way (nothing n) (first_drop d idle cannot) = absurd (n d)
  one_way (nothing n) (drops d dropping before s) = absurd (n d)
  one_way (first_mark d idle can) (nothing n) = absurd (n d)
  one_way (first_mark d idle can) (first_mark d' idle' can') = (refl, refl, refl)
  one_way (first_mark d idle can) (first_drop d' idle' cannot) = absurd (cannot can)
  one_way (first_mark d idle can) (drops d' dropping before s) = cc
  one_way (first_drop d idle cannot) (nothing n) = absurd (n d)
  one_way (first_drop d idle cannot) (first_mark d' idle' can) = absurd (cannot can)
  one_way (first_drop d idle cannot) (first_drop d' idle' cannot') = (refl, refl, refl)
  one_way (first_drop d idle cannot) (drops d' dropping before s) = cc
  one_way (drops d dropping before s) (nothing n) = absurd (n d)
  one_way (drops d dropping before s) (first_mark d' idle can) = cc
  one_way (drops d dropping before s) (first_drop d' idle cannot) = cc
  one_way (drops {k} d dropping before s) (drops {k = k'} {mark = mark'} {new = new'} d' dropping' before' s') =
      let same = one_cut (λ j. IsDropped p now q old j) k k' before (stop_kept s) before' (stop_kept s') in
      let stop = one_stop s (subst (λ (n : ℕ). Stops p now q old n mark' new') (sym same) s') in
      (same, stop.0, stop.1)

  pub verdict_unique : (k k' : ℕ) (mark mark' : Mark) (new new' : CodelState)
      → Decides p now q old k mark new → Decides p now q old k' mark' new' → (k ≡ k') × (mark ≡ mark') × (new ≡ new')
  verdict_unique k k' mark mark' new new' v v' =
      let one = one_way v.verdict v'.verdict in
      let fate = one_first_above v.first_above (subst (λ (n : ℕ). FirstAbove (IsLate p now q n) p.interval now old.first_above new'.first_above) (sym one.0) v'.first_above) in (
        one.0,
        v.mark_is ∙ (λ x. final_mark p now (slice_get q (one.0 x)) (one.1 x)) ∙ sym v'.mark_is,
        λ x. record (one.2 x) { first_above = fate x },
      )

  -- WHAT HOLDS OF EACH

  -- a queue that isn't empty gives a packet
  pub verdict_gives : {k : ℕ} {mark : Mark} {new : CodelState} → Verdict p now q old k mark new → ((q ≡ []) × (k ≡ 0)) ⊎ (k < length q)
  verdict_gives (nothing n) = elim (cases_lt 0 (length q)) [ inl some ↦ inr some | inr none ↦ inl (nil_from_length q (omega arith), refl) ]
  verdict_gives (first_mark d idle can) = inr (omega (arith, one_behind 0 d.0))
  verdict_gives (first_drop d idle cannot) = inr (omega (arith, one_behind 0 d.0))
  verdict_gives (drops {k} d dropping before stop) = inr (within k d before)

  -- a packet with a mark may be marked
  pub marked_at : {k : ℕ} {new : CodelState} → Verdict p now q old k CodelMark new → IsMarkableAt p q k
  marked_at (first_mark d idle can) = can
  marked_at (drops d dropping before (marks d' due can)) = can

  -- its sender takes part, and marks are made
  pub verdict_honest : (k : ℕ) (mark : Mark) (new : CodelState)
      → Decides p now q old k mark new → mark ≡ CodelMark → IsSomeAnd (slice_get q k) (λ w. (p.ecn ≡ ecn.Mark) × (w.packet.ecn ≢ NotEct))
  verdict_honest k mark new v marked =
      let by_codel = codel_mark p now (slice_get q k) v.by_codel (sym v.mark_is ∙ marked) in
      markable_place p (slice_get q k) (marked_at (subst (λ (m : Mark). Verdict p now q old k m (record new { first_above = old.first_above })) by_codel v.verdict))

  -- CoDel itself marks for no threshold
  stop_mark : {k : ℕ} {mark : Mark} {new : CodelState} → Stops p now q old k mark new → mark ≡ Threshold → ⊥
  stop_mark (leaves n) e = cc
  stop_mark (waits d early) e = cc
  stop_mark (marks d due can) e = cc

  codels_mark : {k : ℕ} {mark : Mark} {new : CodelState} → Verdict p now q old k mark new → mark ≡ Threshold → ⊥
  codels_mark (nothing n) e = cc
  codels_mark (first_mark d idle can) e = cc
  codels_mark (first_drop d idle cannot) e = cc
  codels_mark (drops d dropping before stop) e = stop_mark stop e

  -- what the threshold marks is past it
  pub verdict_threshold : (k : ℕ) (mark : Mark) (new : CodelState)
      → Decides p now q old k mark new → mark ≡ Threshold → IsSomeAnd (slice_get q k) (λ w. IsTrue (is_past_threshold p now w))
  verdict_threshold k mark new v marked = past_at p now (slice_get q k) v.by_codel (codels_mark v.verdict) (sym v.mark_is ∙ marked)

  -- what is past it has a mark
  pub verdict_unmarked : (k : ℕ) (mark : Mark) (new : CodelState)
      → Decides p now q old k mark new → mark ≡ NoMark → IfSome (slice_get q k) (λ w. ¬ IsTrue (is_past_threshold p now w))
  verdict_unmarked k mark new v none = not_past p now (slice_get q k) v.by_codel (sym v.mark_is ∙ none)

-- THE THRESHOLD CHANGES THE MARK ALONE

module _ (p : ParamFields) (now : ℕ) (q : List Waiting) (old : CodelState) where
  abbrev unset : ParamFields
  unset = record p { ce_threshold = None }

  same_stop : {k : ℕ} {mark : Mark} {new : CodelState} → Stops unset now q old k mark new → Stops p now q old k mark new
  same_stop (leaves n) = leaves n
  same_stop (waits d early) = waits d early
  same_stop (marks d due can) = marks d due can

  same_verdict : {k : ℕ} {mark : Mark} {new : CodelState} → Verdict unset now q old k mark new → Verdict p now q old k mark new
  same_verdict (nothing n) = nothing n
  same_verdict (first_mark d idle can) = first_mark d idle can
  same_verdict (first_drop d idle cannot) = first_drop d idle cannot
  same_verdict (drops d dropping before stop) =
      drops d dropping (λ j below. let b = before j below in record { droppable = b.droppable; due = b.due; unmarkable = b.unmarkable }) (same_stop stop)

  unset_mark : (o : Option Waiting) (mark : Mark) → final_mark unset now o mark ≡ mark
  unset_mark None mark = refl
  unset_mark (Some w) NoMark = refl
  unset_mark (Some w) CodelMark = refl
  unset_mark (Some w) Threshold = refl

  pub verdict_apart : (k : ℕ) (mark : Mark) (new : CodelState)
      → Decides unset now q old k mark new → Decides p now q old k (final_mark p now (slice_get q k) mark) new
  verdict_apart k mark new v = record {
    by_codel = v.by_codel;
    verdict = same_verdict v.verdict;
    mark_is = ap (final_mark p now (slice_get q k)) (v.mark_is ∙ unset_mark (slice_get q k) v.by_codel);
    first_above = v.first_above;
  }
