-- The steps that calls are still to make: what a walk through them has to find.
use Rattle.std.proofs.Common.{◌≡◌, ◌≢◌, ◌∙◌, ◌==◌, ℕ, zero, suc, ◌+◌, ◌<◌, Bool, true, false, List, [], ◌∷◌, ◌++◌, Vec, Global, ap, arith, cond, drop, get_or, inl, inr, length, max, refl, replicate, set, slice_index_or, subst, sym, take}
use Rattle.std.proofs.lemmas.Bool.{cases_lt, eq-eqb, eqb-true, true≢false}
use Rattle.std.proofs.lemmas.Grind.{get_or-set_at}
use Rattle.std.proofs.lemmas.List.{drop_more, get_or-set_other, take_more}
use mathlib.Core.List.{IsPrefix}
use native.Mathlib.Numerals.{unary_clauses}
use Rattle.packet_core.specs.Packets.{PacketParts}
use Rattle.journal_core.specs.declared.step.Step.{Step}
use Rattle.journal_core.specs.declared.step.Step.TheVariants.{Enqueue, Dequeue, Close}
use Rattle.sender_core.specs.Interleavings.{CallsNext, IsInterleaving, IsMadeBy, MayCome, main_call, main_calls, main_rows, made_by, moment_after, sender_call, sender_calls}

-- Calls make a step and then others: the first of them makes that step.
record Splits (last : ℕ) (calls : List Step) (step : Step) (rest : List Step) : Type 0 where
  call : Step
  more : List Step
  whole : calls ≡ call ∷ more
  makes : step ∷ [] ≡ made_by last (call ∷ [])
  others : rest ≡ made_by (moment_after last (step ∷ [])) more

head_of : {X : Type 0} (x y : X) (xs ys : List X) → x ∷ xs ≡ y ∷ ys → x ≡ y
head_of x y xs ys same = cc

tail_of : {X : Type 0} (x y : X) (xs ys : List X) → x ∷ xs ≡ y ∷ ys → xs ≡ ys
tail_of x y xs ys same = cc

no_cons : {X : Type 0} (x : X) (xs : List X) → x ∷ xs ≡ [] → ⊥
no_cons x xs same = cc

splits : (last : ℕ) (calls : List Step) (step : Step) (rest : List Step) → step ∷ rest ≡ made_by last calls → Splits last calls step rest
splits last [] step rest made = absurd (no_cons step rest made)
splits last (Enqueue moment lane packet ∷ more) step rest made =
    let is = head_of step (Enqueue (max moment last) lane packet) rest (made_by (max moment last) more) made in
    record {
      call = Enqueue moment lane packet;
      more = more;
      whole = refl;
      makes = ap (λ s. s ∷ []) is;
      others = tail_of step (Enqueue (max moment last) lane packet) rest (made_by (max moment last) more) made ∙ ap (λ s. made_by (moment_after last (s ∷ [])) more) (sym is);
    }
splits last (Dequeue moment ∷ more) step rest made =
    let is = head_of step (Dequeue (max moment last)) rest (made_by (max moment last) more) made in
    record {
      call = Dequeue moment;
      more = more;
      whole = refl;
      makes = ap (λ s. s ∷ []) is;
      others = tail_of step (Dequeue (max moment last)) rest (made_by (max moment last) more) made ∙ ap (λ s. made_by (moment_after last (s ∷ [])) more) (sym is);
    }
splits last (Close moment ∷ more) step rest made =
    let is = head_of step (Close (max moment last)) rest (made_by (max moment last) more) made in
    record {
      call = Close moment;
      more = more;
      whole = refl;
      makes = ap (λ s. s ∷ []) is;
      others = tail_of step (Close (max moment last)) rest (made_by (max moment last) more) made ∙ ap (λ s. made_by (moment_after last (s ∷ [])) more) (sym is);
    }

-- what makes a step of the main thread is a call of the main thread
main_made : (last : ℕ) (call step : Step) → step ∷ [] ≡ made_by last (call ∷ []) → main_call step ≡ step ∷ [] → (main_call call ≡ call ∷ []) × ((i : ℕ) → sender_call i call ≡ [])
main_made last (Enqueue moment lane packet) step makes main =
    let enqueue : Step = Enqueue (max moment last) lane packet in
    let is = head_of step enqueue [] [] makes in
    absurd (no_cons enqueue [] (sym (subst (λ s. main_call s ≡ s ∷ []) is main)))
main_made last (Dequeue moment) step makes main = (refl, λ i. refl)
main_made last (Close moment) step makes main = (refl, λ i. refl)

dequeues_next : (n : ℕ) (first : Step) (others : List Step) → first ∷ others ≡ replicate n (Dequeue 0) → (first ≡ Dequeue 0) × ((m : ℕ) × (others ≡ replicate m (Dequeue 0)))
dequeues_next zero first others same = absurd (no_cons first others same)
dequeues_next (suc n) first others same = (head_of first (Dequeue 0) others (replicate n (Dequeue 0)) same, (n, tail_of first (Dequeue 0) others (replicate n (Dequeue 0)) same))

-- the first of the main thread's calls is its next one
next_is : (left : List Step) (call : Step) (left' : List Step) (first : Step) (others : List Step) (n : ℕ) → CallsNext left call left' → first ∷ others ≡ left ++ replicate n (Dequeue 0)
    → (first ≡ call) × ((m : ℕ) × (others ≡ left' ++ replicate m (Dequeue 0)))
next_is left call left' first others n next same =
    elim next [
      | inl is ↦
          let whole : first ∷ others ≡ call ∷ (left' ++ replicate n (Dequeue 0)) = same ∙ ap (λ l. l ++ replicate n (Dequeue 0)) is in
          (head_of first call others (left' ++ replicate n (Dequeue 0)) whole, (n, tail_of first call others (left' ++ replicate n (Dequeue 0)) whole))
      | inr is ↦
          let dequeues = dequeues_next n first others (same ∙ ap (λ l. l ++ replicate n (Dequeue 0)) is.0) in
          (dequeues.0 ∙ sym is.1, (dequeues.1.0, dequeues.1.1 ∙ ap (λ l. l ++ replicate dequeues.1.0 (Dequeue 0)) (sym is.2)))
    ]

-- a step of the main thread, which its next call makes
pub meets_main : (lists : List (Vec (ℕ × PacketParts) Global)) (rows : List Step) (step : Step) (rest : List Step) (last : ℕ) (met : List ℕ) (row : ℕ) (closed : Bool)
    (call : Step) (row' : ℕ) (closed' : Bool)
    → main_call step ≡ step ∷ [] → CallsNext (main_rows closed (drop row rows)) call (main_rows closed' (drop row' rows)) → MayCome lists rows (step ∷ rest) last met row closed
    → IsMadeBy last call step (moment_after last (step ∷ [])) × MayCome lists rows rest (moment_after last (step ∷ [])) met row' closed'
meets_main lists rows step rest last met row closed call row' closed' main next so =
    let s = splits last so.calls step rest so.in_turn in
    let own = main_made last s.call step s.makes main in
    let calls : s.call ∷ main_calls s.more ≡ main_rows closed (drop row rows) ++ replicate so.dequeues (Dequeue 0) =
    ap (λ l. l ++ main_calls s.more) (sym own.0) ∙ ap main_calls (sym s.whole) ∙ so.main in
    let is = next_is (main_rows closed (drop row rows)) call (main_rows closed' (drop row' rows)) s.call (main_calls s.more) so.dequeues next calls in
    let others : (i : ℕ) → sender_calls i so.calls ≡ sender_calls i s.more = λ i. ap (sender_calls i) s.whole ∙ ap (λ l. l ++ sender_calls i s.more) (own.1 i) in (
      record {
        makes = s.makes ∙ ap (λ c. made_by last (c ∷ [])) is.0;
        moment_is = refl;
        no_sender = λ i. subst (λ c. sender_call i c ≡ []) is.0 (own.1 i);
        main = subst (λ c. main_call c ≡ c ∷ []) is.0 own.0;
      },
      record {
        calls = s.more;
        in_turn = s.others;
        each = λ i d less. subst (λ l. IsPrefix l (drop (get_or met i 0) (slice_index_or lists i d).items)) (others i) (so.each i d less);
        no_other = λ i past. sym (others i) ∙ so.no_other i past;
        dequeues = is.1.0;
        main = is.1.1;
      },
    )

-- what makes an enqueue is a call for its packet
call_made : (last : ℕ) (call : Step) (moment lane : ℕ) (packet : PacketParts) → Enqueue moment lane packet ∷ [] ≡ made_by last (call ∷ [])
    → (own : ℕ) × ((call ≡ Enqueue own lane packet) × (moment ≡ max own last))
call_made last (Enqueue own from other) moment lane packet makes =
    let is = head_of (Enqueue moment lane packet) (Enqueue (max own last) from other) [] [] makes in
    let lane_is : lane ≡ from = cc in
    let packet_is : packet ≡ other = cc in
    let moment_is : moment ≡ max own last = cc in
    (own, (ap (λ l. Enqueue own l other) (sym lane_is) ∙ ap (λ p. Enqueue own lane p) (sym packet_is), moment_is))
call_made last (Dequeue own) moment lane packet makes = absurd (other_step (head_of (Enqueue moment lane packet) (Dequeue (max own last)) [] [] makes))
  where
    other_step : Enqueue moment lane packet ≡ Dequeue (max own last) → ⊥
    other_step same = cc
call_made last (Close own) moment lane packet makes = absurd (other_step (head_of (Enqueue moment lane packet) (Close (max own last)) [] [] makes))
  where
    other_step : Enqueue moment lane packet ≡ Close (max own last) → ⊥
    other_step same = cc

-- what a list has left from one place on
from_place : {X : Type 0} (xs : List X) (k : ℕ) (x : X) (rest : List X) → x ∷ rest ≡ drop k xs → (k < length xs) × (((d : X) → get_or xs k d ≡ x) × (rest ≡ drop (k + 1) xs))
from_place [] zero x rest same = absurd (no_cons x rest same)
from_place [] (suc k) x rest same = absurd (no_cons x rest same)
from_place (y ∷ xs) zero x rest same = (omega arith, (λ d. sym (head_of x y rest xs same), tail_of x y rest xs same))
from_place (y ∷ xs) (suc k) x rest same = let p = from_place xs k x rest same in (omega (arith, p.0), (p.1.0, simp unary_clauses (simp unary_clauses at p.1.1)))

-- A sender's step, which its next call makes: that call stands next in its list.
pub record Meets (lists : List (Vec (ℕ × PacketParts) Global)) (rows : List Step) (moment lane : ℕ) (packet : PacketParts) (rest : List Step)
    (last : ℕ) (met : List ℕ) (row : ℕ) (closed : Bool) : Type 0 where
  pub own : ℕ
  pub there : lane < length lists
  pub moment_is : moment ≡ max own last
  pub within : (d : Vec (ℕ × PacketParts) Global) → get_or met lane 0 < length (slice_index_or lists lane d).items
  pub stands : (d : Vec (ℕ × PacketParts) Global) (e : ℕ × PacketParts) → get_or (slice_index_or lists lane d).items (get_or met lane 0) e ≡ (own, packet)
  pub goes_on : lane < length met → MayCome lists rows rest moment (set met lane (get_or met lane 0 + 1)) row closed

pub meets_call : (lists : List (Vec (ℕ × PacketParts) Global)) (rows : List Step) (moment lane : ℕ) (packet : PacketParts) (rest : List Step)
    (last : ℕ) (met : List ℕ) (row : ℕ) (closed : Bool)
    → MayCome lists rows (Enqueue moment lane packet ∷ rest) last met row closed → Meets lists rows moment lane packet rest last met row closed
meets_call lists rows moment lane packet rest last met row closed so = record {
  own = own;
  there = below;
  moment_is = made.1.1;
  within = λ d. (place d).0;
  stands = λ d e. (place d).1.0 e;
  goes_on = λ short. record {
    calls = s.more;
    in_turn = s.others;
    each = λ i d less. next short i d less (lane == i) refl;
    no_other = λ i past. sym (other i (other_lane i (omega (arith, past, below)))) ∙ so.no_other i past;
    dequeues = so.dequeues;
    main = sym (ap main_calls s.whole ∙ ap (λ c. main_call c ++ main_calls s.more) made.1.0) ∙ so.main;
  };
}
  where
    s : Splits last so.calls (Enqueue moment lane packet) rest
    s = splits last so.calls (Enqueue moment lane packet) rest so.in_turn

    made : (own : ℕ) × ((s.call ≡ Enqueue own lane packet) × (moment ≡ max own last))
    made = call_made last s.call moment lane packet s.makes

    own : ℕ
    own = made.0

    calls : (i : ℕ) → sender_calls i so.calls ≡ cond (lane == i) ((own, packet) ∷ []) [] ++ sender_calls i s.more
    calls i = ap (sender_calls i) s.whole ∙ ap (λ c. sender_call i c ++ sender_calls i s.more) made.1.0

    same_lane : (lane == lane) ≡ true
    same_lane = eq-eqb lane lane refl

    here : sender_calls lane so.calls ≡ (own, packet) ∷ sender_calls lane s.more
    here = calls lane ∙ ap (λ b. cond b ((own, packet) ∷ []) [] ++ sender_calls lane s.more) same_lane

    other : (i : ℕ) → (lane == i) ≡ false → sender_calls i so.calls ≡ sender_calls i s.more
    other i apart = calls i ∙ ap (λ b. cond b ((own, packet) ∷ []) [] ++ sender_calls i s.more) apart

    other_lane : (i : ℕ) → lane ≢ i → (lane == i) ≡ false
    other_lane i apart = go (lane == i) refl
      where
        go : (b : Bool) → (lane == i) ≡ b → (lane == i) ≡ false
        go true same = absurd (apart (eqb-true lane i same))
        go false other = other

    below : lane < length lists
    below = elim (cases_lt lane (length lists)) [
      | inl less ↦ less
      | inr past ↦ absurd (no_cons (own, packet) (sender_calls lane s.more) (sym here ∙ so.no_other lane past))
    ]

    place : (d : Vec (ℕ × PacketParts) Global)
        → (get_or met lane 0 < length (slice_index_or lists lane d).items)
        × (((e : ℕ × PacketParts) → get_or (slice_index_or lists lane d).items (get_or met lane 0) e ≡ (own, packet))
        × (sender_calls lane s.more ++ (so.each lane d below).0 ≡ drop (get_or met lane 0 + 1) (slice_index_or lists lane d).items))
    place d =
        from_place (slice_index_or lists lane d).items (get_or met lane 0) (own, packet) (sender_calls lane s.more ++ (so.each lane d below).0)
        (ap (λ l. l ++ (so.each lane d below).0) (sym here) ∙ (so.each lane d below).1)

    next : lane < length met → (i : ℕ) (d : Vec (ℕ × PacketParts) Global) → i < length lists → (b : Bool) → (lane == i) ≡ b
        → IsPrefix (sender_calls i s.more) (drop (get_or (set met lane (get_or met lane 0 + 1)) i 0) (slice_index_or lists i d).items)
    next short i d less true same =
        let at : lane ≡ i = eqb-true lane i same in
        subst (λ n. IsPrefix (sender_calls i s.more) (drop n (slice_index_or lists i d).items)) (sym (get_or-set_at met lane i (get_or met lane 0 + 1) 0 (sym at) short))
        (subst (λ j. IsPrefix (sender_calls j s.more) (drop (get_or met lane 0 + 1) (slice_index_or lists j d).items)) at ((so.each lane d below).0, (place d).1.1))
    next short i d less false apart =
        let unlike : i ≢ lane = λ same. true≢false (sym (eq-eqb lane i (sym same)) ∙ apart) in
        subst (λ n. IsPrefix (sender_calls i s.more) (drop n (slice_index_or lists i d).items)) (sym (get_or-set_other met lane i (get_or met lane 0 + 1) 0 unlike))
        (subst (λ l. IsPrefix l (drop (get_or met i 0) (slice_index_or lists i d).items)) (other i apart) (so.each i d less))

-- before the first step
pub may_start : (lists : List (Vec (ℕ × PacketParts) Global)) (rows made : List Step) (n : ℕ) (calls_of : ℕ → List (ℕ × PacketParts))
    → ((i : ℕ) (d : Vec (ℕ × PacketParts) Global) → i < length lists → (slice_index_or lists i d).items ≡ calls_of i) → IsInterleaving (length lists) calls_of rows made
    → MayCome lists rows made 0 (replicate n 0) 0 false
may_start lists rows made n calls_of are so = record {
  calls = so.calls;
  in_turn = so.in_turn;
  each = λ i d less.
      subst (λ k. IsPrefix (sender_calls i so.calls) (drop k (slice_index_or lists i d).items)) (sym (zeros n i))
      (subst (λ l. IsPrefix (sender_calls i so.calls) l) (sym (are i d less)) (so.each i less));
  no_other = so.no_other;
  dequeues = so.dequeues;
  main = so.main;
}
  where
    zeros : (n i : ℕ) → get_or {A = ℕ} (replicate n 0) i 0 ≡ 0
    zeros zero i = refl
    zeros (suc n) zero = refl
    zeros (suc n) (suc i) = zeros n i

-- behind the last step
pub none_left : (lists : List (Vec (ℕ × PacketParts) Global)) (rows : List Step) (last : ℕ) (met : List ℕ) (row : ℕ) (closed : Bool)
    → MayCome lists rows [] last met row closed → main_rows closed (drop row rows) ≡ []
none_left lists rows last met row closed so = front (main_rows closed (drop row rows)) so.dequeues (sym (ap main_calls (none so.calls so.in_turn)) ∙ so.main)
  where
    none : (calls : List Step) → [] ≡ made_by last calls → calls ≡ []
    none [] made = refl
    none (Enqueue moment lane packet ∷ calls) made = absurd (no_cons (Enqueue (max moment last) lane packet) (made_by (max moment last) calls) (sym made))
    none (Dequeue moment ∷ calls) made = absurd (no_cons (Dequeue (max moment last)) (made_by (max moment last) calls) (sym made))
    none (Close moment ∷ calls) made = absurd (no_cons (Close (max moment last)) (made_by (max moment last) calls) (sym made))

    front : (left : List Step) (n : ℕ) → [] ≡ left ++ replicate n (Dequeue 0) → left ≡ []
    front [] n same = refl
    front (step ∷ left) n same = absurd (no_cons step (left ++ replicate n (Dequeue 0)) (sym same))

-- the main thread has a close left before the first
pub close_left : (rows : List Step) → main_rows false rows ≡ [] → ⊥
close_left [] none = no_cons (Close 0) [] none
close_left (Enqueue moment lane packet ∷ rows) none = close_left rows none
close_left (Dequeue moment ∷ rows) none = no_cons (Dequeue moment) (main_rows false rows) none
close_left (Close moment ∷ rows) none = no_cons (Close moment) (main_rows true rows) none

-- and where a dequeue comes, it is left
pub dequeue_left : (closed : Bool) (moment : ℕ) (rows : List Step) → main_rows closed (Dequeue moment ∷ rows) ≡ [] → ⊥
dequeue_left closed moment rows none = no_cons (Dequeue moment) (main_rows closed rows) none

-- a step that isn't an enqueue is the main thread's
pub is_main : (step : Step) → ((moment lane : ℕ) (packet : PacketParts) → step ≡ Enqueue moment lane packet → ⊥) → main_call step ≡ step ∷ []
is_main (Enqueue moment lane packet) other = absurd (other moment lane packet refl)
is_main (Dequeue moment) other = refl
is_main (Close moment) other = refl

-- the steps that were met, and those that are left, one step later
pub step_met : (steps : List Step) (k : ℕ) (step : Step) → k < length steps → step ≡ get_or steps k step → take k steps ++ step ∷ [] ≡ take (k + 1) steps
step_met steps k step within stands = sym (take_more steps k step within ∙ ap (λ s. take k steps ++ s ∷ []) (sym stands))

pub step_left : (steps : List Step) (k : ℕ) (step : Step) → k < length steps → step ≡ get_or steps k step → drop k steps ≡ step ∷ drop (k + 1) steps
step_left steps k step within stands = drop_more steps k step within ∙ ap (λ s. s ∷ drop (k + 1) steps) (sym stands)
