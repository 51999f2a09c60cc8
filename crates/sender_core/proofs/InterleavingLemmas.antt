-- How far some steps have come through the calls that made them, one step later.
use Rattle.std.proofs.Common.{◌≡◌, ◌≢◌, ◌∙◌, ◌==◌, ℕ, zero, suc, ◌+◌, ◌<◌, ◌≤◌, Bool, true, false, List, [], ◌∷◌, ◌++◌, Vec, Global, append-nil, ap, arith, cond, drop, get_or, inl, inr, length, max, refl, replicate, set, slice_index_or, subst, sym, take}
use Rattle.std.proofs.lemmas.Bool.{eq-eqb, eqb-true, true≢false}
use Rattle.std.proofs.lemmas.Grind.{flat_map-append, get_or-set_at}
use Rattle.std.proofs.lemmas.List.{get_or-set_other, take-append-drop, take_more}
use native.Mathlib.Numerals.{unary_clauses}
use Rattle.packet_core.specs.Packets.{PacketParts}
use Rattle.journal_core.specs.declared.step.Step.{Step}
use Rattle.journal_core.specs.declared.step.Step.TheVariants.{Enqueue, Dequeue, Close}
use Rattle.sender_core.proofs.SenderLemmas.{member}
use Rattle.sender_core.specs.Interleavings.{moment_after}
use Rattle.sender_core.specs.Interleavings.{CallsNext, Comes, IsInterleaving, IsMadeBy, MakesMain, main_call, main_calls, main_rows, made_by, sender_call, sender_calls}

-- the steps of calls and of one more
pub made_more : (last : ℕ) (calls : List Step) (call : Step) → made_by last (calls ++ call ∷ []) ≡ made_by last calls ++ made_by (moment_after last (made_by last calls)) (call ∷ [])
made_more last [] call = refl
made_more last (Enqueue moment lane packet ∷ calls) call = ap (λ l. Enqueue (max moment last) lane packet ∷ l) (made_more (max moment last) calls call)
made_more last (Dequeue moment ∷ calls) call = ap (λ l. Dequeue (max moment last) ∷ l) (made_more (max moment last) calls call)
made_more last (Close moment ∷ calls) call = ap (λ l. Close (max moment last) ∷ l) (made_more (max moment last) calls call)

moment_append : (last : ℕ) (some more : List Step) → moment_after last (some ++ more) ≡ moment_after (moment_after last some) more
moment_append last [] more = refl
moment_append last (Enqueue moment lane packet ∷ some) more = moment_append moment some more
moment_append last (Dequeue moment ∷ some) more = moment_append moment some more
moment_append last (Close moment ∷ some) more = moment_append moment some more

-- the main thread's calls, one later
main_more : (left calls mid : List Step) (call : Step) (rest : List Step) → MakesMain left calls mid → CallsNext mid call rest → MakesMain left (calls ++ call ∷ []) rest
main_more left [] mid call rest same next = (rest, subst (λ l. CallsNext l call rest) same next, refl)
main_more left (first ∷ calls) mid call rest made next = (made.0, made.1, main_more made.0 calls mid call rest made.2 next)

-- all of them, and then dequeues
main_whole : (left calls : List Step) → MakesMain left calls [] → (n : ℕ) × (calls ≡ left ++ replicate n (Dequeue 0))
main_whole left [] same = (0, same ∙ sym (append-nil left))
main_whole left (call ∷ calls) made =
    let more = main_whole made.0 calls made.2 in
    elim made.1 [
      | inl is ↦ (more.0, ap (λ l. call ∷ l) more.1 ∙ ap (λ l. l ++ replicate more.0 (Dequeue 0)) (sym is))
      | inr is ↦ (suc more.0, ap (λ c. c ∷ calls) is.1 ∙ ap (λ l. Dequeue 0 ∷ l) (more.1 ∙ ap (λ l. l ++ replicate more.0 (Dequeue 0)) is.2) ∙ sym (ap (λ l. l ++ replicate (suc more.0) (Dequeue 0)) is.0))
    ]

-- before the first step
pub comes_none : (lists : List (Vec (ℕ × PacketParts) Global)) (rows : List Step) (n : ℕ) → Comes lists rows [] 0 (replicate n 0) 0 false
comes_none lists rows n = record {
  calls = [];
  in_turn = refl;
  last_is = refl;
  senders = λ i d less. (ap (λ n. take n (slice_index_or lists i d).items) (sym (zeros n i)));
  no_other = λ i past. refl;
  main = refl;
}
  where
    zeros : (n i : ℕ) → get_or {A = ℕ} (replicate n 0) i 0 ≡ 0
    zeros zero i = refl
    zeros (suc n) zero = refl
    zeros (suc n) (suc i) = zeros n i

-- a call of the main thread more
pub comes_main : (lists : List (Vec (ℕ × PacketParts) Global)) (rows before : List Step) (last : ℕ) (met : List ℕ) (row : ℕ) (closed : Bool) (call step : Step) (later row' : ℕ) (closed' : Bool)
    → Comes lists rows before last met row closed → CallsNext (main_rows closed (drop row rows)) call (main_rows closed' (drop row' rows)) → IsMadeBy last call step later
    → Comes lists rows (before ++ step ∷ []) later met row' closed'
comes_main lists rows before last met row closed call step later row' closed' so next made = record {
  calls = so.calls ++ call ∷ [];
  in_turn =
      ap (λ l. before ++ l) (made.makes ∙ ap (λ t. made_by t (call ∷ [])) so.last_is)
      ∙ ap (λ l. l ++ made_by (moment_after 0 before) (call ∷ [])) so.in_turn
      ∙ ap (λ l. made_by 0 so.calls ++ made_by (moment_after 0 l) (call ∷ [])) so.in_turn ∙ sym (made_more 0 so.calls call);
  last_is = made.moment_is ∙ ap (λ t. moment_after t (step ∷ [])) so.last_is ∙ sym (moment_append 0 before (step ∷ []));
  senders = λ i d less. still i ∙ so.senders i d less;
  no_other = λ i past. still i ∙ so.no_other i past;
  main =
      subst (λ l. MakesMain (main_rows false rows) l (main_rows closed' (drop row' rows)))
      (sym (flat_map-append main_call so.calls (call ∷ []) ∙ ap (λ l. main_calls so.calls ++ l) (append-nil (main_call call) ∙ made.main)))
      (main_more (main_rows false rows) (main_calls so.calls) (main_rows closed (drop row rows)) call (main_rows closed' (drop row' rows)) so.main next);
}
  where
    still : (i : ℕ) → sender_calls i (so.calls ++ call ∷ []) ≡ sender_calls i so.calls
    still i =
        flat_map-append (sender_call i) so.calls (call ∷ []) ∙ ap (λ l. sender_calls i so.calls ++ l) (append-nil (sender_call i call) ∙ made.no_sender i)
        ∙ append-nil (sender_calls i so.calls)

same_at : {X : Type 0} (xs : List X) (i : ℕ) (d e : X) → i < length xs → get_or xs i d ≡ get_or xs i e
same_at [] i d e less = absurd (omega (arith, less))
same_at (x ∷ xs) zero d e less = refl
same_at (x ∷ xs) (suc i) d e less = same_at xs i d e (omega (arith, less))

-- a call of a sender more
pub comes_call : (lists : List (Vec (ℕ × PacketParts) Global)) (rows before : List Step) (last : ℕ) (met : List ℕ) (row : ℕ) (closed : Bool)
    (moment lane : ℕ) (packet : PacketParts) (list : Vec (ℕ × PacketParts) Global) (k : ℕ)
    → lane < length lists → list ≡ get_or lists lane list → k ≡ get_or met lane 0 → k < length list.items → (moment, packet) ≡ get_or list.items k (moment, packet)
    → lane < length met
    → Comes lists rows before last met row closed
    → Comes lists rows (before ++ Enqueue (max moment last) lane packet ∷ []) (max moment last) (set met lane (k + 1)) row closed
comes_call lists rows before last met row closed moment lane packet list k there list_at is within stands place so = record {
  calls = so.calls ++ call ∷ [];
  in_turn =
      ap (λ t. before ++ Enqueue (max moment t) lane packet ∷ []) so.last_is
      ∙ ap (λ l. l ++ made_by (moment_after 0 before) (call ∷ [])) so.in_turn
      ∙ ap (λ l. made_by 0 so.calls ++ made_by (moment_after 0 l) (call ∷ [])) so.in_turn ∙ sym (made_more 0 so.calls call);
  last_is = sym (moment_append 0 before (Enqueue (max moment last) lane packet ∷ []));
  senders = λ i d less. flat_map-append (sender_call i) so.calls (call ∷ []) ∙ ap (λ l. sender_calls i so.calls ++ l) (append-nil (sender_call i call)) ∙ own i d less (lane == i) refl;
  no_other = λ i past. flat_map-append (sender_call i) so.calls (call ∷ []) ∙ ap (λ l. sender_calls i so.calls ++ l) (append-nil (sender_call i call))
      ∙ ap (λ b. sender_calls i so.calls ++ cond b ((moment, packet) ∷ []) []) (other_lane i (omega (arith, past, there))) ∙ append-nil (sender_calls i so.calls) ∙ so.no_other i past;
  main = subst (λ l. MakesMain (main_rows false rows) l (main_rows closed (drop row rows)))
      (sym (flat_map-append main_call so.calls (call ∷ []) ∙ append-nil (main_calls so.calls))) so.main;
}
  where
    call : Step
    call = Enqueue moment lane packet

    listed : (d : Vec (ℕ × PacketParts) Global) → slice_index_or lists lane d ≡ list
    listed d = same_at lists lane d list there ∙ sym list_at

    other_lane : (i : ℕ) → lane ≢ i → (lane == i) ≡ false
    other_lane i apart = go (lane == i) refl
      where
        go : (b : Bool) → (lane == i) ≡ b → (lane == i) ≡ false
        go true same = absurd (apart (eqb-true lane i same))
        go false other = other

    own : (i : ℕ) (d : Vec (ℕ × PacketParts) Global) → i < length lists → (b : Bool) → (lane == i) ≡ b
        → sender_calls i so.calls ++ sender_call i call ≡ take (get_or (set met lane (k + 1)) i 0) (slice_index_or lists i d).items
    own i d less true same =
        let here : i ≡ lane = sym (eqb-true lane i same) in
        let list_is : slice_index_or lists i d ≡ list = ap (λ j. slice_index_or lists j d) here ∙ listed d in
        let count : get_or (set met lane (k + 1)) i 0 ≡ k + 1 = get_or-set_at met lane i (k + 1) 0 here place in
        ap (λ b. sender_calls i so.calls ++ cond b ((moment, packet) ∷ []) []) same
        ∙ ap (λ l. l ++ (moment, packet) ∷ []) (so.senders i d less ∙ ap (λ n. take n (slice_index_or lists i d).items) (ap (λ j. get_or met j 0) here ∙ sym is) ∙ ap (λ (v : Vec (ℕ × PacketParts) Global). take k v.items) list_is)
        ∙ ap (λ x. take k list.items ++ x ∷ []) stands ∙ sym (take_more list.items k (moment, packet) within)
        ∙ ap (λ (v : Vec (ℕ × PacketParts) Global). take (k + 1) v.items) (sym list_is) ∙ ap (λ n. take n (slice_index_or lists i d).items) (sym count)
    own i d less false other =
        let apart : i ≢ lane = λ same. true≢false (sym (eq-eqb lane i (sym same)) ∙ other) in
        ap (λ b. sender_calls i so.calls ++ cond b ((moment, packet) ∷ []) []) other ∙ append-nil (sender_calls i so.calls) ∙ so.senders i d less
        ∙ ap (λ n. take n (slice_index_or lists i d).items) (sym (get_or-set_other met lane i (k + 1) 0 apart))

-- at the end
pub comes_whole : (lists : List (Vec (ℕ × PacketParts) Global)) (rows made : List Step) (last : ℕ) (met : List ℕ) (row : ℕ) (closed : Bool) (calls_of : ℕ → List (ℕ × PacketParts))
    → Comes lists rows made last met row closed → main_rows closed (drop row rows) ≡ []
    → ((i : ℕ) (d : Vec (ℕ × PacketParts) Global) → i < length lists → (slice_index_or lists i d).items ≡ calls_of i) → IsInterleaving (length lists) calls_of rows made
comes_whole lists rows made last met row closed calls_of so none are =
    let whole = main_whole (main_rows false rows) (main_calls so.calls) (subst (λ l. MakesMain (main_rows false rows) (main_calls so.calls) l) none so.main) in
    record {
      calls = so.calls;
      in_turn = so.in_turn;
      each = λ i less.
          let d = member lists i less in
          let k = get_or met i 0 in
          let listed = are i d less in (
            drop k (calls_of i),
            ap (λ l. l ++ drop k (calls_of i)) (so.senders i d less ∙ ap (take k) listed) ∙ take-append-drop k (calls_of i),
          );
      no_other = so.no_other;
      dequeues = whole.0;
      main = whole.1;
    }

-- the rows from one on
pub rows_left : (closed : Bool) (rows : List Step) (k : ℕ) (row : Step) → k < length rows → row ≡ get_or rows k row → main_rows closed (drop k rows) ≡ main_rows closed (row ∷ drop (k + 1) rows)
rows_left closed [] k row less is = absurd (omega (arith, less))
rows_left closed (r ∷ rows) zero row less is = ap (λ x. main_rows closed (x ∷ rows)) (sym is)
rows_left closed (r ∷ rows) (suc k) row less is = simp unary_clauses (simp unary_clauses at (rows_left closed rows k row (omega (arith, less)) is))

pub rows_over : (closed : Bool) (rows : List Step) (k : ℕ) → length rows ≤ k → main_rows closed (drop k rows) ≡ main_rows closed []
rows_over closed [] zero past = refl
rows_over closed [] (suc k) past = refl
rows_over closed (r ∷ rows) zero past = absurd (omega (arith, past))
rows_over closed (r ∷ rows) (suc k) past = rows_over closed rows k (omega (arith, past))
