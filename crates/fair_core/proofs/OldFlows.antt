-- Two flows that stay in the list of old flows: which of them stands before the other, and how a turn changes that.
use Rattle.std.proofs.Common.{◌≡◌, ◌≢◌, ℕ, ◌<◌, ◌≤◌, ◌⊎◌, List, [], ◌∷◌, ◌++◌, zero, suc, length, cond, eqb, refl, sym, ap, subst, ◌∙◌, inl, inr, arith}
use Rattle.std.specs.List.{AllByRecursion, Contains, slice_index_or}
use Rattle.packet_core.specs.declared.packet.Waiting.{Waiting}
use Rattle.std.proofs.lemmas.Bool.{cases_Bool, cases_eq, eq-eqb, ne_eqb}
use Rattle.std.proofs.lemmas.List.Elements.{recursion_from_All}
use Rattle.flow_core.specs.FlowLists.{AreDistinct, FlowLists}
use Rattle.fair_core.specs.declared.fair_queue.FlowList.{FlowList}
use Rattle.fair_core.specs.declared.fair_queue.FlowList.TheVariants.{New, Old}
use Rattle.fair_core.specs.declared.fair_queue.Head.{Head}
use Rattle.fair_core.specs.FairQueues.{emptied_by}
use Rattle.fair_core.proofs.ListedFlowLemmas.{IsHead, by_head}

-- x is one of the flows
abbrev pub Has : List ℕ → ℕ → Type 0
Has [] x = ⊥
Has (y ∷ ys) x = (y ≡ x) ⊎ Has ys x

-- q where g stands before f, and 0 where f stands before g
abbrev pub lead : ℕ → ℕ → ℕ → List ℕ → ℕ
lead q f g [] = 0
lead q f g (x ∷ xs) = cond (eqb x g) q (cond (eqb x f) 0 (lead q f g xs))

pub has_cases : (xs ys : List ℕ) (x : ℕ) → Has (xs ++ ys) x → Has xs x ⊎ Has ys x
has_cases [] ys x h = inr h
has_cases (y ∷ xs) ys x (inl e) = inl (inl e)
has_cases (y ∷ xs) ys x (inr h) = elim (has_cases xs ys x h) [ inl a ↦ inl (inr a) | inr b ↦ inr b ]

pub has_left : (xs ys : List ℕ) (x : ℕ) → Has xs x → Has (xs ++ ys) x
has_left [] ys x h = absurd h
has_left (y ∷ xs) ys x (inl e) = inl e
has_left (y ∷ xs) ys x (inr h) = inr (has_left xs ys x h)

pub has_right : (xs ys : List ℕ) (x : ℕ) → Has ys x → Has (xs ++ ys) x
has_right [] ys x h = h
has_right (y ∷ xs) ys x h = inr (has_right xs ys x h)

pub has_contained : (xs : List ℕ) (x : ℕ) → Contains xs x → Has xs x
has_contained [] x c = let below = c.1 in absurd (omega arith)
has_contained (y ∷ xs) x c = at c.0 c.1 c.2 (λ k below is. has_contained xs x (k, below, is))
  where
    at : (k : ℕ) → k < suc (length xs) → slice_index_or (y ∷ xs) k x ≡ x → ((j : ℕ) → j < length xs → slice_index_or xs j x ≡ x → Has xs x) → Has (y ∷ xs) x
    at zero below is behind = inl is
    at (suc k) below is behind = inr (behind k (omega arith) is)

-- one that differs from each is none of them
pub has_differs : (xs : List ℕ) (x : ℕ) → AllByRecursion (λ other. other ≢ x) xs → Has xs x → ⊥
has_differs [] x apart h = h
has_differs (y ∷ xs) x apart (inl e) = apart.0 e
has_differs (y ∷ xs) x apart (inr h) = has_differs xs x apart.1 h

-- no one stands in both of two lists
pub has_once : (xs ys : List ℕ) (x : ℕ) → AreDistinct (xs ++ ys) → Has xs x → Has ys x → ⊥
has_once [] ys x once h k = h
has_once (y ∷ xs) ys x once (inl e) k = has_differs (xs ++ ys) y (recursion_from_All (λ other. other ≢ y) (xs ++ ys) once.0) (has_right xs ys y (subst (Has ys) (sym e) k))
has_once (y ∷ xs) ys x once (inr h) k = has_once xs ys x once.1 h k

module _ (q f g : ℕ) where
  abbrev lead' : List ℕ → ℕ
  lead' xs = lead q f g xs

  lead_skips : (x : ℕ) (xs : List ℕ) → x ≢ f → x ≢ g → lead' (x ∷ xs) ≡ lead' xs
  lead_skips x xs not_f not_g = rw (ne_eqb x g not_g, ne_eqb x f not_f) refl

  lead_push : (xs : List ℕ) (x : ℕ) → x ≢ f → x ≢ g → lead' (xs ++ x ∷ []) ≡ lead' xs
  lead_push [] x not_f not_g = lead_skips x [] not_f not_g
  lead_push (y ∷ xs) x not_f not_g = ap (λ n. cond (eqb y g) q (cond (eqb y f) 0 n)) (lead_push xs x not_f not_g)

  -- g comes to the end of a list with f
  lead_g_last : (xs : List ℕ) → Has xs f → (Has xs g → ⊥) → lead' (xs ++ g ∷ []) ≡ 0
  lead_g_last [] has without = absurd has
  lead_g_last (y ∷ xs) has without =
      let not_g : y ≢ g = λ e. without (inl e) in
      elim (cases_eq y f) [
        | inl same ↦ rw (ne_eqb y g not_g, eq-eqb y f same) refl
        | inr other ↦ lead_skips y (xs ++ g ∷ []) other not_g ∙ lead_g_last xs (elim has [ inl e ↦ absurd (other e) | inr h ↦ h ]) (λ h. without (inr h))
      ]

  lead_f_last : (xs : List ℕ) → Has xs g → (Has xs f → ⊥) → lead' (xs ++ f ∷ []) ≡ q
  lead_f_last [] has without = absurd has
  lead_f_last (y ∷ xs) has without =
      let not_f : y ≢ f = λ e. without (inl e) in
      elim (cases_eq y g) [
        | inl same ↦ rw (eq-eqb y g same) refl
        | inr other ↦ lead_skips y (xs ++ f ∷ []) not_f other ∙ lead_f_last xs (elim has [ inl e ↦ absurd (other e) | inr h ↦ h ]) (λ h. without (inr h))
      ]

  pub lead_most : (xs : List ℕ) → lead' xs ≤ q
  lead_most [] = omega arith
  lead_most (y ∷ xs) =
      elim (cases_Bool (eqb y g)) [
        | inl t ↦ rw t (omega arith)
        | inr t ↦ rw t (elim (cases_Bool (eqb y f)) [ inl u ↦ rw u (omega arith) | inr u ↦ rw u (lead_most xs) ])
      ]

  -- What becomes of both where the head of the lists goes to the end of the old flows, or leaves: it is another flow and
  -- they stand as before, or it is an old flow, one of them, which goes behind the other.
  pub data Moves (old : List ℕ) (head : Head) (from : FlowList) (old' : List ℕ) : Type 0 where
    passes : head.flow ≢ f → head.flow ≢ g → Has old' f → Has old' g → lead' old' ≡ lead' old → Moves old head from old'
    takes_f : head.flow ≡ f → from ≡ New → head.from ≡ Old → Has old' f → Has old' g → lead' old ≡ 0 → lead' old' ≡ q → Moves old head from old'
    takes_g : head.flow ≡ g → from ≡ New → head.from ≡ Old → Has old' f → Has old' g → lead' old ≡ q → lead' old' ≡ 0 → Moves old head from old'

  abbrev WasMoved : FlowLists → Head → Type 0
  WasMoved lists head = (from : FlowList) → AreDistinct (lists.new_flows ++ lists.old_flows) → Has lists.old_flows f → Has lists.old_flows g
      → Has ((emptied_by from lists head).new_flows ++ (emptied_by from lists head).old_flows) f → Has ((emptied_by from lists head).new_flows ++ (emptied_by from lists head).old_flows) g
      → Moves lists.old_flows head from (emptied_by from lists head).old_flows

  -- behind a new flow both stay
  new_moves : (h : ℕ) (rest old : List ℕ) (from : FlowList) → AreDistinct (h ∷ (rest ++ old)) → Has old f → Has old g → (old' : List ℕ) → (old' ≡ old) ⊎ (old' ≡ old ++ h ∷ []) → Moves old (record { flow = h; from = New }) from old'
  new_moves h rest old from once in_f in_g old' is =
      let apart : (x : ℕ) → Has old x → h ≢ x = λ x has e. has_once (h ∷ []) (rest ++ old) x once (inl e) (has_right rest old x has) in
      elim is [
        | inl e ↦ rw e (passes (apart f in_f) (apart g in_g) in_f in_g refl)
        | inr e ↦ rw e (passes (apart f in_f) (apart g in_g) (has_left old (h ∷ []) f in_f) (has_left old (h ∷ []) g in_g) (lead_push old h (apart f in_f) (apart g in_g)))
      ]

  -- an old flow that goes to the end
  old_moves : f ≢ g → (h : ℕ) (rest : List ℕ) → AreDistinct (h ∷ rest) → Has (h ∷ rest) f → Has (h ∷ rest) g → Moves (h ∷ rest) (record { flow = h; from = Old }) New (rest ++ h ∷ [])
  old_moves differ h rest once in_f in_g =
      elim (cases_eq h f) [
        | inl same_f ↦
            let not_g : h ≢ g = λ e. differ (sym same_f ∙ e) in
            let rest_g : Has rest g = elim in_g [ inl e ↦ absurd (not_g e) | inr k ↦ k ] in
            let without : Has rest f → ⊥ = λ k. has_once (h ∷ []) rest f once (inl same_f) k in
            takes_f same_f refl refl (has_right rest (h ∷ []) f (inl same_f)) (has_left rest (h ∷ []) g rest_g) (rw (ne_eqb h g not_g, eq-eqb h f same_f) refl) (ap (λ x. lead' (rest ++ x ∷ [])) same_f ∙ lead_f_last rest rest_g without)
        | inr not_f ↦
            let rest_f : Has rest f = elim in_f [ inl e ↦ absurd (not_f e) | inr k ↦ k ] in
            elim (cases_eq h g) [
              | inl same_g ↦
                  let without : Has rest g → ⊥ = λ k. has_once (h ∷ []) rest g once (inl same_g) k in
                  takes_g same_g refl refl (has_left rest (h ∷ []) f rest_f) (has_right rest (h ∷ []) g (inl same_g)) (rw (eq-eqb h g same_g) refl) (ap (λ x. lead' (rest ++ x ∷ [])) same_g ∙ lead_g_last rest rest_f without)
              | inr not_g ↦
                  let rest_g : Has rest g = elim in_g [ inl e ↦ absurd (not_g e) | inr k ↦ k ] in
                  passes not_f not_g (has_left rest (h ∷ []) f rest_f) (has_left rest (h ∷ []) g rest_g) (lead_push rest h not_f not_g ∙ sym (lead_skips h rest not_f not_g))
            ]
      ]

  -- and one that leaves, which is neither
  old_leaves : (h : ℕ) (rest : List ℕ) → AreDistinct (h ∷ rest) → Has rest f → Has rest g → Moves (h ∷ rest) (record { flow = h; from = Old }) Old rest
  old_leaves h rest once in_f in_g =
      let apart : (x : ℕ) → Has rest x → h ≢ x = λ x has e. has_once (h ∷ []) rest x once (inl e) has in
      passes (apart f in_f) (apart g in_g) in_f in_g (sym (lead_skips h rest (apart f in_f) (apart g in_g)))

  pub moves : f ≢ g → (lists : FlowLists) (head : Head) → IsHead lists head → WasMoved lists head
  moves differ = by_head WasMoved of_new of_old
    where
      of_new : (queues : List (List Waiting)) (h : ℕ) (rest old : List ℕ) → WasMoved (record { queues = queues; new_flows = h ∷ rest; old_flows = old }) (record { flow = h; from = New })
      of_new queues h rest old New once in_f in_g after_f after_g = new_moves h rest old New once in_f in_g (old ++ h ∷ []) (inr refl)
      of_new queues h rest old Old once in_f in_g after_f after_g = new_moves h rest old Old once in_f in_g old (inl refl)

      of_old : (queues : List (List Waiting)) (h : ℕ) (rest : List ℕ) → WasMoved (record { queues = queues; new_flows = []; old_flows = h ∷ rest }) (record { flow = h; from = Old })
      of_old queues h rest New once in_f in_g after_f after_g = old_moves differ h rest once in_f in_g
      of_old queues h rest Old once in_f in_g after_f after_g = old_leaves h rest once after_f after_g
