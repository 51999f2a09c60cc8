-- A serve of a line whose head was pulled.
use Rattle.std.proofs.Common.{◌≡◌, ℕ, ◌+◌, ◌≤◌, List, [], ◌∷◌, length, drop, take, Option, Some, None, refl, sym, ap, subst, ◌∙◌, inl, inr, arith}
use Rattle.std.specs.Prelude.{slice_get, option_map}
use Rattle.std.specs.Borrow.{MutBor}
use Rattle.std.proofs.lemmas.List.{drop-drop}
use Rattle.std.proofs.lemmas.Option.{slice_get_cases}
use Rattle.packet_core.specs.declared.packet.Waiting.{Waiting}
use Rattle.packet_core.specs.declared.params.ParamFields.{ParamFields}
use Rattle.codel_core.specs.declared.served.Mark.{Mark}
use Rattle.codel_core.specs.declared.served.Served.{Served}
use Rattle.codel_core.specs.declared.state.CodelState.{CodelState}
use Rattle.codel_core.specs.Held.{held, PullsHeld}
use Rattle.codel_core.specs.Verdict.{Decides, Verdict, nothing, first_mark, first_drop, drops, served, ServesLine}
use Rattle.codel_core.proofs.ServeLemmas.{at_head}
use Rattle.codel_core.proofs.VerdictLemmas.{one_behind, verdict_gives, within}

-- the head of what waits
held_head : (head : Option Waiting) (rest : List Waiting) → slice_get (held head rest) 0 ≡ head
held_head None rest = refl
held_head (Some w) rest = refl

-- the head that was pulled and the rest are the line as it was
held_whole : (q : List Waiting) (head : Option Waiting) (rest : List Waiting) → head ≡ slice_get q 0 → rest ≡ drop 1 q → held head rest ≡ q
held_whole [] head rest is left = rw is refl
held_whole (w ∷ ws) head rest is left = rw (is, left) refl

-- no more packets are dropped than wait
drops_le : (p : ParamFields) (now : ℕ) (q : List Waiting) (old : CodelState) {k : ℕ} {mark : Mark} {new : CodelState} → Verdict p now q old k mark new → k ≤ length q
drops_le p now q old (nothing n) = omega arith
drops_le p now q old (first_mark d idle can) = omega arith
drops_le p now q old (first_drop d idle cannot) = omega (arith, one_behind p now q old 0 d.0)
drops_le p now q old (drops {k} d dropping before stop) = omega (arith, within p now q old k d before)

-- where none stands behind the drops, none waited
pub none_waited : (p : ParamFields) (now : ℕ) (q : List Waiting) (old : CodelState) {k : ℕ} {mark : Mark} {new : CodelState} → Verdict p now q old k mark new → slice_get q k ≡ None → q ≡ []
none_waited p now q old {k = k} v none = elim (verdict_gives p now q old v) [
  | inl empty ↦ empty.0
  | inr some ↦ elim (slice_get_cases q k).1 [
    | inl h ↦ let contrary : None ≡ Some h.0 = sym none ∙ h.2 in absurd cc
    | inr past ↦ absurd (omega (arith, past.0, some))
  ]
]

-- where none is in hand in the end, none waited
pub none_held : {A : Type 0} {items : A → List Waiting} {pulled : A → ℕ → A → Type 0} {p : ParamFields} {now : ℕ} {old new : CodelState} {line : A} {head head' : Option Waiting} {rest rest' : MutBor A} {k : ℕ} {mark : Mark}
    → head' ≡ None → head ≡ slice_get (items line) 0 → items rest.now ≡ drop 1 (items line)
    → Decides p now (held head (items rest.now)) old k mark new
    → PullsHeld items pulled head rest k head' rest'
    → items line ≡ []
none_held {items = items} {p = p} {now = now} {old = old} {line = line} {head = head} {rest = rest} {rest' = rest'} {k = k} gone is left decides pulls =
    let q = held head (items rest.now) in
    let none = sym (at_head q k) ∙ ap (λ (l : List Waiting). slice_get l 0) (sym pulls.rest) ∙ ap (λ (o : Option Waiting). slice_get (held o (items rest'.now)) 0) gone in
    sym (held_whole (items line) head (items rest.now) is left) ∙ none_waited p now q old decides.verdict none

module _ {A B : Type 0} {items : A → List Waiting} {pulled : A → ℕ → A → Type 0} {taken : B → List Waiting → B → Type 0} where
  -- the packet that was judged in hand is given
  pub serves_held : {p : ParamFields} {now : ℕ} {old new : CodelState} {line line' : A} {sink sink' : B} {head head' : Option Waiting} {rest rest' : MutBor A}
      {k : ℕ} {mark : Mark} {answer : Option Served}
      → line' ≡ rest'.now → head ≡ slice_get (items line) 0 → items rest.now ≡ drop 1 (items line) → pulled line 1 rest.now
      → Decides p now (held head (items rest.now)) old k mark new
      → PullsHeld items pulled head rest k head' rest'
      → taken sink (take k (held head (items rest.now))) sink'
      → answer ≡ option_map (served mark) head'
      → ServesLine items pulled taken p now old line sink answer new line' sink'
  serves_held {p = p} {now = now} {old = old} {new = new} {line = line} {sink = sink} {sink' = sink'} {head = head} {head' = head'} {rest = rest} {rest' = rest'} {k = k} {mark = mark} {answer = answer} ends is left step decides pulls takes told =
      let q = items line in
      let whole = held_whole q head (items rest.now) is left in
      let judged = subst (λ (l : List Waiting). Decides p now l old k mark new) whole decides in
      let few = drops_le p now q old judged.verdict in
      let on = pulls.pulls (subst (λ (l : List Waiting). k ≤ length l) (sym whole) few) in
      let sum : 1 + k ≡ k + 1 = omega arith in
      let serves : ServesLine items pulled taken p now old line sink answer new rest'.now sink' =
      record {
        drops = k;
        mark = mark;
        decides = judged;
        given = told
            ∙ ap (option_map (served mark)) (sym (held_head head' (items rest'.now)) ∙ ap (λ (l : List Waiting). slice_get l 0) (pulls.rest ∙ ap (λ (l : List Waiting). drop k l) whole) ∙ at_head q k);
        left = record {
          pulls = subst (λ (n : ℕ). pulled line n rest'.now) sum (on.1 line 1 step);
          rest = on.0 ∙ ap (λ (l : List Waiting). drop k l) left ∙ drop-drop k 1 q ∙ ap (λ (n : ℕ). drop n q) sum;
          takes = subst (λ (l : List Waiting). taken sink (take k l) sink') whole takes;
        };
      } in
      subst (λ (l : A). ServesLine items pulled taken p now old line sink answer new l sink') (sym ends) serves
