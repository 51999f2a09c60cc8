-- A line whose head was pulled and is in hand.
use Rattle.std.specs.Prelude.{◌≡◌, ℕ, ◌+◌, ◌≤◌, List, [], ◌∷◌, length, drop, Option, Some, None}
use Rattle.std.specs.Borrow.{MutBor}
use Rattle.std.proofs.Common.{refl, ap, subst, ◌∙◌, arith}
use Rattle.std.proofs.lemmas.List.{drop-drop, length-drop}
use Rattle.packet_core.specs.declared.packet.Waiting.{Waiting}

-- the packets that wait: the one in hand, and those in the line; none where none is in hand
abbrev pub held : Option Waiting → List Waiting → List Waiting
held None rest = []
held (Some head) rest = head ∷ rest

-- So many packets were taken from hand, and each time the line was pulled once. It is the same line. Where none is in
-- hand any more, the line isn't pulled.
pub record PullsHeld {A : Type 0} (items : A → List Waiting) (pulled : A → ℕ → A → Type 0)
    (head : Option Waiting) (line : MutBor A) (n : ℕ) (head' : Option Waiting) (line' : MutBor A) : Type 0 where
  pub same_line : line'.ghost_name ≡ line.ghost_name
  pub rest : held head' (items line'.now) ≡ drop n (held head (items line.now))
  pub pulls :
      n ≤ length (held head (items line.now))
      → (items line'.now ≡ drop n (items line.now))
      × ((a : A) (k : ℕ) → pulled a k line.now → pulled a (k + n) line'.now)

-- none was taken
pub pulls_none : {A : Type 0} {items : A → List Waiting} {pulled : A → ℕ → A → Type 0}
    (head : Option Waiting) (line : MutBor A)
    → PullsHeld items pulled head line 0 head line
pulls_none {pulled = pulled} head line = record {
  same_line = refl;
  rest = refl;
  pulls = λ few. (refl, λ a k at. let none : k ≡ k + 0 = omega arith in subst (λ (i : ℕ). pulled a i line.now) none at);
}

-- one more
pub pulls_more : {A : Type 0} {items : A → List Waiting} {pulled : A → ℕ → A → Type 0}
    (more : (a b c : A) (n : ℕ) → pulled a n b → pulled b 1 c → pulled a (n + 1) c)
    (head : Option Waiting) (line : MutBor A) (head' : Option Waiting) (line' : MutBor A) (head'' : Option Waiting)
    (line'' : MutBor A) (n : ℕ)
    → PullsHeld items pulled head line n head' line' → PullsHeld items pulled head' line' 1 head'' line''
    → PullsHeld items pulled head line (n + 1) head'' line''
pulls_more {items = items} {pulled = pulled} more head line head' line' head'' line'' n first then' =
    let all = held head (items line.now) in
    let left = ap (λ (l : List Waiting). length l) first.rest ∙ length-drop n all in
    record {
      same_line = then'.same_line ∙ first.same_line;
      rest = then'.rest ∙ ap (λ (l : List Waiting). drop 1 l) first.rest ∙ drop-drop 1 n all;
      pulls = λ few.
          let before = first.pulls (omega arith) in
          let after = then'.pulls (omega arith) in (
            after.0 ∙ ap (λ (l : List Waiting). drop 1 l) before.0 ∙ drop-drop 1 n (items line.now),
            λ a k at.
                let sum : k + n + 1 ≡ k + (n + 1) = omega arith in
                subst (λ (i : ℕ). pulled a i line''.now) sum (after.1 a (k + n) (before.1 a k at)),
          );
    }
