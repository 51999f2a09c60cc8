-- How many bytes at most are sent of other flows until a flow's turn with credits: a potential, and what becomes of it
-- as flows go from list to list.
use Rattle.std.proofs.Common.{◌≡◌, ◌≢◌, ℕ, zero, suc, ◌+◌, ◌-◌, ◌*◌, ◌≤◌, List, [], ◌∷◌, ◌++◌, length, sum_by, refl, ap, inl, inr, arith}
use Rattle.std.specs.List.{AllByRecursion}
use Rattle.std.proofs.lemmas.List.{length_push}
use Rattle.std.proofs.lemmas.List.Sums.{sum_by-cons, sum_by-le, sum_by_push}
use Rattle.std.proofs.lemmas.List.Elements.{All-from_recursion}
use Rattle.journal_core.proofs.ListLemmas.{ByRecursion-all, ByRecursion-parts, ByRecursion-weaker, sum_by_agree_on}
use Rattle.fair_core.proofs.OldFlows.{Has}
use Rattle.fair_core.proofs.OldFlows.{has_cases}
use Rattle.fair_core.proofs.FlowsAhead.{Ahead, ahead_append, ahead_last, ahead_most, ahead_same}

-- Of so many flows with that quantum: c tells what each may still send, the flow is owed so many quanta, and while all
-- flows get one, at most so many bytes are sent (a round).
pub data Waits (flows q round f : ℕ) (c : ℕ → ℕ) (owed : ℕ) (new old : List ℕ) (n : ℕ) : Type 0 where
  in_new : (m : ℕ) → Ahead c f new m → owed * round + m ≤ n → Waits flows q round f c owed new old n
  in_old : (m u : ℕ) → Ahead (λ h. c h + q) f old m → flows ≤ u + (length new + length old)
      → owed * round + (sum_by c new + (m + u * q)) ≤ n → Waits flows q round f c owed new old n

sum_most : (c : ℕ → ℕ) (most : ℕ) (xs : List ℕ) → ((x : ℕ) → c x ≤ most) → sum_by c xs ≤ length xs * most
sum_most c most xs each = sum_by-le c most xs (All-from_recursion (λ x. c x ≤ most) xs (ByRecursion-all (λ x. c x ≤ most) xs each))

module _ (flows q round f : ℕ) where
  pub waits_owed : (c : ℕ → ℕ) (owed : ℕ) (new old : List ℕ) (n : ℕ) → Waits flows q round f c owed new old n → owed * round ≤ n
  waits_owed c owed new old n (in_new m a le) = omega arith
  waits_owed c owed new old n (in_old m u a few le) = omega arith

  -- what changes at one flow alone
  module _ (c c' : ℕ → ℕ) (h : ℕ) (same : (x : ℕ) → x ≢ h → c' x ≡ c x) where
    abbrev Apart : List ℕ → Type 0
    Apart xs = AllByRecursion (λ x. x ≢ h) xs

    same_all : (xs : List ℕ) → Apart xs → AllByRecursion (λ x. c' x ≡ c x) xs
    same_all xs apart = ByRecursion-weaker (λ x. x ≢ h) (λ x. c' x ≡ c x) xs same apart

    same_sum : (xs : List ℕ) → Apart xs → sum_by c' xs ≡ sum_by c xs
    same_sum xs apart = sum_by_agree_on c' c xs (same_all xs apart)

    same_new : (xs : List ℕ) (n : ℕ) → Apart xs → Ahead c f xs n → Ahead c' f xs n
    same_new xs n apart a = ahead_same c c' f xs n (same_all xs apart) a

    same_old : (xs : List ℕ) (n : ℕ) → Apart xs → Ahead (λ x. c x + q) f xs n → Ahead (λ x. c' x + q) f xs n
    same_old xs n apart a = ahead_same (λ x. c x + q) (λ x. c' x + q) f xs n (ByRecursion-weaker (λ x. x ≢ h) (λ x. c' x + q ≡ c x + q) xs (λ x ne. ap (λ k. k + q) (same x ne)) apart) a

    -- a new flow goes to the end of the old flows
    pub new_passes : (owed : ℕ) (rest old : List ℕ) (n : ℕ) → Apart (rest ++ old) → h ≢ f → Waits flows q round f c owed (h ∷ rest) old n → Waits flows q round f c' owed rest (old ++ h ∷ []) n
    new_passes owed rest old n apart other (in_new m (inl e) le) = absurd (other e)
    new_passes owed rest old n apart other (in_new m (inr a) le) =
        let parts = ByRecursion-parts (λ x. x ≢ h) rest old apart in
        let less = a.2 in
        in_new a.0 (same_new rest a.0 parts.0 a.3) (omega arith)
    new_passes owed rest old n apart other (in_old m u a few le) =
        let parts = ByRecursion-parts (λ x. x ≢ h) rest old apart in
        let first = sum_by-cons c h rest in
        let sum = same_sum rest parts.0 in
        let len = length_push old h in
        in_old m u (ahead_append (λ x. c' x + q) f old (h ∷ []) m (same_old old m parts.1 a)) (omega arith) (omega arith)

    -- an old flow goes to the end
    pub old_passes : (owed : ℕ) (rest : List ℕ) (n : ℕ) → Apart rest → h ≢ f → Waits flows q round f c owed [] (h ∷ rest) n → Waits flows q round f c' owed [] (rest ++ h ∷ []) n
    old_passes owed rest n apart other (in_new m a le) = absurd a
    old_passes owed rest n apart other (in_old m u (inl e) few le) = absurd (other e)
    old_passes owed rest n apart other (in_old m u (inr a) few le) =
        let less = a.2 in
        let len = length_push rest h in
        in_old a.0 u (ahead_append (λ x. c' x + q) f rest (h ∷ []) a.0 (same_old rest a.0 apart a.3)) (omega arith) (omega arith)

    -- or leaves
    pub old_leaves : (owed : ℕ) (rest : List ℕ) (n : ℕ) → Apart rest → h ≢ f → Waits flows q round f c owed [] (h ∷ rest) n → Waits flows q round f c' owed [] rest n
    old_leaves owed rest n apart other (in_new m a le) = absurd a
    old_leaves owed rest n apart other (in_old m u (inl e) few le) = absurd (other e)
    old_leaves owed rest n apart other (in_old m u (inr a) few le) =
        let less = a.2 in
        let e : suc u * q ≡ u * q + q = omega arith in
        in_old a.0 (suc u) (same_old rest a.0 apart a.3) (omega arith) (omega arith)

    -- the head sends
    pub new_sends : (owed : ℕ) (rest old : List ℕ) (n : ℕ) → Apart (rest ++ old) → h ≢ f → c' h + 1 ≤ c h → Waits flows q round f c owed (h ∷ rest) old n → (m : ℕ) × (m + 1 ≤ n) × Waits flows q round f c' owed (h ∷ rest) old m
    new_sends owed rest old n apart other less (in_new m (inl e) le) = absurd (other e)
    new_sends owed rest old n apart other less (in_new m (inr a) le) =
        let parts = ByRecursion-parts (λ x. x ≢ h) rest old apart in
        let le' = a.2 in
        (owed * round + (c' h + a.0), omega arith, in_new (c' h + a.0) (inr (a.0, other, omega arith, same_new rest a.0 parts.0 a.3)) (omega arith))
    new_sends owed rest old n apart other less (in_old m u a few le) =
        let parts = ByRecursion-parts (λ x. x ≢ h) rest old apart in
        let first = sum_by-cons c h rest in
        let first' = sum_by-cons c' h rest in
        let sum = same_sum rest parts.0 in
        (owed * round + (sum_by c' (h ∷ rest) + (m + u * q)), omega arith, in_old m u (same_old old m parts.1 a) (omega arith) (omega arith))

    pub old_sends : (owed : ℕ) (rest : List ℕ) (n : ℕ) → Apart rest → h ≢ f → c' h + 1 ≤ c h → Waits flows q round f c owed [] (h ∷ rest) n → (m : ℕ) × (m + 1 ≤ n) × Waits flows q round f c' owed [] (h ∷ rest) m
    old_sends owed rest n apart other less (in_new m a le) = absurd a
    old_sends owed rest n apart other less (in_old m u (inl e) few le) = absurd (other e)
    old_sends owed rest n apart other less (in_old m u (inr a) few le) =
        let le' = a.2 in
        (owed * round + (sum_by c' [] + ((c' h + q + a.0) + u * q)), omega arith, in_old (c' h + q + a.0) u (inr (a.0, other, omega arith, same_old rest a.0 apart a.3)) (omega arith) (omega arith))

    -- a flow comes to the lists
    pub arrives : (owed : ℕ) (new old : List ℕ) (n : ℕ) → Apart (new ++ old) → c' h ≤ q → length new + length old + 1 ≤ flows → Waits flows q round f c owed new old n → Waits flows q round f c' owed (new ++ h ∷ []) old n
    arrives owed new old n apart most few (in_new m a le) =
        let parts = ByRecursion-parts (λ x. x ≢ h) new old apart in
        in_new m (ahead_append c' f new (h ∷ []) m (same_new new m parts.0 a)) le
    arrives owed new old n apart most few (in_old m zero a all le) = absurd (omega arith)
    arrives owed new old n apart most few (in_old m (suc u) a all le) =
        let parts = ByRecursion-parts (λ x. x ≢ h) new old apart in
        let last = sum_by_push c' new h in
        let sum = same_sum new parts.0 in
        let len = length_push new h in
        let e : suc u * q ≡ u * q + q = omega arith in
        in_old m u (same_old old m parts.1 a) (omega arith) (omega arith)

  -- THE FLOW ITSELF

  module _ (is_round : round ≡ 2 * q * (flows - 1)) (c : ℕ → ℕ) (each : (x : ℕ) → c x ≤ q) where
    twice : (x : ℕ) → c x + q ≤ 2 * q
    twice x = let e = each x in omega arith

    products : (a b u : ℕ) → flows - 1 ≡ a + b + u → a * q + b * (2 * q) + u * q ≤ round
    products a b u is =
        let e : 2 * q * (flows - 1) ≡ a * q + a * q + b * (2 * q) + (u * q + u * q) = rw is (omega arith) in
        omega arith

    -- it gets a quantum and goes to the end of the old flows
    pub raised : (owed : ℕ) (new old : List ℕ) (n : ℕ) → length new + length old + 1 ≤ flows → suc owed * round ≤ n → Waits flows q round f c owed new (old ++ f ∷ []) n
    raised owed new old n few le =
        let u = flows - (length new + length old + 1) in
        let sum_new = sum_most c q new each in
        let sum_old = sum_most (λ x. c x + q) (2 * q) old twice in
        let all = products (length new) (length old) u (omega arith) in
        let e : suc owed * round ≡ owed * round + round = omega arith in
        let len = length_push old f in
        in_old (sum_by (λ x. c x + q) old) u (ahead_last (λ x. c x + q) f old) (omega arith) (omega arith)

    -- wherever it stands
    pub listed_waits : (owed : ℕ) (new old : List ℕ) → Has (new ++ old) f → length new + length old ≤ flows → Waits flows q round f c owed new old (owed * round + round)
    listed_waits owed new old has few =
        elim (has_cases new old f has) [
          | inl h ↦
              let some = some_flows new h in
              let len = some.1 in
              let all = products some.0 0 (flows - 1 - some.0) (omega arith) in
              in_new (some.0 * q) (ahead_most c f q each new h some.0 some.1) (omega arith)
          | inr h ↦
              let some = some_flows old h in
              let len = some.1 in
              let u = flows - (length new + length old) in
              let sum_new = sum_most c q new each in
              let all = products (length new) some.0 u (omega arith) in
              in_old (some.0 * (2 * q)) u (ahead_most (λ x. c x + q) f (2 * q) twice old h some.0 some.1) (omega arith) (omega arith)
        ]
      where
        some_flows : (xs : List ℕ) → Has xs f → (k : ℕ) × (length xs ≡ suc k)
        some_flows [] h = absurd h
        some_flows (x ∷ xs) h = (length xs, refl)
