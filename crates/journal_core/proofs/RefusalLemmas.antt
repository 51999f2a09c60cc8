-- What is known of a state where a step isn't refused.
use Rattle.std.proofs.Common.{◌≡◌, ℕ, ◌<◌, ◌≤◌, ◌^◌, Bool, true, false, cond, ltb, leb, Option, Some, None, option_map, refl}
use Rattle.journal_core.specs.declared.step.MomentFault.TheVariants.{TooLarge, Backwards}
use Rattle.journal_core.specs.declared.step.Refusal.TheVariants.{Moment, ClosedAlready, Exhausted}
use Rattle.journal_core.proofs.Words.{ltb-false, leb-false, PacketParts, Enqueue, Dequeue, Close, State, moment_fault_of, first_of_two, closed_refusal_of, id_refusal_of, refusal_of}

-- a moment at which a step may be made
pub record IsNext (moment last : ℕ) : Type 0 where
  pub later : last ≤ moment
  pub soon : moment < 2 ^ 60

-- a test that doesn't refuse was not met
unmet : {X : Type 0} (test : Bool) (x : X) (o : Option X) → cond test (Some x) o ≡ None → (test ≡ false) × (o ≡ None)
unmet true x o e = absurd cc
unmet false x o e = (refl, e)

-- a moment that isn't refused is one
moment_fits : (moment last : ℕ) → moment_fault_of moment last ≡ None → IsNext moment last
moment_fits moment last fits =
    let few = unmet (leb (2 ^ 60) moment) TooLarge (cond (ltb moment last) (Some (Backwards last)) None) fits in
    record { later = ltb-false moment last (unmet (ltb moment last) (Backwards last) None few.1).0; soon = leb-false (2 ^ 60) moment few.0 }

-- no refusal means that no test refuses
first_none : {X : Type 0} (a b : Option X) → first_of_two a b ≡ None → (a ≡ None) × (b ≡ None)
first_none None b e = (refl, e)
first_none (Some x) b e = absurd cc

map_none : {X Y : Type 0} (f : X → Y) (o : Option X) → option_map f o ≡ None → o ≡ None
map_none f None e = refl
map_none f (Some x) e = absurd cc

-- what is known of the state where a step isn't refused
pub record Open {Q : Type 0} (s : State Q) (moment : ℕ) : Type 0 where
  pub next : IsNext moment s.last
  pub open' : s.closed ≡ false

pub dequeue_next : {Q : Type 0} (s : State Q) (moment : ℕ) → refusal_of s (Dequeue moment) ≡ None → IsNext moment s.last
dequeue_next s moment fits = moment_fits moment s.last (map_none Moment (moment_fault_of moment s.last) fits)

pub enqueue_open : {Q : Type 0} (s : State Q) (moment lane : ℕ) (packet : PacketParts) → refusal_of s (Enqueue moment lane packet) ≡ None → Open s moment × (s.next_id < 2 ^ 40)
enqueue_open s moment lane packet fits =
    let tests = first_none (option_map Moment (moment_fault_of moment s.last)) (first_of_two (closed_refusal_of s) (id_refusal_of s)) fits in
    let others = first_none (closed_refusal_of s) (id_refusal_of s) tests.1 in
    (record { next = moment_fits moment s.last (map_none Moment (moment_fault_of moment s.last) tests.0); open' = (unmet s.closed ClosedAlready None others.0).0 }, leb-false (2 ^ 40) s.next_id (unmet (leb (2 ^ 40) s.next_id) Exhausted None others.1).0)

pub close_open : {Q : Type 0} (s : State Q) (moment : ℕ) → refusal_of s (Close moment) ≡ None → Open s moment
close_open s moment fits =
    let tests = first_none (option_map Moment (moment_fault_of moment s.last)) (closed_refusal_of s) fits in
    record { next = moment_fits moment s.last (map_none Moment (moment_fault_of moment s.last) tests.0); open' = (unmet s.closed ClosedAlready None tests.1).0 }
