-- How packets are sent into C's array, one by one.
use Rattle.std.proofs.Common.{◌≡◌, ℕ, ℤ, ◌+◌, ◌<◌, ◌≤◌, ◌^◌, Bool, true, false, List, [], ◌∷◌, ◌++◌, Some, None, ap, drop, length, nat_le, nat_lt, option_map, refl, set, suc, subst, sym, take, zero, ◌∙◌, arith}
use Rattle.std.specs.Prelude.{if◌then◌else◌}
use Rattle.std.proofs.lemmas.List.{get_or-set_same, length-set, take-set, take_all, take_more_set}
use Rattle.std.proofs.lemmas.Option.{slice_get-get_or}
use Rattle.journal_core.specs.State.{moment_fault_of, refusal_of}
use Rattle.journal_core.specs.declared.step.MomentFault.TheVariants.{Backwards, TooLarge}
use Rattle.journal_core.specs.declared.step.Refusal.TheVariants.{Moment}
use Rattle.journal_core.specs.declared.step.Step.TheVariants.{Dequeue}
use Rattle.queue_disc_core.specs.QueueDiscs.{DiscState}
use Rattle.maltcove_c.specs.Calls.{AreSent, Idles, RefusesDequeue, AnswersSent, SendsAll}
use Rattle.maltcove_c.specs.declared.records.MaltcoveSent.{MaltcoveSent}
use Rattle.maltcove_c.proofs.Readings.{rest_stays}

sent_more : (moment : ℕ) (old : DiscState) (outs : List MaltcoveSent) (mid : DiscState) (out : MaltcoveSent) (new : DiscState) → AreSent old moment outs mid → AnswersSent mid moment out new → AreSent old moment (outs ++ out ∷ []) new
sent_more moment old [] mid out new same one = (new, subst (λ (s : DiscState). AnswersSent s moment out new) same one, refl)
sent_more moment old (o ∷ outs) mid out new sends one = (sends.0, sends.1, sent_more moment sends.0 outs mid out new sends.2 one)

some_none : {X : Type 0} (x : X) → Some x ≡ None → ⊥
some_none x e = cc

-- a moment that a step was made at is refused no more after it
once_more : (large before : Bool) (last moment : ℕ) → before ≡ false
    → option_map Moment (if large then Some TooLarge else (if nat_lt moment last then Some (Backwards last) else None)) ≡ None
    → option_map Moment (if large then Some TooLarge else (if before then Some (Backwards moment) else None)) ≡ None
once_more true before last moment none fits = absurd (some_none _ fits)
once_more false before last moment none fits = rw none refl

not_before : (moment : ℕ) → nat_lt moment moment ≡ false
not_before moment = grind arith

fits_again : (moment last : ℕ) → option_map Moment (moment_fault_of moment last) ≡ None → option_map Moment (moment_fault_of moment moment) ≡ None
fits_again moment last fits = once_more (nat_le (2 ^ 60) moment) (nat_lt moment moment) last moment (not_before moment) fits

pub sent_fits : (mid : DiscState) (moment : ℕ) (out : MaltcoveSent) (new : DiscState) → AnswersSent mid moment out new → refusal_of new.sched.standing.state (Dequeue moment) ≡ None
sent_fits mid moment out new one =
    let gives = one.dequeued.serves.gives in
    ap (λ last. option_map Moment (moment_fault_of moment last)) gives.serves.last ∙ fits_again moment mid.sched.standing.state.last gives.fits

-- So many packets were sent, which stand at the front of the array, and the rest of it is as it was first.
pub record Sending (initial : DiscState) (moment : ℕ) (first : List MaltcoveSent) (place : ℕ) (out : List MaltcoveSent) (now : DiscState) : Type 0 where
  pub sends : AreSent initial moment (take place out) now
  pub rest : drop place out ≡ drop place first
  pub fits : 0 < place → refusal_of now.sched.standing.state (Dequeue moment) ≡ None

pub sends_none : (initial : DiscState) (moment : ℕ) (first : List MaltcoveSent) → Sending initial moment first 0 first initial
sends_none initial moment first = record { sends = refl; rest = refl; fits = λ some. absurd (omega arith) }

pub sends_on : (initial : DiscState) (moment : ℕ) (first : List MaltcoveSent) (place : ℕ) (out : List MaltcoveSent) (now new : DiscState) (told : MaltcoveSent)
    → Sending initial moment first place out now → AnswersSent now moment told new → place < length out → Sending initial moment first (place + 1) (set out place told) new
sends_on initial moment first place out now new told s one within =
    let more = take_more_set out place told within in
    record {
      sends = subst (λ (outs : List MaltcoveSent). AreSent initial moment outs new) (sym more) (sent_more moment initial (take place out) now told new s.sends one);
      rest = rest_stays first out place told s.rest;
      fits = λ some. sent_fits now moment told new one;
    }

-- the next dequeue finds none
pub sends_all : (initial : DiscState) (moment : ℕ) (first : List MaltcoveSent) (place : ℕ) (out : List MaltcoveSent) (now new : DiscState) (told : MaltcoveSent)
    → Sending initial moment first place out now → Idles now moment told new → place < length out → SendsAll initial moment (set out place told) place new
sends_all initial moment first place out now new told s one within =
    let long = length-set out place told in
    let inside : place < length (set out place told) = omega arith in
    record {
      mid = now;
      sends = subst (λ (outs : List MaltcoveSent). AreSent initial moment outs now) (sym (take-set out place told)) s.sends;
      last = told;
      place = slice_get-get_or (set out place told) place told inside ∙ ap Some (get_or-set_same out place told told within);
      idles = one;
    }

-- all places are full
pub sends_full : (initial : DiscState) (moment : ℕ) (first : List MaltcoveSent) (place : ℕ) (out : List MaltcoveSent) (now : DiscState)
    → Sending initial moment first place out now → length out ≤ place → AreSent initial moment out now
sends_full initial moment first place out now s full = subst (λ (outs : List MaltcoveSent). AreSent initial moment outs now) (take_all place out full) s.sends

-- The next dequeue is refused: it is the first.
pub record Refused (initial : DiscState) (moment : ℕ) (first : List MaltcoveSent) (place : ℕ) (out : List MaltcoveSent) (now : DiscState) (answer : ℤ) : Type 0 where
  pub refuses : RefusesDequeue initial moment answer
  pub none : place ≡ 0
  pub same : now ≡ initial
  pub stay : out ≡ first

pub refused_first : (initial : DiscState) (moment : ℕ) (first : List MaltcoveSent) (place : ℕ) (out : List MaltcoveSent) (now : DiscState) (answer : ℤ)
    → Sending initial moment first place out now → RefusesDequeue now moment answer → Refused initial moment first place out now answer
refused_first initial moment first zero out now answer s refused =
    record { refuses = subst (λ (a : DiscState). RefusesDequeue a moment answer) s.sends refused; none = refl; same = s.sends; stay = s.rest }
refused_first initial moment first (suc place) out now answer s refused =
    let some : 0 < suc place = omega arith in
    absurd (some_none _ (sym refused.is_fault ∙ s.fits some))
