use Rattle.std.specs.Prelude.{◌≡◌, ℕ, ◌-◌, List, [], ◌∷◌, ◌++◌, length, map}
use Rattle.std.specs.Borrow.{MutBor}
use Rattle.std.proofs.Common.{refl, sym, ap, ◌∙◌, append-nil, append_assoc}
use Rattle.std.proofs.Math.Nat.{sub-zero, sub-add-eq}
use Rattle.std.proofs.lemmas.List.{length_push, map-append}
use Rattle.packet_core.specs.declared.packet.Waiting.{Waiting}
use Rattle.journal_core.specs.Books.{Book, count_dropped, count_drops}
use Rattle.journal_core.specs.Steps.{drop_event}
use Rattle.journal_core.specs.declared.event.Cause.{Cause}
use Rattle.journal_core.specs.declared.event.Event.{Event}
use Rattle.journal_core.specs.declared.journal.Counts.{Counts}

-- those packets dropped at that moment, one event and one loss for each, in order
abbrev pub with_drops : Book → ℕ → Cause → List Waiting → Book
with_drops book moment cause ws = record {
  events = book.events ++ map (drop_event moment cause) ws;
  sent = book.sent;
  lost = book.lost ++ ws;
  counts = count_drops cause book.counts ws;
  room = book.room - length ws;
  made_for = book.made_for;
}

-- Those packets are taken, one after another: each is dropped at that moment, for that cause, and nothing else changed.
-- It is the same borrow.
pub record RecordsDrops (moment : ℕ) (cause : Cause) (old : MutBor Book) (ws : List Waiting)
    (moment' : ℕ) (cause' : Cause) (new : MutBor Book) : Type 0 where
  pub same_moment : moment' ≡ moment
  pub same_cause : cause' ≡ cause
  pub same_reference : new.ghost_name ≡ old.ghost_name
  pub book : new.now ≡ with_drops old.now moment cause ws

-- no drop
pub drops_none : (book : Book) (moment : ℕ) (cause : Cause) → book ≡ with_drops book moment cause []
drops_none book moment cause =
    λ i. record {
      events = sym (append-nil book.events) i;
      sent = book.sent;
      lost = sym (append-nil book.lost) i;
      counts = book.counts;
      room = sym (sub-zero book.room) i;
      made_for = book.made_for;
    }

-- the counts of one more, behind others
count_drops_push : (cause : Cause) (c : Counts) (ws : List Waiting) (w : Waiting)
    → count_dropped (count_drops cause c ws) w.packet.len cause ≡ count_drops cause c (ws ++ w ∷ [])
count_drops_push cause c [] w = refl
count_drops_push cause c (v ∷ ws) w = count_drops_push cause (count_dropped c v.packet.len cause) ws w

-- a drop behind others
pub drops_more : (book : Book) (moment : ℕ) (cause : Cause) (ws : List Waiting) (w : Waiting)
    → with_drops (with_drops book moment cause ws) moment cause (w ∷ []) ≡ with_drops book moment cause (ws ++ w ∷ [])
drops_more book moment cause ws w =
    let tell = drop_event moment cause in
    let events : (book.events ++ map tell ws) ++ tell w ∷ [] ≡ book.events ++ map tell (ws ++ w ∷ []) =
    append_assoc book.events (map tell ws) (tell w ∷ [])
    ∙ ap (λ (es : List Event). book.events ++ es) (sym (map-append tell ws (w ∷ []))) in
    let room : (book.room - length ws) - 1 ≡ book.room - length (ws ++ w ∷ []) =
    sym (sub-add-eq book.room (length ws) 1) ∙ ap (λ (n : ℕ). book.room - n) (sym (length_push ws w)) in
    λ i. record {
      events = events i;
      sent = book.sent;
      lost = append_assoc book.lost ws (w ∷ []) i;
      counts = count_drops_push cause book.counts ws w i;
      room = room i;
      made_for = book.made_for;
    }

-- none is taken
pub records_none : (moment : ℕ) (cause : Cause) (a : MutBor Book) → RecordsDrops moment cause a [] moment cause a
records_none moment cause a = record {
  same_moment = refl;
  same_cause = refl;
  same_reference = refl;
  book = drops_none a.now moment cause;
}

-- one is taken behind others
pub records_more : (moment : ℕ) (cause : Cause) (a : MutBor Book) (moment' : ℕ) (cause' : Cause) (b : MutBor Book)
    (moment'' : ℕ) (cause'' : Cause) (c : MutBor Book) (ws : List Waiting) (w : Waiting)
    → RecordsDrops moment cause a ws moment' cause' b → RecordsDrops moment' cause' b (w ∷ []) moment'' cause'' c
    → RecordsDrops moment cause a (ws ++ w ∷ []) moment'' cause'' c
records_more moment cause a moment' cause' b moment'' cause'' c ws w first then' = record {
  same_moment = then'.same_moment ∙ first.same_moment;
  same_cause = then'.same_cause ∙ first.same_cause;
  same_reference = then'.same_reference ∙ first.same_reference;
  book = then'.book
      ∙ ap (λ (m : ℕ). with_drops b.now m cause' (w ∷ [])) first.same_moment
      ∙ ap (λ (why : Cause). with_drops b.now moment why (w ∷ [])) first.same_cause
      ∙ ap (λ (book : Book). with_drops book moment cause (w ∷ [])) first.book
      ∙ drops_more a.now moment cause ws w;
}
