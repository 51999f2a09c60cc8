-- How drops are read, and packets flushed, into a list, one by one.
use Rattle.std.proofs.Common.{◌≡◌, ℕ, ◌+◌, ◌<◌, List, [], ◌∷◌, ◌++◌, drop, length, set, take, ap, refl, subst, sym, ◌∙◌, arith}
use Rattle.std.proofs.lemmas.List.{drop-drop, drop-set-lt, take_more_set}
use Rattle.queue_disc_core.specs.declared.answers.Dropped.{Dropped}
use Rattle.queue_disc_core.specs.declared.answers.Handle.{Handle}
use Rattle.queue_disc_core.specs.QueueDiscs.{AreFlushed, AreRead, IsFlushed, IsRead, KeepsSent, DiscState, totals_of}

-- the rest of a list stays where the place before it is written
rest_stays : {X : Type 0} (first out : List X) (place : ℕ) (x : X) → drop place out ≡ drop place first → drop (place + 1) (set out place x) ≡ drop (place + 1) first
rest_stays first out place x rest = drop-set-lt (place + 1) out place x (omega arith) ∙ sym (drop-drop 1 place out) ∙ ap (drop 1) rest ∙ drop-drop 1 place first

read_more : (old : DiscState) (drops : List Dropped) (mid : DiscState) (d : Dropped) (new : DiscState) → AreRead old drops mid → IsRead mid d new → AreRead old (drops ++ d ∷ []) new
read_more old [] mid d new same one = (new, subst (λ (s : DiscState). IsRead s d new) same one, refl)
read_more old (e ∷ drops) mid d new reads one = (reads.0, reads.1, read_more reads.0 drops mid d new reads.2 one)

flush_more : (old : DiscState) (packets : List Handle) (mid : DiscState) (packet : Handle) (new : DiscState) → AreFlushed old packets mid → IsFlushed mid packet new → AreFlushed old (packets ++ packet ∷ []) new
flush_more old [] mid packet new same one = (new, subst (λ (s : DiscState). IsFlushed s packet new) same one, refl)
flush_more old (p ∷ packets) mid packet new flushes one = (flushes.0, flushes.1, flush_more flushes.0 packets mid packet new flushes.2 one)

-- So many drops were read, which stand at the front of the list, and the rest of it is as it was first.
pub record Reading (initial : DiscState) (first : List Dropped) (place : ℕ) (out : List Dropped) (now : DiscState) : Type 0 where
  pub reads : AreRead initial (take place out) now
  pub rest : drop place out ≡ drop place first
  pub unread : initial.unread ≡ now.unread + place

pub reads_none : (initial : DiscState) (first : List Dropped) → Reading initial first 0 first initial
reads_none initial first = record { reads = refl; rest = refl; unread = omega arith }

-- One more is read.
pub reads_on : (initial : DiscState) (first : List Dropped) (place : ℕ) (out : List Dropped) (now new : DiscState) (d : Dropped) → Reading initial first place out now → IsRead now d new → place < length out
    → Reading initial first (place + 1) (set out place d) new
reads_on initial first place out now new d r one within =
    let unread = r.unread in
    let less = one.unread in
    record {
      reads = subst (λ (ds : List Dropped). AreRead initial ds new) (sym (take_more_set out place d within)) (read_more initial (take place out) now d new r.reads one);
      rest = rest_stays first out place d r.rest;
      unread = omega arith;
    }

-- So many packets were flushed, which stand at the front of the list, and the rest of it is as it was first.
pub record Flushing (initial : DiscState) (first : List Handle) (place : ℕ) (out : List Handle) (now : DiscState) : Type 0 where
  pub flushes : AreFlushed initial (take place out) now
  pub rest : drop place out ≡ drop place first
  pub totals : KeepsSent (totals_of initial) place (totals_of now)

pub flushes_none : (initial : DiscState) (first : List Handle) → Flushing initial first 0 first initial
flushes_none initial first = record {
  flushes = refl;
  rest = refl;
  totals = record { accepted = refl; sent = refl; sent_bytes = refl; marked = refl; threshold_marked = refl; flushed = omega arith };
}

pub kept_on : (old mid new : DiscState) (n m : ℕ) → KeepsSent (totals_of old) n (totals_of mid) → KeepsSent (totals_of mid) m (totals_of new) → KeepsSent (totals_of old) (n + m) (totals_of new)
kept_on old mid new n m a b = record {
  accepted = b.accepted ∙ a.accepted;
  sent = b.sent ∙ a.sent;
  sent_bytes = b.sent_bytes ∙ a.sent_bytes;
  marked = b.marked ∙ a.marked;
  threshold_marked = b.threshold_marked ∙ a.threshold_marked;
  flushed = omega (arith, a.flushed, b.flushed);
}

-- One more is flushed.
pub flushes_on : (initial : DiscState) (first : List Handle) (place : ℕ) (out : List Handle) (now new : DiscState) (packet : Handle) → Flushing initial first place out now → IsFlushed now packet new → place < length out
    → KeepsSent (totals_of now) 1 (totals_of new) → Flushing initial first (place + 1) (set out place packet) new
flushes_on initial first place out now new packet r one within kept = record {
  flushes = subst (λ (ps : List Handle). AreFlushed initial ps new) (sym (take_more_set out place packet within)) (flush_more initial (take place out) now packet new r.flushes one);
  rest = rest_stays first out place packet r.rest;
  totals = kept_on initial now new place 1 r.totals kept;
}
