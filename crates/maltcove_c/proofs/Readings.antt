-- How drops are read, and packets flushed, into C's array, one by one.
use Rattle.std.proofs.Common.{◌≡◌, ℕ, ◌+◌, ◌<◌, List, [], ◌∷◌, ◌++◌, drop, length, map, set, take, ap, refl, subst, sym, ◌∙◌, arith}
use Rattle.std.proofs.lemmas.List.{drop-drop, drop-set-lt, map-append, take_more_set}
use Rattle.queue_disc_core.specs.declared.answers.Dropped.{Dropped}
use Rattle.queue_disc_core.specs.declared.answers.Handle.{Handle}
use Rattle.queue_disc_core.specs.QueueDiscs.{AreFlushed, AreRead, IsFlushed, IsRead, DiscState}
use Rattle.maltcove_c.specs.Calls.{Flushes, ReadsDrops}
use Rattle.maltcove_c.specs.Records.{dropped_told, flushed_told}
use Rattle.maltcove_c.specs.declared.records.MaltcoveDropped.{MaltcoveDropped}
use Rattle.maltcove_c.specs.declared.records.MaltcoveFlushed.{MaltcoveFlushed}

-- the rest of a list stays where the place before it is written
pub rest_stays : {X : Type 0} (first out : List X) (place : ℕ) (x : X) → drop place out ≡ drop place first → drop (place + 1) (set out place x) ≡ drop (place + 1) first
rest_stays first out place x rest = drop-set-lt (place + 1) out place x (omega arith) ∙ sym (drop-drop 1 place out) ∙ ap (drop 1) rest ∙ drop-drop 1 place first

-- what is told of a list and of one more
told_more : {X Y : Type 0} (f : X → Y) (out : List Y) (place : ℕ) (xs : List X) (x : X) → place < length out → take place out ≡ map f xs → take (place + 1) (set out place (f x)) ≡ map f (xs ++ x ∷ [])
told_more f out place xs x within told = take_more_set out place (f x) within ∙ ap (λ ys. ys ++ f x ∷ []) told ∙ sym (map-append f xs (x ∷ []))

read_more : (old : DiscState) (drops : List Dropped) (mid : DiscState) (d : Dropped) (new : DiscState) → AreRead old drops mid → IsRead mid d new → AreRead old (drops ++ d ∷ []) new
read_more old [] mid d new same one = (new, subst (λ (s : DiscState). IsRead s d new) same one, refl)
read_more old (e ∷ drops) mid d new reads one = (reads.0, reads.1, read_more reads.0 drops mid d new reads.2 one)

flush_more : (old : DiscState) (packets : List Handle) (mid : DiscState) (packet : Handle) (new : DiscState) → AreFlushed old packets mid → IsFlushed mid packet new → AreFlushed old (packets ++ packet ∷ []) new
flush_more old [] mid packet new same one = (new, subst (λ (s : DiscState). IsFlushed s packet new) same one, refl)
flush_more old (p ∷ packets) mid packet new flushes one = (flushes.0, flushes.1, flush_more flushes.0 packets mid packet new flushes.2 one)

-- So many drops were read, which stand at the front of the array, and the rest of it is as it was first.
pub record Reading (initial : DiscState) (first : List MaltcoveDropped) (place : ℕ) (out : List MaltcoveDropped) (now : DiscState) : Type 0 where
  pub reads : ReadsDrops initial (take place out) now
  pub rest : drop place out ≡ drop place first
  pub unread : initial.unread ≡ now.unread + place

pub reads_none : (initial : DiscState) (first : List MaltcoveDropped) → Reading initial first 0 first initial
reads_none initial first = record { reads = record { drops = []; reads = refl; told = refl }; rest = refl; unread = omega arith }

pub reads_on : (initial : DiscState) (first : List MaltcoveDropped) (place : ℕ) (out : List MaltcoveDropped) (now new : DiscState) (d : Dropped)
    → Reading initial first place out now → IsRead now d new → place < length out → Reading initial first (place + 1) (set out place (dropped_told d)) new
reads_on initial first place out now new d r one within =
    let unread = r.unread in
    let less = one.unread in
    record {
      reads = record {
        drops = r.reads.drops ++ d ∷ [];
        reads = read_more initial r.reads.drops now d new r.reads.reads one;
        told = told_more dropped_told out place r.reads.drops d within r.reads.told;
      };
      rest = rest_stays first out place (dropped_told d) r.rest;
      unread = omega arith;
    }

-- So many packets were flushed, which stand at the front of the array, and the rest of it is as it was first.
pub record Flushing (initial : DiscState) (first : List MaltcoveFlushed) (place : ℕ) (out : List MaltcoveFlushed) (now : DiscState) : Type 0 where
  pub flushes : Flushes initial (take place out) now
  pub rest : drop place out ≡ drop place first

pub flushes_none : (initial : DiscState) (first : List MaltcoveFlushed) → Flushing initial first 0 first initial
flushes_none initial first = record { flushes = record { packets = []; flushes = refl; told = refl }; rest = refl }

pub flushes_on : (initial : DiscState) (first : List MaltcoveFlushed) (place : ℕ) (out : List MaltcoveFlushed) (now new : DiscState) (p : Handle)
    → Flushing initial first place out now → IsFlushed now p new → place < length out → Flushing initial first (place + 1) (set out place (flushed_told p)) new
flushes_on initial first place out now new p f one within =
    record {
      flushes = record {
        packets = f.flushes.packets ++ p ∷ [];
        flushes = flush_more initial f.flushes.packets now p new f.flushes.flushes one;
        told = told_more flushed_told out place f.flushes.packets p within f.flushes.told;
      };
      rest = rest_stays first out place (flushed_told p) f.rest;
    }
