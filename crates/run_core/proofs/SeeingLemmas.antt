-- What a monitor saw of a journal, where both begin one list.
use Rattle.std.proofs.Common.{◌≡◌, ◌≤◌, ◌<◌, ◌∙◌, ℕ, inl, inr, map, ⊎_elim, List, [], ◌∷◌, ◌++◌, length, length-append, refl, ap, sym, arith, slice_index_or, subst, take}
use Rattle.std.proofs.lemmas.List.{length-map}
use mathlib.Core.List.{IsPrefix}
use Rattle.journal_core.specs.Statistics.{statistics}
use Rattle.journal_core.specs.declared.event.Event.{Event}
use Rattle.monitor_core.specs.declared.monitor.Seen.{Seen}
use Rattle.run_core.specs.Seeing.{AreTotalsOf, IsSeen, IsSeenOf}
use Rattle.run_core.specs.SendersFaults.{IsAhead, IsLanesRunFault, IsWatchingFault}
use Rattle.run_core.specs.declared.senders_fault.SendersFault.{SendersFault}
use Rattle.run_core.specs.declared.senders_fault.SendersFault.TheVariants as senders_fault

-- of two beginnings of one list the one that isn't longer is a front of the other
front_of : {A : Type 0} (xs ys zs : List A) → IsPrefix xs zs → IsPrefix ys zs → length xs ≤ length ys → xs ≡ take (length xs) ys
front_of [] ys zs p q le = refl
front_of (x ∷ xs) [] zs p q le = absurd (omega arith)
front_of (x ∷ xs) (y ∷ ys) [] p q le = absurd (cc (p.1))
front_of (x ∷ xs) (y ∷ ys) (z ∷ zs) p q le =
    let heads : x ≡ y = cc (p.1, q.1) in
    let rest = front_of xs ys zs (p.0, cc (p.1)) (q.0, cc (q.1)) (omega arith) in cc (heads, rest)

-- what is the statistics of a beginning that isn't longer
pub seen_of_front : (saw journal all : List Event) (seen : Seen) → AreTotalsOf saw seen → IsPrefix saw all → IsPrefix journal all
    → seen.events ≤ length journal → IsSeenOf journal seen
seen_of_front saw journal all seen are first second few = record {
  within = few;
  first = are.totals ∙ ap statistics (front_of saw journal all first second (omega (arith, few, are.count)))
      ∙ ap (λ n. statistics (take n journal)) (sym are.count);
}

-- what stands between two lists
between : {A : Type 0} (xs : List A) (x : A) (ys : List A) (d : A) → slice_index_or (xs ++ x ∷ ys) (length xs) d ≡ x
between [] x ys d = refl
between (y ∷ xs) x ys d = between xs x ys d

-- the one that was looked at behind these read more than the journal has
pub ahead : (journal : List Event) (before : List Seen) (last : Seen) (behind read : List Seen) (fault : SendersFault) → before ++ last ∷ behind ≡ read
    → length journal < last.events → fault ≡ senders_fault.Monitor (length before) → IsAhead journal read fault
ahead journal before last behind read fault are more is = record {
  monitor = length before;
  there = omega (arith, ap length are, length-append before (last ∷ behind));
  is = is;
  more = λ d. subst (λ (seen : Seen). length journal < seen.events)
      (sym (between before last behind d) ∙ ap (λ all. slice_index_or all (length before) d) are) more;
}

-- what monitors read isn't of the journal: a fault of the run
pub watching_fault : {A : Type 0} (senders n : ℕ) (journal : List Event) (what : A → Seen) (read : List A) (fault : SendersFault) → length read ≡ n
    → IsWatchingFault journal (map what read) fault → IsLanesRunFault senders n fault
watching_fault senders n journal what read fault number is = ⊎_elim (λ memory. inl (inl memory))
    (λ (a : IsAhead journal (map what read) fault). inr (a.monitor, omega (arith, a.there, length-map read what, number), a.is))
    is
