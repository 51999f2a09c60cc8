-- The lines of what monitors saw, one line later.
use Rattle.std.proofs.Common.{◌≡◌, ◌∙◌, ℕ, ◌+◌, ◌<◌, ◌≤◌, All, List, [], ◌∷◌, ◌++◌, Option, append-nil, append_assoc, ap, arith, count_by, get_or, length, refl, length-take, subst, sym, take}
use Rattle.std.proofs.lemmas.Grind.{common_steps}
use Rattle.std.proofs.lemmas.List.{length-take-le, take_more}
use Rattle.journal_core.specs.Statistics.{is_codel_drop, is_overflow_drop}
use Rattle.journal_core.specs.declared.event.Event.{Event}
use Rattle.journal_core.specs.declared.event.Event.TheVariants.{Accepted, Sent, Dropped, Closed}
use Rattle.journal_core.specs.declared.event.Cause.TheVariants.{Codel, Overflow}
use Rattle.journal_core.specs.declared.totals.Totals.{Totals}
use Rattle.monitor_core.specs.declared.monitor.Seen.{Seen}
use Rattle.run_core.specs.Seeing.{IsSeen, IsSeenOf}
use Rattle.program_core.specs.Watched.{AreFronts, TellsLines, TellsSeen, seen_drops_of, seen_line}

-- an event drops by one cause at most
drops_few : (events : List Event) → count_by is_codel_drop events + count_by is_overflow_drop events ≤ length events
drops_few [] = omega arith
drops_few (Accepted lane id moment flow packet ∷ events) = let few = drops_few events in omega (arith, few)
drops_few (Sent id moment ecn mark ∷ events) = let few = drops_few events in omega (arith, few)
drops_few (Dropped id moment Codel ∷ events) = let few = drops_few events in grind (arith, common_steps, few)
drops_few (Dropped id moment Overflow ∷ events) = let few = drops_few events in grind (arith, common_steps, few)
drops_few (Closed moment ∷ events) = let few = drops_few events in omega (arith, few)

pub seen_drops_few : (seen : Seen) → IsSeen seen → seen_drops_of seen ≤ seen.events
seen_drops_few seen is =
    let few = drops_few is.events in
    let codel = ap (λ (t : Totals). t.dropped_codel) is.totals in
    let overflow = ap (λ (t : Totals). t.dropped_overflow) is.totals in
    omega (arith, few, codel, overflow, is.count)

-- what was seen of a journal was seen
seen_some : (journal : List Event) (seen : Seen) → IsSeenOf journal seen → IsSeen seen
seen_some journal seen is = record {
  events = take seen.events journal;
  totals = is.first;
  count = sym (length-take-le seen.events journal is.within);
}

pub all_seen_some : (journal : List Event) (seen : List Seen) → All (IsSeenOf journal) seen → All IsSeen seen
all_seen_some journal seen all k d less = seen_some journal (get_or seen k d) (all k d less)

-- the lines of what was seen are those of monitors of the journal
pub told_of_lines : (journal : List Event) (monitors : ℕ) (shown seen : List Seen) (old new : Option (List ℕ)) → shown ≡ seen → length seen ≡ monitors
    → All (IsSeenOf journal) seen → TellsLines shown old new → TellsSeen monitors journal old new
told_of_lines journal monitors shown seen old new same number each lines = record {
  seen = shown;
  number = ap length same ∙ number;
  each = subst (λ s. All (IsSeenOf journal) s) (sym same) each;
  lines = lines;
}

-- a monitor more
fronts_next : (monitor : ℕ) (seen : List Seen) (one : Seen) (count : ℕ) (text : List ℕ) → AreFronts monitor seen text
    → AreFronts monitor (seen ++ one ∷ []) (text ++ take count (seen_line (monitor + length seen) one))
fronts_next monitor [] one count text none = (
  count,
  [],
  ap (λ t. t ++ take count (seen_line (monitor + 0) one)) none ∙ ap (λ m. take count (seen_line m one)) (let same : monitor + 0 ≡ monitor = omega arith in same)
      ∙ sym (append-nil (take count (seen_line monitor one))),
  refl,
)
fronts_next monitor (first ∷ seen) one count text f =
    let next : monitor + length (first ∷ seen) ≡ monitor + 1 + length seen = omega arith in (
      f.0,
      f.1 ++ take count (seen_line (monitor + 1 + length seen) one),
      ap (λ m. text ++ take count (seen_line m one)) next ∙ ap (λ t. t ++ take count (seen_line (monitor + 1 + length seen) one)) f.2
          ∙ append_assoc (take f.0 (seen_line monitor first)) f.1 (take count (seen_line (monitor + 1 + length seen) one)),
      fronts_next (monitor + 1) seen one count f.1 f.3,
    )

pub fronts_more : (seen : List Seen) (k : ℕ) (d : Seen) (count : ℕ) (text : List ℕ) → k < length seen → AreFronts 0 (take k seen) text
    → AreFronts 0 (take (k + 1) seen) (text ++ take count (seen_line k (get_or seen k d)))
fronts_more seen k d count text within f =
    let one : Seen = get_or seen k d in
    let more : take (k + 1) seen ≡ take k seen ++ one ∷ [] = take_more seen k d within in
    let many : 0 + length (take k seen) ≡ k = omega (arith, length-take k seen, within) in
    subst (λ s. AreFronts 0 s (text ++ take count (seen_line k one))) (sym more)
    (subst (λ m. AreFronts 0 (take k seen ++ one ∷ []) (text ++ take count (seen_line m one))) many (fronts_next 0 (take k seen) one count text f))
