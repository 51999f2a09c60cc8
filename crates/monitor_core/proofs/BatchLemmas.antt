-- Beginnings of batches, and of the journals that they make.
use Rattle.std.proofs.Common.{◌≡◌, ℕ, ◌≤◌, List, [], ◌∷◌, ◌++◌, length, drop, ap, sym, refl, ◌∙◌, append-nil}
use Rattle.std.proofs.lemmas.List.Concat.{flat_map-append}
use mathlib.Core.List.{IsPrefix}
use Rattle.journal_core.specs.declared.event.Event.{Event}
use Rattle.monitor_core.specs.declared.book.Batch.{Batch}
use Rattle.monitor_core.specs.Batches.{BeginOne, joined, batch}
use Rattle.monitor_core.proofs.PrefixLemmas.{prefix_shorter}

pub prefix_joined : (xs ys : List Batch) → IsPrefix xs ys → IsPrefix (joined xs) (joined ys)
prefix_joined xs ys p = (joined p.0, sym (flat_map-append (λ (b : Batch). b.events) xs p.0) ∙ ap joined p.1)

pub begin_one_joined : (xs ys : List Batch) → BeginOne xs ys → BeginOne (joined xs) (joined ys)
begin_one_joined xs ys o = (joined o.0, prefix_joined xs o.0 o.1, prefix_joined ys o.0 o.2)

pub longer : (xs ys : List Event) → BeginOne xs ys → length xs ≤ length ys → IsPrefix xs ys
longer xs ys o less = prefix_shorter xs ys o.0 o.1 o.2 less

drop_prefix : (xs rest : List Event) → drop (length xs) (xs ++ rest) ≡ rest
drop_prefix [] rest = refl
drop_prefix (x ∷ xs) rest = drop_prefix xs rest

-- a batch of the events that were left
pub joined_more : (log new : List Batch) (events : List Event) (n : ℕ) → n ≡ length (joined log) → IsPrefix (joined log) events → new ≡ log ++ batch (drop n events) ∷ [] → joined new ≡ events
joined_more log new events n is p more =
    ap joined more ∙ flat_map-append (λ (b : Batch). b.events) log (batch (drop n events) ∷ [])
    ∙ ap (λ (xs : List Event). joined log ++ xs) (append-nil (drop n events) ∙ ap (λ (k : ℕ). drop k events) is ∙ ap (λ (xs : List Event). drop (length (joined log)) xs) (sym p.1) ∙ drop_prefix (joined log) p.0)
    ∙ p.1

pub ruleset reaching = (joined_more)
