-- What is expected of the first steps of a trace, one step later.
use Rattle.std.proofs.Common.{◌≡◌, ◌∙◌, ◌+◌, ◌<◌, ◌||◌, ℕ, true, false, List, ap, get_or, length, sym, take}
use Rattle.std.proofs.lemmas.List.Folds.{list_any_more}
use Rattle.std.proofs.lemmas.List.Sums.{count_by_more_no, count_by_more_yes}
use Rattle.journal_core.specs.declared.step.Step.{Step}
use Rattle.sender_core.specs.Rooms.{dequeue_count, enqueue_count, is_any_close, is_close, is_dequeue, is_enqueue}

-- The steps have no close, and so many enqueues and dequeues.
pub record Counts (steps : List Step) (packets dequeues : ℕ) : Type 0 where
  pub packets_are : packets ≡ enqueue_count steps
  pub dequeues_are : dequeues ≡ dequeue_count steps
  pub unclosed : is_any_close steps ≡ false

-- there is no close yet
still_open : (steps : List Step) (k : ℕ) (step d : Step) → k < length steps → get_or steps k d ≡ step → is_close step ≡ false
    → is_any_close (take k steps) ≡ false → is_any_close (take (k + 1) steps) ≡ false
still_open steps k step d within stands other none =
    list_any_more is_close steps k d within ∙ ap (λ b. b || is_close (get_or steps k d)) none ∙ ap is_close stands ∙ other

-- an enqueue more
pub counts_enqueue : (steps : List Step) (k : ℕ) (step d : Step) (packets dequeues : ℕ) → k < length steps → get_or steps k d ≡ step
    → is_enqueue step ≡ true → is_dequeue step ≡ false → is_close step ≡ false
    → Counts (take k steps) packets dequeues → Counts (take (k + 1) steps) (packets + 1) dequeues
counts_enqueue steps k step d packets dequeues within stands is differs other counts = record {
  packets_are = ap (λ n. n + 1) counts.packets_are ∙ sym (count_by_more_yes is_enqueue steps k d within (ap is_enqueue stands ∙ is));
  dequeues_are = counts.dequeues_are ∙ sym (count_by_more_no is_dequeue steps k d within (ap is_dequeue stands ∙ differs));
  unclosed = still_open steps k step d within stands other counts.unclosed;
}

-- a dequeue more
pub counts_dequeue : (steps : List Step) (k : ℕ) (step d : Step) (packets dequeues : ℕ) → k < length steps → get_or steps k d ≡ step
    → is_enqueue step ≡ false → is_dequeue step ≡ true → is_close step ≡ false
    → Counts (take k steps) packets dequeues → Counts (take (k + 1) steps) packets (dequeues + 1)
counts_dequeue steps k step d packets dequeues within stands differs is other counts = record {
  packets_are = counts.packets_are ∙ sym (count_by_more_no is_enqueue steps k d within (ap is_enqueue stands ∙ differs));
  dequeues_are = ap (λ n. n + 1) counts.dequeues_are ∙ sym (count_by_more_yes is_dequeue steps k d within (ap is_dequeue stands ∙ is));
  unclosed = still_open steps k step d within stands other counts.unclosed;
}
