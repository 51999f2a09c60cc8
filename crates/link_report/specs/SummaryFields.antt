-- The digits of a summary, in the order of its fields.
use Rattle.std.specs.Prelude.{ℕ, List, [], ◌∷◌, ◌++◌}
use Rattle.link_report.specs.declared.flows.DelayDigits.{DelayDigits}
use Rattle.link_report.specs.declared.flows.SummaryDigits.{SummaryDigits}

abbrev pub delays_listed : DelayDigits → List (List ℕ)
delays_listed d = d.min ∷ d.mean ∷ d.p50 ∷ d.p95 ∷ d.p99 ∷ d.max ∷ []

abbrev pub listed : SummaryDigits → List (List ℕ)
listed d =
    d.packets ∷ d.bytes ∷ d.sent ∷ d.sent_bytes ∷ d.dropped_codel ∷ d.dropped_overflow ∷ d.marked
    ∷ (delays_listed d.delays ++ d.rate ∷ [])
