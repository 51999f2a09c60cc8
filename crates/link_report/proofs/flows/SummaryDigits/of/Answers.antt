use Rattle.std.proofs.Common.{◌≡◌, ◌++◌, ◌∷◌, []}
use Rattle.link_report.specs.FlowTables.{decimal_of}
use Rattle.link_report.proofs.flows.SummaryDigits.of.Goals as goal

pub returns : goal.returns
returns c = λ k.
    c.of.ensures k ∷ c.of-2.ensures k ∷ c.of-3.ensures k ∷ c.of-4.ensures k ∷ c.of-5.ensures k ∷ c.of-6.ensures k ∷ c.of-7.ensures k
    ∷ (c.of-8.ensures k ++ c.of_any.ensures k ∷ [])
