use Rattle.std.proofs.Common.{[], refl}
use Rattle.link_core.specs.LinkLaw.LinkState.{idle}
use Rattle.link_core.proofs.LinkRunLaws.{none_waits}
use Rattle.link_core.proofs.laws.works.Goals as goal

pub returns-clause-never_idle : goal.returns-clause-never_idle
returns-clause-never_idle c = λ p seed link arrivals coming steps made at have run. none_waits p seed link arrivals steps made (record { state = idle; coming = coming }) at have run refl

pub returns-clause-end : goal.returns-clause-end
returns-clause-end c = λ p seed link arrivals steps made last have run.
    none_waits p seed link arrivals steps made (record { state = idle; coming = [] }) last have (record { follows = run.law; runs = run.runs; none_refused = run.none_refused }) refl
