use Rattle.std.proofs.Common.{◌∙◌, ap, arith, subst, sym, Option}
use Rattle.std.proofs.lemmas.Result.{IfErr-weaker, IfOk-weaker}
use Rattle.link_command.specs.FaultsOn.{IsOfValue}
use Rattle.link_command.specs.Rates.{bit_rate_of}
use Rattle.link_command.specs.Values.{fault_within}
use Rattle.link_command.specs.declared.faults.ValueFault.{ValueFault}
use Rattle.link_command.specs.declared.faults.ValueName.TheVariants.{Rate}
use Rattle.link_command.proofs.ValueLemmas.{said_exactly, within_capped}
use Rattle.link_command.proofs.values.rate_in_range.Goals as goal

pub returns-clause-rate : goal.returns-clause-rate
returns-clause-rate c = said_exactly c.within.result (bit_rate_of c.args.text.now) c.read_rate.result 1000 1000000000000 c.read_rate.ensures (omega arith) c.within.ensures.value c.within.ensures.range

pub returns-clause-good : goal.returns-clause-good
returns-clause-good c =
    let same = ap (fault_within 1000 1000000000000) c.read_rate.ensures ∙ within_capped 1000 1000000000000 (bit_rate_of c.args.text.now) (omega arith) in
    IfOk-weaker c.within.result _ _ (λ v good. sym same ∙ good) c.within.ensures.good

pub returns-clause-fault : goal.returns-clause-fault
returns-clause-fault c =
    let same = ap (fault_within 1000 1000000000000) c.read_rate.ensures ∙ within_capped 1000 1000000000000 (bit_rate_of c.args.text.now) (omega arith) in
    IfErr-weaker c.within.result _ _ (λ f h. subst (λ (o : Option ValueFault). IsOfValue Rate o f) same h) c.within.ensures.fault
