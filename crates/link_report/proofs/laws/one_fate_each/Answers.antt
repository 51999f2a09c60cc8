use Rattle.link_report.proofs.FateLemmas.{dropped_once, packets_known, sent_once, tuples_known, unnamed_waits}
use Rattle.link_report.proofs.laws.one_fate_each.Goals as goal

pub returns-clause-packets : goal.returns-clause-packets
returns-clause-packets c = λ events ids follow once. packets_known events ids follow once

pub returns-clause-tuples : goal.returns-clause-tuples
returns-clause-tuples c = λ events. tuples_known events

pub returns-clause-sent : goal.returns-clause-sent
returns-clause-sent c = λ events before behind id moment ecn mark once is. sent_once events before behind id moment ecn mark once is

pub returns-clause-dropped : goal.returns-clause-dropped
returns-clause-dropped c = λ events before behind id moment cause once is. dropped_once events before behind id moment cause once is

pub returns-clause-waiting : goal.returns-clause-waiting
returns-clause-waiting c = λ events id none. unnamed_waits 0 events id none
