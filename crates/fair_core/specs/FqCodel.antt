use Rattle.packet_core.specs.FlowNumber.{flow_number}
use Rattle.packet_core.specs.declared.flow.Seed.{Seed}
use Rattle.packet_core.specs.declared.params.ParamFields.{ParamFields}
use Rattle.codel_core.specs.Verdict.{Decides}
use Rattle.journal_core.specs.Disciplines.{Discipline}
use Rattle.fair_core.specs.FairQueueing.{fair_queueing}
use Rattle.fair_core.specs.FairQueues.{FairQueues}
use Rattle.fair_core.specs.Overflow.{Overflow}
use Rattle.fair_core.specs.Turns.{Policy}

-- CoDel drops from the queue that is served (RFC 8289, section 5), and the fattest flow loses packets where too much
-- waits.
abbrev pub fq_codel_policy : ParamFields → Policy
fq_codel_policy p = record {
  quantum = p.quantum;
  verdict = λ now queue codel drops mark codel'. Decides p now queue codel drops mark codel';
  overflow = λ queues batches queues'. Overflow p queues batches queues';
}

-- FQ-CoDel with those parameters and that seed (RFC 8290)
abbrev pub fq_codel : ParamFields → Seed → Discipline FairQueues
fq_codel p seed = fair_queueing (fq_codel_policy p) p.flows (flow_number p.classify p.flows seed)
