-- The choice of a packet's flow.
use Rattle.std.specs.Prelude.{ℕ, ◌%◌}
use Rattle.packet_core.specs.FlowNumber.{flow_number}
use Rattle.packet_core.specs.declared.flow.Seed.{Seed}
use Rattle.packet_core.specs.declared.packet.FiveTuple.{FiveTuple}
use Rattle.packet_core.specs.declared.params.Classify.{Classify}
use Rattle.packet_core.specs.declared.params.Classify.TheVariants as classify
use Rattle.sched_core.specs.declared.classifier.Classifier.{Classifier}
use Rattle.sched_core.specs.declared.classifier.Classifier.TheVariants.{Port, Hash}

-- the choice in that way, of so many flows, with that seed
abbrev pub classifier_by : Classify → ℕ → Seed → Classifier
classifier_by classify.Hash flows seed = Hash (record { flows = flows; seed = seed })
classifier_by classify.Dport flows seed = Port flows

-- the flow that it gives a five-tuple
abbrev pub flow_by : Classifier → FiveTuple → ℕ
flow_by (Port flows) tuple = tuple.dport % flows
flow_by (Hash h) tuple = flow_number classify.Hash h.flows h.seed tuple
