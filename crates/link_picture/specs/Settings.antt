-- The settings of a run, as its picture shows them: in the words of a command line.
use Rattle.std.specs.Prelude.{ℕ, List, [], ◌++◌, Option, Some, None, codes}
use Rattle.std.specs.Fmt.{decimal}
use Rattle.packet_core.specs.declared.params.Classify.{Classify}
use Rattle.packet_core.specs.declared.params.Classify.TheVariants as classify_use
use Rattle.packet_core.specs.declared.params.EcnUse.{EcnUse}
use Rattle.packet_core.specs.declared.params.EcnUse.TheVariants as ecn_use
use Rattle.packet_core.specs.declared.params.ParamFields.{ParamFields}
use Rattle.link_picture.specs.Wording.{duration_text}

-- the parameters up to `interval`
abbrev pub first_params_text : ParamFields → List ℕ
first_params_text p =
    codes "limit " ++ (decimal p.limit ++ (codes " flows " ++ (decimal p.flows ++ (codes " quantum " ++ (decimal p.quantum
    ++ (codes " mtu " ++ (decimal p.mtu ++ (codes " target " ++ (duration_text p.target
    ++ (codes " interval " ++ duration_text p.interval))))))))))

-- the threshold of marks, and nothing if there is none
abbrev pub threshold_text : Option ℕ → List ℕ
threshold_text None = []
threshold_text (Some time) = codes "ce_threshold " ++ (duration_text time ++ codes " ")

-- the limit of memory, and nothing if there is none
abbrev pub memory_text : Option ℕ → List ℕ
memory_text None = []
memory_text (Some bytes) = codes "memory_limit " ++ (decimal bytes ++ codes " ")

abbrev pub ecn_text : EcnUse → List ℕ
ecn_text ecn_use.Mark = codes "ecn"
ecn_text ecn_use.Drop = codes "noecn"

abbrev pub classify_text : Classify → List ℕ
classify_text classify_use.Hash = codes "hash"
classify_text classify_use.Dport = codes "dport"

-- the parameters after the limit of memory
abbrev pub rest_text : ℕ → EcnUse → Classify → List ℕ
rest_text batch ecn classify =
    codes "drop_batch " ++ (decimal batch ++ (codes " " ++ (ecn_text ecn ++ (codes " classify " ++ classify_text classify))))

-- the parameters after `interval`
abbrev pub last_params_text : ParamFields → List ℕ
last_params_text p =
    threshold_text p.ce_threshold ++ (memory_text p.memory_limit ++ rest_text p.drop_batch p.ecn p.classify)

-- the overhead and the minimum size of packets on the wire, and the width of bins
abbrev pub link_text : ℕ → ℕ → ℕ → List ℕ
link_text overhead mpu every =
    codes "--overhead " ++ (decimal overhead ++ (codes " --mpu " ++ (decimal mpu ++ (codes " --every " ++ duration_text every))))
