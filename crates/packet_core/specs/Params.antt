use Rattle.std.specs.Prelude.{◌≡◌, ℕ, ◌≤◌, ◌⊎◌, List, [], ◌∷◌, Option, Some, None, IfSome}
use Rattle.packet_core.specs.declared.params.ParamFields.{ParamFields}
use Rattle.packet_core.specs.declared.params.EcnUse.TheVariants.{Mark}
use Rattle.packet_core.specs.declared.params.Classify.TheVariants.{Hash}
use Rattle.packet_core.specs.declared.params.ParamName.{ParamName}
use Rattle.packet_core.specs.declared.params.ParamName.TheVariants.{Limit, Flows, Quantum, Mtu, Target, Interval, CeThreshold, MemoryLimit, DropBatch}

-- The parameters where nothing else is said (tc-fq_codel(8)): packets, flows, bytes, bytes, microseconds, microseconds,
-- no threshold, no limit of bytes, packets.
abbrev pub standard_fields : ParamFields
standard_fields =
    record {
      limit = 10240;
      flows = 1024;
      quantum = 1514;
      mtu = 1514;
      target = 5000;
      interval = 100000;
      ce_threshold = None;
      memory_limit = None;
      drop_batch = 64;
      ecn = Mark;
      classify = Hash;
    }

-- the parameters that have a range, in the order in which the ranges are tested
abbrev pub ranged : List ParamName
ranged = Limit ∷ Flows ∷ Quantum ∷ Mtu ∷ Target ∷ Interval ∷ CeThreshold ∷ MemoryLimit ∷ DropBatch ∷ []

-- the least and the greatest value of a parameter
abbrev pub range_of : ParamName → ℕ × ℕ
range_of Limit = (1, 1048576)
range_of Flows = (1, 65536)
range_of Quantum = (1, 1000000)
range_of Mtu = (0, 65535)
range_of Target = (0, 1000000000)
range_of Interval = (1, 1000000000)
range_of CeThreshold = (0, 1000000000)
range_of MemoryLimit = (1, 1099511627776)
range_of DropBatch = (1, 1048576)

-- what a parameter is set to, if it is; two of them needn't be
abbrev pub value_of : ParamName → ParamFields → Option ℕ
value_of Limit p = Some p.limit
value_of Flows p = Some p.flows
value_of Quantum p = Some p.quantum
value_of Mtu p = Some p.mtu
value_of Target p = Some p.target
value_of Interval p = Some p.interval
value_of CeThreshold p = p.ce_threshold
value_of MemoryLimit p = p.memory_limit
value_of DropBatch p = Some p.drop_batch

-- a value is one that the parameter can have
abbrev pub IsValueOf : ParamName → ℕ → Type 0
IsValueOf name n = ((range_of name).0 ≤ n) × (n ≤ (range_of name).1)

-- a parameter is in its range, or isn't set
abbrev pub IsInRange : ParamName → ParamFields → Type 0
IsInRange name p = IfSome (value_of name p) (IsValueOf name)

abbrev pub IsLimitInRange : ℕ → Type 0
IsLimitInRange n = IsValueOf Limit n

abbrev pub IsFlowsInRange : ℕ → Type 0
IsFlowsInRange n = IsValueOf Flows n

abbrev pub IsQuantumInRange : ℕ → Type 0
IsQuantumInRange n = IsValueOf Quantum n

abbrev pub IsMtuInRange : ℕ → Type 0
IsMtuInRange n = IsValueOf Mtu n

abbrev pub IsTargetInRange : ℕ → Type 0
IsTargetInRange n = IsValueOf Target n

abbrev pub IsIntervalInRange : ℕ → Type 0
IsIntervalInRange n = IsValueOf Interval n

abbrev pub IsCeThresholdInRange : ℕ → Type 0
IsCeThresholdInRange n = IsValueOf CeThreshold n

abbrev pub IsMemoryLimitInRange : ℕ → Type 0
IsMemoryLimitInRange n = IsValueOf MemoryLimit n

abbrev pub IsDropBatchInRange : ℕ → Type 0
IsDropBatchInRange n = IsValueOf DropBatch n

-- each parameter is in its range
pub record AreInRange (p : ParamFields) : Type 0 where
  pub limit : IsLimitInRange p.limit
  pub flows : IsFlowsInRange p.flows
  pub quantum : IsQuantumInRange p.quantum
  pub mtu : IsMtuInRange p.mtu
  pub target : IsTargetInRange p.target
  pub interval : IsIntervalInRange p.interval
  pub ce_threshold : IfSome p.ce_threshold IsCeThresholdInRange
  pub memory_limit : IfSome p.memory_limit IsMemoryLimitInRange
  pub drop_batch : IsDropBatchInRange p.drop_batch

-- of those parameters, that one is the first that is out of its range
abbrev pub IsFirstOutOf : List ParamName → ParamName → ParamFields → Type 0
IsFirstOutOf [] name p = ⊥
IsFirstOutOf (one ∷ names) name p =
    ((name ≡ one) × ¬ IsInRange one p) ⊎ (IsInRange one p × IsFirstOutOf names name p)

-- that parameter is the first one that is out of its range
abbrev pub IsFirstOutOfRange : ParamName → ParamFields → Type 0
IsFirstOutOfRange name p = IsFirstOutOf ranged name p
