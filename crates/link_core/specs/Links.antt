use Rattle.std.specs.Prelude.{ℕ, ◌+◌, ◌*◌, ◌≤◌, max}
use Rattle.link_core.specs.declared.link.LinkFields.{LinkFields}
use Rattle.link_core.specs.declared.link.LinkName.{LinkName}
use Rattle.link_core.specs.declared.link.LinkName.TheVariants.{Rate, Overhead, Mpu}

-- in bits per second
abbrev pub IsRateInRange : ℕ → Type 0
IsRateInRange n = (1000 ≤ n) × (n ≤ 1000000000000)

-- in bytes
abbrev pub IsOverheadInRange : ℕ → Type 0
IsOverheadInRange n = n ≤ 1000

-- in bytes
abbrev pub IsMpuInRange : ℕ → Type 0
IsMpuInRange n = n ≤ 65535

-- each field is in its range
pub record IsLink (l : LinkFields) : Type 0 where
  pub rate : IsRateInRange l.rate
  pub overhead : IsOverheadInRange l.overhead
  pub mpu : IsMpuInRange l.mpu

-- that field is the first one that is out of its range
abbrev pub IsFirstLinkFault : LinkName → LinkFields → Type 0
IsFirstLinkFault Rate l = ¬ IsRateInRange l.rate
IsFirstLinkFault Overhead l = IsRateInRange l.rate × ¬ IsOverheadInRange l.overhead
IsFirstLinkFault Mpu l = IsRateInRange l.rate × IsOverheadInRange l.overhead × ¬ IsMpuInRange l.mpu

-- the bytes on the wire of a packet of that length
abbrev pub wire : LinkFields → ℕ → ℕ
wire l len = max (len + l.overhead) l.mpu

-- How long the wire takes for it, in units of 1/rate microseconds: a byte has 8 bits, and a second 1,000,000
-- microseconds.
abbrev pub work : LinkFields → ℕ → ℕ
work l len = 8000000 * wire l len
