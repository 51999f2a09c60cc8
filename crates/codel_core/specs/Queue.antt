use Rattle.std.specs.Prelude.{ℕ, ◌+◌, ◌<◌, ◌≤◌, List, drop, slice_get, sum_by, Option, Some, None, IsSomeAnd, Bool, true, false, IsTrue, nat_lt, ◌&&◌}
use Rattle.packet_core.specs.declared.packet.Waiting.{Waiting}
use Rattle.packet_core.specs.declared.packet.Ecn.{Ecn}
use Rattle.packet_core.specs.declared.packet.Ecn.TheVariants.{NotEct, Ect1, Ect0, Ce}
use Rattle.packet_core.specs.declared.params.EcnUse.{EcnUse}
use Rattle.packet_core.specs.declared.params.EcnUse.TheVariants as ecn
use Rattle.packet_core.specs.declared.params.ParamFields.{ParamFields}

-- the lengths of waiting packets, added up
abbrev pub bytes_of : List Waiting → ℕ
bytes_of q = sum_by (λ w. w.packet.len) q

-- a packet that has waited for the target at least, with more than mtu bytes behind it (RFC 8289, section 5.6)
abbrev pub IsLateBefore : ParamFields → ℕ → Waiting → List Waiting → Type 0
IsLateBefore p now w behind = (w.stamp + p.target ≤ now) × (p.mtu < bytes_of behind)

-- the same, with so many bytes behind it
abbrev pub IsLateWith : ParamFields → ℕ → Waiting → ℕ → Type 0
IsLateWith p now w behind = (w.stamp + p.target ≤ now) × (p.mtu < behind)

-- place j of the queue exists, and its packet is late
abbrev pub IsLate : ParamFields → ℕ → List Waiting → ℕ → Type 0
IsLate p now q j = IsSomeAnd (slice_get q j) (λ w. IsLateBefore p now w (drop (j + 1) q))

-- that moment is set, and it has come
abbrev pub HasCome : Option ℕ → ℕ → Type 0
HasCome first_above now = IsSomeAnd first_above (λ t. t ≤ now)

-- the packet at place j is late, and packets have been late for an interval
abbrev pub IsDroppable : ParamFields → ℕ → List Waiting → Option ℕ → ℕ → Type 0
IsDroppable p now q first_above j = IsLate p now q j × HasCome first_above now

-- marks are made, and the sender of a packet with that field takes part (RFC 3168, section 5)
abbrev pub is_markable : EcnUse → Ecn → Bool
is_markable ecn.Drop field = false
is_markable ecn.Mark NotEct = false
is_markable ecn.Mark Ect1 = true
is_markable ecn.Mark Ect0 = true
is_markable ecn.Mark Ce = true

-- the sender of a packet with that field takes part, and nobody marked it before: ECT(1) or ECT(0) (RFC 3168, section
-- 5)
abbrev pub is_ect : Ecn → Bool
is_ect NotEct = false
is_ect Ect1 = true
is_ect Ect0 = true
is_ect Ce = false

-- a packet that came at that moment has waited longer than the threshold, where there is one
abbrev pub has_waited_past : Option ℕ → ℕ → ℕ → Bool
has_waited_past None stamp now = false
has_waited_past (Some threshold) stamp now = nat_lt (stamp + threshold) now

-- the packet is one that the threshold marks, whatever is made of CoDel's own marks (RFC 8290, section 5.2.7)
abbrev pub is_past_threshold : ParamFields → ℕ → Waiting → Bool
is_past_threshold p now w = has_waited_past p.ce_threshold w.stamp now && is_ect w.packet.ecn

-- place j of the queue exists, and its packet may be marked
abbrev pub IsMarkableAt : ParamFields → List Waiting → ℕ → Type 0
IsMarkableAt p q j = IsSomeAnd (slice_get q j) (λ w. IsTrue (is_markable p.ecn w.packet.ecn))
