use Rattle.std.specs.Prelude.{◌≢◌, ℕ, ◌<◌, List, [], ◌∷◌, ◌++◌, All, length, get_or, set, replicate, sum_by}
use Rattle.packet_core.specs.declared.packet.Waiting.{Waiting}
use Rattle.codel_core.specs.Queue.{bytes_of}

-- The queues of all flows, that of flow 0 first, and the two lists of flow numbers that a device looks at: the new
-- flows and the old ones (RFC 8290, section 4).
pub record FlowLists : Type 0 where
  pub queues : List (List Waiting)
  pub new_flows : List ℕ
  pub old_flows : List ℕ

-- the same as callers see it, with the number of packets for which there is memory, and how often two flows' bytes were
-- compared since the last clear
pub record Holding : Type 0 where
  pub lists : FlowLists
  pub capacity : ℕ
  pub comparisons : ℕ

-- no packet, and no flow in a list
abbrev pub no_flows : ℕ → FlowLists
no_flows n = record { queues = replicate n []; new_flows = []; old_flows = [] }

-- the packets that wait in a flow, the head first
abbrev pub queue_at : FlowLists → ℕ → List Waiting
queue_at lists flow = get_or lists.queues flow []

-- that queue is the flow's, and the other flows' queues and both lists stay
abbrev pub with_queue : FlowLists → ℕ → List Waiting → FlowLists
with_queue lists flow queue = record lists { queues = set lists.queues flow queue }

-- the number of all packets that wait
abbrev pub waiting_in : FlowLists → ℕ
waiting_in lists = sum_by length lists.queues

-- the lengths of all packets that wait, added up
abbrev pub bytes_in : FlowLists → ℕ
bytes_in lists = sum_by bytes_of lists.queues

-- No number stands twice in the list.
abbrev pub AreDistinct : List ℕ → Type 0
AreDistinct [] = Unit {0}
AreDistinct (n ∷ ns) = All (λ other. other ≢ n) ns × AreDistinct ns

-- The flows in both lists are flows, and each stands there once.
pub record AreListed (lists : FlowLists) : Type 0 where
  pub within : All (λ flow. flow < length lists.queues) (lists.new_flows ++ lists.old_flows)
  pub once : AreDistinct (lists.new_flows ++ lists.old_flows)
