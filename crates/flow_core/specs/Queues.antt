-- What callers see of the queues of all flows.
use Rattle.std.specs.Prelude.{ℕ, List}
use Rattle.packet_core.specs.declared.packet.Waiting.{Waiting}

-- the packets that wait in each flow, those of flow 0 first, and for how many packets there is memory
pub record Queues : Type 0 where
  pub queues : List (List Waiting)
  pub capacity : ℕ
