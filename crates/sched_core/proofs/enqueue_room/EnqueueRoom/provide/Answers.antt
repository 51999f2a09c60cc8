use Rattle.sched_core.proofs.EnqueueRoomLemmas.{takes_none}
use Rattle.sched_core.proofs.enqueue_room.EnqueueRoom.provide.Goals as goal

pub returns-then-self-gt0-clause-memory : goal.returns-then-self-gt0-clause-memory
returns-then-self-gt0-clause-memory g c = takes_none _ _ _
