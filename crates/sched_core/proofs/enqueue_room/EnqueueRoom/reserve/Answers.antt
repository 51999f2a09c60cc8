use Rattle.sched_core.proofs.EnqueueRoomLemmas.{takes_none}
use Rattle.sched_core.proofs.enqueue_room.EnqueueRoom.reserve.Goals as goal

pub returns-then-enqueues-self-clause-memory : goal.returns-then-enqueues-self-clause-memory
returns-then-enqueues-self-clause-memory g c = rw c.promise.ensures.enqueues (takes_none _ _ _)
