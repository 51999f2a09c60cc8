use Rattle.sender_core.proofs.interleaving.is_whole.Goals as goal

pub returns-then-queued-eq0-clause-whole : goal.returns-then-queued-eq0-clause-whole
returns-then-queued-eq0-clause-whole c few calls_of are so closed waits = c.is_interleaving.ensures.whole few calls_of are (rw c.steps.ensures.value so)
