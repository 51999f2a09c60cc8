use Rattle.std.proofs.Common.{refl}
use Rattle.maltcove_c.proofs.opening.maltcove_raw_open.Goals as goal
use Rattle.maltcove_c.proofs.FaultPlaces.{nothing_within, refusal_within}

pub returns-in-Ok-clause-within : goal.returns-in-Ok-clause-within
returns-in-Ok-clause-within c none = nothing_within c.args.words.now c.disc_said.new.fault (c.in-Ok.ensures.told refl)

pub returns-in-Err-clause-within : goal.returns-in-Err-clause-within
returns-in-Err-clause-within c none =
    refusal_within c.args.words.now c.args.seed.now c.disc_said.new.fault c.in-Err.code c.in-Err.ensures.refused
