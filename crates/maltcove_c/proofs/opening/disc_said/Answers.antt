use Rattle.maltcove_c.proofs.opening.disc_said.Goals as goal
use Rattle.maltcove_c.proofs.Openings.{refused_by}

pub returns-clause-refused : goal.returns-clause-refused
returns-clause-refused c =
    refused_by c.args.words.now c.args.seed.now c.params_in-params.result c.disc_of.result c.disc_of.new.fault c.params_in-params.ensures.said c.params_in-params.ensures.text c.params_in-params.ensures.wrong c.disc_of.ensures.none c.disc_of.ensures.told c.disc_of.ensures.refused
