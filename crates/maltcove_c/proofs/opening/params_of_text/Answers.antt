use Rattle.std.proofs.Common.{map}
use Rattle.maltcove_c.proofs.opening.params_of_text.Goals as goal
use Rattle.maltcove_c.proofs.Openings.{said_by, wrong_by}

pub returns-clause-said : goal.returns-clause-said
returns-clause-said c =
    said_by c.args.text.now (λ w. map (λ word. word.now) w.items) c.words_of.result c.params_from.result c.words_of.ensures c.params_from.ensures.none c.params_from.ensures.said

pub returns-clause-wrong : goal.returns-clause-wrong
returns-clause-wrong c =
    wrong_by c.args.text.now (λ w. map (λ word. word.now) w.items) c.words_of.result c.params_from.result c.utf8.text c.words_of.ensures c.params_from.ensures.none c.params_from.ensures.wrong
