use Rattle.maltcove_c.proofs.opening.words_of.Goals as goal
use Rattle.maltcove_c.proofs.WordLemmas.{collected}

pub returns : goal.returns
returns c = rw (← c.split_ascii_whitespace.ensures.text) (collected (λ v. v.items) _ _ c.collect.result c.split_ascii_whitespace.result (λ v. tt) (λ v xs g. g.0) c.collect.ensures.ran)
