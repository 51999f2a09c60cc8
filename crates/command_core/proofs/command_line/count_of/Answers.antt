use Rattle.std.proofs.Common.{◌∙◌, rules, sym}
use Rattle.std.specs.Str.Parse.{ExplainsUnsignedError, HasUnsignedDigitsIfOk, ParsesUnsigned}
use Rattle.clap.proofs.WalkLemmas.{one_text-rows}
use Rattle.clap.specs.Words.{found_of}
use Rattle.command_core.proofs.CommandLineLemmas.{count_read, count_unread}
use Rattle.command_core.proofs.command_line.count_of.Goals as goal

pub returns-in-Some : goal.returns-in-Some
returns-in-Some c =
    let rows = one_text-rows (found_of c.args.matches.now) c.args.option.now in
    count_read (λ bs r. ParsesUnsigned 32 10 bs r × ExplainsUnsignedError 10 bs r × HasUnsignedDigitsIfOk bs r) _ _ _ _ c.in-Some.count
    (λ u x g. g.0) (λ is. sym c.in-Some.is ∙ c.get_one.ensures.none (rows ∙ is)) (λ t is. rw c.in-Some.is at c.get_one.ensures.value t (rows ∙ is))
    (search rules) (search rules)

pub returns-in_default : goal.returns-in_default
returns-in_default c =
    let rows = one_text-rows (found_of c.args.matches.now) c.args.option.now in
    count_unread (λ bs r. ParsesUnsigned 32 10 bs r × ExplainsUnsignedError 10 bs r × HasUnsignedDigitsIfOk bs r) _ _ _ _ c.get_one.result (search rules) c.requires
    (λ u x g. g.0) (λ t is. c.get_one.ensures.value t (rows ∙ is))
    (λ n is low high. search (rules, is))

pub returns-in_default-2 : goal.returns-in_default-2
returns-in_default-2 c =
    let rows = one_text-rows (found_of c.args.matches.now) c.args.option.now in
    count_unread (λ bs r. ParsesUnsigned 32 10 bs r × ExplainsUnsignedError 10 bs r × HasUnsignedDigitsIfOk bs r) _ _ _ _ c.get_one.result (search rules) c.requires
    (λ u x g. g.0) (λ t is. c.get_one.ensures.value t (rows ∙ is))
    (λ n is low high. search (rules, is))
