use Rattle.std.proofs.Common.{◌≡◌, ◌∙◌, Some, ap, rules, slice_get}
use Rattle.std.proofs.lemmas.Bool.{false≢true}
use Rattle.journal_core.specs.Tallies.{tuples_of}
use Rattle.journal_core.proofs.SeenLemmas.{stands_nowhere, stands_where}
use Rattle.journal_core.proofs.tally.Tally.stands_at.Goals as goal

pub returns-in-Some : goal.returns-in-Some
returns-in-Some c =
    let is = c.in-Some.ensures.lookup in
    let at : slice_get (tuples_of c.args.self.now.seen.items) c.args.place ≡ Some c.in-Some.seen.now.tuple = rw c.deref.ensures.value at (stands_where c.deref.result.now c.args.place c.in-Some.seen.now is.3.0 is.1) in
    (λ t. at ∙ ap (λ e. Some e) (search rules), λ e. let same : c.in-Some.seen.now.tuple ≡ c.args.tuple.now = cc in search rules)

pub returns-in-None : goal.returns-in-None
returns-in-None c =
    let is = c.in-None.ensures.lookup in
    let none = rw c.deref.ensures.value at (stands_nowhere c.deref.result.now c.args.place is.3) in
    (λ t. absurd (false≢true t), λ e. absurd cc)
