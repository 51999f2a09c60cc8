use Rattle.std.proofs.Common.{◌≡◌, ◌+◌, ◌++◌, ◌∷◌, [], take, refl, ap, ◌∙◌, sym}
use Rattle.journal_core.proofs.Words.{take_more, Event, Acceptance, acceptance_of, acceptances}
use Rattle.journal_core.proofs.EventLemmas.{filter_map_push, filter_map_same}
use Rattle.journal_core.proofs.TallyLemmas.{nothing_accepted}
use Rattle.journal_core.proofs.tuple_rows.RowsByTuple.add.Goals as goal

pub returns-in_ok-accept : goal.returns-in_ok-accept
returns-in_ok-accept c =
    let accepted = c.in-Accepted in
    let a : Acceptance = record { id = accepted.id; moment = accepted.moment; lane = accepted.lane; flow = accepted.flow; packet = accepted.packet } in
    let seen = take c.args.place c.args.events.now in
    let more : acceptances (take (c.args.place + 1) c.args.events.now) ≡ acceptances seen ++ a ∷ [] =
    ap acceptances (take_more c.args.events.now c.args.place _ c.requires.within ∙ ap (λ (e : Event). seen ++ e ∷ []) accepted.is) ∙ filter_map_push acceptance_of seen _ a refl in
    rw more (c.in_ok-accept.ensures {u = tt} (acceptances seen) a (sym c.tuple.ensures) refl c.requires.before)

pub returns-in_default : goal.returns-in_default
returns-in_default c =
    let seen = take c.args.place c.args.events.now in
    let same : acceptances (take (c.args.place + 1) c.args.events.now) ≡ acceptances seen =
    ap acceptances (take_more c.args.events.now c.args.place _ c.requires.within) ∙ filter_map_same acceptance_of seen _ (nothing_accepted _ c.in_default.not-Accepted) in
    rw same c.requires.before
