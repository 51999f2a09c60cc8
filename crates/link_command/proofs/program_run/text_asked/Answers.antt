use Rattle.std.proofs.Common.{◌≡◌, Err, inl, inr, map, refl, rules}
use Rattle.std.proofs.lemmas.Result.{IfErr-weaker, IfOk-weaker}
use Rattle.link_command.specs.CommandLine.{texts_of}
use Rattle.link_command.proofs.RunLemmas.{parse_fails, run_fails}
use Rattle.link_command.proofs.program_run.text_asked.Goals as goal

pub returns-in_err-request-clause-fault : goal.returns-in_err-request-clause-fault
returns-in_err-request-clause-fault g c =
    let err : c.from_residual.result ≡ Err c.in_err-request.field-0.0 = search rules in
    rw err (parse_fails _ (map (λ w. w.now) c.args.words.now) (g.R.Source.remaining c.args.reader.now) c.in_err-request.field-0.0 c.in_err-request.ensures.fault c.in_err-request.ensures.mistake)

pub returns-in-Run-clause-text : goal.returns-in-Run-clause-text
returns-in-Run-clause-text g c =
    IfOk-weaker c.run_text.result _ _ (λ report h. inl (texts_of c.in-Run.request, c.in_ok-request.ensures.run c.in-Run.request c.in-Run.is, h)) c.run_text.ensures.text

pub returns-in-Run-clause-fault : goal.returns-in-Run-clause-fault
returns-in-Run-clause-fault g c =
    IfErr-weaker c.run_text.result _ _
    (λ why h. run_fails _ (map (λ w. w.now) c.args.words.now) (texts_of c.in-Run.request) (g.R.Source.remaining c.args.reader.now) why (c.in_ok-request.ensures.run c.in-Run.request c.in-Run.is) h)
    c.run_text.ensures.fault

pub returns-in-Text-clause-text : goal.returns-in-Text-clause-text
returns-in-Text-clause-text g c = inr (c.in_ok-request.ensures.text c.in-Text.text c.in-Text.is)

pub returns-in-Run-clause-note : goal.returns-in-Run-clause-note
returns-in-Run-clause-note g c =
    IfOk-weaker c.run_text.result _ _ (λ report h. inl (texts_of c.in-Run.request, c.in_ok-request.ensures.run c.in-Run.request c.in-Run.is, h)) c.run_text.ensures.note

pub returns-in-Text-clause-note : goal.returns-in-Text-clause-note
returns-in-Text-clause-note g c = inr (c.in_ok-request.ensures.text c.in-Text.text c.in-Text.is, c.new.ensures.items)

pub returns-in_err-request-clause-unread : goal.returns-in_err-request-clause-unread
returns-in_err-request-clause-unread g c = inr refl

pub returns-in-Text-clause-unread : goal.returns-in-Text-clause-unread
returns-in-Text-clause-unread g c = inr refl

pub returns-in-Run-clause-unread : goal.returns-in-Run-clause-unread
returns-in-Run-clause-unread g c = elim c.run_text.ensures.unread [
  | inl said ↦ inl (texts_of c.in-Run.request, c.in_ok-request.ensures.run c.in-Run.request c.in-Run.is, said.0, said.1)
  | inr same ↦ inr same
]
