use Rattle.std.proofs.Common.{ap, sym, ◌∙◌}
use Rattle.queue_disc_core.specs.QueueDiscKept.{disc_state_of}
use Rattle.queue_disc_core.specs.QueueDiscs.{DiscState, unrenewed}
use Rattle.queue_disc_core.proofs.QueueDiscCalls.{noted, on_err, on_ok}
use Rattle.queue_disc_core.proofs.queue_disc.QueueDisc.accept_anew.Goals as goal

pub returns-clause-made : goal.returns-clause-made
returns-clause-made c =
    let after = disc_state_of c.self.inside in
    noted c.args.self.now c.renew-renewed.new.self c.accept.new.self _ c.args.moment c.args.packet c.in_ok-said.said c.is_ok.result
    (λ is. on_ok c.renew-renewed.result (sym c.is_ok.ensures.value ∙ is) c.renew-renewed.ensures.made)
    (λ is. on_err c.renew-renewed.result (sym c.is_ok.ensures.value ∙ is) c.renew-renewed.ensures.refused)
    (λ is. (λ i. record after { packets = c.note_renewal.ensures.made is i }) ∙ c.self.view_is)
    (λ is. (λ i. record after { packets = c.note_renewal.ensures.refused is i }) ∙ ap (λ (s : DiscState). unrenewed s c.args.moment) c.self.view_is)
    c.requires.due c.in_ok-said.ensures.made
