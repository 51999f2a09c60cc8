use Rattle.std.proofs.Common.{◌∙◌, sym}
use Rattle.std.proofs.lemmas.Bool.{true≢false}
use Rattle.queue_disc_core.proofs.QueueDiscCalls.{made_plain}
use Rattle.queue_disc_core.proofs.queue_disc.QueueDisc.admit.Goals as goal

pub returns-clause-made : goal.returns-clause-made
returns-clause-made c =
    made_plain c.args.self.now c.args.moment c.args.packet c.accept.new.self c.accept.result
    (λ due soon later. true≢false (sym (c.is_due.ensures.always due soon later) ∙ c.if-is_due.false)) c.accept.ensures.fits c.accept.ensures.made
