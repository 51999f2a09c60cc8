use Rattle.queue_disc_core.proofs.CallLaws.{given_back_after}
use Rattle.queue_disc_core.proofs.laws.packets_are_given_back_once.Goals as goal

pub returns : goal.returns
returns c = λ p seed renew_after range calls s made. given_back_after p seed renew_after range calls s made
