-- A list that stands in proofs alone owns nothing, so it may go to another thread.
use denote.RattleType.{RattleType}
use denote.Param.Send.{IsSend}
use Rattle.journal_core.specs.contracts.ghost_list.GhostList.{the_row}

pub send : (T : RattleType) → IsSend (the_row T)
send T = record { owned = λ d vs. ((λ vss. (tt, ((λ uss. (tt, tt)), tt))), tt); leaving = λ k f vs. tt }
