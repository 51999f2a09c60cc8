-- The words that are left say the rest of what all of them say.
use Rattle.std.proofs.Common.{◌≡◌, ◌≤◌, ◌+◌, ◌-◌, None, length}
use Rattle.packet_core.specs.Words.{params_of_words, read_from}
use Rattle.packet_core.proofs.WordLemmas.{texts}
use Rattle.packet_core.proofs.words.read_params.Given as goal

abbrev pub invariant-loop-rest : goal.invariant-loop-rest
invariant-loop-rest l = record {
  within : length l.rest ≤ length l.words;
  reading : params_of_words (texts l.words) ≡ read_from (length l.words - length l.rest + 1) None l.params (texts l.rest);
}

abbrev pub decreases-loop-rest : goal.decreases-loop-rest
decreases-loop-rest l = length l.rest
