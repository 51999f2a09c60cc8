use Rattle.header_core.proofs.PaddingLaw.{ignores_padding}
use Rattle.header_core.proofs.laws.padding_is_ignored.Goals as goal

pub returns : goal.returns
returns c = ignores_padding
