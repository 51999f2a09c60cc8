use Rattle.std.proofs.Common.{arith}
use Rattle.link_core.proofs.SentWhole.{rounded}
use Rattle.link_core.proofs.free_at.FreeAt.rounded_up.Goals as goal

pub returns : goal.returns
returns c = rw (c.div_ceil.ensures, c.rate.ensures.value) (rounded c.args.self.moment c.args.self.rest c.args.link.now.rate (omega (arith, c.rate.ensures.range.0, c.rate.ensures.value)))
