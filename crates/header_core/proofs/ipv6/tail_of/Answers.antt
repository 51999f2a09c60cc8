-- What stands at the place decides.
use Rattle.std.proofs.Common.{◌∙◌, ℕ, ap}
use Rattle.header_core.specs.Chains.{kind_at}
use Rattle.header_core.specs.Ipv6Headers.{tail_by, tail_of}
use Rattle.header_core.proofs.ipv6.tail_of.Goals as goal

pub returns-in-Part : goal.returns-in-Part
unfolding tail_of
returns-in-Part c =
    let bytes = c.args.bytes.now in
    c.part_tail.ensures c.args.instead
    ∙ ap (tail_by bytes c.args.instead c.args.end) (c.in-Part.ensures.kind ∙ ap (λ (n : ℕ). kind_at bytes n c.args.end) c.ipv6_length-len.ensures)
