use Rattle.std.proofs.Common.{◌≡◌, ◌+◌, ◌-◌, ◌≤◌, ◌∙◌, ap, arith, drop, length, length-append, set, sym}
use Rattle.std.specs.Fmt.{decimal}
use Rattle.std.proofs.lemmas.Fmt.{length-decimal-le}
use Rattle.std.proofs.lemmas.List.{length-drop, length-set}
use Rattle.text_core.proofs.address.AddressText.put_before.Goals.{After-from}
use Rattle.text_core.proofs.address.AddressText.put_before.Goals as goal

-- a number below 256 has three digits at most
few_digits : (c : After-from) → length (decimal c.from.result) ≤ 3
few_digits c = length-decimal-le 3 c.from.result (omega arith) (omega (arith, c.from.ensures, c.ranges.number.fits)) (omega (arith, c.from.ensures, c.ranges.number.fits))

-- the text so far reaches to the end of the bytes
size_of : (c : After-from) → length c.args.self.now ≡ 32 - c.self.inside.start
size_of c = ap length (sym c.self.view_is) ∙ length-drop c.self.inside.start c.self.inside.bytes ∙ ap (λ n. n - c.self.inside.start) c.self.told

pub write_digits-self-inside-requires : goal.write_digits-self-inside-requires
write_digits-self-inside-requires c =
    let from = (goal.at.write_digits-self-inside-requires c).After-from in
    let long = length-set c.self.inside.bytes (c.self.inside.start - 1) 46 in
    (omega (arith, few_digits from, size_of from, c.requires), omega (arith, long, c.self.told, c.self.invariant))

pub returns-clause-few : goal.returns-clause-few
returns-clause-few c =
    let from = (goal.at.returns-clause-few c).After-from in
    let dot = c.self.inside.start - 1 in
    let bytes = set c.self.inside.bytes dot 46 in
    let long = length-set c.self.inside.bytes dot 46 in
    let size : length (drop c.write_digits-self-inside.result c.write_digits-self-inside.new.buf) ≡ length (decimal c.from.result) + length (drop dot bytes) =
    ap length c.write_digits-self-inside.ensures.written ∙ length-append (decimal c.from.result) (drop dot bytes) in
    omega (arith, size, length-drop dot bytes, long, few_digits from, size_of from, c.requires, c.self.told)
