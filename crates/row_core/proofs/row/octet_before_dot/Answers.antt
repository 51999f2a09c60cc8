use Rattle.std.proofs.Common.{◌≡◌, ◌∙◌, ◌∷◌, [], Some, arith, get_or, refl, rules, sym}
use Rattle.std.proofs.lemmas.List.{take_rest}
use Rattle.row_core.specs.Rows.{octet_of}
use Rattle.row_core.proofs.OctetLemmas.{dot_second, dot_third, dot_fourth}
use Rattle.row_core.proofs.row.octet_before_dot.Goals as goal

pub returns-then-text-ne46 : goal.returns-then-text-ne46
returns-then-text-ne46 c =
    let text = c.args.text.now in
    let is : octet_of (get_or text 0 0 ∷ []) ≡ Some c.in_ok-one_digit.field-0 = sym c.one_digit.ensures ∙ c.in_ok-one_digit.was {u = tt} in
    rw (dot_second text (omega arith) (search rules) (search rules), is, take_rest) refl

pub returns-then-text-ne46-3 : goal.returns-then-text-ne46-3
returns-then-text-ne46-3 c =
    let text = c.args.text.now in
    let is : octet_of (get_or text 0 0 ∷ get_or text 1 0 ∷ []) ≡ Some c.in_ok-two_digits.field-0 = sym c.two_digits.ensures ∙ c.in_ok-two_digits.was {u = tt} in
    rw (dot_third text (omega arith) (search rules) (search rules) (search rules), is, take_rest) refl

pub returns-then-text-ne46-6 : goal.returns-then-text-ne46-6
returns-then-text-ne46-6 c =
    let text = c.args.text.now in
    let is : octet_of (get_or text 0 0 ∷ get_or text 1 0 ∷ get_or text 2 0 ∷ []) ≡ Some c.in_ok-three_digits.field-0 = sym c.three_digits.ensures ∙ c.in_ok-three_digits.was {u = tt} in
    rw (dot_fourth text (omega arith) (search rules) (search rules) (search rules) (search rules), is, take_rest) refl
