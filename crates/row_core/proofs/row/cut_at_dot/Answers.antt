use Rattle.std.proofs.Common.{ℕ, ◌==◌, length, arith, rules}
use Rattle.std.proofs.lemmas.List.Sums.{position_or_len_is}
use Rattle.std.proofs.lemmas.List.{take_rest}
use Rattle.row_core.specs.Rows.{cut_of}
use Rattle.row_core.proofs.row.cut_at_dot.Goals as goal

pub returns-in_err-place : goal.returns-in_err-place
unfolding cut_of
returns-in_err-place c =
    let none = position_or_len_is (λ (b : ℕ). b == 46) c.args.text.now (length c.args.text.now) 0 (omega arith) (search rules) (search rules) in
    rw (none) (search rules)

pub returns : goal.returns
unfolding cut_of
returns c =
    let found = position_or_len_is (λ (b : ℕ). b == 46) c.args.text.now c.in_ok-place.place 0 (search rules) (search rules) (search rules) in
    rw (found, take_rest) (search rules)
