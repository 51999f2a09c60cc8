use Rattle.link_command.proofs.CountLemmas.{digits_end}
use Rattle.link_command.proofs.counts.split_digits.Goals as goal

pub split_at-requires : goal.split_at-requires
split_at-requires c = digits_end c.args.text.now c.digits_in_front-digits.result c.utf8.text (rw c.as_bytes.ensures.value at c.digits_in_front-digits.ensures)
