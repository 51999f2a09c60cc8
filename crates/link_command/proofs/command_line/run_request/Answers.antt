use Rattle.std.proofs.Common.{ap, codes, refl, ◌∙◌}
use Rattle.clap.specs.Words.{found_of}
use Rattle.clap.proofs.WalkLemmas.{first_value-rows}
use Rattle.link_command.specs.CommandLine.{table_named}
use Rattle.link_command.proofs.RequestLemmas.{rate_text, some_same}
use Rattle.link_command.proofs.command_line.run_request.Goals as goal

pub returns : goal.returns
returns c =
    let found = found_of c.args.matches.now in
    let rate = rate_text c.get_str.result c.unwrap_or.result _ _ c.unwrap_or.ensures refl (c.get_str.ensures ∙ first_value-rows found (codes "rate")) in
    let overhead = c.get_str-2.ensures ∙ first_value-rows found (codes "overhead") in
    let mpu = c.get_str-3.ensures ∙ first_value-rows found (codes "mpu") in
    let seed = c.get_str-4.ensures ∙ first_value-rows found (codes "seed") in
    let every = c.get_str-5.ensures ∙ first_value-rows found (codes "every") in
    let fifo = c.is_some.ensures ∙ some_same c.get_str-6.result _ (c.get_str-6.ensures ∙ first_value-rows found (codes "compare")) in
    let table = c.table_named.ensures ∙ ap table_named (c.get_str-7.ensures ∙ first_value-rows found (codes "write")) in
    λ i. record {
      rate = rate i;
      overhead = overhead i;
      mpu = mpu i;
      seed = seed i;
      every = every i;
      has_fifo = fifo i;
      table = table i;
      parameters = c.in_ok-parameters.ensures i;
    }
