use Rattle.std.proofs.Common.{◌∙◌, [], arith, inr, refl, sym}
use Rattle.csv.specs.Reading.{Reached, strip_bom}
use Rattle.row_core.specs.Traces.{HasRead, rows_of_records}
use Rattle.row_core.proofs.reader.TraceRows.new.Goals as goal

pub returns : goal.returns
unfolding Reached rows_of_records
returns c =
    let reader = c.from_reader.ensures in
    let flexible = c.flexible.ensures in
    let headers = c.has_headers.ensures in
    let read : HasRead c.args.text.now c.from_reader.result [] =
    record {
      trim = rw (flexible, headers) at reader.trim ∙ c.new.ensures.trim;
      ready = inr (inr (rw (flexible, headers) at reader.has_headers, reader.headers));
      flexible = rw flexible at reader.flexible;
      config = rw (flexible, headers) at reader.config ∙ c.new.ensures.config;
      rest = strip_bom c.args.text.now;
      source = reader.source;
      reached = (sym reader.state, refl);
    } in
    record { small = c.requires; before = []; read = read; many = omega arith; asked = refl }
