use Rattle.std.proofs.Common.{◌∙◌, inl, sym}
use Rattle.csv.proofs.ReadFacts.{rows-end, rows-more}
use Rattle.csv.specs.Reading.{default_config, error_kind, strip_bom}
use Rattle.csv.specs.Records.{fields_of}
use Rattle.csv.specs.declared.parser.State.TheVariants as st
use Rattle.row_core.proofs.RecordLemmas.{all_records, io_alone, memory_stops}
use Rattle.row_core.specs.Traces.{text_left}
use Rattle.row_core.proofs.reader.next_record.Goals as goal

pub returns-in-Ok-clause-more : goal.returns-in-Ok-clause-more
returns-in-Ok-clause-more g c = λ found text before h.
    let read = rw found at (c.in-Ok.ensures.reads h.trim h.ready) in
    let next = rows-more text_left c.args.reader.now c.read_record.new.reader (fields_of c.read_record.new.row) default_config st.StartRecord (strip_bom text) h.rest before h.config h.source h.reached read in
    record { trim = read.3 ∙ h.trim; ready = inl (c.in-Ok.ensures.ready h.trim); flexible = c.in-Ok.ensures.flexible ∙ h.flexible; config = read.2 ∙ h.config; rest = next.0; source = next.1; reached = next.2 }

pub returns-in-Ok-clause-end : goal.returns-in-Ok-clause-end
returns-in-Ok-clause-end g c = λ found text before h.
    let read = rw found at (c.in-Ok.ensures.reads h.trim h.ready) in
    all_records text c.args.reader.now before h (rows-end text_left c.args.reader.now c.read_record.new.reader (fields_of c.read_record.new.row) default_config h.rest h.config h.source read)

pub returns-in-Err-clause-failed : goal.returns-in-Err-clause-failed
returns-in-Err-clause-failed g c = λ is_read text before h.
    let why = c.in-Err.ensures.why h.ready in
    let io = io_alone (error_kind c.in-Err.error) c.args.reader.now c.read_record.new.reader h.flexible why (sym c.fault_of.ensures ∙ is_read) in
    record { old = c.args.reader.now; stood = h; error = c.in-Err.error; answered = rw (← c.in-Err.is) c.read_record.ensures.cut; why = why; io = io.0; failed = c.in-Err.ensures.fails ∙ io.1 }

pub returns-in-Err-clause-memory : goal.returns-in-Err-clause-memory
returns-in-Err-clause-memory g c = λ memory. c.in-Err.ensures.fails ∙ memory_stops (error_kind c.in-Err.error) (sym c.fault_of.ensures ∙ memory)
