use Rattle.std.proofs.Common.{◌≡◌, ℕ, List, Ok, inl, inr, map, option_map, refl, rules, take}
use Rattle.std.specs.Io.KnownBytes.{Appends}
use Rattle.std.proofs.lemmas.Option.{IfSome_then}
use Rattle.packet_core.specs.Words.{params_of_words}
use Rattle.row_core.specs.Streams.{EndsWith, IsReadFailure}
use Rattle.row_core.specs.Traces.{IsFaultOf}
use Rattle.trace_core.specs.Report.{IsReportOf}
use Rattle.program_core.specs.Faults.{run_fault_told}
use Rattle.program_core.proofs.RunLemmas.{err_told, good, plain_fault}
use Rattle.program_core.proofs.program_run.simulate.Goals as goal

pub returns-in_err-seed-clause-reads : goal.returns-in_err-seed-clause-reads
returns-in_err-seed-clause-reads g c = inr refl

pub returns-in_err-params-clause-reads : goal.returns-in_err-params-clause-reads
returns-in_err-params-clause-reads g c = inr refl

pub returns-in_err-run-clause-reads : goal.returns-in_err-run-clause-reads
returns-in_err-run-clause-reads g c =
    let params_read : params_of_words (map (λ w. w.now) c.args.parameters.now) ≡ Ok c.in_ok-params.params = search rules in
    inl (good (option_map (λ s. s.now) c.args.seed) _ _ c.in_ok-params.params c.in_ok-seed.ensures.ok params_read)

pub returns-clause-reads : goal.returns-clause-reads
returns-clause-reads g c =
    let params_read : params_of_words (map (λ w. w.now) c.args.parameters.now) ≡ Ok c.in_ok-params.params = search rules in
    inl (good (option_map (λ s. s.now) c.args.seed) _ _ c.in_ok-params.params c.in_ok-seed.ensures.ok params_read)

pub returns-in_err-run-clause-fault : goal.returns-in_err-run-clause-fault
returns-in_err-run-clause-fault g c =
    let fault = c.in_err-run.field-0.0 in
    let input = g.R.Source.remaining c.args.reader.now in
    let old = g.W.Write.contents c.args.writer.now in
    let new = g.W.Write.contents c.run.new.writer in
    let failed = EndsWith g.R.Source.Answered IsReadFailure c.args.reader.now c.run.new.reader in
    let params_read : params_of_words (map (λ w. w.now) c.args.parameters.now) ≡ Ok c.in_ok-params.params = search rules in
    err_told c.from_residual-in_err-run.result (run_fault_told fault) _ c.from_residual-in_err-run.ensures.1
    (plain_fault (IsFaultOf failed g.R.Records.Cut) (option_map (λ s. s.now) c.args.seed) (map (λ w. w.now) c.args.parameters.now) input old new fault
    (good (option_map (λ s. s.now) c.args.seed) _ _ c.in_ok-params.params c.in_ok-seed.ensures.ok params_read)
    c.in_err-run.ensures.trace
    (λ is.
    record {
      seed = c.in_ok-seed.seed;
      params = c.in_ok-params.params;
      seed_read = c.in_ok-seed.ensures.ok;
      params_read = params_read;
      report = IfSome_then input {Q = λ bytes. (text : List ℕ) × IsReportOf c.in_ok-params.params c.in_ok-seed.seed bytes text × ((count : ℕ) × Appends old new (take count text))}
          (c.in_err-run.ensures.front is) (λ bytes t. (t.0, t.1, (t.2, t.3)));
    })
    (λ is. (c.in_err-run.ensures.memory is).1)
    c.in_err-run.ensures.untouched)
