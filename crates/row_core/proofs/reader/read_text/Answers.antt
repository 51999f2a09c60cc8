use Rattle.std.proofs.Common.{inl, inr, length, refl, rules}
use Rattle.std.proofs.lemmas.Bool.{lt-ltb}
use Rattle.std.proofs.lemmas.Option.{IfSome_then}
use Rattle.row_core.specs.Traces.{IsFaultOf}
use Rattle.row_core.proofs.reader.read_text.Goals as goal

pub returns-in-Err-clause-fault : goal.returns-in-Err-clause-fault
returns-in-Err-clause-fault g c = elim c.in-Err.ensures.fault [
  | inl read ↦ search rules
  | inr (inl large) ↦ IfSome_then _ {Q = λ bytes. IsFaultOf _ _ bytes c.fault.result} (c.in-Err.ensures.too_large (search rules)) (λ bytes many. inl (rw (lt-ltb 134217728 (length bytes) many, c.fault.ensures, large) refl))
  | inr (inr memory) ↦ search rules
]
