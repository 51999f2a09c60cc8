-- What is answered where a queue disc isn't opened.
use Rattle.std.proofs.Common.{◌≡◌, ℕ, ℤ, List, inl, inr, refl, subst, sym}
use Rattle.std.specs.Prelude.{IfErr, IfOk, IsErr}
use Rattle.std.specs.declared.result.Result.{Result}
use Rattle.std.specs.declared.result.Result.TheVariants.{Err, Ok}
use Rattle.std.specs.Str.{IsUtf8}
use Rattle.packet_core.specs.Words.{params_of_words}
use Rattle.packet_core.specs.declared.params.ParamFields.{ParamFields}
use Rattle.maltcove_c.specs.Calls.{RefusesOpen, RefusesSeed, why_code, why_told}
use Rattle.maltcove_c.specs.Records.{nothing_told}
use Rattle.maltcove_c.specs.Texts.{AreWords, AreWrong, IsWhy, SaysParams, IsWrong}
use Rattle.maltcove_c.specs.declared.opening.NoParams.{NoParams}
use Rattle.maltcove_c.specs.declared.opening.NoParams.TheVariants.{Memory, Words}
use Rattle.maltcove_c.specs.declared.records.MaltcoveFault.{MaltcoveFault}

ok_memory : {X : Type 0} (r : Result X NoParams) (x : X) → r ≡ Ok x → r ≡ Err Memory → ⊥
ok_memory r x ok memory = cc

words_memory : {X : Type 0} (r : Result X NoParams) (told : MaltcoveFault) → r ≡ Err (Words told) → r ≡ Err Memory → ⊥
words_memory r told wrong memory = cc

refused_seed : (words seed : List ℕ) (params : ParamFields) (told : MaltcoveFault) (code : ℤ) → SaysParams words params → IsUtf8 words → told ≡ nothing_told → RefusesSeed seed code → RefusesOpen words seed told code
refused_seed words seed params told code says text nothing refused =
    elim refused [ inl bad ↦ inr (inl (bad.0, nothing, bad.1, (params, says))) | inr memory ↦ inr (inr (memory.0, nothing, text)) ]

refused_why : (words seed : List ℕ) (why : NoParams) (told : MaltcoveFault) (code : ℤ) → IsWhy words why → told ≡ why_told why → code ≡ why_code why → RefusesOpen words seed told code
refused_why words seed (Words wrong) told code is same answer = inl (answer, subst (IsWrong words) (sym same) is)
refused_why words seed Memory told code is same answer = inr (inr (answer, same, is))

pub refused_by : {X : Type 0} (words seed : List ℕ) (params : Result ParamFields NoParams) (result : Result X ℤ) (told : MaltcoveFault)
    → IfOk params (SaysParams words) → IfOk params (λ p. IsUtf8 words) → IfErr params (IsWhy words)
    → IfErr params (λ why. IsErr result × (told ≡ why_told why) × IfErr result (λ code. code ≡ why_code why))
    → IfOk params (λ p. told ≡ nothing_told) → IfOk params (λ p. IfErr result (RefusesSeed seed))
    → IfErr result (RefusesOpen words seed told)
refused_by words seed params (Ok x) told says text why none nothing refused = tt
refused_by words seed (Ok p) (Err code) told says text why none nothing refused = refused_seed words seed p told code says text nothing refused
refused_by words seed (Err w) (Err code) told says text why none nothing refused = refused_why words seed w told code why none.1 none.2

pub said_by : {W E : Type 0} (text : List ℕ) (list_of : W → List (List ℕ)) (words : Result W E) (result : Result ParamFields NoParams)
    → IfOk words (λ w. AreWords text (list_of w)) → IfErr words (λ e. result ≡ Err Memory)
    → IfOk words (λ w. IfOk result (λ p. params_of_words (list_of w) ≡ Ok p))
    → IfOk result (SaysParams text)
said_by text list_of words (Err why) are none said = tt
said_by text list_of (Ok w) (Ok p) are none said = record { words = list_of w; are_words = are; read = said }
said_by text list_of (Err e) (Ok p) are none said = absurd (ok_memory (Ok p) p refl none)

pub wrong_by : {W E : Type 0} (text : List ℕ) (list_of : W → List (List ℕ)) (words : Result W E) (result : Result ParamFields NoParams)
    → IsUtf8 text → IfOk words (λ w. AreWords text (list_of w)) → IfErr words (λ e. result ≡ Err Memory)
    → IfOk words (λ w. IfErr result (AreWrong text (list_of w)))
    → IfErr result (IsWhy text)
wrong_by text list_of words (Ok p) utf8 are none wrong = tt
wrong_by text list_of words (Err Memory) utf8 are none wrong = utf8
wrong_by text list_of (Ok w) (Err (Words told)) utf8 are none wrong = inr (wrong.0, record { words = list_of w; are_words = are; read = wrong.1 }, wrong.2)
wrong_by text list_of (Err e) (Err (Words told)) utf8 are none wrong = absurd (words_memory (Err (Words told)) told refl none)
