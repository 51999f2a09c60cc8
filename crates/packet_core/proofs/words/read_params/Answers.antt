-- Each turn of the loop is a step of the reading.
use Rattle.std.proofs.Common.{ℕ, List, ◌∷◌, None, ◌≡◌, ◌+◌, ◌-◌, ◌∙◌, Some, length, refl, sym, ap, arith, rules}
use Rattle.packet_core.proofs.WordLemmas.{behind_first, first_read, first_text, length-behind_first, no_texts, texts}
use Rattle.packet_core.specs.Words.{param_word_of, params_of_words, read_from, with_text}
use Rattle.packet_core.specs.declared.words.ParamWord.TheVariants.{Valued}
use Rattle.packet_core.proofs.words.read_params.Goals as goal
use Rattle.packet_core.proofs.words.read_params.Goals.{In-Some-Valued}

pub loop-rest-init : goal.loop-rest-init
loop-rest-init c =
    let one : 1 ≡ length c.args.words.now - length c.args.words.now + 1 = omega arith in
    record { within = omega arith; reading = rw (← one, c.standard-params.ensures) refl }

pub overflow_sub-place : goal.overflow_sub-place
overflow_sub-place c = omega (arith, length-behind_first c.loop-rest.rest.now c.in-len1-up.len_at_least, c.loop-rest.invariant.within)

pub returns-in-None : goal.returns-in-None
unfolding read_from
returns-in-None c =
    let asks = sym c.param_word.ensures ∙ c.in-None.is in
    let first = first_read c.loop-rest.params (length c.args.words.now) c.loop-rest.rest.now _ c.loop-rest.invariant.within c.in-len1-up.len_at_least c.loop-rest.invariant.reading asks in
    sym (first.2 ∙ rw (first.1, read_from) refl)

pub loop-rest-preserved-in-Some-Ecn : goal.loop-rest-preserved-in-Some-Ecn
unfolding read_from
loop-rest-preserved-in-Some-Ecn c =
    let asks = sym c.param_word.ensures ∙ c.in-Some-Ecn.is ∙ ap Some c.in-Some-Ecn.field-0-is in
    let first = first_read c.loop-rest.params (length c.args.words.now) c.loop-rest.rest.now _ c.loop-rest.invariant.within c.in-len1-up.len_at_least c.loop-rest.invariant.reading asks in
    record {
      within = omega (arith, length-behind_first c.loop-rest.rest.now c.in-len1-up.len_at_least, c.loop-rest.invariant.within);
      reading = rw c.with_ecn-params.ensures (first.2 ∙ rw (first.1, read_from) refl);
    }

-- the first word asks for a value
first_valued : (c : In-Some-Valued) → (word : List ℕ) × (param_word_of word ≡ Some (Valued c.in-Some-Valued.parameter))
    × (params_of_words (texts c.args.words.now) ≡ read_from (length c.args.words.now - length (behind_first c.loop-rest.rest.now)) None c.loop-rest.params (word ∷ texts (behind_first c.loop-rest.rest.now)))
first_valued c =
    first_read c.loop-rest.params (length c.args.words.now) c.loop-rest.rest.now _ c.loop-rest.invariant.within c.in-len1-up.len_at_least c.loop-rest.invariant.reading
    (sym c.param_word.ensures ∙ c.in-Some-Valued.is ∙ ap Some c.in-Some-Valued.field-0-is)

pub returns-in_default-behind : goal.returns-in_default-behind
unfolding read_from
returns-in_default-behind c =
    let first = first_valued (goal.at.returns-in_default-behind c).In-Some-Valued in
    let none = no_texts (behind_first c.loop-rest.rest.now) c.in_default-behind.len_below in
    let place : length c.args.words.now - length (behind_first c.loop-rest.rest.now) + 1 - 1 ≡ length c.args.words.now - length (behind_first c.loop-rest.rest.now) = omega arith in
    sym (first.2 ∙ rw (first.1, none, read_from) (rw place refl))

pub returns-in_err-params-in-Some-Valued : goal.returns-in_err-params-in-Some-Valued
unfolding read_from
returns-in_err-params-in-Some-Valued c =
    let first = first_valued (goal.at.returns-in_err-params-in-Some-Valued c).In-Some-Valued in
    let rest = behind_first c.loop-rest.rest.now in
    let value = first_text (λ (t : List ℕ). with_text (length c.args.words.now - length rest + 1) c.in-Some-Valued.parameter t c.loop-rest.params) rest _ c.in-len1-up-behind.len_at_least (sym c.in_err-params-in-Some-Valued.ensures) in
    rw (first.2, first.1, value.2, value.1, read_from) (search rules)

pub loop-rest-preserved : goal.loop-rest-preserved
unfolding read_from
loop-rest-preserved c =
    let first = first_valued (goal.at.loop-rest-preserved c).In-Some-Valued in
    let rest = behind_first c.loop-rest.rest.now in
    let value = first_text (λ (t : List ℕ). with_text (length c.args.words.now - length rest + 1) c.in-Some-Valued.parameter t c.loop-rest.params) rest _ c.in-len1-up-behind.len_at_least (sym c.in_ok-params-in-Some-Valued.ensures) in
    let less = length-behind_first c.loop-rest.rest.now c.in-len1-up.len_at_least in
    let lesser = length-behind_first rest c.in-len1-up-behind.len_at_least in
    let place : length c.args.words.now - length rest + 1 ≡ length c.args.words.now - length (behind_first rest) = omega (arith, less, lesser, c.loop-rest.invariant.within) in
    record { within = omega (arith, less, lesser, c.loop-rest.invariant.within); reading = first.2 ∙ rw (first.1, value.2, value.1, read_from) (rw place refl) }

pub returns : goal.returns
unfolding read_from
returns c = sym (c.loop-rest.invariant.reading ∙ rw (no_texts c.loop-rest.rest.now c.in_default.len_below) refl)
