-- The first fault of the words of a run, by the value that it comes from.
use Rattle.std.proofs.Common.{◌≡◌, ◌⊎◌, ℕ, List, Option, Some, None, Ok, Err, ap, inl, inr, sym, ◌∙◌}
use Rattle.packet_core.specs.Words.{params_of_words}
use Rattle.packet_core.specs.declared.words.ParamFault.{ParamFault}
use Rattle.command_core.specs.Seeds.{seed_given}
use Rattle.link_command.specs.CommandLine.{Texts}
use Rattle.link_command.specs.FaultsOn.{IsGivenFault, IsOfValue}
use Rattle.link_command.specs.PlainWords.{plain_words_of}
use Rattle.link_command.specs.Values.{AreGoodBefore, value_fault, width_fault, width_given}
use Rattle.link_command.specs.declared.faults.ValueName.{ValueName}
use Rattle.link_command.specs.declared.faults.ValueName.TheVariants.{Every}
use Rattle.link_command.specs.declared.values.GivenFault.{GivenFault}
use Rattle.link_command.specs.declared.values.GivenFault.TheVariants.{Value, Seed, Params, Memory}

pub value_fails : (texts : Texts) (name : ValueName) (f : GivenFault) → AreGoodBefore name texts → IsOfValue name (value_fault name texts) f → IsGivenFault texts f
value_fails texts name (Value of what) before h = rw h.0 (record { before = before; fault = h.1 })
value_fails texts name Seed before h = absurd h
value_fails texts name (Params what) before h = absurd h
value_fails texts name Memory before h = absurd h

pub seed_fails : (texts : Texts) (every : ℕ) (f : GivenFault) → AreGoodBefore Every texts → width_given texts.every ≡ Ok every
    → (f ≡ Seed) × (seed_given texts.seed ≡ None) → IsGivenFault texts f
seed_fails texts every f before width h = rw h.0 (record { before = before; every = ap width_fault width; fault = h.1 })

some_is_not_none : {X : Type 0} (o : Option X) (x : X) → o ≡ Some x → o ≡ None → ⊥
some_is_not_none o x some none = let bad : Some x ≡ None = sym some ∙ none in absurd (cc)

pub params_fail : (texts : Texts) (every : ℕ) (seed : List ℕ) (f : GivenFault) → AreGoodBefore Every texts → width_given texts.every ≡ Ok every
    → seed_given texts.seed ≡ Some seed
    → (f ≡ Memory) ⊎ ((why : ParamFault) × (f ≡ Params why) × (params_of_words (plain_words_of texts.parameters) ≡ Err why)) → IsGivenFault texts f
params_fail texts every seed f before width given (inl memory) = rw memory tt
params_fail texts every seed f before width given (inr told) =
    rw told.1 (record { before = before; every = ap width_fault width; seed = some_is_not_none (seed_given texts.seed) seed given; fault = told.2 })
