-- The words in a text.
use Rattle.std.specs.Prelude.{◌≡◌, ◌⊎◌, ℕ, ◌<◌, List, [], ◌∷◌, ◌++◌, length, Ok, Err}
use Rattle.std.specs.List.{AllPass}
use Rattle.std.specs.Char.{is_ascii_whitespace}
use Rattle.std.specs.Str.{IsUtf8, NoCharPasses}
use Rattle.std.specs.Str.Iter.{IsAsciiSeparator}
use Rattle.packet_core.specs.Words.{params_of_words}
use Rattle.packet_core.specs.declared.params.ParamFields.{ParamFields}
use Rattle.packet_core.specs.declared.words.ParamFault.{ParamFault}
use Rattle.maltcove_c.specs.Records.{fault_told, not_text_told}
use Rattle.maltcove_c.specs.declared.opening.NoParams.{NoParams}
use Rattle.maltcove_c.specs.declared.opening.NoParams.TheVariants.{Memory, Words}
use Rattle.maltcove_c.specs.declared.records.MaltcoveFault.{MaltcoveFault}

-- The text begins with that word, perhaps after blanks, and then comes a blank, or nothing is left. Blanks are ASCII's
-- white space.
pub record BeginsWith (text word rest : List ℕ) : Type 0 where
  pub gap : List ℕ
  pub separator : List ℕ
  pub parts : text ≡ gap ++ (word ++ (separator ++ rest))
  pub blank : AllPass is_ascii_whitespace gap
  pub some : 0 < length word
  pub whole : NoCharPasses is_ascii_whitespace word
  pub ends : IsAsciiSeparator separator rest

-- Those are the words of the text, in order.
abbrev pub AreWords : List ℕ → List (List ℕ) → Type 0
AreWords text [] = AllPass is_ascii_whitespace text
AreWords text (word ∷ words) = (rest : List ℕ) × BeginsWith text word rest × AreWords rest words

-- The words of the text say those parameters.
pub record SaysParams (text : List ℕ) (params : ParamFields) : Type 0 where
  pub words : List (List ℕ)
  pub are_words : AreWords text words
  pub read : params_of_words words ≡ Ok params

-- One of these words of a text is wrong, and C reads which, where it stands, and in what way it is wrong.
abbrev pub AreWrong : List ℕ → List (List ℕ) → NoParams → Type 0
AreWrong text words (Words told) =
    (fault : ParamFault) × (params_of_words words ≡ Err fault) × (told ≡ fault_told text fault)
AreWrong text words Memory = ⊥

-- One of the text's words is wrong, in that way.
pub record HasFault (text : List ℕ) (fault : ParamFault) : Type 0 where
  pub words : List (List ℕ)
  pub are_words : AreWords text words
  pub read : params_of_words words ≡ Err fault

-- The text isn't UTF-8, or one of its words is wrong, and C reads which, and where it stands.
abbrev pub IsWrong : List ℕ → MaltcoveFault → Type 0
IsWrong text told =
    (¬ IsUtf8 text × (told ≡ not_text_told))
    ⊎ ((fault : ParamFault) × HasFault text fault × (told ≡ fault_told text fault))

-- Why there are no parameters. That a text isn't UTF-8 is seen before memory is taken for its words.
abbrev pub IsWhy : List ℕ → NoParams → Type 0
IsWhy text (Words told) = IsWrong text told
IsWhy text Memory = IsUtf8 text
