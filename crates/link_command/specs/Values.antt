-- What the texts of a run say, and what is wrong with one that says nothing.
use Rattle.std.specs.Prelude.{◌≡◌, ◌≢◌, ℕ, ◌&&◌, List, [], ◌∷◌, Option, Some, None, Result, Ok, Err, codes, nat_le, unwrap_or, if◌then◌else◌}
use Rattle.packet_core.specs.Numerals.{numeral_of}
use Rattle.packet_core.specs.Words.{params_of_words}
use Rattle.packet_core.specs.declared.flow.Seed.{Seed}
use Rattle.packet_core.specs.declared.params.ParamFields.{ParamFields}
use Rattle.packet_core.specs.declared.words.ParamFault.{ParamFault}
use Rattle.packet_core.specs.declared.words.ParamFault.TheVariants as param_fault
use Rattle.command_core.specs.Seeds.{seed_given}
use Rattle.link_core.specs.Links.{IsLink}
use Rattle.link_core.specs.declared.link.LinkFields.{LinkFields}
use Rattle.link_command.specs.CommandLine.{Texts}
use Rattle.link_command.specs.PlainWords.{plain_words_of}
use Rattle.link_command.specs.Rates.{bit_rate_of}
use Rattle.link_command.specs.declared.faults.ValueFault.{ValueFault}
use Rattle.link_command.specs.declared.faults.ValueFault.TheVariants.{NotANumber, OutOfRange}
use Rattle.link_command.specs.declared.faults.ValueName.{ValueName}
use Rattle.link_command.specs.declared.faults.ValueName.TheVariants.{Rate, Overhead, Mpu, Every}

-- a number of bytes, which is 0 where none is given
abbrev pub bytes_given : Option (List ℕ) → Option ℕ
bytes_given None = Some 0
bytes_given (Some text) = numeral_of text

-- A width of bins in microseconds, by the reading of its text as the parameter `target`: a time of at least 1 ms. Or what
-- is wrong with the text.
abbrev pub width_read : Result ParamFields ParamFault → Result ℕ ValueFault
width_read (Ok p) = if nat_le 1000 p.target then Ok p.target else Err OutOfRange
width_read (Err (param_fault.NotANumber place)) = Err NotANumber
width_read (Err (param_fault.UnknownWord place)) = Err OutOfRange
width_read (Err (param_fault.MissingValue place)) = Err OutOfRange
width_read (Err (param_fault.OutOfRange place)) = Err OutOfRange

-- the width that is given, and 100 ms where none is
abbrev pub width_given : Option (List ℕ) → Result ℕ ValueFault
width_given None = Ok 100000
width_given (Some text) = width_read (params_of_words (codes "target" ∷ text ∷ []))

-- what is wrong with a width, if anything is
abbrev pub width_fault : Result ℕ ValueFault → Option ValueFault
width_fault (Ok every) = None
width_fault (Err what) = Some what

-- What is wrong with a value that is from the least to the most, if anything is.
abbrev pub fault_within : ℕ → ℕ → Option ℕ → Option ValueFault
fault_within least most None = Some NotANumber
fault_within least most (Some n) = if nat_le least n && nat_le n most then None else Some OutOfRange

-- what is wrong with the value of an option: rates in bits a second, lengths in bytes, widths in microseconds
abbrev pub value_fault : ValueName → Texts → Option ValueFault
value_fault Rate texts = fault_within 1000 1000000000000 (bit_rate_of texts.rate)
value_fault Overhead texts = fault_within 0 1000 (bytes_given texts.overhead)
value_fault Mpu texts = fault_within 0 65535 (bytes_given texts.mpu)
value_fault Every texts = width_fault (width_given texts.every)

-- the text of an option's value
abbrev pub value_text : ValueName → Texts → List ℕ
value_text Rate texts = texts.rate
value_text Overhead texts = unwrap_or texts.overhead []
value_text Mpu texts = unwrap_or texts.mpu []
value_text Every texts = unwrap_or texts.every []

-- The values that are tested before the one of this option are good.
abbrev pub AreGoodBefore : ValueName → Texts → Type 0
AreGoodBefore Rate texts = Unit {0}
AreGoodBefore Overhead texts = value_fault Rate texts ≡ None
AreGoodBefore Mpu texts = (value_fault Rate texts ≡ None) × (value_fault Overhead texts ≡ None)
AreGoodBefore Every texts =
    (value_fault Rate texts ≡ None) × (value_fault Overhead texts ≡ None) × (value_fault Mpu texts ≡ None)

-- The link of these texts, whose values are good.
pub record SaysLink (texts : Texts) (link : LinkFields) : Type 0 where
  pub rate : bit_rate_of texts.rate ≡ Some link.rate
  pub overhead : bytes_given texts.overhead ≡ Some link.overhead
  pub mpu : bytes_given texts.mpu ≡ Some link.mpu
  pub ranges : IsLink link

-- What the words of a run ask for: its link, the width of bins, the seed of the choice of flows and the parameters of
-- the scheduler.
pub record RunParts : Type 0 where
  pub params : ParamFields
  pub seed : Seed
  pub link : LinkFields
  pub every : ℕ

-- The texts say this run.
pub record SaysRun (texts : Texts) (run : RunParts) : Type 0 where
  pub link : SaysLink texts run.link
  pub every : width_given texts.every ≡ Ok run.every
  pub seed : seed_given texts.seed ≡ Some run.seed.0
  pub params : params_of_words (plain_words_of texts.parameters) ≡ Ok run.params

-- the place of the word that a fault is of, from 1
abbrev pub word_place_of : ParamFault → ℕ
word_place_of (param_fault.UnknownWord place) = place
word_place_of (param_fault.MissingValue place) = place
word_place_of (param_fault.NotANumber place) = place
word_place_of (param_fault.OutOfRange place) = place

-- The value of the option is the first one that is wrong, and this is wrong with it.
pub record IsValueFault (texts : Texts) (name : ValueName) (what : ValueFault) : Type 0 where
  pub before : AreGoodBefore name texts
  pub fault : value_fault name texts ≡ Some what

-- The values of the options before the seed are good, and the seed isn't one.
pub record IsSeedFault (texts : Texts) : Type 0 where
  pub before : AreGoodBefore Every texts
  pub every : value_fault Every texts ≡ None
  pub fault : seed_given texts.seed ≡ None

-- The values of all options are good, and this is the first fault of the parameters' words.
pub record IsParamsFault (texts : Texts) (why : ParamFault) : Type 0 where
  pub before : AreGoodBefore Every texts
  pub every : value_fault Every texts ≡ None
  pub seed : seed_given texts.seed ≢ None
  pub fault : params_of_words (plain_words_of texts.parameters) ≡ Err why
