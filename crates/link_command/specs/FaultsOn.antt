-- The faults of the words of a run.
use Rattle.std.specs.Prelude.{◌≡◌, ◌-◌, [], Option, Some, get_or, string_bytes, unwrap_or}
use Rattle.link_command.specs.CommandLine.{Texts}
use Rattle.link_command.specs.Values.{IsParamsFault, IsSeedFault, IsValueFault, word_place_of, value_text}
use Rattle.link_command.specs.declared.faults.ProgramFault.{ProgramFault}
use Rattle.link_command.specs.declared.faults.ProgramFault.TheVariants as fault
use Rattle.link_command.specs.declared.faults.ValueFault.{ValueFault}
use Rattle.link_command.specs.declared.faults.ValueName.{ValueName}
use Rattle.link_command.specs.declared.values.GivenFault.{GivenFault}
use Rattle.link_command.specs.declared.values.GivenFault.TheVariants as given

-- The fault is what is wrong with the value of that option.
abbrev pub IsOfValue : ValueName → Option ValueFault → GivenFault → Type 0
IsOfValue name fault (given.Value of what) = (of ≡ name) × (fault ≡ Some what)
IsOfValue name fault given.Seed = ⊥
IsOfValue name fault (given.Params what) = ⊥
IsOfValue name fault given.Memory = ⊥

-- The fault is one of these texts. That memory was wanting can't be said.
abbrev pub IsGivenFault : Texts → GivenFault → Type 0
IsGivenFault texts (given.Value name what) = IsValueFault texts name what
IsGivenFault texts given.Seed = IsSeedFault texts
IsGivenFault texts (given.Params what) = IsParamsFault texts what
IsGivenFault texts given.Memory = Unit {0}

-- The same of the fault as it is reported, with the text that was found.
abbrev pub IsWordsFault : Texts → ProgramFault → Type 0
IsWordsFault texts (fault.Value name what found) =
    IsValueFault texts name what × (string_bytes found ≡ value_text name texts)
IsWordsFault texts (fault.Seed found) = IsSeedFault texts × (string_bytes found ≡ unwrap_or texts.seed [])
IsWordsFault texts (fault.Params what found) =
    IsParamsFault texts what × (string_bytes found ≡ get_or texts.parameters (word_place_of what - 1) [])
IsWordsFault texts fault.Memory = Unit {0}
IsWordsFault texts (fault.CommandLine text) = ⊥
IsWordsFault texts fault.NotUtf8 = ⊥
IsWordsFault texts (fault.Row number what found) = ⊥
IsWordsFault texts fault.Write = ⊥
