-- What follows from the kinds of error that a command line has.
use Rattle.std.proofs.Common.{◌≡◌, ◌≢◌, true, List, inl, inr, refl, rules, subst, ◌⊎◌, Result, Ok, Err, String, Global}
use Rattle.std.specs.Prelude.{IfErr, IsErrAnd}
use Rattle.clap.specs.Words.{App, HasKind, IsAmong, Kinds, Text, fault_of, is_simple, is_simple_and_free, kind_of}
use Rattle.clap.proofs.OnLiterals.{clap_on_literals}
use Rattle.clap.specs.declared.builder.value_parser.ValueParser.{ValueParser}
use Rattle.clap.specs.declared.error.Error.{Error}
use Rattle.clap.specs.declared.error.kind.ErrorKind.{ErrorKind}
use Rattle.clap.specs.declared.error.kind.ErrorKind.TheVariants.{DisplayHelp, DisplayVersion, OutOfMemory}
use Rattle.link_command.specs.CommandLine.{AsksForText, IsLinkMistake, IsProgramLine, link_line}
use Rattle.link_command.specs.declared.faults.ProgramFault.{ProgramFault}
use Rattle.link_command.specs.declared.faults.ProgramFault.TheVariants.{CommandLine, Memory}

-- the command line is one whose matches and kinds of error `clap` tells, whatever tests its names
free_by : (queues tables : ValueParser) → is_simple_and_free (link_line queues tables) ≡ true
unfolding clap_on_literals
free_by queues tables = refl

simple_by : (queues tables : ValueParser) → is_simple (link_line queues tables) ≡ true
unfolding clap_on_literals
simple_by queues tables = refl

pub line_is_free : (line : App) → IsProgramLine line → is_simple_and_free line ≡ true
line_is_free line is = rw is.is (free_by is.queues is.tables)

pub line_is_simple : (line : App) → IsProgramLine line → is_simple line ≡ true
line_is_simple line is = rw is.is (simple_by is.queues is.tables)

-- the kind of an error that isn't want of memory is among those of the words
kind_among : (kinds : Kinds) (e : Error) → HasKind kinds e → kind_of e ≢ OutOfMemory → IsAmong (kind_of e) kinds
kind_among kinds e (inl h) other = absurd (other h)
kind_among kinds e (inr h) other = h

shown_kind : (kinds : Kinds) (e : Error) → HasKind kinds e → (kind_of e ≡ DisplayHelp) ⊎ (kind_of e ≡ DisplayVersion)
    → IsAmong DisplayHelp kinds ⊎ IsAmong DisplayVersion kinds
shown_kind kinds e h (inl help) =
    let other : kind_of e ≢ OutOfMemory = λ memory. search (rules, help, memory) in
    inl (subst (λ (k : ErrorKind). IsAmong k kinds) help (kind_among kinds e h other))
shown_kind kinds e h (inr version) =
    let other : kind_of e ≢ OutOfMemory = λ memory. search (rules, version, memory) in
    inr (subst (λ (k : ErrorKind). IsAmong k kinds) version (kind_among kinds e h other))

pub text_asked : (line : App) (words : List Text) (e : Error) → IsProgramLine line → HasKind (fault_of line words) e
    → (kind_of e ≡ DisplayHelp) ⊎ (kind_of e ≡ DisplayVersion) → AsksForText words
text_asked line words e is h shown = record { line = line; of_program = is; kind = shown_kind (fault_of line words) e h shown }

pub mistake_made : (line : App) (words : List Text) (e : Error) → IsProgramLine line → HasKind (fault_of line words) e
    → (kind_of e ≢ DisplayHelp) × (kind_of e ≢ DisplayVersion) × (kind_of e ≢ OutOfMemory) → IsLinkMistake words
mistake_made line words e is h other = record {
  line = line;
  of_program = is;
  kind = kind_of e;
  among = kind_among (fault_of line words) e h other.2;
  other = (other.0, other.1);
}

-- want of memory is no mistake of the words
pub memory_is_no_mistake : {X : Type 0} (r : Result X ProgramFault) (P : String Global → Type 0)
    → IsErrAnd r (λ fault. fault ≡ Memory) → IfErr r (λ fault. (text : String Global) → fault ≡ CommandLine text → P text)
memory_is_no_mistake (Ok x) P h = tt
memory_is_no_mistake (Err fault) P h = λ text is_mistake. search (rules, h, is_mistake)
