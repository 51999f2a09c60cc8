-- What follows from the kinds of error that a command line has.
use Rattle.std.proofs.Common.{◌≡◌, ◌≢◌, ◌≤◌, ◌<◌, ◌^◌, ℕ, true, List, inl, inr, Box, Option, Some, None, Result, Ok, Err, String, Global, arith, ◌+◌, box_value, option_map, refl, rules, subst}
use Rattle.std.specs.Str.Parse.{ParsesUnsigned, digits_value, without_leading_plus}
use Rattle.clap.specs.Words.{App, HasKind, IsAmong, Kinds, Text, fault_of, is_simple, is_simple_and_free, kind_of}
use Rattle.clap.specs.Matches.{ReadsOne}
use Rattle.clap.specs.Simple.{subcommand_rows}
use Rattle.clap.specs.Values.{IsUnsignedIn}
use Rattle.clap.proofs.OnLiterals.{clap_on_literals}
use Rattle.clap.specs.declared.error.Error.{Error}
use Rattle.clap.specs.declared.parser.matches.SubCommand.{SubCommand}
use Rattle.clap.specs.declared.parser.matches.ArgMatches.TheViews.{out-SubCommand}
use Rattle.clap.specs.declared.error.kind.ErrorKind.{ErrorKind}
use Rattle.clap.specs.declared.error.kind.ErrorKind.TheVariants.{DisplayHelp, OutOfMemory}
use Rattle.std.specs.Prelude.{IfErr, IsErrAnd}
use Rattle.command_core.specs.CommandLine.{IsCount, program_line}
use Rattle.command_core.specs.declared.command_line.CommandFault.{CommandFault}
use Rattle.command_core.specs.declared.command_line.CommandFault.TheVariants.{Memory, Mistake}

-- the command line is one whose matches and kinds of error `clap` tells
pub line_is_free : is_simple_and_free program_line ≡ true
unfolding clap_on_literals
line_is_free = refl

pub line_is_simple : is_simple program_line ≡ true
unfolding clap_on_literals
line_is_simple = refl

pub help_asked : (kinds : Kinds) (e : Error) → HasKind kinds e → kind_of e ≡ DisplayHelp → IsAmong DisplayHelp kinds
help_asked kinds e (inl h) is_help = search (rules, h, is_help)
help_asked kinds e (inr h) is_help = subst (λ (k : ErrorKind). IsAmong k kinds) is_help h

pub mistake_made : (kinds : Kinds) (e : Error) → HasKind kinds e → (kind_of e ≢ DisplayHelp) × (kind_of e ≢ OutOfMemory)
    → (kind : ErrorKind) × IsAmong kind kinds × (kind ≢ DisplayHelp)
mistake_made kinds e (inl h) other = absurd (other.1 h)
mistake_made kinds e (inr h) other = (kind_of e, h, other.0)

-- the same of the command line, by the line that was built
pub help_asked_of : (line : App) (words : List Text) (e : Error) → line ≡ program_line → HasKind (fault_of line words) e → kind_of e ≡ DisplayHelp
    → IsAmong DisplayHelp (fault_of program_line words)
help_asked_of line words e same h is_help = subst (λ (l : App). IsAmong DisplayHelp (fault_of l words)) same (help_asked (fault_of line words) e h is_help)

pub mistake_made_in : (line : App) (words : List Text) (e : Error) → line ≡ program_line → HasKind (fault_of line words) e
    → (kind_of e ≢ DisplayHelp) × (kind_of e ≢ OutOfMemory) → (kind : ErrorKind) × IsAmong kind (fault_of program_line words) × (kind ≢ DisplayHelp)
mistake_made_in line words e same h other =
    subst (λ (l : App). (kind : ErrorKind) × IsAmong kind (fault_of l words) × (kind ≢ DisplayHelp)) same (mistake_made (fault_of line words) e h other)

-- a want of memory is no mistake
pub memory_is_no_mistake : {X : Type 0} (r : Result X CommandFault) (P : String Global → Type 0)
    → IsErrAnd r (λ fault. fault ≡ Memory) → IfErr r (λ fault. (text : String Global) → fault ≡ Mistake text → P text)
memory_is_no_mistake (Ok x) P h = tt
memory_is_no_mistake (Err fault) P h = λ text is_mistake. search (rules, h, is_mistake)

-- the name of a subcommand stands beside its rows
pub name_beside : {Z : Type 0} (found : Option (Box SubCommand Z))
    → option_map (λ b. (out-SubCommand (box_value b)).name.now) found ≡ option_map (λ p. p.0) (subcommand_rows found)
name_beside (Some b) = refl
name_beside None = refl

-- a number that was read, in its range
pub count_read : {E : Type 0} (Gives : List ℕ → Result ℕ E → Type 0) (least most standard : ℕ) (text : Option (List ℕ)) (n : ℕ)
    → ((u : List ℕ) (x : Result ℕ E) → Gives u x → ParsesUnsigned 32 10 u x)
    → (text ≡ None → Some n ≡ None) → ((t : List ℕ) → text ≡ Some t → ReadsOne Gives t (Some n))
    → least ≤ n → n ≤ most → IsCount least most standard text n
count_read Gives least most standard text n parses none reads low high = record {
  said = λ digits is within. (parses digits (Ok n) (reads digits is)).1;
  unsaid = λ is. absurd (search (rules, none is));
  range = (low, high);
}

-- where no such number was read, none was said
pub count_unread : {E : Type 0} (Gives : List ℕ → Result ℕ E → Type 0) (least most standard : ℕ) (text : Option (List ℕ)) (read : Option ℕ)
    → most < 2 ^ 32 → (least ≤ standard) × (standard ≤ most)
    → ((u : List ℕ) (x : Result ℕ E) → Gives u x → ParsesUnsigned 32 10 u x)
    → ((t : List ℕ) → text ≡ Some t → ReadsOne Gives t read)
    → ((n : ℕ) → read ≡ Some n → least ≤ n → n ≤ most → n ≡ n + 1) → IsCount least most standard text standard
count_unread {E} Gives least most standard text read small fits parses reads outside = record {
  said = λ digits is within. absurd (go digits read refl (reads digits is) within);
  unsaid = λ is. refl;
  range = fits;
}
  where
    go : (t : List ℕ) (r : Option ℕ) → read ≡ r → ReadsOne Gives t r → IsUnsignedIn least most t → ⊥
    go t (Some n) e h within =
        let is : n ≡ digits_value 10 (without_leading_plus t) = (parses t (Ok n) h).1 in
        let never = outside n e (omega (arith, is, within.2)) (omega (arith, is, within.3)) in
        omega (arith, never)
    go t None e h within = parses t (Err h.0) h.1 (within.0, omega (arith, within.3, small))
