-- The command line of the program, in the words of `clap`.
use Rattle.std.specs.Prelude.{◌≡◌, ◌≢◌, ◌≤◌, ℕ, true, List, [], Option, Some, None, codes, map, option_map, pos, unwrap_or}
use Rattle.std.specs.Str.Parse.{digits_value, without_leading_plus}
use Rattle.clap.specs.Faults.{fault_of}
use Rattle.clap.specs.Kinds.{IsAmong}
use Rattle.clap.specs.Simple.{App, new_app, new_rule, on_top, subcommand_of, subcommand_rows_of, with_rule, with_subcommand}
use Rattle.clap.specs.Values.{IsUnsignedIn}
use Rattle.clap.specs.Walk.{Row, Rule, Text, all_of, first_of, one_of}
use Rattle.clap.specs.declared.builder.action.ArgAction.TheVariants.{Append}
use Rattle.clap.specs.declared.builder.value_parser.ValueParser.TheVariants as value_parser
use Rattle.clap.specs.declared.error.kind.ErrorKind.{ErrorKind}
use Rattle.clap.specs.declared.parser.matches.ArgMatches.{ArgMatches}
use Rattle.clap.specs.declared.error.kind.ErrorKind.TheVariants.{DisplayHelp}
use Rattle.command_core.specs.declared.command_line.RunRequest.{RunRequest}

-- `--seed HEX32`
abbrev pub seed_option : Rule
seed_option = record (new_rule (codes "seed")) { long = Some (codes "seed"); value_names = 1 }

-- `--senders N`, a number from 1 to 64
abbrev pub senders_option : Rule
senders_option = record (new_rule (codes "senders")) {
  long = Some (codes "senders");
  value_names = 1;
  parser = Some (value_parser.Signed (pos 1) (pos 64));
}

-- `--monitors M`, a number from 0 to 64
abbrev pub monitors_option : Rule
monitors_option = record (new_rule (codes "monitors")) {
  long = Some (codes "monitors");
  value_names = 1;
  parser = Some (value_parser.Signed (pos 0) (pos 64));
}

-- `[PARAM]...`
abbrev pub parameter_argument : Rule
parameter_argument = record (new_rule (codes "PARAM")) { action = Some Append }

-- `trace [--seed HEX32] [PARAM]...`
abbrev pub trace_line : App
trace_line = with_rule (with_rule (new_app (codes "trace")) seed_option) parameter_argument

-- `NAME [--seed HEX32] [--senders N] [PARAM]...`, of a subcommand with senders
abbrev pub senders_line : Text → App
senders_line name = with_rule (with_rule (with_rule (new_app name) seed_option) senders_option) parameter_argument

-- `locked [--seed HEX32] [--senders N] [PARAM]...`
abbrev pub locked_line : App
locked_line = senders_line (codes "locked")

-- `lanes [--seed HEX32] [--senders N] [--monitors M] [PARAM]...`
abbrev pub lanes_line : App
lanes_line = with_rule (senders_line (codes "lanes")) monitors_option

-- A command line asks for a subcommand, and has no name of its own before the words.
abbrev pub asked_of : App → App
asked_of line =
    on_top (λ top. record top { no_binary_name = true; subcommand_required = true; arg_required_else_help = true })
    line

-- the program's command line without its subcommands
abbrev pub bare_line : App
bare_line = asked_of (new_app (codes "fqsim"))

-- the words behind the program's name: one of three subcommands, which has to be there
abbrev pub program_line : App
program_line =
    with_subcommand (with_subcommand (with_subcommand bare_line trace_line.top) locked_line.top)
    lanes_line.top

-- what stands behind a subcommand, by its matches and by the words
abbrev pub rows_of_entered : Option (Text × List Row) → List Row
rows_of_entered entered = unwrap_or (option_map (λ found. found.1) entered) []

abbrev pub rows_behind : ArgMatches → List Row
rows_behind matches = rows_of_entered (subcommand_rows_of matches)

abbrev pub run_rows : List Text → List Row
run_rows words = rows_of_entered (subcommand_of program_line words)

-- the name of the subcommand
abbrev pub run_name : List Text → Option Text
run_name words = option_map (λ found. found.0) (subcommand_of program_line words)

-- the text behind `--seed`, where there is one
abbrev pub seed_text : List Text → Option Text
seed_text words = first_of (codes "seed") (run_rows words)

-- the parameter words
abbrev pub parameter_words : List Text → List Text
parameter_words words = unwrap_or (all_of (codes "PARAM") (run_rows words)) []

-- what was asked for behind a subcommand, by what stands there
pub record IsRunRequest (rows : List Row) (run : RunRequest) : Type 0 where
  pub seed : option_map (λ s. s.now) run.seed ≡ first_of (codes "seed") rows
  pub parameters : map (λ w. w.now) run.parameters.items ≡ unwrap_or (all_of (codes "PARAM") rows) []

-- the text behind `--senders`, where there is one
abbrev pub senders_text : List Text → Option Text
senders_text words = one_of (codes "senders") (run_rows words)

-- The number that a text says, if it is one from the least to the most, and the standard one where there is no text.
-- The command line takes no other text.
pub record IsCount (least most standard : ℕ) (text : Option Text) (count : ℕ) : Type 0 where
  pub said : (digits : Text) → text ≡ Some digits → IsUnsignedIn least most digits
      → count ≡ digits_value 10 (without_leading_plus digits)
  pub unsaid : text ≡ None → count ≡ standard
  pub range : (least ≤ count) × (count ≤ most)

-- the number of senders: 1 to 64, and 2 where the words don't say
abbrev pub IsSenderCount : Option Text → ℕ → Type 0
IsSenderCount = IsCount 1 64 2

-- the text behind `--monitors`, where there is one
abbrev pub monitors_text : List Text → Option Text
monitors_text words = one_of (codes "monitors") (run_rows words)

-- the number of monitors: 0 to 64, and none where the words don't say
abbrev pub IsMonitorCount : Option Text → ℕ → Type 0
IsMonitorCount = IsCount 0 64 0

-- the words are those of a run
abbrev pub AsksForRun : List Text → Type 0
AsksForRun words = fault_of program_line words ≡ []

-- they are those of a run by senders that share the scheduler
abbrev pub AsksForLocked : List Text → Type 0
AsksForLocked words = AsksForRun words × (run_name words ≡ Some (codes "locked"))

-- they are those of a run by senders with a lane each
abbrev pub AsksForLanes : List Text → Type 0
AsksForLanes words = AsksForRun words × (run_name words ≡ Some (codes "lanes"))

-- they are those of a run of the trace alone
abbrev pub AsksForTrace : List Text → Type 0
AsksForTrace words =
    AsksForRun words × (run_name words ≢ Some (codes "locked")) × (run_name words ≢ Some (codes "lanes"))

-- the words ask for help
abbrev pub AsksForHelp : List Text → Type 0
AsksForHelp words = IsAmong DisplayHelp (fault_of program_line words)

-- the words aren't those of a command line
abbrev pub IsMistake : List Text → Type 0
IsMistake words = (kind : ErrorKind) × IsAmong kind (fault_of program_line words) × (kind ≢ DisplayHelp)
