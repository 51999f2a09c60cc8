-- The command line of the program, in the words of `clap`.
use Rattle.std.specs.Prelude.{◌≡◌, ◌≢◌, ◌⊎◌, Bool, true, List, [], ◌∷◌, Option, Some, None, codes, is_some, map, option_map, unwrap_or, if◌then◌else◌}
use Rattle.std.specs.Str.{bytes_eq}
use Rattle.clap.specs.Faults.{fault_of}
use Rattle.clap.specs.Kinds.{IsAmong}
use Rattle.clap.specs.Simple.{App, matches_of, new_app, new_rule, on_top, with_rule}
use Rattle.clap.specs.Walk.{Row, Rule, Text, all_of, first_of}
use Rattle.clap.specs.declared.builder.action.ArgAction.TheVariants.{Append}
use Rattle.clap.specs.declared.builder.value_parser.ValueParser.{ValueParser}
use Rattle.clap.specs.declared.builder.value_parser.ValueParser.TheVariants as value_parser
use Rattle.clap.specs.declared.error.kind.ErrorKind.{ErrorKind}
use Rattle.clap.specs.declared.error.kind.ErrorKind.TheVariants.{DisplayHelp, DisplayVersion}
use Rattle.link_command.specs.declared.command_line.RunRequest.{RunRequest}
use Rattle.link_command.specs.declared.command_line.TableName.{TableName}
use Rattle.link_command.specs.declared.command_line.TableName.TheVariants.{Flows, Packets, Series, Steps, Svg}

-- What a run's words say, as texts.
pub record Texts : Type 0 where
  pub rate : Text
  pub overhead : Option Text
  pub mpu : Option Text
  pub seed : Option Text
  pub every : Option Text
  pub has_fifo : Bool
  pub table : TableName
  pub parameters : List Text

-- `--NAME VALUE`
abbrev pub option_rule : Text → Rule
option_rule name = record (new_rule name) { long = Some name; value_names = 1 }

-- the same, whose value is one of some names
abbrev pub named_rule : Text → ValueParser → Rule
named_rule name names = record (option_rule name) { parser = Some names }

-- `--rate RATE`, which has to be there
abbrev pub rate_rule : Rule
rate_rule = record (option_rule (codes "rate")) { required = true }

-- `[PARAM]...`
abbrev pub parameter_rule : Rule
parameter_rule = record (new_rule (codes "PARAM")) { action = Some Append }

-- the command line without its arguments: words without the program's name, and a version
abbrev pub bare_link_line : App
bare_link_line = on_top (λ top. record top { no_binary_name = true; has_version = true }) (new_app (codes "maltlink"))

-- the command line, by what tests the names of queues and of tables
abbrev pub link_line : ValueParser → ValueParser → App
link_line queues tables =
    with_rule (with_rule (with_rule (with_rule (with_rule (with_rule (with_rule (with_rule bare_link_line rate_rule)
    (option_rule (codes "overhead"))) (option_rule (codes "mpu"))) (option_rule (codes "seed")))
    (named_rule (codes "compare") queues)) (option_rule (codes "every"))) (named_rule (codes "write") tables))
    parameter_rule

-- it takes these names and no others
abbrev pub TakesNames : List Text → ValueParser → Type 0
TakesNames names (value_parser.Names taken) = map (λ name. name.now) taken.now ≡ names
TakesNames names _ = ⊥

-- the names of the queues beside which a run may be made, and those of the tables
abbrev pub queue_names : List Text
queue_names = codes "fifo" ∷ []

abbrev pub table_names : List Text
table_names = codes "flows" ∷ codes "packets" ∷ codes "series" ∷ codes "steps" ∷ codes "svg" ∷ []

-- The command line of the program.
pub record IsProgramLine (line : App) : Type 0 where
  pub queues : ValueParser
  pub tables : ValueParser
  pub takes_queues : TakesNames queue_names queues
  pub takes_tables : TakesNames table_names tables
  pub is : line ≡ link_line queues tables

-- the table of that name, and that of five-tuples where there is none
abbrev pub table_called : Text → TableName
table_called name =
    if bytes_eq name (codes "packets") then Packets
    else if bytes_eq name (codes "series") then Series
    else if bytes_eq name (codes "steps") then Steps
    else if bytes_eq name (codes "svg") then Svg
    else Flows

abbrev pub table_named : Option Text → TableName
table_named None = Flows
table_named (Some name) = table_called name

-- what words say, by what `clap` finds in them
abbrev pub texts_in : List Row → Texts
texts_in rows = record {
  rate = unwrap_or (first_of (codes "rate") rows) [];
  overhead = first_of (codes "overhead") rows;
  mpu = first_of (codes "mpu") rows;
  seed = first_of (codes "seed") rows;
  every = first_of (codes "every") rows;
  has_fifo = is_some (first_of (codes "compare") rows);
  table = table_named (first_of (codes "write") rows);
  parameters = unwrap_or (all_of (codes "PARAM") rows) [];
}

-- what a request says
abbrev pub texts_of : RunRequest → Texts
texts_of run = record {
  rate = run.rate.now;
  overhead = option_map (λ s. s.now) run.overhead;
  mpu = option_map (λ s. s.now) run.mpu;
  seed = option_map (λ s. s.now) run.seed;
  every = option_map (λ s. s.now) run.every;
  has_fifo = run.has_fifo;
  table = run.table;
  parameters = map (λ w. w.now) run.parameters.items;
}

-- The words are those of a run, and say these texts.
pub record AsksForLink (words : List Text) (texts : Texts) : Type 0 where
  pub line : App
  pub of_program : IsProgramLine line
  pub taken : fault_of line words ≡ []
  pub said : texts ≡ texts_in (matches_of line words)

-- they ask for help or for the version
pub record AsksForText (words : List Text) : Type 0 where
  pub line : App
  pub of_program : IsProgramLine line
  pub kind : IsAmong DisplayHelp (fault_of line words) ⊎ IsAmong DisplayVersion (fault_of line words)

-- they aren't those of a command line
pub record IsLinkMistake (words : List Text) : Type 0 where
  pub line : App
  pub of_program : IsProgramLine line
  pub kind : ErrorKind
  pub among : IsAmong kind (fault_of line words)
  pub other : (kind ≢ DisplayHelp) × (kind ≢ DisplayVersion)
