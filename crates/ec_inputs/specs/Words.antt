-- What the words of the command line ask for.
use Rattle.std.specs.Prelude.{ℕ, true, List, [], ◌∷◌, Option, Some, None, option_and_then, unwrap_or, codes, pos}
use Rattle.std.specs.Prelude.{if◌then◌else◌, ◌≤◌, ◌≡◌}
use Rattle.std.specs.Str.{bytes_eq}
use Rattle.std.specs.Str.Parse.{digits_value, without_leading_plus}
use Rattle.clap.specs.Words.{App, Shape, Row, Rule, Text, Kinds, new_app, new_rule, with_rule, with_subcommand, first_of, one_of}
use Rattle.clap.specs.Words.{subcommand_of, fault_of}
use Rattle.clap.specs.Lexer.{without_minus}
use Rattle.clap.specs.Values.{IsSignedIn}
use Rattle.clap.specs.Simple.{on_top}
use Rattle.clap.specs.declared.builder.value_parser.ValueParser.TheVariants as vp
use Rattle.ec_inputs.specs.declared.words.CheckCommand.{CheckCommand}
use Rattle.ec_inputs.specs.declared.words.Command.{Command}
use Rattle.ec_inputs.specs.declared.words.Command.TheVariants as command
use Rattle.ec_inputs.specs.declared.words.RunCommand.{RunCommand}

-- ---- the command line, in clap's own words

-- a word that has to be there, by its place
abbrev pub required_word : Text → Rule
required_word name = record (new_rule name) { required = true }

-- `--budget N`, a number from 1 to 4,000,000,000, and 1,000,000 where it isn't given
abbrev pub budget : Rule
budget = record (new_rule (codes "budget")) {
  long = Some (codes "budget");
  defaults = codes "1000000" ∷ [];
  parser = Some (vp.Signed (pos 1) (pos 4000000000));
}

-- a number from 0 to 4,294,967,295 that has to be there
abbrev pub trial_number : Rule
trial_number = record (required_word (codes "number")) { parser = Some (vp.Signed (pos 0) (pos 4294967295)) }

-- `NAME SOURCE NODES SCHEDULE [--budget N]`
abbrev pub run_named : Text → App
run_named name = with_rule (with_rule (with_rule (with_rule (new_app name)
    (required_word (codes "source"))) (required_word (codes "nodes"))) (required_word (codes "schedule"))) budget

-- `run SOURCE NODES SCHEDULE [--budget N]`
abbrev pub run : App
run = run_named (codes "run")

-- `check SOURCE`
abbrev pub check : App
check = with_rule (new_app (codes "check")) (required_word (codes "source"))

-- `mean SOURCE NODES SCHEDULE [--budget N]`
abbrev pub mean : App
mean = run_named (codes "mean")

-- `trial N`
abbrev pub trial : App
trial = with_rule (new_app (codes "trial")) trial_number

-- no help and no version, and one of the subcommands has to be there
abbrev pub without_help : Shape → Shape
without_help s = record s
    { disable_help_flag = true; disable_help_subcommand = true; disable_version_flag = true; subcommand_required = true }

-- the commands that name files
abbrev pub of_files : App
of_files = with_subcommand (with_subcommand (with_subcommand (on_top without_help (new_app (codes "emerald"))) run.top) check.top) mean.top

abbrev pub app : App
app = with_subcommand of_files trial.top

-- ---- the command and its values

-- the files of a run, or of its meaning, by their names, and the most entries that it does
pub record RunWords : Type 0 where
  pub source : Text
  pub nodes : Text
  pub schedule : Text
  pub budget : ℕ

-- the file of a check by its name
pub record CheckWords : Type 0 where
  pub source : Text

pub data CommandWords : Type 0 where
  Run : RunWords → CommandWords
  Check : CheckWords → CommandWords
  Mean : RunWords → CommandWords
  -- by the number of the trial
  Trial : ℕ → CommandWords

-- the most entries of a run where the words don't say, as the option `--budget` has it
abbrev pub default_budget : ℕ
default_budget = 1000000

abbrev pub text_at : Text → List Row → Text
text_at id rows = unwrap_or (first_of id rows) []

-- the number that a text of clap's writes, in decimal
abbrev pub number_at : Text → List Row → ℕ
number_at id rows = digits_value 10 (without_leading_plus (unwrap_or (one_of id rows) []))

abbrev pub run_words : List Row → RunWords
run_words rows = record {
  source = text_at (codes "source") rows;
  nodes = text_at (codes "nodes") rows;
  schedule = text_at (codes "schedule") rows;
  budget = number_at (codes "budget") rows;
}

abbrev pub check_words : List Row → CheckWords
check_words rows = record { source = text_at (codes "source") rows }

-- the text of a number in a range, by clap's test, as clap reads it
abbrev pub IsNumberIn : ℕ → ℕ → Option Text → Type 0
IsNumberIn low high text = (given : Text) × (text ≡ Some (without_minus given)) × IsSignedIn (pos low) (pos high) given

abbrev pub IsBudget : Option Text → Type 0
IsBudget = IsNumberIn 1 4000000000

abbrev pub IsTrialNumber : Option Text → Type 0
IsTrialNumber = IsNumberIn 0 4294967295

-- what a subcommand is by its name, with what clap found for its arguments, one line each
abbrev pub command_named : Text → List Row → Option CommandWords
command_named name rows =
    if bytes_eq name (codes "run") then Some (Run (run_words rows)) else
    if bytes_eq name (codes "check") then Some (Check (check_words rows)) else
    if bytes_eq name (codes "mean") then Some (Mean (run_words rows)) else
    if bytes_eq name (codes "trial") then Some (Trial (number_at (codes "number") rows)) else
    None

abbrev pub command_of : Text × List Row → Option CommandWords
command_of found = command_named found.0 found.1

-- clap found no fault
abbrev pub unless_fault : Kinds → Option (Text × List Row) → Option (Text × List Row)
unless_fault [] found = found
unless_fault (k ∷ ks) found = None

-- The command and its values, or none where clap refuses the words. The first word is the program's own name.
unfoldable pub WordsOf : List Text → Option CommandWords
WordsOf words = option_and_then command_of (unless_fault (fault_of app words) (subcommand_of app words))

-- a command as the program keeps it
abbrev pub run_in : RunCommand → RunWords
run_in r = record { source = r.source.now; nodes = r.nodes.now; schedule = r.schedule.now; budget = r.budget }

abbrev pub check_in : CheckCommand → CheckWords
check_in c = record { source = c.source.now }

abbrev pub command_in : Command → CommandWords
command_in (command.Run r) = Run (run_in r)
command_in (command.Check c) = Check (check_in c)
command_in (command.Mean r) = Mean (run_in r)
command_in (command.Trial number) = Trial number

-- the budget of a run, or of its meaning, is from 1 to 4,000,000,000, and a check or a trial has none
abbrev pub HasBudget : Command → Type 0
HasBudget (command.Run r) = (1 ≤ r.budget) × (r.budget ≤ 4000000000)
HasBudget (command.Check c) = Unit {0}
HasBudget (command.Mean r) = (1 ≤ r.budget) × (r.budget ≤ 4000000000)
HasBudget (command.Trial number) = Unit {0}
