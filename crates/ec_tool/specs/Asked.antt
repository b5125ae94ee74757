-- What a command asks: the files that it names or the texts that it makes, what it wants of a source, and what a source that it takes to
-- nodes comes to there.
use Rattle.std.specs.Prelude.{◌≡◌, ℕ, List, Option, Some, None, IsSome}
use Rattle.ec_tool.specs.declared.file.FileOf.{FileOf}
use Rattle.ec_tool.specs.declared.file.FileOf.TheVariants.{Source, Nodes, Schedule}
use Rattle.ec_inputs.specs.Words.{RunWords, CommandWords, WordsOf, default_budget}
use Rattle.ec_inputs.specs.Words.{CommandWords as command}
use Rattle.ec_meaning.specs.Programs.{Source as Meant}
use Rattle.ec_native_run.specs.Runs.{Net, RunsTo}
use Rattle.ec_outside.specs.Fault.{HasRisen, ShareCount}
use Rattle.ec_outside.specs.Whole.{IsWhole}
use Rattle.ec_plain.specs.Plain.{IsPlainRun}
use Rattle.ec_report.specs.declared.status.Status.{Status}
use Rattle.ec_tool.specs.Sources.{IsChecked, IsMeant, vectors_in}
use Rattle.ec_trial.specs.Draws.{drawn_from}
use Rattle.ec_trial.specs.Texts.{nodes_text, schedule_text, source_text}
use Rattle.ec_world.specs.declared.node.NodeSpec.{NodeSpec}
use Rattle.ec_world.specs.declared.run.Entry.{Entry}

-- ---- its files

-- the name of a file among the words of a run or a plain meaning
abbrev pub name_in : RunWords → FileOf → List ℕ
name_in words Source = words.source
name_in words Nodes = words.nodes
name_in words Schedule = words.schedule

-- the name of a file, where the command names one: a check names its source alone, and a trial none
abbrev pub file_name : CommandWords → FileOf → Option (List ℕ)
file_name (command.Run run) file = Some (name_in run file)
file_name (command.Mean mean) file = Some (name_in mean file)
file_name (command.Check check) Source = Some check.source
file_name (command.Check check) Nodes = None
file_name (command.Check check) Schedule = None
file_name (command.Trial number) file = None

-- files are read up to this many bytes
abbrev pub file_limit : ℕ
file_limit = 1048577

-- each file that the command names was read whole
abbrev pub AreRead : (List ℕ → Option (List ℕ)) → CommandWords → (FileOf → List ℕ) → Type 0
AreRead content asked held = (file : FileOf) (name : List ℕ) → file_name asked file ≡ Some name →
    IsWhole (content name) file_limit (held file)

-- the text that a trial makes in the place of a file, by its number
abbrev pub trial_text : ℕ → FileOf → List ℕ
trial_text number Source = source_text (drawn_from number)
trial_text number Nodes = nodes_text (drawn_from number)
trial_text number Schedule = schedule_text (drawn_from number)

-- the texts of a trial are those that it makes; no other command makes any
abbrev pub AreMade : CommandWords → (FileOf → List ℕ) → Type 0
AreMade (command.Run run) held = Unit {0}
AreMade (command.Mean mean) held = Unit {0}
AreMade (command.Check check) held = Unit {0}
AreMade (command.Trial number) held = (file : FileOf) → held file ≡ trial_text number file

-- The words ask for a command, and these texts were read for its files: they are what the files hold, where the shelf tells it. Those of a
-- trial were made.
pub record HasRead (Told : Type 0) (words : List (List ℕ)) (content : List ℕ → Option (List ℕ)) : Type 0 where
  pub asked : CommandWords
  pub held : FileOf → List ℕ
  pub words_are : WordsOf words ≡ Some asked
  pub are_read : Told → AreRead content asked held
  pub are_made : AreMade asked held

-- ---- a read that failed

-- so it is of each file that is read before this one: the source is read first, then the nodes, then the schedule
abbrev pub EachBefore : FileOf → (FileOf → Type 0) → Type 0
EachBefore Source P = Unit {0}
EachBefore Nodes P = P Source
EachBefore Schedule P = P Source × P Nodes

-- no count has risen but the one that speaks for this name
pub record OthersStay (kept : List (List ℕ)) (faults faults' : List ℕ → ℕ) (name : List ℕ) : Type 0 where
  pub stay : (other : List ℕ) → ¬ ShareCount kept name other → faults' other ≡ faults other

-- Reading stopped at this file, by the one fault that was met: the count of its name has risen and no other one, and each file that
-- is read before it is there, where the shelf tells it.
pub record StopsAt (Told : Type 0) (content : List ℕ → Option (List ℕ)) (kept : List (List ℕ)) (faults faults' : List ℕ → ℕ)
    (asked : CommandWords) (file : FileOf) : Type 0 where
  pub name : List ℕ
  pub name_is : file_name asked file ≡ Some name
  pub risen : HasRisen (faults name) (faults' name)
  pub others_stay : OthersStay kept faults faults' name
  pub earlier : Told → EachBefore file (λ other. (n : List ℕ) → file_name asked other ≡ Some n → IsSome (content n))

-- ---- its source

-- the source goes to nodes, to be run there or to have its meaning worked out; a check takes none there
abbrev pub TakesToNodes : CommandWords → List ℕ → Type 0
TakesToNodes (command.Run run) source = (meant : Meant) × IsMeant source meant
TakesToNodes (command.Mean mean) source = (meant : Meant) × IsMeant source meant
TakesToNodes (command.Check check) source = ⊥
TakesToNodes (command.Trial number) source = (meant : Meant) × IsMeant source meant

-- the command asks no more than whether the source is a program's, and it is
abbrev pub Checks : CommandWords → List ℕ → Type 0
Checks (command.Run run) source = ⊥
Checks (command.Mean mean) source = ⊥
Checks (command.Check check) source = IsChecked source
Checks (command.Trial number) source = ⊥

-- On these nodes along these entries the source comes to this status and this text; a plain meaning leaves the network alone. A run numbers
-- the vector types that are written in the source's text. A trial is a run within the budget that a run has where the words don't say.
abbrev pub ComesTo : CommandWords → List ℕ → List NodeSpec → List Entry → Net → Net → Status → List ℕ → Type 0
ComesTo (command.Run run) source specs entries net net' status text =
    (meant : Meant) × (is : IsMeant source meant) × RunsTo meant (vectors_in source meant is) specs entries run.budget net net' status text
ComesTo (command.Mean mean) source specs entries net net' status text =
    (meant : Meant) × IsMeant source meant × IsPlainRun meant specs entries mean.budget status text × (net' ≡ net)
ComesTo (command.Check check) source specs entries net net' status text = ⊥
ComesTo (command.Trial number) source specs entries net net' status text =
    (meant : Meant) × (is : IsMeant source meant) × RunsTo meant (vectors_in source meant is) specs entries default_budget net net' status text
