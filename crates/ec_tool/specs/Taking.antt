-- A source that is taken to nodes, to be run or for its meaning to be worked out.
use Rattle.std.specs.Prelude.{◌≡◌, ℕ, List}
use Rattle.ec_check.specs.declared.check.Checked.{Checked}
use Rattle.ec_inputs.specs.Words.{RunWords, CommandWords, default_budget}
use Rattle.ec_inputs.specs.Words.{CommandWords as command}
use Rattle.ec_meaning.specs.Programs.{Source as Meant}
use Rattle.ec_native_run.specs.Runs.{Net, RunsTo}
use Rattle.ec_plain.specs.Plain.{IsPlainRun}
use Rattle.ec_report.specs.declared.status.Status.{Status}
use Rattle.ec_tool.specs.declared.source.Accepted.{Accepted}
use Rattle.ec_tool.specs.declared.take.Work.{Work}
use Rattle.ec_tool.specs.declared.take.Work.TheVariants.{Run, Mean}
use Rattle.ec_vector_types.specs.Written.{written_vectors}
use Rattle.ec_world.specs.declared.class.VectorType.{VectorType}
use Rattle.ec_world.specs.declared.node.NodeSpec.{NodeSpec}
use Rattle.ec_world.specs.declared.run.Entry.{Entry}

-- the command with these words, whose files are read
abbrev pub asked_of : Work → RunWords → CommandWords
asked_of Run words = command.Run words
asked_of Mean words = command.Mean words

-- a command that asks for this work within this budget: a trial asks for a run
abbrev pub AsksFor : Work → ℕ → CommandWords → Type 0
AsksFor Run budget (command.Run run) = run.budget ≡ budget
AsksFor Run budget (command.Trial number) = default_budget ≡ budget
AsksFor Mean budget (command.Mean mean) = mean.budget ≡ budget
AsksFor work budget asked = ⊥

-- the source of a text with this core
abbrev pub source_in : List ℕ → Checked → Meant
source_in text checked = record { text = text; table = checked.table; core = checked.core }

-- the vector types that are written in the text of a program
abbrev pub vectors_of : Accepted → List VectorType
vectors_of found = written_vectors found.checked.table.names found.tokens

-- on these nodes along these entries a source, in which these vector types are written, comes to this status and this text; its plain
-- meaning leaves the network alone
abbrev pub WorkComesTo : Work → Meant → List VectorType → List NodeSpec → List Entry → ℕ → Net → Net → Status → List ℕ → Type 0
WorkComesTo Run source vectors specs entries budget net net' status text =
    RunsTo source vectors specs entries budget net net' status text
WorkComesTo Mean source vectors specs entries budget net net' status text =
    IsPlainRun source specs entries budget status text × (net' ≡ net)
