-- What is taken to nodes, by the command that asked for it.
use Rattle.std.proofs.Common.{◌≡◌, ℕ, suc, ◌<◌, List, [], ◌∷◌, Ok, arith, get_or, refl, subst, sym}
use Rattle.std.specs.List.{AllByRecursion as Each}
use Rattle.ec_tool.specs.Asked.{TakesToNodes, ComesTo}
use Rattle.ec_check.specs.declared.check.Checked.{Checked}
use Rattle.ec_compile.specs.Texts.{IsOfText}
use Rattle.ec_inputs.proofs.Sized.{IsSized, sized_nodes}
use Rattle.ec_inputs.specs.Nodes.{NodesOf}
use Rattle.ec_inputs.specs.Words.{RunWords, CommandWords}
use Rattle.ec_inputs.specs.Words.{CommandWords as command}
use Rattle.ec_acts.specs.Fresh.{IsNodeSize}
use Rattle.ec_native_run.specs.Runs.{AreNodes, Net, RunsTo}
use Rattle.ec_plain.specs.Plain.{IsPlainRun}
use Rattle.ec_report.specs.declared.status.Status.{Status}
use Rattle.ec_check.specs.Accepted.{HasCore}
use Rattle.ec_tool.specs.Sources.{IsMeant, IsProgramText, vectors_in}
use Rattle.ec_tool.specs.Taking.{AsksFor, WorkComesTo, asked_of, source_in}
use Rattle.ec_tool.specs.declared.source.Accepted.{Accepted}
use Rattle.ec_tool.specs.declared.take.Work.{Work}
use Rattle.ec_tool.specs.declared.take.Work.TheVariants.{Run, Mean}
use Rattle.ec_world.specs.declared.class.VectorType.{VectorType}
use Rattle.ec_world.specs.declared.node.NodeSpec.{NodeSpec}
use Rattle.ec_world.specs.declared.run.Entry.{Entry}

-- ---- nodes

node_size : (spec : NodeSpec) → IsSized spec → IsNodeSize spec
node_size spec sized = let text = sized.text in record { blocks = sized.blocks; text = omega arith }

-- the nodes that are read are as many as there may be, and none is too large
pub nodes_read : (nodes : List ℕ) (specs : List NodeSpec) → NodesOf nodes ≡ Ok specs → AreNodes specs
nodes_read nodes specs e =
    let read = sized_nodes nodes specs e in
    record { some = read.some; few = read.few; sizes = λ k spec there. node_size spec (read.each k spec there) }

-- ---- sources

-- what is below 256 at each index is a list of bytes
each_is_byte : (xs : List ℕ) → ((i : ℕ) → get_or xs i 0 < 256) → Each (λ b. b < 256) xs
each_is_byte [] small = tt
each_is_byte (x ∷ xs) small = (small 0, each_is_byte xs (λ i. small (suc i)))

-- the source of a program's text of bytes
pub is_of_text : (text : List ℕ) (checked : Checked) → ((i : ℕ) → get_or text i 0 < 256) → IsMeant text (source_in text checked) →
    IsOfText (source_in text checked)
is_of_text text checked small meant = record {
  tokens = meant.tokens;
  program = meant.program;
  bytes = each_is_byte text small;
  scanned = meant.is_program.has_tokens;
  parsed = meant.is_program.has_tree;
  core = meant.has_core;
}

-- the source of a program's text, with its tokens and its core
abbrev pub meant_by : (text : List ℕ) (found : Accepted) → IsProgramText text found.tokens found.checked.program →
    HasCore found.checked.program found.checked.table found.checked.core → IsMeant text (source_in text found.checked)
meant_by text found program core = record {
  tokens = found.tokens;
  program = found.checked.program;
  is_program = program;
  text_is = refl;
  has_core = core;
}

-- ---- commands

-- a command whose files are read asks for its work within its budget
pub asks_for : (work : Work) (words : RunWords) → AsksFor work words.budget (asked_of work words)
asks_for Run words = refl
asks_for Mean words = refl

pub takes : (work : Work) (budget : ℕ) (asked : CommandWords) → AsksFor work budget asked → (source : List ℕ) (checked : Checked) →
    IsMeant source (source_in source checked) → TakesToNodes asked source
takes Run budget (command.Run run) asks source checked t = (source_in source checked, t)
takes Run budget (command.Trial number) asks source checked t = (source_in source checked, t)
takes Run budget (command.Mean mean) asks source checked t = absurd asks
takes Run budget (command.Check check) asks source checked t = absurd asks
takes Mean budget (command.Mean mean) asks source checked t = (source_in source checked, t)
takes Mean budget (command.Run run) asks source checked t = absurd asks
takes Mean budget (command.Trial number) asks source checked t = absurd asks
takes Mean budget (command.Check check) asks source checked t = absurd asks

module _ (source : List ℕ) (checked : Checked) (meant : IsMeant source (source_in source checked)) (specs : List NodeSpec)
    (entries : List Entry) (net net' : Net) (status : Status) (text : List ℕ) where
  abbrev vectors : List VectorType
  vectors = vectors_in source (source_in source checked) meant

  pub comes_to : (work : Work) (budget : ℕ) (asked : CommandWords) → AsksFor work budget asked →
      WorkComesTo work (source_in source checked) vectors specs entries budget net net' status text →
      ComesTo asked source specs entries net net' status text
  comes_to Run budget (command.Run run) asks r =
      let core = source_in source checked in
      (core, meant, subst (λ (most : ℕ). RunsTo core vectors specs entries most net net' status text) (sym asks) r)
  comes_to Run budget (command.Trial number) asks r =
      let core = source_in source checked in
      (core, meant, subst (λ (most : ℕ). RunsTo core vectors specs entries most net net' status text) (sym asks) r)
  comes_to Run budget (command.Mean mean) asks r = absurd asks
  comes_to Run budget (command.Check check) asks r = absurd asks
  comes_to Mean budget (command.Mean mean) asks r =
      let core = source_in source checked in
      (core, meant, subst (λ (most : ℕ). IsPlainRun core specs entries most status text) (sym asks) r.0, r.1)
  comes_to Mean budget (command.Run run) asks r = absurd asks
  comes_to Mean budget (command.Trial number) asks r = absurd asks
  comes_to Mean budget (command.Check check) asks r = absurd asks
