-- The example is a call of which the headline speaks: its words are a run, its files are read, and its source breaks no static rule.
use Rattle.std.proofs.Common.{◌≡◌, inl, inr, ℕ, List, [], ◌∷◌, Ok, Some, codes, refl, arith}
use Rattle.std.proofs.lemmas.Bool.{and_parts, ltb-true}
use Rattle.std.specs.Prelude.{nat_lt, ⊤}
use Rattle.std.specs.Str.{chars, is_utf8}
use Rattle.clap.proofs.OnLiterals.{clap_on_literals}
use Rattle.toml.proofs.OnLiterals.{toml_on_literals}
use Rattle.ec_inputs.specs.Nodes.{NodesOf, document_of, tables_of, has_keys, string_at, number_at, node_of, nodes_by}
use Rattle.ec_inputs.specs.Schedules.{EntriesOf}
use Rattle.ec_inputs.specs.Words.{RunWords, WordsOf, default_budget}
use Rattle.ec_inputs.specs.Words.{CommandWords as command}
use Rattle.ec_outside.specs.Fault.{HasRisen, count_of}
use Rattle.ec_outside.specs.MemShelf.{file_of}
use Rattle.ec_rules.specs.Faults.{IsAccepted as IsAcceptedTree}
use Rattle.ec_tool.proofs.Examples.{empty, empty_is_program, one_node}
use Rattle.ec_tool.specs.Asked.{AreRead}
use Rattle.ec_tool.specs.Example.{example_nodes, example_schedule, example_shelf, example_sink, example_source, example_words}
use Rattle.ec_tool.specs.Promises.{IsAcceptedCall, NoneRisen}
use Rattle.ec_tool.specs.Promises.IsRun.{OfFiles}
use Rattle.ec_tool.specs.Sources.{IsChecked}
use Rattle.ec_tool.specs.declared.file.FileOf.{FileOf}
use Rattle.ec_tool.specs.declared.file.FileOf.TheVariants.{Source, Nodes, Schedule}
use Rattle.ec_types.proofs.Tables.{built}
use Rattle.ec_types.specs.Declarations.{declarations_of}
use Rattle.ec_types.specs.Pairs.{IsLargest}
use Rattle.ec_types.specs.Table.{Table}

-- ---- the source

-- the table of no types
abbrev no_types : Table
no_types = record { names = []; places = []; types = []; pairs = []; operations = [] }

nothing_conforms : IsLargest [] []
nothing_conforms = record {
  full = refl;
  stable = λ a b i j h. let bad = ltb-true a 0 (and_parts (nat_lt a 0) _ h).0 in absurd (omega arith);
  within = λ r closed a b h. let bad = closed.left a b h in absurd (omega arith);
}

no_fault : IsAcceptedTree empty
no_fault = (no_types, built (declarations_of empty) no_types refl refl refl refl nothing_conforms, refl)

is_checked : IsChecked example_source
is_checked = record { tokens = []; program = empty; is_program = empty_is_program no_fault }

-- ---- the words and the files

abbrev run : RunWords
run = record { source = codes "program.em"; nodes = codes "nodes.toml"; schedule = codes "schedule.txt"; budget = default_budget }

words_are : WordsOf example_words ≡ Some (command.Run run)
unfolding WordsOf clap_on_literals
words_are = refl

nodes_are : NodesOf example_nodes ≡ Ok (one_node ∷ [])
unfolding NodesOf document_of tables_of has_keys string_at number_at node_of nodes_by is_utf8 chars toml_on_literals
nodes_are = refl

entries_are : EntriesOf example_schedule ≡ Ok []
unfolding EntriesOf
entries_are = refl

abbrev held : FileOf → List ℕ
held Source = example_source
held Nodes = example_nodes
held Schedule = example_schedule

are_read : AreRead (file_of example_shelf.files) (command.Run run) held
are_read Source name e = let is : codes "program.em" ≡ name = cc in rw (← is) refl
are_read Nodes name e = let is : codes "nodes.toml" ≡ name = cc in rw (← is) refl
are_read Schedule name e = let is : codes "schedule.txt" ≡ name = cc in rw (← is) refl

-- ---- the counts

stays : (n : ℕ) → n ≡ 0 → ¬ HasRisen n n
stays n e (inl h) = omega arith
stays n e (inr h) = omega arith

none_risen : NoneRisen (command.Run run) (count_of example_shelf.counts) (count_of example_shelf.counts)
none_risen Source name e = let is : codes "program.em" ≡ name = cc in rw (← is) (stays 0 refl)
none_risen Nodes name e = let is : codes "nodes.toml" ≡ name = cc in rw (← is) (stays 0 refl)
none_risen Schedule name e = let is : codes "schedule.txt" ≡ name = cc in rw (← is) (stays 0 refl)

-- ---- the call

pub is_accepted : IsAcceptedCall ⊤ ⊤ example_words (file_of example_shelf.files) (count_of example_shelf.counts)
    (count_of example_shelf.counts) example_sink.faults example_sink.faults
is_accepted = record {
  shelf_tells = tt;
  sink_tells = tt;
  accepted = record {
    asked = command.Run run;
    held = held;
    words_are = words_are;
    are_read = are_read;
    are_made = tt;
    are_accepted = (is_checked, record { specs = one_node ∷ []; entries = []; nodes_are = nodes_are; entries_are = entries_are });
  };
  is_run = OfFiles run;
  no_read_fault = none_risen;
  no_write_fault = stays 0 refl;
}
