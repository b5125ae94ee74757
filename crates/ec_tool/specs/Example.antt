-- One call, written out: the empty source is run on one node of RISC-V, with nothing in its schedule, from a shelf and to a sink in memory.
use Rattle.std.specs.Prelude.{ℕ, List, [], ◌∷◌, codes}
use Rattle.ec_outside.specs.MemShelf.{MemShelfState, names_of}
use Rattle.ec_outside.specs.MemSink.{MemSinkState}
use Rattle.ec_outside.specs.declared.mem_shelf.MemFile.{MemFile}

-- the words, the program's own name first
abbrev pub example_words : List (List ℕ)
example_words = codes "emerald" ∷ codes "run" ∷ codes "program.em" ∷ codes "nodes.toml" ∷ codes "schedule.txt" ∷ []

abbrev pub example_source : List ℕ
example_source = []

abbrev pub example_nodes : List ℕ
example_nodes = codes "[[node]]\nname = \"a\"\nkind = \"riscv\"\nblocks = 100\ntext = 1000\n"

abbrev pub example_schedule : List ℕ
example_schedule = []

-- a file in memory, wherever its name and its bytes lie
abbrev pub file_with : List ℕ → List ℕ → MemFile
file_with name bytes = record { name = record { ref_ptr = (0, 0); now = name }; bytes = record { ref_ptr = (0, 0); now = bytes } }

abbrev pub example_files : List MemFile
example_files =
    file_with (codes "program.em") example_source ∷ file_with (codes "nodes.toml") example_nodes ∷
    file_with (codes "schedule.txt") example_schedule ∷ []

-- a shelf of these files, none of whose calls fails, before its first call
abbrev pub example_shelf : MemShelfState
example_shelf = record {
  files = example_files;
  piece = 4096;
  failing = [];
  calls = 0;
  counts = record { names = names_of example_files; counts = 0 ∷ 0 ∷ 0 ∷ []; others = 0 };
}

-- an empty sink, none of whose calls fails, before its first call
abbrev pub example_sink : MemSinkState
example_sink = record { taken = []; piece = 4096; failing = []; calls = 0; faults = 0 }
