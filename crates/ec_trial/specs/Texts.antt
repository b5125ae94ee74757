-- The three texts of a trial, by what is drawn for it. Every line ends with a line feed.
use Rattle.std.specs.Prelude.{ℕ, zero, suc, List, [], ◌∷◌, ◌++◌, codes}
use Rattle.std.specs.Fmt.{decimal}
use Rattle.ec_world.specs.declared.node.Kind.{Kind}
use Rattle.ec_world.specs.declared.run.RunEntry.{RunEntry}
use Rattle.ec_world.specs.declared.run.RunEntry.TheVariants.{TurnOf, MoveOf}
use Rattle.ec_report.specs.Report.{kind_text}
use Rattle.ec_trial.specs.declared.drawn.Drawn.{Drawn}

-- ---- the source: a class of cells, a cell that all workers share, the class of workers, and the workers

unfoldable pub cell_class : List ℕ
cell_class =
    codes "const Cell <- monitor class Cell [start : Integer]\n"
    ++ codes "  var sum : Integer <- start\n"
    ++ codes "  export operation add [k : Integer] -> [r : Integer]\n"
    ++ codes "    sum <- sum + k\n"
    ++ codes "    r <- sum\n"
    ++ codes "  end add\n"
    ++ codes "end Cell\n"

abbrev pub shared_line : ℕ → List ℕ
shared_line start = codes "const shared <- Cell.create[" ++ decimal start ++ codes "]\n"

-- the class of workers before the line that ends their loop
abbrev pub worker_front : List ℕ
worker_front =
    codes "const W <- class W [id : Integer, c : Cell]\n"
    ++ codes "  attached var own : Cell\n"
    ++ codes "  initially\n"
    ++ codes "    own <- Cell.create[id]\n"
    ++ codes "  end initially\n"
    ++ codes "  process\n"
    ++ codes "    var i : Integer\n"
    ++ codes "    loop\n"

abbrev pub exit_line : ℕ → List ℕ
exit_line rounds = codes "      exit when i >= " ++ decimal rounds ++ codes "\n"

-- and behind it
abbrev pub worker_rest : List ℕ
worker_rest =
    codes "      var r : Integer <- c.add[own.add[i]]\n"
    ++ codes "      i <- i + 1\n"
    ++ codes "    end loop\n"
    ++ codes "    stdout.putstring[id.asString || \" \" || own.add[0].asString || \"\\n\"]\n"
    ++ codes "  end process\n"
    ++ codes "end W\n"

unfoldable pub worker_class : ℕ → List ℕ
worker_class rounds = worker_front ++ exit_line rounds ++ worker_rest

abbrev pub worker_line : ℕ → List ℕ
worker_line i = codes "const w" ++ decimal i ++ codes " <- W.create[" ++ decimal i ++ codes ", shared]\n"

-- so many workers, from number i on
abbrev pub worker_lines : ℕ → ℕ → List ℕ
worker_lines i zero = []
worker_lines i (suc count) = worker_line i ++ worker_lines (suc i) count

unfoldable pub source_text : Drawn → List ℕ
source_text d = cell_class ++ shared_line d.start ++ worker_class d.rounds ++ worker_lines 0 d.workers

-- ---- the node file

abbrev pub name_lines : ℕ → List ℕ
name_lines j = codes "[[node]]\nname = \"n" ++ decimal j ++ codes "\"\n"

abbrev pub kind_line : Kind → List ℕ
kind_line kind = codes "kind = \"" ++ kind_text kind ++ codes "\"\n"

-- the lines of node j
abbrev pub node_text : ℕ → Kind → List ℕ
node_text j kind = name_lines j ++ kind_line kind ++ codes "blocks = 4096\ntext = 65536\n"

-- nodes of these kinds, from number j on
abbrev pub node_texts : ℕ → List Kind → List ℕ
node_texts j [] = []
node_texts j (kind ∷ kinds) = node_text j kind ++ node_texts (suc j) kinds

unfoldable pub nodes_text : Drawn → List ℕ
nodes_text d = node_texts 0 d.kinds

-- ---- the schedule

abbrev pub entry_line : RunEntry → List ℕ
entry_line (TurnOf p) = codes "turn " ++ decimal p ++ codes "\n"
entry_line (MoveOf o k) = codes "move " ++ decimal o ++ codes " to " ++ decimal k ++ codes "\n"

abbrev pub entry_lines : List RunEntry → List ℕ
entry_lines [] = []
entry_lines (entry ∷ entries) = entry_line entry ++ entry_lines entries

unfoldable pub schedule_text : Drawn → List ℕ
schedule_text d = entry_lines d.entries
