-- What is written where nothing was judged: the words name no command, or a file wasn't read.
use Rattle.std.specs.Prelude.{ℕ, List, [], ◌∷◌, ◌++◌, codes}
use Rattle.ec_tool.specs.declared.file.FileOf.{FileOf}
use Rattle.ec_tool.specs.declared.file.FileOf.TheVariants.{Source, Nodes, Schedule}

abbrev pub usage_line : List ℕ
usage_line =
    codes "usage: emerald run SOURCE NODES SCHEDULE [--budget N] | check SOURCE | mean SOURCE NODES SCHEDULE [--budget N] | trial N"
    ++ 10 ∷ []

abbrev pub fault_line : FileOf → List ℕ
fault_line Source = codes "read fault source" ++ 10 ∷ []
fault_line Nodes = codes "read fault nodes" ++ 10 ∷ []
fault_line Schedule = codes "read fault schedule" ++ 10 ∷ []
