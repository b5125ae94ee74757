-- Rows of processes that were granted a monitor.
use Rattle.std.specs.Prelude.{ℕ, List, [], ◌∷◌, Option, Some, None, slice_get, slice_set}
use Rattle.ec_cluster.specs.declared.system.ProcessRow.{ProcessRow}
use Rattle.ec_world.specs.declared.process.ProcStatus.TheVariants.{Ready}

abbrev pub row_readied : List ProcessRow → ℕ → Option ProcessRow → List ProcessRow
row_readied rows q None = rows
row_readied rows q (Some row) = slice_set rows q (record row { status = Ready })

-- these processes are Ready, where they are there
abbrev pub rows_readied : List ProcessRow → List ℕ → List ProcessRow
rows_readied rows [] = rows
rows_readied rows (q ∷ qs) = rows_readied (row_readied rows q (slice_get rows q)) qs
