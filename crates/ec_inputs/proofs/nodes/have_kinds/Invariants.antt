use Rattle.std.proofs.Common.{◌≡◌, drop, map}
use Rattle.toml.specs.View.{table_view}
use Rattle.ec_inputs.specs.Nodes as spec
use Rattle.ec_inputs.proofs.nodes.have_kinds.Given as goal

abbrev pub invariant-loop-table : goal.invariant-loop-table
invariant-loop-table l =
    spec.have_kinds (map (λ t. table_view t.now) (drop l.table-index l.tables)) ≡ spec.have_kinds (map (λ t. table_view t.now) l.tables)
