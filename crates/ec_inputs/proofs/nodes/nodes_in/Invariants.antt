use Rattle.std.proofs.Common.{◌≡◌, ◌++◌, drop, map, option_map}
use Rattle.toml.specs.View.{table_view}
use Rattle.ec_inputs.specs.Nodes as spec
use Rattle.ec_inputs.proofs.nodes.nodes_in.Given as goal

abbrev pub invariant-loop-table : goal.invariant-loop-table
invariant-loop-table l =
    option_map (λ rest. l.nodes.items ++ rest)
    (spec.nodes_in (map (λ t. table_view t.now) (drop l.table-index l.tables))) ≡ spec.nodes_in (map (λ t. table_view t.now) l.tables)
