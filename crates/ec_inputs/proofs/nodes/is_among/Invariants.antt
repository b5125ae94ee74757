use Rattle.std.proofs.Common.{◌≡◌, drop, map}
use Rattle.toml.specs.View.{table_view}
use Rattle.ec_inputs.specs.Nodes as spec
use Rattle.ec_inputs.proofs.nodes.is_among.Given as goal

abbrev pub invariant-loop-table : goal.invariant-loop-table
invariant-loop-table l =
    spec.is_among l.name (map (λ t. table_view t.now) (drop l.table-index l.tables)) ≡ spec.is_among l.name
    (map (λ t. table_view t.now) l.tables)
