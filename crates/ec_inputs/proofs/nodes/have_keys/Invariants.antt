use Rattle.std.proofs.Common.{◌≡◌, drop, map}
use Rattle.std.specs.List.{list_all}
use Rattle.toml.specs.View.{table_view}
use Rattle.ec_inputs.specs.Nodes as spec
use Rattle.ec_inputs.proofs.nodes.have_keys.Given as goal

abbrev pub invariant-loop-table : goal.invariant-loop-table
invariant-loop-table l =
    list_all spec.has_keys (map (λ t. table_view t.now) (drop l.table-index l.tables)) ≡ list_all spec.has_keys
    (map (λ t. table_view t.now) l.tables)
