use Rattle.std.proofs.Common.{◌≡◌, ◌++◌, drop, map, option_map}
use Rattle.toml.specs.View.{table_view, items_view}
use Rattle.ec_inputs.specs.Nodes as spec
use Rattle.ec_inputs.proofs.nodes.tables_in.Given as goal

abbrev pub invariant-loop-value : goal.invariant-loop-value
invariant-loop-value l =
    option_map (λ rest. map (λ t. table_view t.now) l.tables.items ++ rest)
    (spec.tables_in (items_view (drop l.value-index l.values))) ≡ spec.tables_in (items_view l.values)
