use Rattle.std.proofs.Common.{◌≡◌, length, map}
use Rattle.toml.specs.View.{table_view}
use Rattle.ec_inputs.specs.Nodes as spec
use Rattle.ec_inputs.proofs.nodes.have_own_names.Given as goal

abbrev pub invariant-loop-rest : goal.invariant-loop-rest
invariant-loop-rest l = spec.have_own_names (map (λ t. table_view t.now) l.rest) ≡ spec.have_own_names
    (map (λ t. table_view t.now) l.tables)

abbrev pub decreases-loop-rest : goal.decreases-loop-rest
decreases-loop-rest l = length l.rest
