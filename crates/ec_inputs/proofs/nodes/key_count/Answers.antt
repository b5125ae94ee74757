use Rattle.std.proofs.Common.{◌≡◌, List, [], ◌∷◌, length, arith, String, Global, ◌∙◌}
use Rattle.toml.specs.View.{members_view}
use Rattle.toml.specs.declared.Value.{Value}
use Rattle.ec_inputs.specs.Nodes.{key_count}
use Rattle.ec_inputs.proofs.nodes.key_count.Goals as goal

counts : (es : List (String Global × Value)) → length es ≡ key_count (members_view es)
counts [] = omega arith
counts (e ∷ es) = omega (arith, counts es)

pub returns : goal.returns
returns c = c.len.ensures.len ∙ counts c.args.table.now.entries
