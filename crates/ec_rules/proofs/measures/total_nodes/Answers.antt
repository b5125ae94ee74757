use Rattle.std.proofs.Common.{arith}
use Rattle.ec_rules.proofs.Lists.{total_from_none}
use Rattle.ec_rules.proofs.measures.total_nodes.Goals as goal

pub loop-value-init : goal.loop-value-init
loop-value-init c = record { so_far = total_from_none _ _; small = omega arith }
