use Rattle.std.proofs.Common.{arith}
use Rattle.ec_rules.proofs.Lists.{total_from_none}
use Rattle.ec_judge.proofs.holders.declared_fields.Goals as goal

pub loop-m-init : goal.loop-m-init
loop-m-init c = record { so_far = total_from_none _ _; small = omega arith }
