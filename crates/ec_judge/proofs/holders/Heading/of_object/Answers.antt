use Rattle.std.proofs.Common.{refl}
use Rattle.ec_rules.proofs.Equations.{object_constructor_step}
use Rattle.ec_judge.proofs.holders.Heading.of_object.Goals as goal

pub returns : goal.returns
returns c = rw object_constructor_step refl
