-- No operation that a type of an accepted program declares takes or gives an unknown type.
use Rattle.ec_core_laws.proofs.Tables.{none_unknown}
use Rattle.ec_core_laws.proofs.core_shapes.laws.each_declared_type_is_known.Goals as goal

pub returns : goal.returns
returns start table program is none = none_unknown table program is none
