-- An accepted program has at most 1,000 types.
use Rattle.ec_core_laws.proofs.Tables.{few_types}
use Rattle.ec_core_laws.proofs.core_shapes.laws.each_table_is_small.Goals as goal

pub returns : goal.returns
returns start table program is none = few_types table program is none
