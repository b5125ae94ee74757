-- No type by which the core keeps a value is unknown: of the variables of its operations, of the fields and the captured names
-- of its classes, and of its constants.
use Rattle.std.specs.Prelude.{◌≡◌, true, All}
use Rattle.ec_types.specs.declared.conform.static_type.StaticType.{StaticType}
use Rattle.ec_core.specs.declared.Class.{Class}
use Rattle.ec_core.specs.declared.Constant.{Constant}
use Rattle.ec_core.specs.declared.Core.{Core}
use Rattle.ec_core.specs.declared.Field.{Field}
use Rattle.ec_core.specs.declared.Operation.{Operation}
use Rattle.ec_core_laws.specs.Known.{is_known}

abbrev pub IsKnown : StaticType → Type 0
IsKnown of = is_known of ≡ true

abbrev pub KnowsVariables : Operation → Type 0
KnowsVariables o = All IsKnown o.variables

pub record KnowsClass (c : Class) : Type 0 where
  pub captured : All IsKnown c.captured
  pub fields : All (λ (f : Field). IsKnown f.of) c.fields

pub record KnowsItsPlaces (core : Core) : Type 0 where
  pub operations : All KnowsVariables core.operations
  pub classes : All KnowsClass core.classes
  pub constants : All (λ (c : Constant). IsKnown c.of) core.constants
