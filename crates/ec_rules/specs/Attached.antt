-- A field of a value type is attached. The place is the field's name.
use Rattle.std.specs.Prelude.{Bool, false, ◌&&◌, List, [], Option, Some, None}
use Rattle.ec_types.specs.Types.{is_value}
use Rattle.ec_types.specs.declared.conform.static_type.StaticType.{StaticType}
use Rattle.ec_rules.specs.declared.Rule.TheVariants.{AttachedValue}
use Rattle.ec_rules.specs.declared.StaticFault.{StaticFault}
use Rattle.ec_rules.specs.Members.{constant_type}
use Rattle.ec_rules.specs.Parts.{MemberPart, variable, constant, condition, operation}
use Rattle.ec_rules.specs.Rules.{fault_if}
use Rattle.ec_types.specs.declared.scopes.scope.Scope.{Scope}
use Rattle.ec_types.specs.Scopes.{written_in}

abbrev pub is_of_value : Option StaticType → Bool
is_of_value None = false
is_of_value (Some of) = is_value of

-- in the scope of the body
abbrev pub attached_value : Scope → MemberPart → List StaticFault
attached_value scope (variable is_attached name of value) =
    fault_if (is_attached && is_value (written_in scope of)) AttachedValue name.at
attached_value scope (constant is_attached name of value) =
    fault_if (is_attached && is_of_value (constant_type scope of value.form)) AttachedValue name.at
attached_value scope (condition name) = []
attached_value scope (operation o) = []
