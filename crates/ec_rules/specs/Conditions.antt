-- `wait` or `signal` on what isn't a condition of the directly enclosing monitored object, or in a process section; a
-- condition in an object that isn't monitored. The place is the condition's name.
use Rattle.std.specs.Prelude.{Bool, List, []}
use Rattle.ec_ast.specs.declared.Name.{Name}
use Rattle.ec_ast.specs.declared.Expression.TheOpen.{Statement-F}
use Rattle.ec_rules.specs.declared.Rule.TheVariants.{Condition}
use Rattle.ec_rules.specs.declared.StaticFault.{StaticFault}
use Rattle.ec_rules.specs.Parts.{AStatement, MemberPart, variable, constant, condition, operation}
use Rattle.ec_rules.specs.Rules.{fault_unless}
use Rattle.ec_types.specs.declared.scopes.scope.Scope.{Scope}
use Rattle.ec_types.specs.Scopes.{may_use}

abbrev pub condition_used : Scope → Name → List StaticFault
condition_used scope name = fault_unless (may_use scope name.text) Condition name.at

abbrev pub condition_in_statement : Scope → AStatement → List StaticFault
condition_in_statement scope (Statement-F.Wait name at) = condition_used scope name
condition_in_statement scope (Statement-F.Signal name at) = condition_used scope name
condition_in_statement scope _ = []

-- in an object constructor or class that is monitored or not
abbrev pub condition_unmonitored : Bool → MemberPart → List StaticFault
condition_unmonitored is_monitored (variable is_attached name of value) = []
condition_unmonitored is_monitored (constant is_attached name of value) = []
condition_unmonitored is_monitored (condition name) = fault_unless is_monitored Condition name.at
condition_unmonitored is_monitored (operation o) = []
