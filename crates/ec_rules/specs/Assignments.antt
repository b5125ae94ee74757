-- An assignment to a const, a parameter, a global or a captured name. The place is the name.
use Rattle.std.specs.Prelude.{◌==◌, ◌&&◌, Bool, true, false, List, []}
use Rattle.ec_ast.specs.declared.Expression.TheOpen.{Statement-F}
use Rattle.ec_rules.specs.declared.Rule.TheVariants.{Assignment}
use Rattle.ec_rules.specs.declared.StaticFault.{StaticFault}
use Rattle.ec_rules.specs.Forms.{Form, NameAlone}
use Rattle.ec_rules.specs.Parts.{AStatement}
use Rattle.ec_rules.specs.Rules.{fault_unless}
use Rattle.ec_types.specs.declared.scopes.scope.Found.{Found}
use Rattle.ec_types.specs.declared.scopes.scope.Found.TheVariants.{Held, Constant, Nothing}
use Rattle.ec_types.specs.declared.scopes.scope.Scope.{Scope}
use Rattle.ec_types.specs.Scopes.{find}

-- A variable of the own operation or object. A name that is that of no value is a fault of another rule.
abbrev pub is_assignable : Found → Bool
is_assignable (Held h) = (h.out == 0) && h.is_variable
is_assignable (Constant of) = false
is_assignable Nothing = true

abbrev pub assigned_form : Scope → Form → List StaticFault
assigned_form scope (NameAlone name) = fault_unless (is_assignable (find scope name.text)) Assignment name.at
assigned_form scope _ = []

abbrev pub assignment_in_statement : Scope → AStatement → List StaticFault
assignment_in_statement scope (Statement-F.Assign target value) = assigned_form scope target.form
assignment_in_statement scope _ = []
