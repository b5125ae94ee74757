-- A name that is used as a type or a value names none; `self` stands outside every object constructor and class. The
-- place is the name.
use Rattle.std.specs.Prelude.{Bool, true, false, is_some, List, [], ◌++◌, Option}
use Rattle.ec_ast.specs.declared.Name.{Name}
use Rattle.ec_ast.specs.declared.Parameter.{Parameter}
use Rattle.ec_ast.specs.declared.Signature.{Signature}
use Rattle.ec_ast.specs.declared.TypeName.{TypeName}
use Rattle.ec_ast.specs.declared.Expression.TheOpen.{Expression-F, Statement-F}
use Rattle.ec_types.specs.Table.{Table}
use Rattle.ec_types.specs.Names.{has_name}
use Rattle.ec_rules.specs.declared.Rule.TheVariants.{UnknownName}
use Rattle.ec_rules.specs.declared.StaticFault.{StaticFault}
use Rattle.ec_rules.specs.Lists.{each, each_of}
use Rattle.ec_rules.specs.Parts.{AnExpression, AStatement, MemberPart, variable, constant, condition, operation}
use Rattle.ec_rules.specs.Rules.{fault_unless}
use Rattle.ec_rules.specs.Types.{type_names}
use Rattle.ec_types.specs.declared.scopes.scope.Found.{Found}
use Rattle.ec_types.specs.declared.scopes.scope.Found.TheVariants.{Held, Constant, Nothing}
use Rattle.ec_types.specs.declared.scopes.scope.Scope.{Scope}
use Rattle.ec_types.specs.Scopes.{find, innermost}

-- ---- names of types

abbrev pub unknown_type : Table → Name → List StaticFault
unknown_type table name = fault_unless (has_name table.names name.text) UnknownName name.at

abbrev pub unknown_types : Table → TypeName → List StaticFault
unknown_types table of = each (unknown_type table) (type_names of)

-- ---- names of values

abbrev pub is_found : Found → Bool
is_found (Held h) = true
is_found (Constant of) = true
is_found Nothing = false

-- ---- in the parts of a program

abbrev pub unknown_in_expression : Scope → AnExpression → List StaticFault
unknown_in_expression scope (Expression-F.Expression::Variable name) =
    fault_unless (is_found (find scope name.text)) UnknownName name.at
unknown_in_expression scope (Expression-F.Itself at) = fault_unless (is_some (innermost scope)) UnknownName at
unknown_in_expression scope (Expression-F.NewVector of size at word) = unknown_types scope.table of
unknown_in_expression scope (Expression-F.View e of at) = unknown_types scope.table of
unknown_in_expression scope _ = []

-- What is assigned to is an expression, so that its name is one.
abbrev pub unknown_in_statement : Scope → AStatement → List StaticFault
unknown_in_statement scope (Statement-F.LocalVariable name of value) = unknown_types scope.table of
unknown_in_statement scope (Statement-F.LocalConstant name of value) = each_of (unknown_types scope.table) of
unknown_in_statement scope _ = []

-- in the parameters of an operation or a class
abbrev pub unknown_in_parameters : Table → List Parameter → List StaticFault
unknown_in_parameters table parameters = each (λ p. unknown_types table p.of) parameters

abbrev pub unknown_in_operation : Table → List Parameter → Option Parameter → List StaticFault
unknown_in_operation table parameters result =
    unknown_in_parameters table parameters ++ each_of (λ p. unknown_types table p.of) result

abbrev pub unknown_in_member : Table → MemberPart → List StaticFault
unknown_in_member table (variable is_attached name of value) = unknown_types table of
unknown_in_member table (constant is_attached name of value) = each_of (unknown_types table) of
unknown_in_member table (condition name) = []
unknown_in_member table (operation o) = unknown_in_operation table o.parameters o.result

-- in an operation of a typeobject
abbrev pub unknown_in_signature : Table → Signature → List StaticFault
unknown_in_signature table s = each (unknown_types table) s.parameters ++ each_of (unknown_types table) s.result
