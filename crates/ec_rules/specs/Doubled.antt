-- A name is declared a second time: a type; a constant of the program; a field, operation or condition of one body; an
-- operation of one typeobject; a parameter, local or result that is in scope in the same operation. The place is the
-- second name.
use Rattle.std.specs.Prelude.{ℕ, ◌==◌, Bool, true, List, [], ◌∷◌, ◌++◌, map, Option, Some, None}
use Rattle.ec_ast.specs.declared.Name.{Name}
use Rattle.ec_ast.specs.declared.Typeobject.{Typeobject}
use Rattle.ec_ast.specs.declared.Expression.TheOpen.{Statement-F}
use Rattle.ec_types.specs.Table.{Table}
use Rattle.ec_types.specs.Types.{number_at}
use Rattle.ec_types.specs.Names.{Text, first_named, has_name}
use Rattle.ec_rules.specs.declared.Rule.TheVariants.{DoubledName}
use Rattle.ec_rules.specs.declared.StaticFault.{StaticFault}
use Rattle.ec_rules.specs.Lists.{each_of}
use Rattle.ec_rules.specs.Members.{names_of, parameter_names}
use Rattle.ec_rules.specs.Parts.{AStatement, OperationPart, Holder}
use Rattle.ec_rules.specs.Rules.{fault_if, fault_unless}
use Rattle.ec_types.specs.declared.scopes.scope.Scope.{Scope}
use Rattle.ec_types.specs.Scopes.{is_local}

-- each of these names that is one before it, or one of those already taken
abbrev pub doubled_behind : List Text → List Name → List StaticFault
doubled_behind taken [] = []
doubled_behind taken (name ∷ names) =
    fault_if (has_name taken name.text) DoubledName name.at ++ doubled_behind (taken ++ name.text ∷ []) names

abbrev pub doubled : List Name → List StaticFault
doubled names = doubled_behind [] names

-- ---- types

abbrev pub is_first : Option ℕ → ℕ → Bool
is_first None own = true
is_first (Some first) own = first == own

-- The names of types are those of the whole program: the first type with this name is another.
abbrev pub doubled_type : Table → Name → List StaticFault
doubled_type table name =
    fault_unless (is_first (first_named table.names name.text) (number_at table.places name.at.from)) DoubledName name.at

-- ---- bodies, typeobjects

abbrev pub doubled_in_body : Holder → List StaticFault
doubled_in_body holder = doubled (names_of holder)

-- Two equal names among the parameters of an operation of a typeobject are no fault.
abbrev pub doubled_in_typeobject : Typeobject → List StaticFault
doubled_in_typeobject t = doubled (map (λ s. s.name) t.operations)

-- ---- operations

-- parameters, then the result
abbrev pub doubled_in_operation : OperationPart → List StaticFault
doubled_in_operation o = doubled (parameter_names o.parameters ++ each_of (λ p. p.name ∷ []) o.result)

-- the parameters, the result and the locals in scope
abbrev pub doubled_local : Scope → Name → List StaticFault
doubled_local scope name = fault_if (is_local scope name.text) DoubledName name.at

abbrev pub doubled_in_statement : Scope → AStatement → List StaticFault
doubled_in_statement scope (Statement-F.LocalVariable name of value) = doubled_local scope name
doubled_in_statement scope (Statement-F.LocalConstant name of value) = doubled_local scope name
doubled_in_statement scope _ = []
