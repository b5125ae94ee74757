-- Limits: of types, operations, fields, parameters, named variables with value height, tree nodes, and literals.
use Rattle.std.specs.Prelude.{ℕ, ◌==◌, nat_lt, Bool, false, List, [], ◌++◌, length, slice_get, Option, Some, None}
use Rattle.ec_ast.specs.declared.Literal.{Literal}
use Rattle.ec_ast.specs.declared.Parameter.{Parameter}
use Rattle.ec_ast.specs.declared.Span.{Span}
use Rattle.ec_ast.specs.declared.Expression.TheOpen.{Expression-F}
use Rattle.ec_types.specs.Table.{Table}
use Rattle.ec_types.specs.Names.{Text}
use Rattle.ec_rules.specs.declared.Rule.TheVariants.{ManyTypes, ManyOperations, ManyFields, ManyParameters, ManyVariables, Size}
use Rattle.ec_rules.specs.declared.StaticFault.{StaticFault}
use Rattle.ec_rules.specs.declared.judged.Done.{Done}
use Rattle.ec_rules.specs.Lists.{each_of, plus, total}
use Rattle.ec_rules.specs.Parts.{OperationPart, MemberPart, variable, constant, condition, operation, Holder, AnExpression}
use Rattle.ec_rules.specs.Rules.{fault, fault_if}

-- ---- in document order over the whole program

-- what is one too many begins there, if anything is
abbrev pub begins_at : Option ℕ → Span → Bool
begins_at None at = false
begins_at (Some first) at = first == at.from

-- A type with its name there is the 1,001st typeobject, class or object constructor.
abbrev pub many_types : Table → Span → List StaticFault
many_types table at = fault_if (begins_at (slice_get table.places 1000) at) ManyTypes at

-- An operation there is the 4,001st over all bodies together; those of typeobjects don't count. Each object constructor
-- and class counts one for operation 0 at its name, and one for a process section at its word.
abbrev pub many_operations : Table → Span → List StaticFault
many_operations table at = fault_if (begins_at (slice_get table.operations 4000) at) ManyOperations at

-- ---- of one object, of one list of parameters

abbrev pub field_count : MemberPart → ℕ
field_count (variable is_attached name of value) = 1
field_count (constant is_attached name of value) = 1
field_count (condition name) = 1
field_count (operation o) = 0

-- The 101st field: captured, parameters, declared and conditions, in this order. The place is the object's name.
abbrev pub many_fields : List Text → Holder → List StaticFault
many_fields captures holder =
    fault_if (nat_lt 100 (plus (plus (length captures) (length holder.parameters)) (total field_count holder.body.members)))
    ManyFields holder.name.at

-- The 17th parameter of an operation or a class. The place is its name.
abbrev pub many_parameters : List Parameter → List StaticFault
many_parameters parameters = each_of (λ p. fault ManyParameters p.name.at) (slice_get parameters 16)

-- ---- of one operation, at its place, with what its block and its initial values are found to be

-- named variables (parameters, result, every local) plus greatest value height over 100
abbrev pub many_variables : Span → ℕ → Done → List StaticFault
many_variables at variables done = fault_if (nat_lt 100 (plus (plus variables done.variables) done.height)) ManyVariables at

-- over 4,000 tree nodes
abbrev pub many_nodes : Span → Done → List StaticFault
many_nodes at done = fault_if (nat_lt 4000 done.nodes) Size at

-- So many of its variables are declared outside its block.
abbrev pub too_large : Span → ℕ → Done → List StaticFault
too_large at variables done = many_variables at variables done ++ many_nodes at done

-- One of an object or a class counts among the operations of the program too.
abbrev pub measured : Table → Span → ℕ → Done → List StaticFault
measured table at variables done = too_large at variables done ++ many_operations table at

abbrev pub count_of : {A : Type 0} → Option A → ℕ
count_of None = 0
count_of (Some a) = 1

abbrev pub variables_of : OperationPart → ℕ
variables_of o = plus (length o.parameters) (count_of o.result)

-- ---- literals

-- A string literal over 65,535 bytes. The place is the literal.
abbrev pub long_literal : Literal → List StaticFault
long_literal l = fault_if (nat_lt 65535 (length l.text)) Size l.at

abbrev pub long_in_expression : AnExpression → List StaticFault
long_in_expression (Expression-F.Literal l) = long_literal l
long_in_expression _ = []
