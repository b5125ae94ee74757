-- What the members of an object constructor or a class declare, and the object that they make.
use Rattle.std.specs.Prelude.{true, false, if◌then◌else◌, List, [], ◌∷◌, ◌++◌, map, Option, Some, None, option_map}
use Rattle.ec_ast.specs.declared.Name.{Name}
use Rattle.ec_ast.specs.declared.Parameter.{Parameter}
use Rattle.ec_ast.specs.declared.TypeName.{TypeName}
use Rattle.ec_types.specs.Types.{named, number_at, vector_of}
use Rattle.ec_types.specs.declared.conform.operations.NamedOperation.{NamedOperation}
use Rattle.ec_types.specs.declared.conform.static_type.StaticType.{StaticType}
use Rattle.ec_types.specs.Names.{Text, has_name}
use Rattle.ec_rules.specs.Forms.{Form, Literal, Negated, Constructor, Vector, Created, Itself, NameAlone, Other}
use Rattle.ec_rules.specs.Lists.{each}
use Rattle.ec_rules.specs.Parts.{OperationPart, MemberPart, variable, constant, condition, operation, Holder}
use Rattle.ec_rules.specs.Types.{integer}
use Rattle.ec_types.specs.declared.scopes.globals.ClassMeant.{ClassMeant}
use Rattle.ec_types.specs.declared.scopes.entries.Entry.{Entry}
use Rattle.ec_types.specs.declared.scopes.object.Object.{Object}
use Rattle.ec_types.specs.declared.scopes.scope.Scope.{Scope}
use Rattle.ec_types.specs.Scopes.{class_named, declaring, within, written_in}

-- ---- types of consts

abbrev pub type_created : Option ClassMeant → Option StaticType
type_created None = None
type_created (Some c) = Some (named c.number)

-- The type that a value's form names, whatever faults are within the value. A const may leave its type out only where
-- its value is a literal other than nil, also with a prefix `-`, an object constructor, a creation or a vector's creation.
abbrev pub form_type : Scope → Form → Option StaticType
form_type scope (Literal of) = Some of
form_type scope Negated = Some integer
form_type scope (Constructor at) = Some (named (number_at scope.table.places at.from))
form_type scope (Vector of) = Some (vector_of (written_in scope of))
form_type scope (Created name) = type_created (class_named scope name.text)
form_type scope Itself = None
form_type scope (NameAlone name) = None
form_type scope Other = None

-- the type of a const: the one that is written, or the one that its value's form names
abbrev pub constant_type : Scope → Option TypeName → Form → Option StaticType
constant_type scope (Some of) form = Some (written_in scope of)
constant_type scope None form = form_type scope form

-- ---- names

abbrev pub member_name : MemberPart → Name
member_name (variable is_attached name of value) = name
member_name (constant is_attached name of value) = name
member_name (condition name) = name
member_name (operation o) = o.name

abbrev pub parameter_names : List Parameter → List Name
parameter_names parameters = map (λ p. p.name) parameters

-- The fields, class parameters among them, the operations and the conditions of one body are one name space.
abbrev pub names_of : Holder → List Name
names_of holder = parameter_names holder.parameters ++ map member_name holder.body.members

-- A doubled name means the first of its declarations: those without the others, behind the names that are taken.
abbrev pub first_members : List Text → List MemberPart → List MemberPart
first_members taken [] = []
first_members taken (m ∷ ms) =
    (if has_name taken (member_name m).text then [] else m ∷ []) ++ first_members (taken ++ (member_name m).text ∷ []) ms

abbrev pub members_of : Holder → List MemberPart
members_of holder = first_members (map (λ p. p.name.text) holder.parameters) holder.body.members

-- ---- operations, conditions

abbrev pub operation_with : Scope → OperationPart → NamedOperation
operation_with scope o = record {
  name = o.name.text;
  parameters = map (λ p. written_in scope p.of) o.parameters;
  result = option_map (λ p. written_in scope p.of) o.result;
}

abbrev pub operations_in : Scope → MemberPart → List NamedOperation
operations_in scope (variable is_attached name of value) = []
operations_in scope (constant is_attached name of value) = []
operations_in scope (condition name) = []
operations_in scope (operation o) = operation_with scope o ∷ []

abbrev pub conditions_in : MemberPart → List Text
conditions_in (variable is_attached name of value) = []
conditions_in (constant is_attached name of value) = []
conditions_in (condition name) = name.text ∷ []
conditions_in (operation o) = []

-- ---- fields

abbrev pub constant_entry : Name → Option StaticType → Entry
constant_entry name of = record { name = name.text; of = of; is_variable = false }

abbrev pub variable_entry : Scope → Name → TypeName → Entry
variable_entry scope name of = record { name = name.text; of = Some (written_in scope of); is_variable = true }

-- Parameters are constants.
abbrev pub parameter_entries : Scope → List Parameter → List Entry
parameter_entries scope parameters = map (λ p. constant_entry p.name (Some (written_in scope p.of))) parameters

abbrev pub fields_in : Scope → MemberPart → List Entry
fields_in scope (variable is_attached name of value) = variable_entry scope name of ∷ []
fields_in scope (constant is_attached name of value) = constant_entry name (constant_type scope of value.form) ∷ []
fields_in scope (condition name) = []
fields_in scope (operation o) = []

abbrev pub field_names_in : MemberPart → List Entry
field_names_in (variable is_attached name of value) = constant_entry name None ∷ []
field_names_in (constant is_attached name of value) = constant_entry name None ∷ []
field_names_in (condition name) = []
field_names_in (operation o) = []

-- ---- the object

-- as seen where no operation is
abbrev pub object_with : Scope → Holder → List Entry → Object
object_with scope holder fields = record {
  number = number_at scope.table.places holder.name.at.from;
  is_monitored = holder.is_monitored;
  in_process = false;
  in_loop = false;
  locals = [];
  fields = fields;
  conditions = each conditions_in (members_of holder);
  operations = each (operations_in scope) (members_of holder);
}

-- the names of the fields alone, which say whether another name is that of a value
abbrev pub field_names : Holder → List Entry
field_names holder = map (λ p. constant_entry p.name None) holder.parameters ++ each field_names_in (members_of holder)

-- the scope in which the types of the fields are found
abbrev pub scope_of_names : Scope → Holder → Scope
scope_of_names scope holder = within scope (object_with scope holder (field_names holder))

abbrev pub fields_of : Scope → Holder → List Entry
fields_of scope holder =
    parameter_entries scope holder.parameters ++ each (fields_in (scope_of_names scope holder)) (members_of holder)

-- the scope of the body of an object constructor or a class
abbrev pub scope_of : Scope → Holder → Scope
scope_of scope holder = within scope (object_with scope holder (fields_of scope holder))

abbrev pub result_entries : Scope → Option Parameter → List Entry
result_entries scope None = []
result_entries scope (Some p) = variable_entry scope p.name p.of ∷ []

-- the scope of the block of an operation, within that of its body
abbrev pub scope_of_operation : Scope → OperationPart → Scope
scope_of_operation scope o = declaring (parameter_entries scope o.parameters ++ result_entries scope o.result) scope
