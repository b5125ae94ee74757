-- Types, as operands want them, and the types that are written.
use Rattle.std.specs.Prelude.{Bool, true, false, List, [], ◌∷◌, Option, Some, None}
use Rattle.ec_ast.specs.declared.Name.{Name}
use Rattle.ec_ast.specs.declared.Span.{Span}
use Rattle.ec_ast.specs.declared.TypeName.{TypeName, fold-TypeName}
use Rattle.ec_ast.specs.declared.TypeName.TheOpen.{TypeName-F}
use Rattle.ec_types.specs.Types.{is_same_type, is_reference_type}
use Rattle.ec_types.specs.declared.conform.static_type.Plain.TheVariants.{Integer, Boolean, String, Node}
use Rattle.ec_types.specs.declared.conform.static_type.StaticType.{StaticType}
use Rattle.ec_types.specs.declared.conform.static_type.StaticType.TheVariants.{Plain, Vector, Nil, Unknown}
use Rattle.ec_rules.specs.declared.operands.Wanted.{Wanted}
use Rattle.ec_rules.specs.declared.operands.Wanted.TheVariants as wanted

abbrev pub integer : StaticType
integer = Plain Integer

abbrev pub boolean : StaticType
boolean = Plain Boolean

abbrev pub string : StaticType
string = Plain String

abbrev pub node : StaticType
node = Plain Node

abbrev pub is_vector : StaticType → Bool
is_vector (Plain of) = false
is_vector (Vector inner of) = true
is_vector Nil = false
is_vector Unknown = false

-- ---- what a place takes

-- References are all but Integers, Booleans and Strings; nil is one.
abbrev pub takes : Wanted → StaticType → Bool
takes wanted.Integer of = is_same_type integer of
takes wanted.Boolean of = is_same_type boolean of
takes wanted.String of = is_same_type string of
takes wanted.Reference of = is_reference_type of
takes wanted.Vector of = is_vector of

-- Nothing that needs the type of an expression without one is a fault.
abbrev pub fits : Wanted → Option StaticType → Bool
fits wanted None = true
fits wanted (Some of) = takes wanted of

-- ---- types as they are written

-- the names of types in a type: none or one
abbrev pub type_names_step : TypeName-F (List Name) → List Name
type_names_step (TypeName-F.Named name) = name ∷ []
type_names_step (TypeName-F.Vector element at) = element
type_names_step _ = []

abbrev pub type_names : TypeName → List Name
type_names = fold-TypeName (List Name) type_names_step

-- the first word of a type
abbrev pub type_place_step : TypeName-F Span → Span
type_place_step (TypeName-F.Integer at) = at
type_place_step (TypeName-F.Boolean at) = at
type_place_step (TypeName-F.String at) = at
type_place_step (TypeName-F.Any at) = at
type_place_step (TypeName-F.Node at) = at
type_place_step (TypeName-F.Named name) = name.at
type_place_step (TypeName-F.Vector element at) = at

abbrev pub type_place : TypeName → Span
type_place = fold-TypeName Span type_place_step
