-- Types that are known: a type that is written without a fault is one.
use Rattle.std.proofs.Common.{◌≡◌, ℕ, zero, suc, Bool, true, false, List, [], Option, Some, None, refl, sym, ap, subst, is_some}
use Rattle.std.proofs.Common.{option_and_then}
use Rattle.ec_ast.specs.declared.Name.{Name}
use Rattle.ec_ast.specs.declared.Span.{Span}
use Rattle.ec_ast.specs.declared.TypeName.{TypeName, roll-TypeName, map-TypeName, fold-roll-TypeName, ind-TypeName}
use Rattle.ec_ast.specs.declared.TypeName.TheOpen.{TypeName-F}
use Rattle.ec_check.proofs.Every.{none_left}
use Rattle.ec_types.specs.Table.{Table}
use Rattle.ec_types.specs.Types.{known, type_of, type_with_number, vector_of, element_of, written}
use Rattle.ec_types.specs.declared.conform.static_type.StaticType.{StaticType}
use Rattle.ec_types.specs.declared.conform.static_type.StaticType.TheVariants.{Plain, Vector, Nil, Unknown}
use Rattle.ec_types.specs.Names.{first_named}
use Rattle.ec_rules.specs.Lists.{each}
use Rattle.ec_rules.specs.Names.{unknown_type, unknown_types}
use Rattle.ec_rules.specs.Rules.{fault_unless, is_clean}
use Rattle.ec_rules.specs.Types.{type_names, type_names_step, is_vector}
use Rattle.ec_rules.specs.declared.Rule.{Rule}
use Rattle.ec_rules.specs.declared.StaticFault.{StaticFault}

-- ---- types that are there and known

abbrev pub has_type : Option StaticType → Bool
has_type None = false
has_type (Some (Plain of)) = true
has_type (Some (Vector inner of)) = true
has_type (Some Nil) = true
has_type (Some Unknown) = false

abbrev pub HasType : Option StaticType → Type 0
HasType of = has_type of ≡ true

-- a result, where there is one
abbrev pub KnownIfThere : Option StaticType → Type 0
KnownIfThere of = is_some of ≡ true → HasType of

pub is_there : (of : Option StaticType) → HasType of → is_some of ≡ true
is_there None h = h
is_there (Some of) h = refl

pub still_known : (of : Option StaticType) → HasType of → HasType (option_and_then known of)
still_known None h = h
still_known (Some (Plain of)) h = refl
still_known (Some (Vector inner of)) h = refl
still_known (Some Nil) h = refl
still_known (Some Unknown) h = h

-- the elements of a vector
pub element_has_type : (of : StaticType) → is_vector of ≡ true → HasType (element_of of)
element_has_type (Plain of) v = v
element_has_type (Vector zero of) v = refl
element_has_type (Vector (suc inner) of) v = refl
element_has_type Nil v = v
element_has_type Unknown v = v

-- ---- types as they are written

abbrev pub is_written : StaticType → Bool
is_written (Plain of) = true
is_written (Vector inner of) = true
is_written Nil = false
is_written Unknown = false

pub written_has_type : (of : StaticType) → is_written of ≡ true → HasType (Some of)
written_has_type (Plain of) w = refl
written_has_type (Vector inner of) w = refl
written_has_type Nil w = refl
written_has_type Unknown w = w

pub written_is_known : (of : StaticType) → is_written of ≡ true → HasType (known of)
written_is_known (Plain of) w = refl
written_is_known (Vector inner of) w = refl
written_is_known Nil w = refl
written_is_known Unknown w = w

pub vector_is_written : (of : StaticType) → is_written of ≡ true → is_written (vector_of of) ≡ true
vector_is_written (Plain of) w = refl
vector_is_written (Vector inner of) w = refl
vector_is_written Nil w = w
vector_is_written Unknown w = w

-- ---- faults

pub test_holds : (b : Bool) (rule : Rule) (at : Span) → fault_unless b rule at ≡ [] → b ≡ true
test_holds true rule at e = refl
test_holds false rule at e = cc

pub clean : (fs : List StaticFault) → fs ≡ [] → is_clean fs ≡ true
clean fs e = ap is_clean e

-- ---- a type without a fault is known

abbrev IsKnownIn : Table → TypeName → Type 0
IsKnownIn table of = unknown_types table of ≡ [] → is_written (type_of table.names of) ≡ true

number_is_written : (n : Option ℕ) (rule : Rule) (at : Span) → fault_unless (is_some n) rule at ≡ [] →
    is_written (type_with_number n) ≡ true
number_is_written None rule at e = cc
number_is_written (Some n) rule at e = refl

abbrev TypeHeld : Table → Type 0
TypeHeld table = (of : TypeName) × IsKnownIn table of

abbrev bare : (table : Table) → TypeName-F (TypeHeld table) → TypeName-F TypeName
bare table = map-TypeName (TypeHeld table) TypeName (λ of. of.0)

names_rolled : (x : TypeName-F TypeName) →
    type_names (roll-TypeName x) ≡ type_names_step (map-TypeName TypeName (List Name) type_names x)
names_rolled x = fold-roll-TypeName (List Name) type_names_step x

type_rolled : (table : Table) (x : TypeName-F TypeName) →
    type_of table.names (roll-TypeName x) ≡ written table.names (map-TypeName TypeName StaticType (type_of table.names) x)
type_rolled table x = fold-roll-TypeName StaticType (written table.names) x

layer_is_known : (table : Table) (y : TypeName-F (TypeHeld table)) →
    each (unknown_type table) (type_names_step (map-TypeName TypeName (List Name) type_names (bare table y))) ≡ [] →
    is_written (written table.names (map-TypeName TypeName StaticType (type_of table.names) (bare table y))) ≡ true
layer_is_known table (TypeName-F.Integer at) e = refl
layer_is_known table (TypeName-F.Boolean at) e = refl
layer_is_known table (TypeName-F.String at) e = refl
layer_is_known table (TypeName-F.Any at) e = refl
layer_is_known table (TypeName-F.Node at) e = refl
layer_is_known table (TypeName-F.Named name) e =
    number_is_written (first_named table.names name.text) _ _ (none_left _ _ e)
layer_is_known table (TypeName-F.Vector element at) e =
    vector_is_written (type_of table.names element.0) (element.1 e)

rolled_is_known : (table : Table) (y : TypeName-F (TypeHeld table)) → IsKnownIn table (roll-TypeName (bare table y))
rolled_is_known table y e =
    subst (λ of. is_written of ≡ true) (sym (type_rolled table (bare table y)))
    (layer_is_known table y (subst (λ names. each (unknown_type table) names ≡ []) (names_rolled (bare table y)) e))

pub type_is_known : (table : Table) (of : TypeName) → unknown_types table of ≡ [] →
    is_written (type_of table.names of) ≡ true
type_is_known table =
    ind-TypeName (IsKnownIn table)
    (λ x y is. subst (λ z. IsKnownIn table (roll-TypeName z)) is (rolled_is_known table y))
