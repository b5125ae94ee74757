-- The core of an accepted program is formed.
use Rattle.std.proofs.Common.{◌≡◌, ℕ, ◌≤◌, List, [], ◌∷◌, length, sym, subst, get_or, All}
use Rattle.std.proofs.lemmas.List.Elements.{All-contains, All-head, All-tail}
use Rattle.ec_ast.specs.declared.Program.{Program}
use Rattle.ec_check.proofs.Every.{Every, all_of, every_weaker, first_holds}
use Rattle.ec_check.proofs.NumberedPrograms.{every_map}
use Rattle.ec_check.proofs.WellPrograms.{program_well}
use Rattle.ec_check.proofs.WellTrees.{well_part, well_body}
use Rattle.ec_check.specs.Program.{core_of}
use Rattle.ec_check.specs.WellTyped.{site_in, site_outside, IsWellOperation, IsWellConstant, IsWellTyped}
use Rattle.ec_types.specs.Declarations.{declarations_of}
use Rattle.ec_types.specs.Table.{Table, IsTable}
use Rattle.ec_types.specs.Types.{names_of}
use Rattle.ec_types.specs.declared.conform.declared.DeclaredType.{DeclaredType}
use Rattle.ec_types.specs.declared.conform.static_type.StaticType.{StaticType}
use Rattle.ec_core.specs.declared.Class.{Class}
use Rattle.ec_core.specs.declared.Constant.{Constant}
use Rattle.ec_core.specs.declared.Core.{Core}
use Rattle.ec_core.specs.declared.Field.{Field}
use Rattle.ec_core.specs.declared.Operation.{Operation}
use Rattle.ec_core_laws.proofs.KnownPlaces.{places_known}
use Rattle.ec_core_laws.specs.KnownPlaces.{IsKnown, KnowsVariables, KnowsClass, KnowsItsPlaces}
use Rattle.ec_core_laws.proofs.FormedExpressions.{expression_forms}
use Rattle.ec_core_laws.proofs.FormedStatements.{block_forms}
use Rattle.ec_core_laws.proofs.ShapedPrograms.{ConstantShaped, CoreShaped, core_shaped, names_fit}
use Rattle.ec_core_laws.proofs.Shapes.{ClassBelow, NumberBelow, OperationShaped}
use Rattle.ec_core_laws.proofs.Sites.{SiteOf, TypeBelow, VariablesBelow, declared_below}
use Rattle.ec_core_laws.proofs.Types.{IsBelow, known_is_of, type_is_written}
use Rattle.ec_core_laws.specs.Formed.{IsOf, IsFormed, IsFormedOperation, IsFormedClass, IsFormedConstant}
use Rattle.ec_rules.specs.Faults.{StaticFaults}

-- ---- lists

every_of : {A : Type 0} (P : A → Type 0) (xs : List A) → All P xs → Every P xs
every_of P [] h = tt
every_of P (x ∷ xs) h = (All-head P x xs h, every_of P xs (All-tail P x xs h))

all_both : {A : Type 0} (P Q R : A → Type 0) → ((x : A) → P x → Q x → R x) → (xs : List A) → All P xs → Every Q xs → All R xs
all_both P Q R w xs h k = λ n d l. w (get_or xs n d) (h n d l) (all_of Q xs k n d l)

all_types_of : (types : ℕ) (ts : List StaticType) → All IsKnown ts → Every (IsBelow types) ts → All (IsOf types) ts
all_types_of types ts = all_both IsKnown (IsBelow types) (IsOf types) (known_is_of types) ts

-- ---- the table

table_below : (table : Table) (program : Program) → IsTable (declarations_of program) table →
    Every (TypeBelow (length table.types)) table.types
table_below table program is =
    let types : ℕ = length table.types in
    let declared : List DeclaredType = (declarations_of program).types in
    let fit : length (names_of declared) ≤ types = subst (λ names. length names ≤ types) is.names (names_fit table program is) in
    subst (Every (TypeBelow types)) (sym is.types)
    (declared_below types (names_of declared) (λ of. (type_is_written types (names_of declared) fit of).0) declared)

-- ---- a core whose places are of types of the program

record PlacesOf (types : ℕ) (table : Table) (core : Core) : Type 0 where
  declared : Every (TypeBelow types) table.types
  constants : Every (λ (c : Constant). IsOf types c.of) core.constants
  numbers : Every (NumberBelow types) core.classes
  classes : All (IsFormedClass types) core.classes
  operations : Every (VariablesBelow types) core.operations

class_formed : (types : ℕ) (c : Class) → KnowsClass c → ClassBelow types c → NumberBelow types c → IsFormedClass types c
class_formed types c k b n = record {
  number = n;
  captured = all_types_of types c.captured k.captured b.captured;
  fields =
      all_both (λ (f : Field). IsKnown f.of) (λ (f : Field). IsBelow types f.of) (λ (f : Field). IsOf types f.of)
      (λ f h g. known_is_of types f.of h g) c.fields k.fields b.fields;
}

places_of_core : (types : ℕ) (table : Table) (core : Core) → Every (TypeBelow types) table.types → CoreShaped types core →
    KnowsItsPlaces core → PlacesOf types table core
places_of_core types table core t shaped known = record {
  declared = t;
  constants =
      every_of (λ (c : Constant). IsOf types c.of) core.constants
      (all_both (λ (c : Constant). IsKnown c.of) (ConstantShaped types) (λ (c : Constant). IsOf types c.of)
      (λ c h g. known_is_of types c.of h g.of) core.constants known.constants shaped.constants);
  numbers = shaped.numbers;
  classes = λ n d l.
      class_formed types (get_or core.classes n d) (known.classes n d l)
      (all_of (ClassBelow types) core.classes shaped.classes n d l) (all_of (NumberBelow types) core.classes shaped.numbers n d l);
  operations =
      every_weaker (OperationShaped types) (VariablesBelow types) (λ o h. h.variables) core.operations shaped.operations;
}

site_is_of : (types : ℕ) (table : Table) (core : Core) → PlacesOf types table core → (c : Class) → IsFormedClass types c →
    (o : Operation) → All (IsOf types) o.variables → SiteOf types (site_in table core c o)
site_is_of types table core p c k o h = record {
  table = p.declared;
  own = k.number;
  variables = every_of (IsOf types) o.variables h;
  captured = every_of (IsOf types) c.captured k.captured;
  fields =
      every_map (IsOf types) (λ (f : Field). f.of) c.fields (every_of (λ (f : Field). IsOf types f.of) c.fields k.fields);
  constants = p.constants;
  classes = p.numbers;
  operations = p.operations;
}

outside_is_of : (types : ℕ) (table : Table) (core : Core) → PlacesOf types table core → SiteOf types (site_outside table core)
outside_is_of types table core p = record {
  table = p.declared;
  own = tt;
  variables = tt;
  captured = tt;
  fields = tt;
  constants = p.constants;
  classes = p.numbers;
  operations = p.operations;
}

-- ---- a whole core

operation_formed : (types : ℕ) (table : Table) (core : Core) → PlacesOf types table core → (o : Operation) →
    OperationShaped types o → KnowsVariables o → IsWellOperation table core o → IsFormedOperation types o
operation_formed types table core p o shaped known well =
    let variables : All (IsOf types) o.variables = all_types_of types o.variables known shaped.variables in
    let class : IsFormedClass types well.1 =
    All-contains (IsFormedClass types) core.classes well.1 p.classes (well.0, well.2, well.3) in
    record {
      block =
          block_forms types (site_in table core well.1 o) (site_is_of types table core p well.1 class o variables) o.block
          shaped.block well.4.1;
      variables = variables;
    }

constant_formed : (types : ℕ) (table : Table) (core : Core) → PlacesOf types table core → (c : Constant) →
    ConstantShaped types c → IsKnown c.of → IsWellConstant table core c → IsFormedConstant types c
constant_formed types table core p c shaped known well = record {
  of = known_is_of types c.of known shaped.of;
  value =
      expression_forms types (site_outside table core) (outside_is_of types table core p) c.value shaped.value
      (first_holds _ _ well);
}

core_formed : (types : ℕ) (table : Table) (core : Core) → Every (TypeBelow types) table.types → CoreShaped types core →
    KnowsItsPlaces core → IsWellTyped table core → IsFormed types core
core_formed types table core t shaped known well =
    let p : PlacesOf types table core = places_of_core types table core t shaped known in
    record {
      operations = λ n d l.
          operation_formed types table core p (get_or core.operations n d)
          (all_of (OperationShaped types) core.operations shaped.operations n d l) (known.operations n d l) (well.operations n d l);
      classes = p.classes;
      constants = λ n d l.
          constant_formed types table core p (get_or core.constants n d)
          (all_of (ConstantShaped types) core.constants shaped.constants n d l) (known.constants n d l) (well.constants n d l);
    }

pub core_is_formed : (table : Table) (program : Program) → IsTable (declarations_of program) table →
    StaticFaults table program ≡ [] → IsFormed (length table.types) (core_of table program)
core_is_formed table program is none =
    core_formed (length table.types) table (core_of table program) (table_below table program is) (core_shaped table program is)
    (places_known table program is none) (program_well well_part well_body table program is none)
