-- In the core of a program the numbers of the classes rise, and each class has the operations of its type, where the places of
-- the types' names rise.
use Rattle.std.proofs.Common.{◌≡◌, ℕ, ◌<◌, true, List, [], ◌∷◌, ◌++◌, map, Option, sym, subst, All}
use Rattle.ec_ast.specs.declared.Constant.{Constant}
use Rattle.ec_ast.specs.declared.ConstantValue.{ConstantValue}
use Rattle.ec_ast.specs.declared.ConstantValue.TheVariants as stands
use Rattle.ec_ast.specs.declared.Name.{Name}
use Rattle.ec_ast.specs.declared.Program.{Program}
use Rattle.ec_ast.specs.declared.TypeName.{TypeName}
use Rattle.ec_check.proofs.ClassNumbers.{Below, Ascending, ascending, rising, ascending_right, ascending_fewer, numbers_declared, StandsAt}
use Rattle.ec_check.proofs.ClassNumbers.{types_stand, numbers_rise}
use Rattle.ec_check.proofs.Every.{Every, every_joined, every_left, every_right, every_weaker, every_unmap, all_of, none_left}
use Rattle.ec_check.proofs.Fusion.{same_part, same_class}
use Rattle.ec_check.proofs.NumberedHolders.{holder_numbered}
use Rattle.ec_check.proofs.NumberedParts.{Owns, Numbered, nothing_numbered, numbered_within, both_numbered}
use Rattle.ec_check.proofs.NumberedTrees.{numbered_part, numbered_body}
use Rattle.ec_check.proofs.RangedParts.{map_both}
use Rattle.ec_check.proofs.RangedPrograms.{none_in_order}
use Rattle.ec_check.specs.Operations.{HasItsOperations}
use Rattle.ec_places.specs.Rising.{IsRising}
use Rattle.ec_check.specs.Program.{constant_made, constants_made, outermost, core_of}
use Rattle.ec_check.specs.Tree.{class_part}
use Rattle.ec_types.specs.Declarations.{joined, in_expression, in_class, in_body, in_value, declarations_of}
use Rattle.ec_types.specs.Table.{Table, IsTable}
use Rattle.ec_types.specs.Types.{number_at, places_of}
use Rattle.ec_types.specs.declared.conform.declared.DeclaredType.{DeclaredType}
use Rattle.ec_rules.specs.Faults.{faults_in_constant, faults_of_program, StaticFaults}
use Rattle.ec_rules.specs.Judging.{faults_in_holder}
use Rattle.ec_rules.specs.Lists.{each}
use Rattle.ec_rules.specs.Parts.{faults_in}
use Rattle.ec_rules.specs.Tree.{constant_part, value_part}
use Rattle.ec_types.specs.declared.scopes.scope.Scope.{Scope}

-- ---- the types that classes and object constructors declare

abbrev objects_in : ConstantValue → List DeclaredType
objects_in (stands.Expression x) = (in_expression x).types
objects_in (stands.Class c) = (in_class c).types
objects_in (stands.Typeobject t) = []

abbrev pub objects_of : List Constant → List DeclaredType
objects_of [] = []
objects_of (c ∷ cs) = objects_in c.value ++ objects_of cs

abbrev pub types_declared : List Constant → List DeclaredType
types_declared cs = (joined (map (λ (c : Constant). in_value c.value) cs)).types

fewer_in : (P : DeclaredType → Type 0) (v : ConstantValue) → Every P (in_value v).types → Every P (objects_in v)
fewer_in P (stands.Expression x) h = h
fewer_in P (stands.Class c) h = h
fewer_in P (stands.Typeobject t) h = tt

pub fewer_of : (P : DeclaredType → Type 0) (cs : List Constant) → Every P (types_declared cs) → Every P (objects_of cs)
fewer_of P [] h = tt
fewer_of P (c ∷ cs) h =
    every_joined P (objects_in c.value) (objects_of cs)
    (fewer_in P c.value (every_left P (in_value c.value).types (types_declared cs) h))
    (fewer_of P cs (every_right P (in_value c.value).types (types_declared cs) h))

pub every_map : {A B : Type 0} (P : B → Type 0) (f : A → B) (xs : List A) → Every (λ x. P (f x)) xs → Every P (map f xs)
every_map P f [] h = tt
every_map P f (x ∷ xs) h = (h.0, every_map P f xs h.1)

module _ (table : Table) where
  abbrev number_of : DeclaredType → ℕ
  number_of d = number_at table.places d.name.at.from

  below_fewer : (cs : List Constant) (n : ℕ) → Below n (numbers_declared table (types_declared cs)) →
      Below n (numbers_declared table (objects_of cs))
  below_fewer cs n h =
      every_map (λ m. n < m) number_of (objects_of cs)
      (fewer_of (λ d. n < number_of d) cs (every_unmap (λ m. n < m) number_of (types_declared cs) h))

  rise_behind : (ts : List DeclaredType) (cs : List Constant) → Ascending (numbers_declared table (objects_of cs)) →
      Ascending (numbers_declared table (ts ++ types_declared cs)) → Ascending (numbers_declared table (ts ++ objects_of cs))
  rise_behind ts cs k h =
      subst Ascending (sym (map_both number_of ts (objects_of cs)))
      (ascending_fewer (numbers_declared table ts) (numbers_declared table (types_declared cs))
      (numbers_declared table (objects_of cs)) (below_fewer cs) k (subst Ascending (map_both number_of ts (types_declared cs)) h))

  fewer_rise_in : (v : ConstantValue) (cs : List Constant) → Ascending (numbers_declared table (objects_of cs)) →
      Ascending (numbers_declared table ((in_value v).types ++ types_declared cs)) →
      Ascending (numbers_declared table (objects_in v ++ objects_of cs))
  fewer_rise_in (stands.Expression x) cs k h = rise_behind (in_expression x).types cs k h
  fewer_rise_in (stands.Class c) cs k h = rise_behind (in_class c).types cs k h
  fewer_rise_in (stands.Typeobject t) cs k h = k

  fewer_rise : (cs : List Constant) → Ascending (numbers_declared table (types_declared cs)) →
      Ascending (numbers_declared table (objects_of cs))
  fewer_rise [] h = tt
  fewer_rise (c ∷ cs) h =
      fewer_rise_in c.value cs
      (fewer_rise cs
      (ascending_right (numbers_declared table (in_value c.value).types) (numbers_declared table (types_declared cs))
      (subst Ascending (map_both number_of (in_value c.value).types (types_declared cs)) h))) h

-- ---- constants

constant_numbered : (scope : Scope) (name : Name) (of : Option TypeName) (v : ConstantValue) →
    Numbered scope.table (constant_made scope v) (objects_in v) (faults_in_constant scope name of (value_part v))
constant_numbered scope name of (stands.Expression x) =
    numbered_within (λ e. subst (λ p. faults_in scope p ≡ []) (sym (same_part x)) (none_left _ _ e)) (numbered_part x true scope)
constant_numbered scope name of (stands.Class c) =
    numbered_within (λ e. subst (λ h. faults_in_holder scope h ≡ []) (sym (same_class c)) (none_left _ _ e))
    (holder_numbered scope (class_part c) (in_body c.body) (numbered_body c.body))
constant_numbered scope name of (stands.Typeobject t) = nothing_numbered

pub constants_numbered : (scope : Scope) (cs : List Constant) →
    Numbered scope.table (constants_made scope cs) (objects_of cs)
    (each (λ c. faults_in_constant scope c.name c.of c.value) (map constant_part cs))
constants_numbered scope [] = nothing_numbered
constants_numbered scope (c ∷ cs) = both_numbered (constant_numbered scope c.name c.of c.value) (constants_numbered scope cs)

-- ---- programs

numbers_ascend : (table : Table) (program : Program) → IsTable (declarations_of program) table →
    Ascending (places_of (declarations_of program).types) →
    Ascending (map (λ c. c.number) (core_of table program).classes)
numbers_ascend table program is places =
    subst Ascending (sym (constants_numbered (outermost table program) program.constants).numbers)
    (fewer_rise table program.constants (numbers_rise table (declarations_of program) is places))

pub classes_rise : (table : Table) (program : Program) → IsTable (declarations_of program) table →
    IsRising (places_of (declarations_of program).types) → IsRising (map (λ c. c.number) (core_of table program).classes)
classes_rise table program is places =
    rising (map (λ c. c.number) (core_of table program).classes)
    (numbers_ascend table program is (ascending (places_of (declarations_of program).types) places))

pub classes_have_operations : (table : Table) (program : Program) → IsTable (declarations_of program) table →
    StaticFaults table program ≡ [] → IsRising (places_of (declarations_of program).types) →
    All (HasItsOperations table (core_of table program)) (core_of table program).classes
classes_have_operations table program is none places =
    let rise : Ascending (places_of (declarations_of program).types) =
    ascending (places_of (declarations_of program).types) places in
    all_of (HasItsOperations table (core_of table program)) (core_of table program).classes
    (every_weaker (Owns table (core_of table program).operations) (HasItsOperations table (core_of table program))
    (λ c h. record { names = h.names; exported = h.exported }) (core_of table program).classes
    ((constants_numbered (outermost table program) program.constants).owned
    (none_left _ _ (none_in_order (faults_of_program table program) none))
    (fewer_of (StandsAt table) program.constants (types_stand table (declarations_of program) is rise))
    (numbers_ascend table program is rise)))
