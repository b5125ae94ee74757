-- In a program without faults, with the table of its types, each type within it is known.
use Rattle.std.proofs.Common.{◌≡◌, Bool, true, false, List, [], ◌∷◌, ◌++◌, map, Option, Some, None, option_map, refl, sym, subst}
use Rattle.std.proofs.Common.{if◌then◌else◌}
use Rattle.ec_ast.specs.declared.Class.{Class}
use Rattle.ec_ast.specs.declared.Constant.{Constant}
use Rattle.ec_ast.specs.declared.ConstantValue.{ConstantValue}
use Rattle.ec_ast.specs.declared.ConstantValue.TheVariants as stands
use Rattle.ec_ast.specs.declared.Expression.{Expression}
use Rattle.ec_ast.specs.declared.Name.{Name}
use Rattle.ec_ast.specs.declared.Program.{Program}
use Rattle.ec_ast.specs.declared.Signature.{Signature}
use Rattle.ec_ast.specs.declared.TypeName.{TypeName}
use Rattle.ec_check.proofs.DeclaringParts.{SoundSignature, SoundDeclared, SoundTypes, both_sound, holder_declares}
use Rattle.ec_check.proofs.Every.{Every, every_joined, every_unmap, none_left, none_right, none_each, either}
use Rattle.ec_check.proofs.Fusion.{same_part, same_class}
use Rattle.ec_check.proofs.GoodTrees.{good_part, good_body}
use Rattle.ec_check.proofs.KnownTypes.{HasType, KnownIfThere, written_has_type, type_is_known}
use Rattle.ec_check.proofs.SoundForms.{SoundForm, constant_has_type, same_constant, same_class_among_constants}
use Rattle.ec_check.proofs.SoundHolders.{holder_types}
use Rattle.ec_check.proofs.SoundParts.{part_types}
use Rattle.ec_check.proofs.SoundScopes.{SoundScope, SoundTable, SoundType, SoundOperations, KnownResult, TypedGlobal, TypedMeaning}
use Rattle.ec_check.specs.Parts.{holder_judged}
use Rattle.ec_check.specs.Program.{outermost, value_within, types_of_program}
use Rattle.ec_check.specs.Tree.{class_part}
use Rattle.ec_types.specs.Declarations.{joined, in_value, in_body, declarations_of}
use Rattle.ec_types.specs.Table.{Table, IsTable}
use Rattle.ec_types.specs.Types.{type_of, operation_of, operation_names, operations_from, type_with}
use Rattle.ec_types.specs.declared.conform.declared.DeclaredType.{DeclaredType}
use Rattle.ec_types.specs.declared.conform.declared.Declarations.{Declarations}
use Rattle.ec_types.specs.declared.conform.operations.NamedOperation.{NamedOperation}
use Rattle.ec_types.specs.Names.{has_name}
use Rattle.ec_rules.specs.Faults.{meaning_of, globals_in, scope_with, scope_of_names, scope_of_program, faults_in_constant}
use Rattle.ec_rules.specs.Faults.{faults_of_program, StaticFaults}
use Rattle.ec_rules.specs.Judging.{faults_in_holder}
use Rattle.ec_rules.specs.Lists.{each, each_of}
use Rattle.ec_rules.specs.Names.{unknown_types, unknown_in_signature}
use Rattle.ec_rules.specs.Parts as judged
use Rattle.ec_rules.specs.Parts.{faults_in}
use Rattle.ec_rules.specs.Rules.{is_before, insert, in_order}
use Rattle.ec_rules.specs.Tree as judged_tree
use Rattle.ec_rules.specs.Tree.{constant_part, constant_parts, value_part}
use Rattle.ec_rules.specs.declared.StaticFault.{StaticFault}
use Rattle.ec_types.specs.declared.scopes.scope.Scope.{Scope}

-- ---- faults in their order

one_of_two : (b : Bool) (f g : StaticFault) (fs gs : List StaticFault) → (if b then (f ∷ fs) else (g ∷ gs)) ≡ [] → ⊥
one_of_two true f g fs gs e = cc
one_of_two false f g fs gs e = cc

inserted : (f : StaticFault) (fs : List StaticFault) → insert f fs ≡ [] → ⊥
inserted f [] e = cc
inserted f (g ∷ gs) e = one_of_two (is_before g f) g f (insert f gs) (g ∷ gs) e

none_in_order : (fs : List StaticFault) → in_order fs ≡ [] → fs ≡ []
none_in_order [] e = refl
none_in_order (f ∷ fs) e = absurd (inserted f (in_order fs) e)

-- ---- the table

result_is_known : (table : Table) (result : Option TypeName) → each_of (unknown_types table) result ≡ [] →
    KnownIfThere (option_map (type_of table.names) result)
result_is_known table None e = λ is. is
result_is_known table (Some of) e = λ is. written_has_type _ (type_is_known table of e)

operations_are_known : (table : Table) (taken : List NamedOperation) (ss : List Signature) → SoundOperations taken →
    Every (SoundSignature table) ss → SoundOperations (operations_from table.names taken ss)
operations_are_known table taken [] h k = h
operations_are_known table taken (s ∷ ss) h k =
    operations_are_known table
    (if has_name (operation_names taken) s.name.text then taken else (taken ++ operation_of table.names s ∷ [])) ss
    (either SoundOperations (has_name (operation_names taken) s.name.text) taken (taken ++ operation_of table.names s ∷ []) h
    (every_joined KnownResult taken (operation_of table.names s ∷ []) h (result_is_known table s.result k.0, tt))) k.1

types_are_sound : (table : Table) (ds : List DeclaredType) → Every (SoundDeclared table) ds →
    Every SoundType (map (type_with table.names) ds)
types_are_sound table [] h = tt
types_are_sound table (d ∷ ds) h = (operations_are_known table [] d.operations tt h.0, types_are_sound table ds h.1)

table_is_sound : (declared : Declarations) (table : Table) → IsTable declared table → Every (SoundDeclared table) declared.types →
    SoundTable table
table_is_sound declared table is h =
    subst (Every SoundType) (sym is.types)
    (subst (λ names. Every SoundType (map (type_with names) declared.types)) is.names (types_are_sound table declared.types h))

-- ---- constants without faults

abbrev pub Faultless : Scope → Constant → Type 0
Faultless scope c = faults_in_constant scope c.name c.of (value_part c.value) ≡ []

pub class_without_faults : (scope : Scope) (c : Class) → faults_in_holder scope (judged_tree.class_part c) ≡ [] →
    faults_in_holder scope (holder_judged (class_part c)) ≡ []
class_without_faults scope c e = subst (λ h. faults_in_holder scope h ≡ []) (sym (same_class c)) e

signatures_are_sound : (table : Table) (ss : List Signature) → each (unknown_in_signature table) ss ≡ [] →
    Every (SoundSignature table) ss
signatures_are_sound table [] e = tt
signatures_are_sound table (s ∷ ss) e =
    (none_right _ _ (none_left _ _ e), signatures_are_sound table ss (none_right _ _ e))

value_declares : (scope : Scope) (name : Name) (of : Option TypeName) (v : ConstantValue) →
    faults_in_constant scope name of (value_part v) ≡ [] → SoundTypes scope.table (in_value v)
value_declares scope name of (stands.Expression x) e =
    (good_part x).1.declares true scope (subst (λ p. faults_in scope p ≡ []) (sym (same_part x)) (none_left _ _ e))
value_declares scope name of (stands.Class c) e =
    holder_declares scope (class_part c) (in_body c.body) c.name (map (λ p. p.name.text) c.parameters) (good_body c.body).1
    (class_without_faults scope c (none_left _ _ e))
value_declares scope name of (stands.Typeobject t) e =
    (signatures_are_sound scope.table t.operations (none_left _ _ (none_left _ _ e)), tt)

constants_declare : (scope : Scope) (cs : List Constant) → Every (Faultless scope) cs →
    SoundTypes scope.table (joined (map (λ c. in_value c.value) cs))
constants_declare scope [] e = tt
constants_declare scope (c ∷ cs) e =
    both_sound scope.table (in_value c.value) (joined (map (λ c. in_value c.value) cs))
    (value_declares scope c.name c.of c.value e.0) (constants_declare scope cs e.1)

-- ---- the types of the constants

form_is_sound : (scope : Scope) (x : Expression) → faults_in scope (judged_tree.part_of x) ≡ [] →
    SoundForm scope (judged_tree.part_of x).form
form_is_sound scope x =
    subst (λ (p : judged.Part). faults_in scope p ≡ [] → SoundForm scope p.form) (same_part x)
    (λ e. (good_part x).0.form true scope e)

-- The types of the constants are found in the scope of their names alone.
meaning_is_typed : (table : Table) (cs : List judged.ConstantPart) (name : Name) (of : Option TypeName) (v : ConstantValue) →
    faults_in_constant (scope_of_program table cs) name of (value_part v) ≡ [] →
    TypedMeaning (meaning_of (scope_of_names table cs) of (value_part v))
meaning_is_typed table cs name of (stands.Expression x) e =
    subst HasType
    (sym
    (same_constant table (globals_in (scope_with table []) cs) (globals_in (scope_of_names table cs) cs) [] []
    (same_class_among_constants table [] (globals_in (scope_with table []) cs) cs) of (judged_tree.part_of x).form))
    (constant_has_type (scope_of_program table cs) name of (judged_tree.part_of x)
    (form_is_sound (scope_of_program table cs) x (none_left _ _ e)) (none_left _ _ (none_right _ _ e))
    (none_right _ _ (none_right _ _ e)))
meaning_is_typed table cs name of (stands.Class c) e = tt
meaning_is_typed table cs name of (stands.Typeobject t) e = tt

globals_are_typed : (table : Table) (all : List judged.ConstantPart) (cs : List Constant) →
    Every (Faultless (scope_of_program table all)) cs →
    Every TypedGlobal (globals_in (scope_of_names table all) (map constant_part cs))
globals_are_typed table all [] e = tt
globals_are_typed table all (c ∷ cs) e =
    (meaning_is_typed table all c.name c.of c.value e.0, globals_are_typed table all cs e.1)

-- ---- programs

value_types : (scope : Scope) (name : Name) (of : Option TypeName) (v : ConstantValue) → SoundScope scope →
    faults_in_constant scope name of (value_part v) ≡ [] → Every HasType (value_within scope v)
value_types scope name of (stands.Expression x) s e =
    part_types scope _ s (good_part x).0 (subst (λ p. faults_in scope p ≡ []) (sym (same_part x)) (none_left _ _ e))
value_types scope name of (stands.Class c) s e =
    holder_types scope (class_part c) s (good_body c.body).0 (class_without_faults scope c (none_left _ _ e))
value_types scope name of (stands.Typeobject t) s e = tt

constants_types : (scope : Scope) (cs : List Constant) → SoundScope scope → Every (Faultless scope) cs →
    Every HasType (each (λ (c : Constant). value_within scope c.value) cs)
constants_types scope [] s e = tt
constants_types scope (c ∷ cs) s e =
    every_joined HasType (value_within scope c.value) (each (λ (c : Constant). value_within scope c.value) cs)
    (value_types scope c.name c.of c.value s e.0) (constants_types scope cs s e.1)

pub constants_are_faultless : (table : Table) (program : Program) → StaticFaults table program ≡ [] →
    Every (Faultless (outermost table program)) program.constants
constants_are_faultless table program none =
    every_unmap (λ c. faults_in_constant (outermost table program) c.name c.of c.value ≡ []) constant_part program.constants
    (none_each (λ c. faults_in_constant (outermost table program) c.name c.of c.value) (constant_parts program)
    (none_left _ _ (none_in_order (faults_of_program table program) none)))

pub outermost_is_sound : (table : Table) (program : Program) → IsTable (declarations_of program) table →
    StaticFaults table program ≡ [] → SoundScope (outermost table program)
outermost_is_sound table program is none = record {
  table =
      table_is_sound (declarations_of program) table is
      (constants_declare (outermost table program) program.constants (constants_are_faultless table program none));
  globals = globals_are_typed table (constant_parts program) program.constants (constants_are_faultless table program none);
  objects = tt;
}

pub types_are_known : (table : Table) (program : Program) → IsTable (declarations_of program) table →
    StaticFaults table program ≡ [] → Every HasType (types_of_program table program)
types_are_known table program is none =
    constants_types (outermost table program) program.constants (outermost_is_sound table program is none)
    (constants_are_faultless table program none)
