-- The table of an accepted program: no declared operation takes or gives an unknown type, and there are at most 1,000 types.
use Rattle.std.proofs.Common.{◌≡◌, ℕ, zero, suc, ◌==◌, ◌≤◌, Bool, true, false, List, [], ◌∷◌, ◌++◌, length, map, Option, Some, None}
use Rattle.std.proofs.Common.{option_map, slice_get, refl, sym, ap, ◌∙◌, subst, if◌then◌else◌, arith, All}
use Rattle.std.proofs.lemmas.Bool.{eq-eqb}
use Rattle.std.proofs.lemmas.List.{length-map}
use Rattle.std.specs.Prelude.{IfSome}
use Rattle.ec_ast.specs.declared.Constant.{Constant}
use Rattle.ec_ast.specs.declared.ConstantValue.{ConstantValue}
use Rattle.ec_ast.specs.declared.ConstantValue.TheVariants as stands
use Rattle.ec_ast.specs.declared.Name.{Name}
use Rattle.ec_ast.specs.declared.Program.{Program}
use Rattle.ec_ast.specs.declared.Signature.{Signature}
use Rattle.ec_ast.specs.declared.Span.{Span}
use Rattle.ec_ast.specs.declared.TypeName.{TypeName}
use Rattle.ec_ast.specs.declared.Typeobject.{Typeobject}
use Rattle.ec_check.proofs.Every.{Every, all_of, every_joined, every_weaker, none_left, none_right, none_each, not_both, either}
use Rattle.ec_check.proofs.Fusion.{same_part, same_class}
use Rattle.ec_check.proofs.KnownTypes.{is_written, type_is_known}
use Rattle.ec_check.proofs.RangedPrograms.{none_in_order}
use Rattle.ec_check.proofs.SoundPrograms.{Faultless, constants_are_faultless, class_without_faults}
use Rattle.ec_check.specs.Program.{constant_made, constants_made, outermost}
use Rattle.ec_check.specs.Tree.{class_part}
use Rattle.ec_types.specs.Conforms.{most_types}
use Rattle.ec_types.specs.Declarations.{declarations_of, in_body, in_value, joined}
use Rattle.ec_types.specs.Table.{Table, IsTable}
use Rattle.ec_types.specs.Types.{names_of, operation_names, operation_of, operations_from, type_of, type_with}
use Rattle.ec_types.specs.declared.conform.declared.DeclaredType.{DeclaredType}
use Rattle.ec_types.specs.declared.conform.named_type.NamedType.{NamedType}
use Rattle.ec_types.specs.declared.conform.operations.NamedOperation.{NamedOperation}
use Rattle.ec_types.specs.declared.conform.static_type.StaticType.{StaticType}
use Rattle.ec_types.specs.declared.conform.static_type.StaticType.TheVariants.{Plain, Vector, Nil, Unknown}
use Rattle.ec_types.specs.Known.{IsOfProgram, IsOperationOfProgram, NoneUnknown}
use Rattle.ec_core_laws.proofs.CountedHolders.{holder_counted}
use Rattle.ec_core_laws.proofs.CountedParts.{Counted, TypeFits, nothing_counted, counted_within, both_counted}
use Rattle.ec_core_laws.proofs.CountedTrees.{counted_part, counted_body}
use Rattle.ec_core_laws.proofs.ShapedPrograms.{names_fit}
use Rattle.ec_core_laws.proofs.Signatures.{KnownSignature, KnowsDeclared, KnowsTypes, both_known, holder_declares}
use Rattle.ec_core_laws.proofs.SignedTrees.{knowing_part, knowing_body}
use Rattle.ec_core_laws.proofs.Types.{IsBelow, type_is_written, type_of_program}
use Rattle.ec_core_laws.specs.Formed.{IsOf}
use Rattle.ec_types.specs.Names.{has_name}
use Rattle.ec_rules.specs.Doubled.{doubled_type}
use Rattle.ec_rules.specs.Faults.{faults_in_constant, faults_in_typeobject, faults_of_program, StaticFaults}
use Rattle.ec_rules.specs.Judging.{faults_in_holder, type_faults}
use Rattle.ec_rules.specs.Limits.{begins_at, many_types}
use Rattle.ec_rules.specs.Lists.{each, each_of}
use Rattle.ec_rules.specs.Names.{unknown_in_signature, unknown_types}
use Rattle.ec_rules.specs.Parts.{faults_in}
use Rattle.ec_rules.specs.Rules.{fault_if}
use Rattle.ec_rules.specs.Tree.{constant_part, constant_parts, value_part}
use Rattle.ec_rules.specs.declared.Rule.{Rule}
use Rattle.ec_types.specs.declared.scopes.scope.Scope.{Scope}

-- ---- operations that take and give types of the program

written_is_of : (types : ℕ) (of : StaticType) → is_written of ≡ true → IsBelow types of → IsOf types of
written_is_of types (Plain of) w h = h
written_is_of types (Vector inner of) w h = h
written_is_of types Nil w h = not_both w
written_is_of types Unknown w h = not_both w

module _ (table : Table) (fit : length table.names ≤ length table.types) where
  type_there : (of : TypeName) → unknown_types table of ≡ [] → IsOfProgram table.types (type_of table.names of)
  type_there of e =
      type_of_program table.types (type_of table.names of)
      (written_is_of (length table.types) (type_of table.names of) (type_is_known table of e)
      (type_is_written (length table.types) table.names fit of).0)

  types_there : (ts : List TypeName) → each (unknown_types table) ts ≡ [] →
      Every (IsOfProgram table.types) (map (type_of table.names) ts)
  types_there [] e = tt
  types_there (t ∷ ts) e = (type_there t (none_left _ _ e), types_there ts (none_right _ _ e))

  result_there : (t : Option TypeName) → each_of (unknown_types table) t ≡ [] →
      IfSome (option_map (type_of table.names) t) (IsOfProgram table.types)
  result_there None e = tt
  result_there (Some t) e = type_there t e

  operation_there : (s : Signature) → KnownSignature table s → IsOperationOfProgram table.types (operation_of table.names s)
  operation_there s e = record {
    parameters =
        all_of (IsOfProgram table.types) (map (type_of table.names) s.parameters) (types_there s.parameters (none_left _ _ e));
    result = result_there s.result (none_right _ _ e);
  }

  operations_there : (ss : List Signature) (taken : List NamedOperation) → Every (IsOperationOfProgram table.types) taken →
      Every (KnownSignature table) ss → Every (IsOperationOfProgram table.types) (operations_from table.names taken ss)
  operations_there [] taken h k = h
  operations_there (s ∷ ss) taken h k =
      operations_there ss
      (if has_name (operation_names taken) s.name.text then taken else (taken ++ operation_of table.names s ∷ []))
      (either (Every (IsOperationOfProgram table.types)) (has_name (operation_names taken) s.name.text) taken
      (taken ++ operation_of table.names s ∷ []) h
      (every_joined (IsOperationOfProgram table.types) taken (operation_of table.names s ∷ []) h (operation_there s k.0, tt))) k.1

  abbrev TypeThere : NamedType → Type 0
  TypeThere t = All (IsOperationOfProgram table.types) t.operations

  declared_there : (ds : List DeclaredType) → Every (KnowsDeclared table) ds → Every TypeThere (map (type_with table.names) ds)
  declared_there [] h = tt
  declared_there (d ∷ ds) h = (
    all_of (IsOperationOfProgram table.types) (operations_from table.names [] d.operations) (operations_there d.operations [] tt h.0),
    declared_there ds h.1,
  )

-- ---- what the constants of a program declare

value_declares : (scope : Scope) (name : Name) (of : Option TypeName) (v : ConstantValue) →
    faults_in_constant scope name of (value_part v) ≡ [] → KnowsTypes scope.table (in_value v)
value_declares scope name of (stands.Expression x) e =
    knowing_part x true scope (subst (λ p. faults_in scope p ≡ []) (sym (same_part x)) (none_left _ _ e))
value_declares scope name of (stands.Class c) e =
    holder_declares scope (class_part c) (in_body c.body) c.name (map (λ p. p.name.text) c.parameters) (knowing_body c.body)
    (class_without_faults scope c (none_left _ _ e))
value_declares scope name of (stands.Typeobject t) e =
    (none_each (unknown_in_signature scope.table) t.operations (none_left _ _ (none_left _ _ e)), tt)

constants_declare : (scope : Scope) (cs : List Constant) → Every (Faultless scope) cs →
    KnowsTypes scope.table (joined (map (λ (c : Constant). in_value c.value) cs))
constants_declare scope [] e = tt
constants_declare scope (c ∷ cs) e =
    both_known scope.table (in_value c.value) (joined (map (λ (c : Constant). in_value c.value) cs))
    (value_declares scope c.name c.of c.value e.0) (constants_declare scope cs e.1)

pub none_unknown : (table : Table) (program : Program) → IsTable (declarations_of program) table →
    StaticFaults table program ≡ [] → NoneUnknown table.types
none_unknown table program is none =
    let fit : length table.names ≤ length table.types = names_fit table program is in
    let declared : List DeclaredType = (declarations_of program).types in
    let known : Every (TypeThere table fit) (map (type_with table.names) declared) =
    declared_there table fit declared
    (constants_declare (outermost table program) program.constants (constants_are_faultless table program none)) in
    all_of (TypeThere table fit) table.types
    (subst (Every (TypeThere table fit)) (sym is.types)
    (subst (λ names. Every (TypeThere table fit) (map (type_with names) declared)) is.names known))

-- ---- how many types there are

typeobject_fits : (scope : Scope) (t : Typeobject) → faults_in_typeobject scope t ≡ [] → many_types scope.table t.name.at ≡ []
typeobject_fits scope t e =
    none_right (doubled_type scope.table t.name) (many_types scope.table t.name.at)
    (none_left (type_faults scope.table t.name) _ (none_right _ _ e))

constant_counted : (scope : Scope) (name : Name) (of : Option TypeName) (v : ConstantValue) →
    Counted scope.table (constant_made scope v) (in_value v) (faults_in_constant scope name of (value_part v))
constant_counted scope name of (stands.Expression x) =
    counted_within (λ e. subst (λ p. faults_in scope p ≡ []) (sym (same_part x)) (none_left _ _ e)) (counted_part x true scope)
constant_counted scope name of (stands.Class c) =
    counted_within (λ e. subst (λ h. faults_in_holder scope h ≡ []) (sym (same_class c)) (none_left _ _ e))
    (holder_counted scope (class_part c) (in_body c.body) (counted_body c.body))
constant_counted scope name of (stands.Typeobject t) = record {
  classes = omega arith;
  operations = refl;
  types_fit = λ e. (typeobject_fits scope t (none_left _ _ e), tt);
  operations_fit = λ e. tt;
}

constants_counted : (scope : Scope) (cs : List Constant) →
    Counted scope.table (constants_made scope cs) (joined (map (λ constant. in_value constant.value) cs))
    (each (λ c. faults_in_constant scope c.name c.of c.value) (map constant_part cs))
constants_counted scope [] = nothing_counted
constants_counted scope (c ∷ cs) = both_counted (constant_counted scope c.name c.of c.value) (constants_counted scope cs)

no_fault : (b : Bool) (rule : Rule) (at : Span) → fault_if b rule at ≡ [] → b ≡ false
no_fault true rule at e = cc
no_fault false rule at e = refl

-- Where none stands where the first one beyond a limit would, there are no more than the limit.
few : (limit : ℕ) (first : Option ℕ) (ds : List DeclaredType) → slice_get (map (λ (d : DeclaredType). d.name.at.from) ds) limit ≡ first →
    Every (λ (d : DeclaredType). begins_at first d.name.at ≡ false) ds → length ds ≤ limit
few limit first [] e h = omega arith
few zero first (d ∷ ds) e h =
    let k : (d.name.at.from == d.name.at.from) ≡ false = subst (λ f. begins_at f d.name.at ≡ false) (sym e) h.0 in
    not_both (sym k ∙ eq-eqb d.name.at.from d.name.at.from refl)
few (suc limit) first (d ∷ ds) e h =
    let k : length ds ≤ limit = few limit first ds e h.1 in
    omega arith

pub few_types : (table : Table) (program : Program) → IsTable (declarations_of program) table →
    StaticFaults table program ≡ [] → length table.types ≤ most_types
few_types table program is none =
    let counted : Counted table (constants_made (outermost table program) program.constants) (declarations_of program)
    (each (λ c. faults_in_constant (outermost table program) c.name c.of c.value) (constant_parts program)) =
    constants_counted (outermost table program) program.constants in
    let faultless : each (λ c. faults_in_constant (outermost table program) c.name c.of c.value) (constant_parts program) ≡ [] =
    none_left _ _ (none_in_order (faults_of_program table program) none) in
    let declared : List DeclaredType = (declarations_of program).types in
    let few_declared : length declared ≤ 1000 =
    few 1000 (slice_get table.places 1000) declared (ap (λ places. slice_get places 1000) (sym is.places))
    (every_weaker (TypeFits table) (λ (d : DeclaredType). begins_at (slice_get table.places 1000) d.name.at ≡ false)
    (λ d e. no_fault _ _ d.name.at e) declared (counted.types_fit faultless)) in
    let types : length table.types ≡ length declared =
    ap length is.types ∙ length-map declared (type_with (names_of declared)) in
    omega arith
