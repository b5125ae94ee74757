-- An accepted program has no more types and operations than the static rules allow, and its core no more than these.
use Rattle.std.proofs.Common.{◌≡◌, ℕ, zero, suc, ◌==◌, ◌≤◌, Bool, true, false, List, [], ◌∷◌, length, map, slice_get, Option, refl}
use Rattle.std.proofs.Common.{sym, ap, ◌∙◌, subst, arith}
use Rattle.std.proofs.lemmas.Bool.{eq-eqb}
use Rattle.ec_ast.specs.declared.Constant.{Constant}
use Rattle.ec_ast.specs.declared.ConstantValue.{ConstantValue}
use Rattle.ec_ast.specs.declared.ConstantValue.TheVariants as stands
use Rattle.ec_ast.specs.declared.Name.{Name}
use Rattle.ec_ast.specs.declared.Program.{Program}
use Rattle.ec_ast.specs.declared.Span.{Span}
use Rattle.ec_ast.specs.declared.TypeName.{TypeName}
use Rattle.ec_ast.specs.declared.Typeobject.{Typeobject}
use Rattle.ec_check.proofs.Every.{Every, every_weaker, none_left, none_right, not_both}
use Rattle.ec_check.proofs.Fusion.{same_part, same_class}
use Rattle.ec_check.proofs.RangedPrograms.{none_in_order}
use Rattle.ec_check.specs.Program.{constant_made, constants_made, core_of, outermost}
use Rattle.ec_check.specs.Tree.{class_part}
use Rattle.ec_types.specs.Declarations.{declarations_of, in_body, in_value, joined}
use Rattle.ec_types.specs.Table.{Table, IsTable}
use Rattle.ec_types.specs.declared.conform.declared.DeclaredType.{DeclaredType}
use Rattle.ec_core_laws.proofs.CountedHolders.{holder_counted}
use Rattle.ec_core_laws.proofs.CountedParts.{Counted, TypeFits, OperationFits, nothing_counted, counted_within, both_counted}
use Rattle.ec_core_laws.proofs.CountedTrees.{counted_part, counted_body}
use Rattle.ec_core_laws.specs.Counts.{HasFewParts}
use Rattle.ec_rules.specs.Doubled.{doubled_type}
use Rattle.ec_rules.specs.Faults.{faults_in_constant, faults_in_typeobject, faults_of_program, StaticFaults}
use Rattle.ec_rules.specs.Judging.{faults_in_holder, type_faults}
use Rattle.ec_rules.specs.Limits.{begins_at, many_types}
use Rattle.ec_rules.specs.Lists.{each}
use Rattle.ec_rules.specs.Parts.{faults_in}
use Rattle.ec_rules.specs.Rules.{fault_if}
use Rattle.ec_rules.specs.Tree.{constant_part, constant_parts, value_part}
use Rattle.ec_rules.specs.declared.Rule.{Rule}
use Rattle.ec_types.specs.declared.scopes.scope.Scope.{Scope}

-- ---- constants

typeobject_fits : (scope : Scope) (t : Typeobject) → faults_in_typeobject scope t ≡ [] → many_types scope.table t.name.at ≡ []
typeobject_fits scope t e =
    none_right (doubled_type scope.table t.name) (many_types scope.table t.name.at)
    (none_left (type_faults scope.table t.name) _ (none_right _ _ e))

constant_counted : (scope : Scope) (name : Name) (of : Option TypeName) (v : ConstantValue) →
    Counted scope.table (constant_made scope v) (in_value v) (faults_in_constant scope name of (value_part v))
constant_counted scope name of (stands.Expression x) =
    counted_within (λ e. subst (λ p. faults_in scope p ≡ []) (sym (same_part x)) (none_left _ _ e)) (counted_part x true scope)
constant_counted scope name of (stands.Class c) =
    counted_within (λ e. subst (λ h. faults_in_holder scope h ≡ []) (sym (same_class c)) (none_left _ _ e))
    (holder_counted scope (class_part c) (in_body c.body) (counted_body c.body))
constant_counted scope name of (stands.Typeobject t) = record {
  classes = omega arith;
  operations = refl;
  types_fit = λ e. (typeobject_fits scope t (none_left _ _ e), tt);
  operations_fit = λ e. tt;
}

constants_counted : (scope : Scope) (cs : List Constant) →
    Counted scope.table (constants_made scope cs) (joined (map (λ constant. in_value constant.value) cs))
    (each (λ c. faults_in_constant scope c.name c.of c.value) (map constant_part cs))
constants_counted scope [] = nothing_counted
constants_counted scope (c ∷ cs) = both_counted (constant_counted scope c.name c.of c.value) (constants_counted scope cs)

-- ---- what is one too many

no_fault : (b : Bool) (rule : Rule) (at : Span) → fault_if b rule at ≡ [] → b ≡ false
no_fault true rule at e = cc
no_fault false rule at e = refl

-- Where none stands where the first one beyond a limit would, there are no more than the limit.
few : {A : Type 0} (at : A → Span) (limit : ℕ) (first : Option ℕ) (xs : List A) →
    slice_get (map (λ x. (at x).from) xs) limit ≡ first → Every (λ x. begins_at first (at x) ≡ false) xs → length xs ≤ limit
few at limit first [] e h = omega arith
few at zero first (x ∷ xs) e h =
    let k : ((at x).from == (at x).from) ≡ false = subst (λ f. begins_at f (at x) ≡ false) (sym e) h.0 in
    not_both (sym k ∙ eq-eqb (at x).from (at x).from refl)
few at (suc limit) first (x ∷ xs) e h =
    let k : length xs ≤ limit = few at limit first xs e h.1 in
    omega arith

-- ---- programs

pub each_has_few : (table : Table) (program : Program) → IsTable (declarations_of program) table →
    StaticFaults table program ≡ [] → HasFewParts (core_of table program)
each_has_few table program is none =
    let counted : Counted table (constants_made (outermost table program) program.constants) (declarations_of program)
    (each (λ c. faults_in_constant (outermost table program) c.name c.of c.value) (constant_parts program)) =
    constants_counted (outermost table program) program.constants in
    let faultless : each (λ c. faults_in_constant (outermost table program) c.name c.of c.value) (constant_parts program) ≡ [] =
    none_left _ _ (none_in_order (faults_of_program table program) none) in
    let types : length (declarations_of program).types ≤ 1000 =
    few (λ (d : DeclaredType). d.name.at) 1000 (slice_get table.places 1000) (declarations_of program).types
    (ap (λ places. slice_get places 1000) (sym is.places))
    (every_weaker (TypeFits table) (λ d. begins_at (slice_get table.places 1000) d.name.at ≡ false) (λ d e. no_fault _ _ d.name.at e)
    (declarations_of program).types (counted.types_fit faultless)) in
    let operations : length (declarations_of program).operations ≤ 4000 =
    few (λ (at : Span). at) 4000 (slice_get table.operations 4000) (declarations_of program).operations
    (ap (λ places. slice_get places 4000) (sym is.operations))
    (every_weaker (OperationFits table) (λ at. begins_at (slice_get table.operations 4000) at ≡ false) (λ at e. no_fault _ _ at e)
    (declarations_of program).operations (counted.operations_fit faultless)) in
    let classes : length (core_of table program).classes ≤ length (declarations_of program).types = counted.classes in
    let same : length (core_of table program).operations ≡ length (declarations_of program).operations = counted.operations in
    record { classes = omega arith; operations = omega arith }
