-- How much is made within a part of a tree, by what is declared in it: no more classes than types, and as many operations as places
-- of operations; and where no fault is within it, none of these is one too many.
use Rattle.std.proofs.Common.{◌≡◌, suc, ◌+◌, ◌≤◌, List, [], ◌++◌, length, refl, sym, ap, ◌∙◌, subst, arith}
use Rattle.std.proofs.lemmas.List.{append-nil, length-append}
use Rattle.ec_ast.specs.declared.Name.{Name}
use Rattle.ec_ast.specs.declared.Span.{Span}
use Rattle.ec_check.proofs.Every.{Every, every_joined, none_left, none_right}
use Rattle.ec_check.specs.Parts.{Made, nothing_made, both_made}
use Rattle.ec_check.specs.Resolving.{just_class, just_operation}
use Rattle.ec_types.specs.Declarations as conform
use Rattle.ec_types.specs.Declarations.{both, nothing, object_with, operation_at}
use Rattle.ec_types.specs.Table.{Table}
use Rattle.ec_types.specs.declared.conform.declared.Declarations.{Declarations}
use Rattle.ec_types.specs.declared.conform.declared.DeclaredType.{DeclaredType}
use Rattle.ec_core.specs.declared.Class.{Class}
use Rattle.ec_core.specs.declared.Operation.{Operation}
use Rattle.ec_types.specs.Names.{Text}
use Rattle.ec_rules.specs.Limits.{many_types, many_operations}
use Rattle.ec_rules.specs.declared.StaticFault.{StaticFault}

-- not one too many
abbrev pub TypeFits : Table → DeclaredType → Type 0
TypeFits table d = many_types table d.name.at ≡ []

abbrev pub OperationFits : Table → Span → Type 0
OperationFits table at = many_operations table at ≡ []

pub record Counted (table : Table) (m : Made) (d : Declarations) (fs : List StaticFault) : Type 0 where
  pub classes : length m.classes ≤ length d.types
  pub operations : length m.operations ≡ length d.operations
  pub types_fit : fs ≡ [] → Every (TypeFits table) d.types
  pub operations_fit : fs ≡ [] → Every (OperationFits table) d.operations

pub nothing_counted : {table : Table} {fs : List StaticFault} → Counted table nothing_made nothing fs
nothing_counted = record { classes = omega arith; operations = refl; types_fit = λ e. tt; operations_fit = λ e. tt }

-- with more faults
pub counted_within : {table : Table} {m : Made} {d : Declarations} {fs gs : List StaticFault} → (gs ≡ [] → fs ≡ []) →
    Counted table m d fs → Counted table m d gs
counted_within w h = record {
  classes = h.classes;
  operations = h.operations;
  types_fit = λ e. h.types_fit (w e);
  operations_fit = λ e. h.operations_fit (w e);
}

-- ---- one behind another

same_lengths : {A B : Type 0} (xs ys : List A) (ds es : List B) → length xs ≡ length ds → length ys ≡ length es →
    length (xs ++ ys) ≡ length (ds ++ es)
same_lengths xs ys ds es h k =
    let a : length (xs ++ ys) ≡ length xs + length ys = length-append xs ys in
    let b : length (ds ++ es) ≡ length ds + length es = length-append ds es in
    omega arith

no_more : {A B : Type 0} (xs ys : List A) (ds es : List B) → length xs ≤ length ds → length ys ≤ length es →
    length (xs ++ ys) ≤ length (ds ++ es)
no_more xs ys ds es h k =
    let a : length (xs ++ ys) ≡ length xs + length ys = length-append xs ys in
    let b : length (ds ++ es) ≡ length ds + length es = length-append ds es in
    omega arith

pub both_counted : {table : Table} {a b : Made} {d e : Declarations} {fs gs : List StaticFault} →
    Counted table a d fs → Counted table b e gs → Counted table (both_made a b) (both d e) (fs ++ gs)
both_counted {table} {a} {b} {d} {e} {fs} {gs} h k = record {
  classes = no_more a.classes b.classes d.types e.types h.classes k.classes;
  operations = same_lengths a.operations b.operations d.operations e.operations h.operations k.operations;
  types_fit = λ z.
      every_joined (TypeFits table) d.types e.types (h.types_fit (none_left fs gs z)) (k.types_fit (none_right fs gs z));
  operations_fit = λ z.
      every_joined (OperationFits table) d.operations e.operations (h.operations_fit (none_left fs gs z))
      (k.operations_fit (none_right fs gs z));
}

-- one, with nothing behind it
pub one_counted : {table : Table} {m : Made} {d : Declarations} {fs gs : List StaticFault} → (gs ≡ [] → fs ≡ []) →
    Counted table m d fs → Counted table (both_made m nothing_made) d gs
one_counted {table} {m} {d} {fs} {gs} w h = record {
  classes = subst (λ cs. length cs ≤ length d.types) (sym (append-nil m.classes)) h.classes;
  operations = ap length (append-nil m.operations) ∙ h.operations;
  types_fit = λ e. h.types_fit (w e);
  operations_fit = λ e. h.operations_fit (w e);
}

-- ---- an operation, and an object

-- with what is made in its block
pub operation_counted : {table : Table} {m : Made} {d : Declarations} {fs gs : List StaticFault} (o : Operation) (at : Span) →
    (gs ≡ [] → fs ≡ []) → (gs ≡ [] → OperationFits table at) → Counted table m d fs →
    Counted table (both_made (just_operation o) m) (operation_at at d) gs
operation_counted o at w fits h = record {
  classes = h.classes;
  operations = ap suc h.operations;
  types_fit = λ e. h.types_fit (w e);
  operations_fit = λ e. (fits e, h.operations_fit (w e));
}

-- with what is made in its body: it has a class, and operation 0
pub object_counted : {table : Table} {m : Made} {d : Declarations} {fs gs : List StaticFault} (c : Class) (o : Operation) (name : Name)
    (parameters : List Text) (members : List conform.MemberPart) → (gs ≡ [] → fs ≡ []) →
    (gs ≡ [] → many_types table name.at ≡ []) → (gs ≡ [] → OperationFits table name.at) → Counted table m d fs →
    Counted table (both_made (just_class c) (both_made (just_operation o) m)) (both (object_with name parameters members) d) gs
object_counted {table} {m} {d} c o name parameters members w type fits h = record {
  classes = let l : length m.classes ≤ length d.types = h.classes in omega arith;
  operations = ap suc h.operations;
  types_fit = λ e. (type e, h.types_fit (w e));
  operations_fit = λ e. (fits e, h.operations_fit (w e));
}
