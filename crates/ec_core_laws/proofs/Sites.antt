-- Sites where each place is of a type of the program: what is found there is of such a type.
use Rattle.std.proofs.Common.{◌≡◌, ℕ, zero, suc, ◌<◌, ◌==◌, ◌&&◌, ◌||◌, Bool, true, false, List, [], ◌∷◌, ◌++◌, map, Option}
use Rattle.std.proofs.Common.{Some, None, option_map, refl, subst, slice_get, if◌then◌else◌}
use Rattle.std.proofs.lemmas.Bool.{eqb-true}
use Rattle.ec_ast.specs.declared.Signature.{Signature}
use Rattle.ec_ast.specs.declared.TypeName.{TypeName}
use Rattle.ec_check.proofs.Every.{Every, Where, every_joined, either, first_holds, not_both}
use Rattle.ec_check.specs.WellTyped.{Site, constant_type_at, type_at, result_of, some_class}
use Rattle.ec_types.specs.Conforms.{operations_at}
use Rattle.ec_types.specs.Types.{named, operation_named, operation_names, operation_of, operations_from, type_of, type_with}
use Rattle.ec_types.specs.declared.conform.declared.DeclaredType.{DeclaredType}
use Rattle.ec_types.specs.declared.conform.named_type.NamedType.{NamedType}
use Rattle.ec_types.specs.declared.conform.operations.NamedOperation.{NamedOperation}
use Rattle.ec_core.specs.declared.Class.{Class}
use Rattle.ec_core.specs.declared.Constant.{Constant as CoreConstant}
use Rattle.ec_core.specs.declared.Operation.{Operation}
use Rattle.ec_core.specs.declared.Place.{Place}
use Rattle.ec_core.specs.declared.Place.TheVariants as place
use Rattle.ec_core_laws.proofs.Shapes.{NumberBelow}
use Rattle.ec_core_laws.proofs.Types.{IsBelow, class_is_of, where_got}
use Rattle.ec_core_laws.specs.Formed.{IsOf}
use Rattle.ec_types.specs.Names.{Text, has_name, is_same}

-- what an operation takes and gives names nothing beyond the program's types
pub record NamedBelow (types : ℕ) (o : NamedOperation) : Type 0 where
  pub parameters : Every (IsBelow types) o.parameters
  pub result : Where (IsBelow types) o.result

abbrev pub TypeBelow : ℕ → NamedType → Type 0
TypeBelow types t = Every (NamedBelow types) t.operations

abbrev pub VariablesBelow : ℕ → Operation → Type 0
VariablesBelow types o = Every (IsBelow types) o.variables

-- Each place there is of a type of the program, and so are the classes and the results of operations.
pub record SiteOf (types : ℕ) (site : Site) : Type 0 where
  pub table : Every (TypeBelow types) site.table.types
  pub own : Where (λ n. n < types) site.own
  pub variables : Every (IsOf types) site.variables
  pub captured : Every (IsOf types) site.captured
  pub fields : Every (IsOf types) site.fields
  pub constants : Every (λ (c : CoreConstant). IsOf types c.of) site.core.constants
  pub classes : Every (NumberBelow types) site.core.classes
  pub operations : Every (VariablesBelow types) site.core.operations

pub one_of : {P : Type 0} (a b : Bool) → (a ≡ true → P) → (b ≡ true → P) → a || b ≡ true → P
one_of true b f g e = f refl
one_of false b f g e = g e

-- ---- the operations of declared types

module _ (types : ℕ) (names : List Text) (fit : (of : TypeName) → IsBelow types (type_of names of)) where
  all_below : (ts : List TypeName) → Every (IsBelow types) (map (type_of names) ts)
  all_below [] = tt
  all_below (t ∷ ts) = (fit t, all_below ts)

  result_below : (t : Option TypeName) → Where (IsBelow types) (option_map (type_of names) t)
  result_below None = tt
  result_below (Some t) = fit t

  operations_below : (ss : List Signature) (taken : List NamedOperation) → Every (NamedBelow types) taken →
      Every (NamedBelow types) (operations_from names taken ss)
  operations_below [] taken h = h
  operations_below (s ∷ ss) taken h =
      operations_below ss
      (if has_name (operation_names taken) s.name.text then taken else (taken ++ operation_of names s ∷ []))
      (either (Every (NamedBelow types)) (has_name (operation_names taken) s.name.text) taken (taken ++ operation_of names s ∷ []) h
      (every_joined (NamedBelow types) taken (operation_of names s ∷ []) h
      (record { parameters = all_below s.parameters; result = result_below s.result }, tt)))

  pub declared_below : (ds : List DeclaredType) → Every (TypeBelow types) (map (type_with names) ds)
  declared_below [] = tt
  declared_below (d ∷ ds) = (operations_below d.operations [] tt, declared_below ds)

module _ (types : ℕ) where
  -- ---- operations by their names

  operations_there : (ts : List NamedType) (n : ℕ) → Every (TypeBelow types) ts → Every (NamedBelow types) (operations_at ts n)
  operations_there [] n h = tt
  operations_there (t ∷ ts) zero h = h.0
  operations_there (t ∷ ts) (suc n) h = operations_there ts n h.1

  operation_there : (os : List NamedOperation) (name : Text) → Every (NamedBelow types) os →
      Where (NamedBelow types) (operation_named os name)
  operation_there [] name h = tt
  operation_there (o ∷ os) name h =
      either (Where (NamedBelow types)) (is_same o.name name) (Some o) (operation_named os name) h.0 (operation_there os name h.1)

  pub declared_operation : (ts : List NamedType) (n : ℕ) (name : Text) → Every (TypeBelow types) ts →
      Where (NamedBelow types) (operation_named (operations_at ts n) name)
  declared_operation ts n name h = operation_there (operations_at ts n) name (operations_there ts n h)

  pub own_result : (o : Operation) → VariablesBelow types o → Where (IsBelow types) (result_of o)
  own_result o h =
      either (Where (IsBelow types)) o.has_result (slice_get o.variables o.parameters) None
      (where_got (IsBelow types) o.variables o.parameters h) tt

  -- ---- classes and places

  pub own_class : (own : Option ℕ) → Where (λ n. n < types) own → Where (IsOf types) (option_map named own)
  own_class None h = tt
  own_class (Some n) h = class_is_of types n h

  class_numbered : (c : Class) (class : ℕ) (b : Bool) → NumberBelow types c → (c.number == class) && b ≡ true → IsOf types (named class)
  class_numbered c class b h e =
      subst (λ n. IsOf types (named n)) (eqb-true c.number class (first_holds (c.number == class) b e))
      (class_is_of types c.number h)

  pub class_there : (class : ℕ) (test : Class → Bool) (cs : List Class) → Every (NumberBelow types) cs →
      some_class (λ c. (c.number == class) && test c) cs ≡ true → IsOf types (named class)
  class_there class test [] h e = not_both e
  class_there class test (c ∷ cs) h e =
      one_of ((c.number == class) && test c) _ (class_numbered c class (test c) h.0) (class_there class test cs h.1) e

  constant_at : (cs : List CoreConstant) (n : ℕ) → Every (λ (c : CoreConstant). IsOf types c.of) cs →
      Where (IsOf types) (constant_type_at cs n)
  constant_at [] n h = tt
  constant_at (c ∷ cs) n h =
      either (Where (IsOf types)) (c.number == n) (Some c.of) (constant_type_at cs n) h.0 (constant_at cs n h.1)

  pub place_is_of : (site : Site) → SiteOf types site → (p : Place) → Where (IsOf types) (type_at site p)
  place_is_of site s (place.Variable n) = where_got (IsOf types) site.variables n s.variables
  place_is_of site s (place.Captured n) = where_got (IsOf types) site.captured n s.captured
  place_is_of site s (place.Field n) = where_got (IsOf types) site.fields n s.fields
  place_is_of site s (place.Constant n) = constant_at site.core.constants n s.constants
