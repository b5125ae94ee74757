-- Types that name nothing beyond a program's types: each written type is one, and each of these that is known is of the program.
use Rattle.std.proofs.Common.{◌≡◌, ℕ, zero, suc, ◌+◌, ◌<◌, ◌≤◌, Bool, true, List, [], ◌∷◌, length, Option, Some, None}
use Rattle.std.proofs.Common.{option_and_then, refl, sym, subst, slice_get, arith}
use Rattle.std.proofs.lemmas.Bool.{ltb-true, lt-ltb}
use Rattle.ec_ast.specs.declared.TypeName.{TypeName, roll-TypeName, map-TypeName, fold-roll-TypeName, ind-TypeName}
use Rattle.ec_ast.specs.declared.TypeName.TheOpen.{TypeName-F}
use Rattle.ec_check.proofs.Every.{Every, Where, not_both}
use Rattle.ec_check.proofs.FoundPlaces.{first_below}
use Rattle.ec_check.proofs.WellValues.{result_is}
use Rattle.ec_check.specs.WellTyped.{is_same_result}
use Rattle.ec_types.specs.Types.{element_from, element_of, known, named, type_of, type_with_number, vector_of, written}
use Rattle.ec_types.specs.declared.conform.named_type.NamedType.{NamedType}
use Rattle.ec_types.specs.declared.conform.static_type.Plain.{Plain as PlainType}
use Rattle.ec_types.specs.declared.conform.static_type.Plain.TheVariants.{Integer, Boolean, String, Any, Node, Named}
use Rattle.ec_types.specs.declared.conform.static_type.StaticType.{StaticType}
use Rattle.ec_types.specs.declared.conform.static_type.StaticType.TheVariants.{Plain, Vector, Nil, Unknown}
use Rattle.ec_types.specs.Known.{IsPlainOfProgram, IsOfProgram}
use Rattle.ec_core_laws.specs.Known.{is_known}
use Rattle.ec_core_laws.specs.Formed.{is_plain_of, is_of, is_of_if, is_not_nil, IsOf}
use Rattle.ec_types.specs.Names.{Text, first_named}
use Rattle.ec_rules.specs.Types.{is_vector, takes}
use Rattle.ec_rules.specs.declared.operands.Wanted.TheVariants as wanted

-- a type of the program, or an unknown one
abbrev pub is_below : ℕ → StaticType → Bool
is_below types (Plain of) = is_plain_of types of
is_below types (Vector inner of) = is_plain_of types of
is_below types Nil = true
is_below types Unknown = true

abbrev pub IsBelow : ℕ → StaticType → Type 0
IsBelow types of = is_below types of ≡ true

-- ---- what is of the program

plain_of_program : (types : List NamedType) (of : PlainType) → is_plain_of (length types) of ≡ true → IsPlainOfProgram types of
plain_of_program types Integer e = tt
plain_of_program types Boolean e = tt
plain_of_program types String e = tt
plain_of_program types Any e = tt
plain_of_program types Node e = tt
plain_of_program types (Named n) e = ltb-true n (length types) e

pub type_of_program : (types : List NamedType) (of : StaticType) → is_of (length types) of ≡ true → IsOfProgram types of
type_of_program types (Plain of) e = plain_of_program types of e
type_of_program types (Vector inner of) e = plain_of_program types of e
type_of_program types Nil e = tt
type_of_program types Unknown e = not_both e

-- ---- what is known, and names nothing beyond

pub known_is_of : (types : ℕ) (of : StaticType) → is_known of ≡ true → IsBelow types of → IsOf types of
known_is_of types (Plain of) k h = h
known_is_of types (Vector inner of) k h = h
known_is_of types Nil k h = refl
known_is_of types Unknown k h = not_both k

pub vector_is_of : (types : ℕ) (of : StaticType) → is_vector of ≡ true → IsBelow types of → IsOf types of
vector_is_of types (Plain of) v h = h
vector_is_of types (Vector inner of) v h = h
vector_is_of types Nil v h = refl
vector_is_of types Unknown v h = not_both v

pub reference_is_of : (types : ℕ) (of : StaticType) → takes wanted.Reference of ≡ true → IsBelow types of → IsOf types of
reference_is_of types (Plain of) v h = h
reference_is_of types (Vector inner of) v h = h
reference_is_of types Nil v h = refl
reference_is_of types Unknown v h = not_both v

pub class_is_of : (types n : ℕ) → n < types → IsOf types (named n)
class_is_of types n l = lt-ltb n types l

-- ---- results and elements

some_known : (types : ℕ) (given of : StaticType) → IsBelow types given → known given ≡ Some of → IsOf types of
some_known types (Plain t) of h e = let i : Plain t ≡ of = cc in subst (IsOf types) i h
some_known types (Vector inner t) of h e = let i : Vector inner t ≡ of = cc in subst (IsOf types) i h
some_known types Nil of h e = let i : Nil ≡ of = cc in subst (IsOf types) i refl
some_known types Unknown of h e = cc

given_is_of : (types : ℕ) (gives : Option StaticType) (of : StaticType) → Where (IsBelow types) gives →
    option_and_then known gives ≡ Some of → IsOf types of
given_is_of types None of h e = cc
given_is_of types (Some given) of h e = some_known types given of h e

-- a result that is the one which an operation gives
pub result_is_of : (types : ℕ) (gives result : Option StaticType) → Where (IsBelow types) gives →
    is_same_result (option_and_then known gives) result ≡ true → is_of_if types result ≡ true
result_is_of types gives None h e = refl
result_is_of types gives (Some of) h e = given_is_of types gives of h (result_is (option_and_then known gives) of e)

pub where_result : (types : ℕ) (result : Option StaticType) → is_of_if types result ≡ true → Where (IsOf types) result
where_result types None e = tt
where_result types (Some of) e = e

from_is_of : (types inner : ℕ) (t : PlainType) → is_plain_of types t ≡ true → IsOf types (element_from inner t)
from_is_of types zero t h = h
from_is_of types (suc inner) t h = h

some_element : (types : ℕ) (vector of : StaticType) → IsOf types vector → element_of vector ≡ Some of → IsOf types of
some_element types (Plain t) of h e = cc
some_element types (Vector inner t) of h e =
    let i : element_from inner t ≡ of = cc in subst (IsOf types) i (from_is_of types inner t h)
some_element types Nil of h e = cc
some_element types Unknown of h e = cc

pub element_is_of : (types : ℕ) (vector : Option StaticType) (of : StaticType) → Where (IsOf types) vector →
    option_and_then element_of vector ≡ Some of → IsOf types of
element_is_of types None of h e = cc
element_is_of types (Some vector) of h e = some_element types vector of h e

-- ---- lists

pub where_got : {A : Type 0} (P : A → Type 0) (xs : List A) (n : ℕ) → Every P xs → Where P (slice_get xs n)
where_got P [] n h = tt
where_got P (x ∷ xs) zero h = h.0
where_got P (x ∷ xs) (suc n) h = where_got P xs n h.1

-- ---- types as they are written, by the names of the types

pub vector_below : (types : ℕ) (of : StaticType) → IsBelow types of → IsBelow types (vector_of of)
vector_below types (Plain of) h = h
vector_below types (Vector inner of) h = h
vector_below types Nil h = refl
vector_below types Unknown h = refl

abbrev IsWritten : ℕ → StaticType → Type 0
IsWritten types of = IsBelow types of × (is_not_nil of ≡ true)

abbrev Written : ℕ → List Text → TypeName → Type 0
Written types names of = IsWritten types (type_of names of)

number_written : (types : ℕ) (names : List Text) (n : Option ℕ) → length names ≤ types → Where (λ k. k < 0 + length names) n →
    IsWritten types (type_with_number n)
number_written types names None l h = (refl, refl)
number_written types names (Some n) l h = let m : n < 0 + length names = h in (lt-ltb n types (omega arith), refl)

vector_not_nil : (of : StaticType) → is_not_nil (vector_of of) ≡ true
vector_not_nil (Plain of) = refl
vector_not_nil (Vector inner of) = refl
vector_not_nil Nil = refl
vector_not_nil Unknown = refl

abbrev TypeHeld : ℕ → List Text → Type 0
TypeHeld types names = (of : TypeName) × Written types names of

abbrev bare : (types : ℕ) (names : List Text) → TypeName-F (TypeHeld types names) → TypeName-F TypeName
bare types names = map-TypeName (TypeHeld types names) TypeName (λ of. of.0)

layer_written : (types : ℕ) (names : List Text) → length names ≤ types → (y : TypeName-F (TypeHeld types names)) →
    IsWritten types (written names (map-TypeName TypeName StaticType (type_of names) (bare types names y)))
layer_written types names l (TypeName-F.Integer at) = (refl, refl)
layer_written types names l (TypeName-F.Boolean at) = (refl, refl)
layer_written types names l (TypeName-F.String at) = (refl, refl)
layer_written types names l (TypeName-F.Any at) = (refl, refl)
layer_written types names l (TypeName-F.Node at) = (refl, refl)
layer_written types names l (TypeName-F.Named name) =
    number_written types names (first_named names name.text) l (first_below 0 names name.text)
layer_written types names l (TypeName-F.Vector element at) =
    (vector_below types (type_of names element.0) element.1.0, vector_not_nil (type_of names element.0))

pub type_is_written : (types : ℕ) (names : List Text) → length names ≤ types → (of : TypeName) → Written types names of
type_is_written types names l =
    ind-TypeName (Written types names)
    (λ x y is.
    subst (λ z. Written types names (roll-TypeName z)) is
    (subst (IsWritten types) (sym (fold-roll-TypeName StaticType (written names) (bare types names y)))
    (layer_written types names l y)))
