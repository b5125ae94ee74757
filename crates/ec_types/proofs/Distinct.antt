-- Operations no two of which have one name: how they come about, and that one of them alone can stand for another.
use Rattle.std.proofs.Common.{◌≡◌, ℕ, suc, ◌+◌, ◌<◌, Bool, true, false, ◌&&◌, ◌||◌, List, [], ◌∷◌, ◌++◌, map, length, get_or, drop}
use Rattle.std.proofs.Common.{drop-cons, add-one, Option, Some, None, option_map, refl, sym, ap, ◌∙◌}
use Rattle.std.specs.List.{slice_get}
use Rattle.std.specs.Option.{IfSome}
use Rattle.std.proofs.lemmas.List.{map_push}
use Rattle.std.proofs.lemmas.Option.{slice_get-map, slice_get-get_or}
use Rattle.ec_ast.specs.declared.Signature.{Signature}
use Rattle.ec_types.specs.Names.{Text, is_same, has_name}
use Rattle.ec_types.specs.Conforms.{Relation, has_operation, has_operations, operations_in}
use Rattle.ec_types.specs.Numbered.{IsDistinct, AreDistinct}
use Rattle.ec_types.specs.Pairs.{fits, one_fits}
use Rattle.ec_types.specs.Types.{operation_names, operation_named, operation_of, operations_from, type_with}
use Rattle.ec_types.specs.declared.conform.declared.DeclaredType.{DeclaredType}
use Rattle.ec_types.specs.declared.conform.named_type.NamedType.{NamedType}
use Rattle.ec_types.specs.declared.conform.operations.NamedOperation.{NamedOperation}
use Rattle.ec_types.proofs.NamesLemmas.{is_same_symmetric, has_name_more, has_name_same}

or_false : (a b : Bool) → (a || b) ≡ false → (a ≡ false) × (b ≡ false)
or_false true b e = absurd (let f : true ≡ false = e in cc)
or_false false b e = (refl, e)

-- where a name is none of some names
neither : (own : Text) (names : List Text) (name : Text) → has_name (own ∷ names) name ≡ false
    → (is_same own name ≡ false) × (has_name names name ≡ false)
neither own names name absent = or_false (is_same own name) (has_name names name) (sym (has_name_more own names name) ∙ absent)

-- ---- how they come about

apart_back : (a b : Text) → is_same a b ≡ false → is_same b a ≡ false
apart_back a b apart = by (is_same b a) refl
  where
    by : (x : Bool) → is_same b a ≡ x → is_same b a ≡ false
    by true same =
        let back = is_same_symmetric b a same in
        cc
    by false e = e

has_name_behind : (names : List Text) (own name : Text) → has_name names name ≡ false → is_same own name ≡ false
    → has_name (names ++ own ∷ []) name ≡ false
has_name_behind [] own name absent apart = rw (has_name_more own [] name, apart) refl
has_name_behind (other ∷ names) own name absent apart =
    let none = neither other names name absent in
    rw (has_name_more other (names ++ own ∷ []) name, none.0) (has_name_behind names own name none.1 apart)

distinct_push : (os : List NamedOperation) (o : NamedOperation) → IsDistinct os → has_name (operation_names os) o.name ≡ false
    → IsDistinct (os ++ o ∷ [])
distinct_push [] o d absent = (refl, tt)
distinct_push (p ∷ os) o d absent =
    let none = neither p.name (operation_names os) o.name absent in
    let first = has_name_behind (operation_names os) o.name p.name d.0 (apart_back p.name o.name none.0) in
    (rw (map_push (λ (x : NamedOperation). x.name) os o) first, distinct_push os o d.1 none.1)

distinct_from : (names : List Text) (taken : List NamedOperation) (ss : List Signature) → IsDistinct taken
    → IsDistinct (operations_from names taken ss)
distinct_from names taken [] d = d
distinct_from names taken (s ∷ ss) d =
    by (distinct_from names taken ss d) (distinct_from names (taken ++ operation_of names s ∷ []) ss)
    (has_name (operation_names taken) s.name.text) refl
  where
    more : List NamedOperation
    more = taken ++ operation_of names s ∷ []

    by : IsDistinct (operations_from names taken ss) → (IsDistinct more → IsDistinct (operations_from names more ss)) → (b : Bool)
        → has_name (operation_names taken) s.name.text ≡ b → IsDistinct (operations_from names taken (s ∷ ss))
    by without behind true there = rw there without
    by without behind false absent = rw absent (behind (distinct_push taken (operation_of names s) d absent))

pub types_distinct : (names : List Text) (declared : List DeclaredType) → AreDistinct (map (type_with names) declared)
types_distinct names declared number = rw (slice_get-map (type_with names) declared number) (by (slice_get declared number))
  where
    by : (d : Option DeclaredType) → IsDistinct (operations_in (option_map (type_with names) d))
    by None = tt
    by (Some d) = distinct_from names [] d.operations tt

-- ---- what stands for a wanted operation

module _ (types : List NamedType) (r : Relation) (wanted : NamedOperation) where
  none_fits : (os : List NamedOperation) → has_name (operation_names os) wanted.name ≡ false
      → has_operation types r os wanted ≡ false
  none_fits [] absent = refl
  none_fits (o ∷ os) absent =
      let none = neither o.name (operation_names os) wanted.name absent in
      rw none.0 (none_fits os none.1)

  or_none : (b : Bool) → (b || false) ≡ b
  or_none true = refl
  or_none false = refl

  -- It is the one of its name, if any.
  pub by_name : (os : List NamedOperation) → IsDistinct os
      → has_operation types r os wanted ≡ one_fits types r (operation_named os wanted.name) wanted
  by_name [] d = refl
  by_name (o ∷ os) d = by (by_name os d.1) (is_same o.name wanted.name) refl
    where
      by : has_operation types r os wanted ≡ one_fits types r (operation_named os wanted.name) wanted → (b : Bool)
          → is_same o.name wanted.name ≡ b
          → has_operation types r (o ∷ os) wanted ≡ one_fits types r (operation_named (o ∷ os) wanted.name) wanted
      by later true same =
          let absent = sym (has_name_same (operation_names os) o.name wanted.name same) ∙ d.0 in
          rw (same, none_fits os absent) (or_none (fits types r wanted o))
      by later false apart = rw apart later

-- each operation from a place on: the one at the place, and those behind it
pub from_place : (types : List NamedType) (r : Relation) (own wanted : List NamedOperation) (place : ℕ) (w : NamedOperation)
    → place < length wanted → w ≡ get_or wanted place w
    → has_operations types r own (drop place wanted)
    ≡ (has_operation types r own w && has_operations types r own (drop (place + 1) wanted))
from_place types r own wanted place w within is =
    rw (add-one, drop-cons wanted place w within)
    (ap (λ x. has_operation types r own x && has_operations types r own (drop (suc place) wanted)) (sym is))

-- Of the one with the wanted one's name alone it depends whether one stands for it.
pub by_one : (types : List NamedType) (r : Relation) (own wanted : List NamedOperation) (place : ℕ) (w : NamedOperation)
    (found : Option NamedOperation) → place < length wanted → w ≡ get_or wanted place w → IsDistinct own
    → IfSome (slice_get wanted place) (λ x. found ≡ operation_named own x.name)
    → has_operation types r own w ≡ one_fits types r found w
by_one types r own wanted place w found within is d named =
    let there : slice_get wanted place ≡ Some w = slice_get-get_or wanted place w within ∙ ap Some (sym is) in
    let same : found ≡ operation_named own w.name = rw there at named in
    by_name types r w own d ∙ ap (λ o. one_fits types r o w) (sym same)
