-- Operations whose names have numbers: how they come about, and that they are found by these.
use Rattle.std.proofs.Common.{◌≡◌, ℕ, ◌+◌, ◌==◌, Bool, true, false, List, [], ◌∷◌, ◌++◌, Option, Some, None, option_map, zero, suc}
use Rattle.std.proofs.Common.{refl, sym, ap, ◌∙◌, arith}
use Rattle.std.specs.Option.{IfSome, option_and_then}
use Rattle.std.specs.List.{slice_get}
use Rattle.std.proofs.lemmas.List.{map_push}
use Rattle.std.proofs.lemmas.Option.{slice_get-map}
use Rattle.ec_types.specs.Names.{Text, is_same, first_named}
use Rattle.ec_types.specs.Conforms.{operations_at}
use Rattle.ec_types.specs.Numbered.{IsMore, IsNumbered, AreRows, AreNumbered, row_at}
use Rattle.ec_types.specs.Rows.{place_from, place_of}
use Rattle.ec_types.specs.Types.{operation_named}
use Rattle.ec_types.specs.declared.conform.named_type.NamedType.{NamedType}
use Rattle.ec_types.specs.declared.conform.operations.NamedOperation.{NamedOperation}
use Rattle.ec_types.proofs.NamesLemmas.{same_number}

place_shifted : (n : ℕ) (numbers : List ℕ) (number : ℕ)
    → place_from (n + 1) numbers number ≡ option_map suc (place_from n numbers number)
place_shifted n [] number = refl
place_shifted n (own ∷ numbers) number = by (place_shifted (n + 1) numbers number) (own == number) refl
  where
    by : place_from (n + 1 + 1) numbers number ≡ option_map suc (place_from (n + 1) numbers number) → (b : Bool)
        → (own == number) ≡ b
        → place_from (n + 1) (own ∷ numbers) number ≡ option_map suc (place_from n (own ∷ numbers) number)
    by later true same = rw same (ap Some (omega arith))
    by later false apart = rw apart later

-- ---- how they come about

pub more_joined : (a b c : List Text) → IsMore a b → IsMore b c → IsMore a c
more_joined a b c first then name number e = then name number (first name number e)

pub numbered_more : (os : List NamedOperation) (names more : List Text) (numbers : List ℕ) → IsMore names more
    → IsNumbered os names numbers → IsNumbered os more numbers
numbered_more [] names more numbers m numbered = numbered
numbered_more (o ∷ os) names more [] m numbered = cc
numbered_more (o ∷ os) names more (own ∷ numbers) m numbered =
    let first : first_named names o.name ≡ Some own = cc in
    let rest : IsNumbered os names numbers = cc in
    let here = m o.name own first in
    let behind = numbered_more os names more numbers m rest in
    cc

pub numbered_push : (os : List NamedOperation) (names : List Text) (numbers : List ℕ) (o : NamedOperation) (number : ℕ)
    → IsNumbered os names numbers → first_named names o.name ≡ Some number
    → IsNumbered (os ++ o ∷ []) names (numbers ++ number ∷ [])
numbered_push os names numbers o number numbered e =
    map_push (λ (x : NamedOperation). first_named names x.name) os o ∙ rw (numbered, e) (sym (map_push Some numbers number))

pub rows_push : (types : List NamedType) (names more : List Text) (rows : List (List ℕ)) (t : NamedType) (row : List ℕ)
    → IsMore names more → AreRows types names rows → IsNumbered t.operations more row
    → AreRows (types ++ t ∷ []) more (rows ++ row ∷ [])
rows_push [] names more [] t row m rest numbered = (numbered, tt)
rows_push [] names more (r ∷ rs) t row m rest numbered = absurd rest
rows_push (s ∷ ts) names more [] t row m rest numbered = absurd rest
rows_push (s ∷ ts) names more (r ∷ rs) t row m rest numbered =
    (numbered_more s.operations names more r m rest.0, rows_push ts names more rs t row m rest.1 numbered)

-- ---- how they are found

row_numbered : (types : List NamedType) (names : List Text) (rows : List (List ℕ)) → AreRows types names rows → (number : ℕ)
    → IsNumbered (operations_at types number) names (row_at rows number)
row_numbered [] names [] r number = refl
row_numbered [] names (row ∷ rows) r number = absurd r
row_numbered (t ∷ ts) names [] r number = absurd r
row_numbered (t ∷ ts) names (row ∷ rows) r zero = r.0
row_numbered (t ∷ ts) names (row ∷ rows) r (suc number) = row_numbered ts names rows r.1 number

module _ (names : List Text) where
  -- the number of the operation at a place
  pub number_there : (os : List NamedOperation) (numbers : List ℕ) (place : ℕ) (o : NamedOperation) → IsNumbered os names numbers
      → slice_get os place ≡ Some o
      → Some (first_named names o.name) ≡ option_map Some (slice_get numbers place)
  number_there os numbers place o numbered there =
      ap (λ found. option_map (λ x. first_named names x.name) found) (sym there)
      ∙ sym (slice_get-map (λ (x : NamedOperation). first_named names x.name) os place)
      ∙ ap (λ list. slice_get list place) numbered ∙ slice_get-map Some numbers place

  -- the operation with a name stands where the name's number does
  pub found_by_number : (os : List NamedOperation) (numbers : List ℕ) (name : Text) (number : ℕ) → IsNumbered os names numbers
      → first_named names name ≡ Some number
      → operation_named os name ≡ option_and_then (slice_get os) (place_of numbers number)
  found_by_number [] [] name number numbered e = refl
  found_by_number [] (own ∷ numbers) name number numbered e = cc
  found_by_number (o ∷ os) [] name number numbered e = cc
  found_by_number (o ∷ os) (own ∷ numbers) name number numbered e =
      let first : first_named names o.name ≡ Some own = cc in
      let rest : IsNumbered os names numbers = cc in
      by (found_by_number os numbers name number rest e) (own == number) (same_number names o.name name own number first e) refl
    where
      behind : (found : Option ℕ)
          → option_and_then (slice_get os) found ≡ option_and_then (slice_get (o ∷ os)) (option_map suc found)
      behind None = refl
      behind (Some i) = refl

      by : operation_named os name ≡ option_and_then (slice_get os) (place_of numbers number) → (b : Bool)
          → is_same o.name name ≡ (own == number) → (own == number) ≡ b
          → operation_named (o ∷ os) name ≡ option_and_then (slice_get (o ∷ os)) (place_of (own ∷ numbers) number)
      by later true same is = rw (same, is) refl
      by later false same is = rw (same, is, place_shifted 0 numbers number) (later ∙ behind (place_of numbers number))

-- The operation of the one type with the name of an operation of the other.
module _ (types : List NamedType) (names : List Text) (rows : List (List ℕ)) (numbered : AreNumbered types names rows) where
  pub none_like : (other place : ℕ) (P : NamedOperation → Type 0) → slice_get (row_at rows other) place ≡ None
      → IfSome (slice_get (operations_at types other) place) P
  none_like other place P absent = by (slice_get (operations_at types other) place) refl
    where
      by : (o : Option NamedOperation) → slice_get (operations_at types other) place ≡ o → IfSome o P
      by None e = tt
      by (Some wanted) e =
          let row = row_numbered types names rows numbered.numbered other in
          let numbers = number_there names (operations_at types other) (row_at rows other) place wanted row e in
          let none : Some (first_named names wanted.name) ≡ None = numbers ∙ ap (option_map Some) absent in
          absurd cc

  pub found_like : (own other place number : ℕ) (found : Option NamedOperation)
      → slice_get (row_at rows other) place ≡ Some number
      → found ≡ option_and_then (slice_get (operations_at types own)) (place_of (row_at rows own) number)
      → IfSome (slice_get (operations_at types other) place)
      (λ wanted. found ≡ operation_named (operations_at types own) wanted.name)
  found_like own other place number found there is = by (slice_get (operations_at types other) place) refl
    where
      by : (o : Option NamedOperation) → slice_get (operations_at types other) place ≡ o
          → IfSome o (λ wanted. found ≡ operation_named (operations_at types own) wanted.name)
      by None e = tt
      by (Some wanted) e =
          let row = row_numbered types names rows numbered.numbered other in
          let numbers = number_there names (operations_at types other) (row_at rows other) place wanted row e in
          let same : Some (first_named names wanted.name) ≡ Some (Some number) = numbers ∙ ap (option_map Some) there in
          let first : first_named names wanted.name ≡ Some number = cc in
          let own_row = row_numbered types names rows numbered.numbered own in
          is ∙ sym (found_by_number names (operations_at types own) (row_at rows own) wanted.name number own_row first)
