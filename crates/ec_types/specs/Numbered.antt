-- Types with a number for each name of an operation.
use Rattle.std.specs.Prelude.{◌≡◌, ℕ, false, List, [], ◌∷◌, map, Option, Some, None, slice_get}
use Rattle.ec_types.specs.Names.{Text, first_named, has_name}
use Rattle.ec_types.specs.Conforms.{operations_at}
use Rattle.ec_types.specs.Types.{operation_names}
use Rattle.ec_types.specs.declared.conform.named_type.NamedType.{NamedType}
use Rattle.ec_types.specs.declared.conform.operations.NamedOperation.{NamedOperation}

-- no two operations have one name
abbrev pub IsDistinct : List NamedOperation → Type 0
IsDistinct [] = Unit {0}
IsDistinct (o ∷ os) = (has_name (operation_names os) o.name ≡ false) × IsDistinct os

abbrev pub AreDistinct : List NamedType → Type 0
AreDistinct types = (number : ℕ) → IsDistinct (operations_at types number)

-- Each name has a number among these names, in the order of the operations.
abbrev pub IsNumbered : List NamedOperation → List Text → List ℕ → Type 0
IsNumbered operations names numbers = map (λ o. first_named names o.name) operations ≡ map Some numbers

-- Names that have a number among the one names have it among the other ones.
abbrev pub IsMore : List Text → List Text → Type 0
IsMore names more = (name : Text) (number : ℕ) → first_named names name ≡ Some number → first_named more name ≡ Some number

-- each type with a row
abbrev pub AreRows : List NamedType → List Text → List (List ℕ) → Type 0
AreRows [] names [] = Unit {0}
AreRows [] names (row ∷ rows) = ⊥
AreRows (t ∷ ts) names [] = ⊥
AreRows (t ∷ ts) names (row ∷ rows) = IsNumbered t.operations names row × AreRows ts names rows

-- the row with a number; there is nothing in one that isn't there
abbrev pub row_in : Option (List ℕ) → List ℕ
row_in None = []
row_in (Some row) = row

abbrev pub row_at : List (List ℕ) → ℕ → List ℕ
row_at rows number = row_in (slice_get rows number)

-- what has to hold of types, the names of their operations, and for each type the numbers of these
pub record AreNumbered (types : List NamedType) (names : List Text) (rows : List (List ℕ)) : Type 0 where
  pub distinct : AreDistinct types
  pub numbered : AreRows types names rows
