-- Tables of pairs of named types, from which the pairs that do not meet the clauses are struck.
use Rattle.std.specs.Prelude.{◌≡◌, ℕ, ◌+◌, ◌*◌, ◌/◌, ◌%◌, ◌<◌, ◌≤◌, min, ◌&&◌, nat_lt, if◌then◌else◌, Bool, true, false, List, []}
use Rattle.std.specs.Prelude.{◌∷◌, length, Option, Some, None, slice_index_or}
use Rattle.ec_types.specs.Conforms.{Relation, parameters_fit, results_fit, meets, most_types, IsClosed}
use Rattle.ec_types.specs.declared.conform.named_type.NamedType.{NamedType}
use Rattle.ec_types.specs.declared.conform.operations.NamedOperation.{NamedOperation}

-- an operation takes what the wanted one takes, and gives what it gives
abbrev pub fits : List NamedType → Relation → NamedOperation → NamedOperation → Bool
fits types r wanted o = parameters_fit types r wanted.parameters o.parameters && results_fit types r o.result wanted.result

-- the same of the one operation with the wanted one's name, where there is one
abbrev pub one_fits : List NamedType → Relation → Option NamedOperation → NamedOperation → Bool
one_fits types r None wanted = false
one_fits types r (Some o) wanted = fits types r wanted o

-- How many of n types are compared with one another: the first ones, as many as a program may have.
abbrev pub compared : ℕ → ℕ
compared n = min n most_types

-- what m rows say of two named types: a type behind them conforms to each, and each to it
abbrev pub in_rows : ℕ → List Bool → Relation
in_rows m table a b = if nat_lt a m && nat_lt b m then slice_index_or table (a * m + b) false else true

-- the relation that a table of n types says: both are there, and the rows don't say otherwise
abbrev pub in_table : ℕ → List Bool → Relation
in_table n table a b = nat_lt a n && (nat_lt b n && in_rows (compared n) table a b)

-- each pair of the relation is in the table
abbrev pub IsWithin : Relation → ℕ → List Bool → Type 0
IsWithin r n table = (a b : ℕ) → r a b ≡ true → in_table n table a b ≡ true

-- each relation that meets the clauses and is within the one table is within the other
abbrev pub KeepsClosed : List NamedType → List Bool → List Bool → Type 0
KeepsClosed types old new = (r : Relation) → IsClosed types r → IsWithin r (length types) old → IsWithin r (length types) new

-- a row for each type that is compared
abbrev pub rows : List NamedType → ℕ
rows types = compared (length types)

-- the pair at an index of the table
abbrev pub meets_at : List NamedType → List Bool → ℕ → Bool
meets_at types table i = meets types (in_table (length types) table) (i / rows types) (i % rows types)

abbrev pub IsWrong : List NamedType → List Bool → ℕ → Type 0
IsWrong types table i = (slice_index_or table i false ≡ true) × (meets_at types table i ≡ false)

abbrev pub IsRight : List NamedType → List Bool → ℕ → Type 0
IsRight types table i = slice_index_or table i false ≡ true → meets_at types table i ≡ true

-- each pair of the table meets the clauses with pairs of the table, where both types are compared
abbrev pub IsStable : List NamedType → List Bool → Type 0
IsStable types table =
    (a b : ℕ) → a < most_types → b < most_types → in_table (length types) table a b ≡ true
    → meets types (in_table (length types) table) a b ≡ true

-- a place for each two of the types that are compared
abbrev pub IsFull : List NamedType → List Bool → Type 0
IsFull types table = length table ≡ rows types * rows types

abbrev pub count_true : List Bool → ℕ
count_true [] = 0
count_true (true ∷ bs) = count_true bs + 1
count_true (false ∷ bs) = count_true bs

-- The table has a place for each pair, meets the clauses, and has each pair of each relation that meets them.
pub record IsLargest (types : List NamedType) (table : List Bool) : Type 0 where
  pub full : IsFull types table
  pub stable : IsStable types table
  pub within : (r : Relation) → IsClosed types r → IsWithin r (length types) table

-- ---- what a step of the striking leaves

-- Pairs were struck, and their indices added to the list of those that were struck.
pub record Follows (types : List NamedType) (old : List Bool) (before : List ℕ) (new : List Bool) (after : List ℕ) : Type 0 where
  pub full : IsFull types new
  pub keeps : KeepsClosed types old new
  pub count : count_true new + length after ≡ count_true old + length before
  pub more : length before ≤ length after

-- One pair or more were struck.
pub record Fewer (types : List NamedType) (old new : List Bool) : Type 0 where
  pub full : IsFull types new
  pub keeps : KeepsClosed types old new
  pub fewer : count_true new < count_true old

-- The pairs of a first type in these rows and a second one in these columns were looked at: one or more pairs were
-- struck, or none was and none of these is to be.
pub record Passed (types : List NamedType) (old : List Bool) (top bottom left right : ℕ) (struck : Bool)
    (new : List Bool) : Type 0 where
  pub full : IsFull types new
  pub keeps : KeepsClosed types old new
  pub least : count_true new ≤ count_true old
  pub fewer : struck ≡ true → count_true new < count_true old
  pub same : struck ≡ false → new ≡ old
  pub seen : struck ≡ false → (a b : ℕ) → top ≤ a → a < bottom → left ≤ b → b < right → b < rows types
      → IsRight types new (a * rows types + b)

-- Each pair was looked at: one or more were struck, or none was and none is to be.
pub record Struck (types : List NamedType) (old : List Bool) (struck : Bool) (new : List Bool) : Type 0 where
  pub full : IsFull types new
  pub keeps : KeepsClosed types old new
  pub fewer : struck ≡ true → count_true new < count_true old
  pub stable : struck ≡ false → IsStable types new
