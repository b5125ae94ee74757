-- What is known of the types and operations that a program declares.
use Rattle.std.specs.Prelude.{◌≡◌, ◌↔◌, ℕ, ◌*◌, Bool, true, List, length}
use Rattle.ec_types.specs.Names.{Text}
use Rattle.ec_types.specs.Conforms.{Conforms, conforms_in}
use Rattle.ec_types.specs.Pairs.{compared, in_table}
use Rattle.ec_types.specs.Types.{firsts_of, names_of, places_of, types_of}
use Rattle.ec_types.specs.declared.conform.declared.Declarations.{Declarations}
use Rattle.ec_types.specs.declared.conform.named_type.NamedType.{NamedType}
use Rattle.ec_types.specs.declared.conform.static_type.StaticType.{StaticType}

-- The names of types, the first bytes of these, and their operations, each by the types' numbers; row by row, which of
-- those that are compared with one another conform to which; and the first bytes of the operations of objects and
-- classes, in the order of the text.
pub record Table : Type 0 where
  pub names : List Text
  pub places : List ℕ
  pub types : List NamedType
  pub pairs : List Bool
  pub operations : List ℕ

-- A table answers whether a type conforms to another.
abbrev pub conforms : Table → StaticType → StaticType → Bool
conforms table s t = conforms_in table.types (in_table (length table.types) table.pairs) s t

-- the table of declarations
pub record IsTable (declared : Declarations) (table : Table) : Type 0 where
  pub names : table.names ≡ names_of declared.types
  pub places : table.places ≡ places_of declared.types
  pub types : table.types ≡ types_of declared.types
  pub operations : table.operations ≡ firsts_of declared.operations
  -- a place for each two of the types that are compared with one another
  pub full : length table.pairs ≡ compared (length table.types) * compared (length table.types)
  pub conforms : (s t : StaticType) → (conforms table s t ≡ true) ↔ Conforms table.types s t
