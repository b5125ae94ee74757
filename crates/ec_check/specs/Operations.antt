-- The operations that each class of a core has.
use Rattle.std.specs.Prelude.{◌≡◌, ℕ, ◌==◌, ◌&&◌, Bool, false, if◌then◌else◌, List, [], ◌∷◌, ◌++◌, map}
use Rattle.ec_check.specs.WellTyped.{is_named, parameters_of, result_of}
use Rattle.ec_types.specs.Conforms.{operations_at}
use Rattle.ec_types.specs.Table.{Table}
use Rattle.ec_types.specs.declared.conform.operations.NamedOperation.{NamedOperation}
use Rattle.ec_core.specs.declared.Class.{Class}
use Rattle.ec_core.specs.declared.Core.{Core}
use Rattle.ec_core.specs.declared.Operation.{Operation}
use Rattle.ec_types.specs.Names.{Text, has_name}

-- ---- the operations of a class

-- it has a name, and its objects are of the class with a number
abbrev pub is_of_class : ℕ → Operation → Bool
is_of_class n o = (o.class == n) && is_named o.kind

-- the named operations of the class with a number, in the order of the text
abbrev pub operations_of_class : ℕ → List Operation → List Operation
operations_of_class n [] = []
operations_of_class n (o ∷ os) = (if is_of_class n o then o ∷ [] else []) ++ operations_of_class n os

-- an operation as the types that conform see it
abbrev pub as_seen : Operation → NamedOperation
as_seen o = record { name = o.name; parameters = parameters_of o; result = result_of o }

-- those that others may call
abbrev pub exported_of : List Operation → List NamedOperation
exported_of [] = []
exported_of (o ∷ os) = (if o.is_exported then as_seen o ∷ [] else []) ++ exported_of os

-- No name is the same as another one. Case isn't significant.
abbrev pub AreDistinct : List Text → Type 0
AreDistinct [] = Unit {0}
AreDistinct (name ∷ names) = (has_name names name ≡ false) × AreDistinct names

-- No two operations of a class have one name, and those that others may call are the operations of its type.
pub record HasItsOperations (table : Table) (core : Core) (c : Class) : Type 0 where
  pub names : AreDistinct (map (λ o. o.name) (operations_of_class c.number core.operations))
  pub exported : exported_of (operations_of_class c.number core.operations) ≡ operations_at table.types c.number
