-- Operands that name an object, or are nil.
use Rattle.std.specs.Prelude.{ℕ, Option, Some, None}
use Rattle.ec_world.specs.declared.value.Value.{Value}
use Rattle.ec_world.specs.declared.value.Value.TheVariants.{Int, Str, Ref, Nil, Bool as Truth}

-- the object, or none where the operand is nil; none at all where it is another value
abbrev pub object_in : Value → Option (Option ℕ)
object_in (Ref oid) = Some (Some oid)
object_in Nil = Some None
object_in (Int z) = None
object_in (Truth b) = None
object_in (Str s) = None

abbrev pub object_or_nil : Option ℕ → Value
object_or_nil (Some oid) = Ref oid
object_or_nil None = Nil
