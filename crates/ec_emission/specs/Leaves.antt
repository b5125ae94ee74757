-- Values that the code needn't work out.
use Rattle.std.specs.Prelude.{ℕ, ◌<◌, Bool, List, Option, Some, ℤ, slice_get}
use Rattle.ec_code.specs.declared.code.Operand.{Operand}
use Rattle.ec_code.specs.declared.code.Operand.TheVariants as operand
use Rattle.ec_code.specs.declared.code.Variable.TheVariants as variable
use Rattle.ec_world.specs.declared.value.Value.{Value}
use Rattle.ec_world.specs.declared.value.Value.TheVariants as value

-- a named variable, a number, a truth or nil
pub data Leaf : Type 0 where
  Named : ℕ → Leaf
  Number : ℤ → Leaf
  Truth : Bool → Leaf
  Nil : Leaf

abbrev pub leaf_operand : Leaf → Operand
leaf_operand (Named n) = operand.Of (variable.Named n)
leaf_operand (Number z) = operand.Number z
leaf_operand (Truth b) = operand.Truth b
leaf_operand Nil = operand.Nil

-- the value, over named variables
abbrev pub said : List Value → Leaf → Option Value
said vs (Named n) = slice_get vs n
said vs (Number z) = Some (value.Int z)
said vs (Truth b) = Some (value.Bool b)
said vs Nil = Some value.Nil

-- the variable is there, among so many
abbrev pub IsThereOf : ℕ → Leaf → Type 0
IsThereOf count (Named n) = n < count
IsThereOf count (Number z) = Unit {0}
IsThereOf count (Truth b) = Unit {0}
IsThereOf count Nil = Unit {0}

-- the value held above so many others, in its temporary
abbrev pub temporary : ℕ → Operand
temporary h = operand.Of (variable.Temporary h)
