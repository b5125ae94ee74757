-- Which values are of a kind: as the words of a node have room for them.
use Rattle.std.specs.Prelude.{FitsSigned}
use Rattle.std.specs.Int.{w32}
use Rattle.ec_world.specs.declared.value.Value.{Value}
use Rattle.ec_world.specs.declared.value.Value.TheVariants.{Int, Str, Ref, Nil, Bool as Truth}
use Rattle.ec_world.specs.declared.value.ValueType.{ValueType}
use Rattle.ec_world.specs.declared.value.ValueType.TheVariants.{Integer, Boolean, Bytes, Reference}

-- An Integer has 32 bits and a sign; a reference may be nil.
abbrev pub IsOfKind : ValueType → Value → Type 0
IsOfKind Integer (Int z) = FitsSigned w32 z
IsOfKind Boolean (Truth b) = Unit {0}
IsOfKind Bytes (Str t) = Unit {0}
IsOfKind Reference (Ref oid) = Unit {0}
IsOfKind Reference Nil = Unit {0}
IsOfKind _ _ = ⊥
