-- Values, and the value that a variable, a field or a constant has at first (Emerald report: 0, false, the empty string, nil).
use lib.IntN.{pos}
use Rattle.std.specs.Prelude.{List, [], map, false, ◌++◌, drop, length}
use Rattle.ec_world.specs.declared.value.Value.{Value}
use Rattle.ec_world.specs.declared.value.Value.TheVariants.{Int, Str, Nil, Bool as Truth}
use Rattle.ec_world.specs.declared.value.ValueType.{ValueType}
use Rattle.ec_world.specs.declared.value.ValueType.TheVariants.{Integer, Boolean, Bytes, Reference}
use Rattle.ec_world.specs.declared.class.FieldRec.{FieldRec}

abbrev pub default_of : ValueType → Value
default_of Integer = Int (pos 0)
default_of Boolean = Truth false
default_of Bytes = Str []
default_of Reference = Nil

abbrev pub defaults_of : List ValueType → List Value
defaults_of types = map default_of types

-- the fields of a new object: those that its creation gives, and the defaults of the others
abbrev pub field_defaults : List FieldRec → List Value
field_defaults fields = map (λ f. default_of f.of) fields

abbrev pub new_fields : List Value → List FieldRec → List Value
new_fields given fields = given ++ field_defaults (drop (length given) fields)
