-- Types that are of the program by their numbers.
use Rattle.std.proofs.Common.{◌≡◌, true, List, length, ltb-true}
use Rattle.ec_types.specs.declared.conform.named_type.NamedType.{NamedType}
use Rattle.ec_types.specs.declared.conform.static_type.Plain.{Plain as PlainType}
use Rattle.ec_types.specs.declared.conform.static_type.Plain.TheVariants as static
use Rattle.ec_types.specs.declared.conform.static_type.StaticType.{StaticType}
use Rattle.ec_types.specs.declared.conform.static_type.StaticType.TheVariants as type
use Rattle.ec_types.specs.Known.{IsPlainOfProgram, IsOfProgram}
use Rattle.ec_core_laws.specs.Formed.{is_of, is_plain_of}
use Rattle.ec_emission.proofs.Forms.{not_true}

of_plain : (types : List NamedType) (of : PlainType) → is_plain_of (length types) of ≡ true → IsPlainOfProgram types of
of_plain types static.Integer e = tt
of_plain types static.Boolean e = tt
of_plain types static.String e = tt
of_plain types static.Any e = tt
of_plain types static.Node e = tt
of_plain types (static.Named n) e = ltb-true n (length types) e

pub of_types : (types : List NamedType) (of : StaticType) → is_of (length types) of ≡ true → IsOfProgram types of
of_types types (type.Plain of) e = of_plain types of e
of_types types (type.Vector inner of) e = of_plain types of e
of_types types type.Nil e = tt
of_types types type.Unknown e = not_true e
