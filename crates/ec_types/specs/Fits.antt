-- When a type fits where another is wanted.
use Rattle.std.specs.Prelude.{List}
use Rattle.ec_types.specs.Conforms.{Conforms}
use Rattle.ec_types.specs.declared.conform.named_type.NamedType.{NamedType}
use Rattle.ec_types.specs.declared.conform.static_type.StaticType.{StaticType}
use Rattle.ec_types.specs.Known.{IsOfProgram}

-- Both are of the program, and the given one conforms to the wanted one.
pub record Fits (types : List NamedType) (s t : StaticType) : Type 0 where
  pub given : IsOfProgram types s
  pub wanted : IsOfProgram types t
  pub conforms : Conforms types s t
