-- What holds of conformity, in every program with at most 1,000 types whose operations take and give no unknown type.
use Rattle.std.specs.Prelude.{◌≤◌, List, length}
use Rattle.ec_types.specs.Conforms.{Conforms, most_types}
use Rattle.ec_types.specs.declared.conform.named_type.NamedType.{NamedType}
use Rattle.ec_types.specs.declared.conform.static_type.StaticType.{StaticType}
use Rattle.ec_types.specs.Fits.{Fits}
use Rattle.ec_types.specs.Known.{IsOfProgram, NoneUnknown}

-- A type that conforms to one which conforms to a third conforms to the third.
abbrev pub ConformityComposes : Type 0
ConformityComposes =
    (types : List NamedType) →
    length types ≤ most_types →
    NoneUnknown types →
    (s t u : StaticType) →
    IsOfProgram types s →
    IsOfProgram types t →
    IsOfProgram types u →
    Conforms types s t →
    Conforms types t u →
    Conforms types s u

-- Each type of the program conforms to itself. This holds of programs with more types too.
abbrev pub EachTypeConformsToItself : Type 0
EachTypeConformsToItself =
    (types : List NamedType) →
    NoneUnknown types →
    (s : StaticType) →
    IsOfProgram types s →
    Conforms types s s

-- A type that fits where one is wanted which fits where a third is fits there too.
abbrev pub FittingComposes : Type 0
FittingComposes =
    (types : List NamedType) →
    length types ≤ most_types →
    NoneUnknown types →
    (s t u : StaticType) →
    Fits types s t →
    Fits types t u →
    Fits types s u

-- Each type of the program fits where it is wanted itself. This holds of programs with more types too.
abbrev pub EachTypeFitsItself : Type 0
EachTypeFitsItself =
    (types : List NamedType) →
    NoneUnknown types →
    (s : StaticType) →
    IsOfProgram types s →
    Fits types s s
