-- A type that conforms to one which conforms to a third conforms to the third.
use Rattle.std.proofs.Common.{◌≤◌, List, length}
use Rattle.ec_types.specs.Conforms.{Relation, most_types, IsClosed, Conforms}
use Rattle.ec_types.specs.declared.conform.named_type.NamedType.{NamedType}
use Rattle.ec_types.specs.declared.conform.static_type.StaticType.{StaticType}
use Rattle.ec_types.proofs.Striking.{conforms_more}
use Rattle.ec_types.specs.Known.{IsOfProgram, NoneUnknown}
use Rattle.ec_types.proofs.TwoSteps.{two_steps, two_steps_closed, conforms_in_two}
use Rattle.ec_types.proofs.Union.{union, in_first, in_second, union_closed}

pub composes : (types : List NamedType) → length types ≤ most_types → NoneUnknown types → (s t u : StaticType)
    → IsOfProgram types s → IsOfProgram types t → IsOfProgram types u → Conforms types s t → Conforms types t u → Conforms types s u
composes types few known s t u a b c h k =
    let r : Relation = union types h.0 k.0 in
    let closed : IsClosed types r = union_closed types h.0 k.0 h.1 k.1 in (
      two_steps types r,
      two_steps_closed types r few closed known,
      conforms_in_two types r few closed s t u a b c (conforms_more types h.0 r (in_first types h.0 k.0) s t h.2)
          (conforms_more types k.0 r (in_second types h.0 k.0) t u k.2),
    )
