-- Types whose names are some of the tokens of a list, in their order.
use Rattle.std.proofs.Common.{◌≡◌, List, [], ◌∷◌, ◌++◌}
use Rattle.ec_types.specs.declared.conform.declared.DeclaredType.{DeclaredType}
use Rattle.ec_lexer.specs.declared.token.Token.{Token}

-- The first list goes on to the second one, and the types have their names among the tokens up to there.
pub data Among : List Token → List Token → List DeclaredType → Type 0 where
  arrived : {us : List Token} → Among us us []
  passed : {a : Token} {ts us : List Token} {ds : List DeclaredType} → Among ts us ds → Among (a ∷ ts) us ds
  named : {a : Token} {ts us : List Token} {d : DeclaredType} {ds : List DeclaredType} →
      d.name.at ≡ a.at → Among ts us ds → Among (a ∷ ts) us (d ∷ ds)

-- a part, and behind it another one
pub and_then : {ts us vs : List Token} {ds es : List DeclaredType} → Among ts us ds → Among us vs es → Among ts vs (ds ++ es)
and_then arrived k = k
and_then (passed h) k = passed (and_then h k)
and_then (named e h) k = named e (and_then h k)

-- a part, and behind it one that declares nothing
pub past : {ts us vs : List Token} {ds : List DeclaredType} → Among ts us ds → Among us vs [] → Among ts vs ds
past arrived k = k
past (passed h) k = passed (past h k)
past (named e h) k = named e (past h k)
