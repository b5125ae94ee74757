-- Nestings of some tokens.
use Rattle.std.proofs.Common.{◌≡◌, ℕ, List, [], ◌∷◌, map, refl}
use Rattle.ec_lexer.specs.declared.token.Token.{Token}
use Rattle.ec_lexer.specs.declared.token.TokenKind.{TokenKind}
use Rattle.ec_lexer.specs.declared.token.TokenKind.TheVariants as token
use Rattle.ec_lexer.specs.declared.token.Reserved.TheVariants as word
use Rattle.ec_lexer.specs.declared.token.Symbol.TheVariants as symbol
use Rattle.ec_parser.specs.Terminals.{terminal_of_kind, terminal_of_name}
use Rattle.ec_parser.specs.Nesting.{nestings_of}

abbrev token_of : TokenKind → Token
token_of k = record { kind = k; at = record { from = 0; to = 0 } }

abbrev at_each : List TokenKind → List ℕ
at_each ks = nestings_of (map token_of ks)

abbrev name : TokenKind
name = token.Name []

-- - a + b
pub negative_first : at_each (token.Symbol symbol.Minus ∷ name ∷ token.Symbol symbol.Plus ∷ name ∷ []) ≡ 1 ∷ 1 ∷ 0 ∷ 0 ∷ []
unfolding nestings_of terminal_of_kind terminal_of_name
negative_first = refl

-- ! a - - b [ c ] . d and e
not_first : at_each (token.Symbol symbol.Bang ∷ name ∷ token.Symbol symbol.Minus ∷ token.Symbol symbol.Minus ∷ name ∷
    token.Symbol symbol.OpenBracket ∷ name ∷
    token.Symbol symbol.CloseBracket ∷ token.Symbol symbol.Dot ∷ name ∷ token.Reserved word.And ∷ name ∷ []) ≡
    1 ∷ 1 ∷ 1 ∷ 2 ∷ 2 ∷ 3 ∷ 3 ∷ 2 ∷ 2 ∷ 2 ∷ 0 ∷ 0 ∷ []
unfolding nestings_of terminal_of_kind terminal_of_name
not_first = refl

-- view - a as b ( - c )
view_first : at_each (token.Reserved word.View ∷ token.Symbol symbol.Minus ∷ name ∷ token.Reserved word.As ∷ name ∷
    token.Symbol symbol.OpenParenthesis ∷
    token.Symbol symbol.Minus ∷ name ∷ token.Symbol symbol.CloseParenthesis ∷ []) ≡ 1 ∷ 2 ∷ 2 ∷ 0 ∷ 0 ∷ 1 ∷ 2 ∷ 2 ∷ 0 ∷ []
unfolding nestings_of terminal_of_kind terminal_of_name
view_first = refl

-- object a operation b if c then end if end b end a
in_words : at_each (token.Reserved word.Object ∷ name ∷ token.Reserved word.Operation ∷ name ∷ token.Reserved word.If ∷ name ∷
    token.Reserved word.Then ∷ token.Reserved word.End ∷
    token.Reserved word.If ∷ token.Reserved word.End ∷ name ∷ token.Reserved word.End ∷ name ∷ []) ≡ 1 ∷ 1 ∷ 2 ∷ 2 ∷ 3 ∷ 3 ∷ 3 ∷ 2 ∷ 2 ∷ 1 ∷
    1 ∷ 0 ∷ 0 ∷ []
unfolding nestings_of terminal_of_kind terminal_of_name
in_words = refl

-- typeobject a operation b [ c ] end a
in_typeobject : at_each
    (token.Reserved word.Typeobject ∷ name ∷ token.Reserved word.Operation ∷ name ∷ token.Symbol symbol.OpenBracket ∷ name ∷
    token.Symbol symbol.CloseBracket ∷
    token.Reserved word.End ∷ name ∷ []) ≡ 1 ∷ 1 ∷ 1 ∷ 1 ∷ 2 ∷ 2 ∷ 1 ∷ 0 ∷ 0 ∷ []
unfolding nestings_of terminal_of_kind terminal_of_name
in_typeobject = refl
