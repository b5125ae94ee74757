-- What holds of each program of a text.
use Rattle.std.specs.Prelude.{ℕ, List}
use Rattle.ec_ast.specs.declared.Program.{Program}
use Rattle.ec_types.specs.Declarations.{declarations_of}
use Rattle.ec_types.specs.Types.{places_of}
use Rattle.ec_lexer.specs.Tokens.{HasTokens}
use Rattle.ec_lexer.specs.declared.token.Token.{Token}
use Rattle.ec_parser.specs.HasTree.{HasTree}
use Rattle.ec_places.specs.Rising.{IsRising}

-- The names of the types that it declares stand at rising places.
abbrev pub NamesRise : Type 0
NamesRise =
    (text : List ℕ) (tokens : List Token) (program : Program) →
    HasTokens text tokens →
    HasTree tokens program →
    IsRising (places_of (declarations_of program).types)
