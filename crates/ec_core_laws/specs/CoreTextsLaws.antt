-- What holds of the literal texts of programs and of their cores.
use Rattle.std.specs.Prelude.{ℕ, List}
use Rattle.ec_ast.specs.declared.Program.{Program}
use Rattle.ec_check.specs.Program.{core_of}
use Rattle.ec_types.specs.Table.{Table}
use Rattle.ec_core_laws.specs.CoreTexts.{HasByteTexts}
use Rattle.ec_core_laws.specs.TreeTexts.{HasBytes, IsBytes}
use Rattle.ec_lexer.specs.Tokens.{HasTokens}
use Rattle.ec_lexer.specs.declared.token.Token.{Token}
use Rattle.ec_parser.specs.HasTree.{HasTree}

-- Where each literal text in a program is a list of bytes, each in its core is. This holds of all programs.
abbrev pub EachTextIsBytes : Type 0
EachTextIsBytes = (table : Table) (program : Program) → HasBytes program → HasByteTexts (core_of table program)

-- Each literal text in a program of a text of bytes is a list of bytes.
abbrev pub EachTextOfATextIsBytes : Type 0
EachTextOfATextIsBytes =
    (text : List ℕ) (tokens : List Token) (program : Program) →
    IsBytes text →
    HasTokens text tokens →
    HasTree tokens program →
    HasBytes program
