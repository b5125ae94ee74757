-- What holds of each program that an accepted source is lowered to.
use Rattle.std.specs.Prelude.{ℕ, List}
use Rattle.ec_ast.specs.declared.Program.{Program}
use Rattle.ec_check.specs.Accepted.{HasCore}
use Rattle.ec_code.specs.declared.code.Parts.{Parts}
use Rattle.ec_core_laws.specs.TreeNumbers.{HasSmallNumbers}
use Rattle.ec_core_laws.specs.TreeTexts.{HasBytes, IsBytes}
use Rattle.ec_lexer.specs.Tokens.{HasTokens}
use Rattle.ec_lexer.specs.declared.token.Token.{Token}
use Rattle.ec_emission.specs.Lowered.{IsLowered}
use Rattle.ec_meaning.specs.Programs.{Source}
use Rattle.ec_parser.specs.HasTree.{HasTree}
use Rattle.ec_code.specs.Code.{SmallProgram}

-- Where each number in an accepted program is below 2^31, and each literal text in it is a list of bytes, each number in the code that
-- it is lowered to is in range, and so is each literal.
abbrev pub LoweredIsSmall : Type 0
LoweredIsSmall =
    (s : Source) (program : Program) (p : Parts) →
    HasCore program s.table s.core →
    HasSmallNumbers program →
    HasBytes program →
    IsLowered s p →
    SmallProgram p

-- So it is of each text of bytes.
abbrev pub LoweredTextIsSmall : Type 0
LoweredTextIsSmall =
    (text : List ℕ) (tokens : List Token) (s : Source) (program : Program) (p : Parts) →
    IsBytes text →
    HasTokens text tokens →
    HasTree tokens program →
    HasCore program s.table s.core →
    IsLowered s p →
    SmallProgram p
