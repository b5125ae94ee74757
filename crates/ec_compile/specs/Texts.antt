-- When a source is that of a text which is accepted.
use Rattle.std.specs.Prelude.{List}
use Rattle.ec_ast.specs.declared.Program.{Program}
use Rattle.ec_check.specs.Accepted.{HasCore}
use Rattle.ec_core_laws.specs.TreeTexts.{IsBytes}
use Rattle.ec_lexer.specs.Tokens.{HasTokens}
use Rattle.ec_lexer.specs.declared.token.Token.{Token}
use Rattle.ec_meaning.specs.Programs.{Source}
use Rattle.ec_parser.specs.HasTree.{HasTree}

-- Its text is one of bytes with tokens and a tree, which breaks no static rule.
pub record IsOfText (s : Source) : Type 0 where
  pub tokens : List Token
  pub program : Program
  pub bytes : IsBytes s.text
  pub scanned : HasTokens s.text tokens
  pub parsed : HasTree tokens program
  pub core : HasCore program s.table s.core
