-- What the lexer reads at the front of a text is what stands there.
use Rattle.std.proofs.Common.{◌≡◌, [], take}
use Rattle.ec_lexer.specs.declared.lexeme.Lexeme.{Lexeme}
use Rattle.ec_lexer.specs.declared.lexeme.Lexeme.TheVariants.{End, Separator, Token, Fault}
use Rattle.ec_lexer.specs.Words.{Bytes}
use Rattle.ec_lexer.specs.Tokens.{IsSeparator, IsToken}
use Rattle.ec_lexer.specs.Faults.{IsFault}
use Rattle.ec_lexer.specs.Lexemes.{kind_of}

abbrev pub Agrees : Bytes → Lexeme → Type 0
Agrees text End = text ≡ []
Agrees text (Separator n) = IsSeparator text n
Agrees text (Token form n) = IsToken text (kind_of form (take n text)) n
Agrees text (Fault fault n) = IsFault text fault n
