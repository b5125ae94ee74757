-- The code's two tables are the language's lists of reserved words and of symbols.
use Rattle.std.proofs.Common.{◌≡◌, map, refl}
use Rattle.ec_lexer.specs.declared.token.TheConstants.{RESERVED, SYMBOLS}
use Rattle.ec_lexer.specs.Words.{reserved_words, symbols}

pub reserved_is : map (λ row. (row.0.now, row.1)) RESERVED ≡ reserved_words
reserved_is = refl

pub symbols_is : map (λ row. (row.0.now, row.1)) SYMBOLS ≡ symbols
symbols_is = refl
