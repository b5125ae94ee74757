use Rattle.std.proofs.Common.{◌∙◌, ap}
use Rattle.ec_lexer.specs.Words.{symbol_of, lookup_symbol}
use Rattle.ec_lexer.proofs.Tables.{symbols_is}
use Rattle.ec_lexer.proofs.token.symbol_of.Goals as goal

pub returns : goal.returns
unfolding symbol_of
returns c = c.find_symbol.ensures ∙ ap (λ rows. lookup_symbol rows c.args.bytes.now) symbols_is
