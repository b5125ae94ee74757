use Rattle.std.proofs.Common.{◌∙◌, ap}
use Rattle.ec_lexer.specs.Words.{reserved, lookup_word}
use Rattle.ec_lexer.proofs.Tables.{reserved_is}
use Rattle.ec_lexer.proofs.token.reserved_word.Goals as goal

pub returns : goal.returns
unfolding reserved
returns c = c.find_word.ensures ∙ ap (λ rows. lookup_word rows c.args.word.now) reserved_is
