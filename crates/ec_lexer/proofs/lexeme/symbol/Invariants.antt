use Rattle.std.proofs.Common.{◌≡◌, ◌≤◌, length}
use Rattle.ec_lexer.specs.Lexemes.{symbol, symbol_up_to}
use Rattle.ec_lexer.proofs.lexeme.symbol.Given as goal

abbrev pub invariant-loop-end : goal.invariant-loop-end
invariant-loop-end l = (symbol_up_to l.end l.text ≡ symbol l.text) × (l.end ≤ length l.text)

abbrev pub decreases-loop-end : goal.decreases-loop-end
decreases-loop-end l = l.end
