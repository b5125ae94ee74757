use Rattle.std.proofs.Common.{◌≡◌, ◌+◌, ◌≤◌, length, false}
use Rattle.ec_lexer.specs.Lexemes.{string}
use Rattle.ec_lexer.proofs.lexeme.string.Given as goal

abbrev pub invariant-loop-left : goal.invariant-loop-left
invariant-loop-left l = (string l.is_escaped l.at l.left ≡ string false 1 l.initial.left)
    × (l.at + length l.left ≡ length l.initial.left + 1) × (1 ≤ l.at)

abbrev pub decreases-loop-left : goal.decreases-loop-left
decreases-loop-left l = length l.left
