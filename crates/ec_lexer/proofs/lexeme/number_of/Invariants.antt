use Rattle.std.proofs.Common.{◌≡◌, ◌+◌, ◌-◌, ◌*◌, ◌≤◌, drop, fold}
use Rattle.ec_lexer.specs.Words.{number_of, greatest}
use Rattle.ec_lexer.proofs.lexeme.number_of.Given as goal

abbrev pub invariant-loop-digit : goal.invariant-loop-digit
invariant-loop-digit l =
    (l.number ≤ greatest) × (fold (λ n digit. n * 10 + (digit - 48)) l.number (drop l.digit-index l.digits) ≡ number_of l.digits)
