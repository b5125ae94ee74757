use Rattle.std.proofs.Common.{◌≡◌, ℕ, ◌+◌, ◌-◌, ◌*◌, ◌<◌, ◌≤◌, List, [], ◌∷◌, length, get_or, drop, fold, arith}
use Rattle.std.proofs.lemmas.List.{at_drop_more}
use Rattle.ec_lexer.specs.Words.{number_of, greatest}
use Rattle.ec_lexer.proofs.lexeme.number_of.Goals as goal

abbrev by_digit : ℕ → ℕ → ℕ
by_digit n digit = n * 10 + (digit - 48)

grows : (digits : List ℕ) (n : ℕ) → n ≤ fold by_digit n digits
grows [] n = omega arith
grows (d ∷ digits) n = omega (arith, grows digits (by_digit n d))

large : (digits : List ℕ) (i n more : ℕ) → i < length digits → fold by_digit n (drop i digits) ≡ number_of digits →
    more ≡ by_digit n (get_or digits i 0) →
    greatest < more → greatest < number_of digits
large digits i n more h e m g =
    let s : fold by_digit n (drop i digits) ≡ fold by_digit (by_digit n (get_or digits i 0)) (drop (i + 1) digits) =
    at_drop_more (fold by_digit n) digits i 0 h in
    omega (arith, grows (drop (i + 1) digits) (by_digit n (get_or digits i 0)))

pub returns-then-more-gt-GREATEST-clause-large : goal.returns-then-more-gt-GREATEST-clause-large
returns-then-more-gt-GREATEST-clause-large c e =
    large c.args.digits.now c.loop-digit.digit-index c.loop-digit.number (c.from.result * 10 + c.from-in-loop-digit.result)
    (omega arith) c.loop-digit.invariant.1 (omega arith) (omega arith)
