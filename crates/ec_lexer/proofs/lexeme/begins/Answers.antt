use Rattle.std.proofs.Common.{◌≡◌, ℕ, ◌≤◌, List, [], ◌∷◌, length, slice_index, refl, ◌∙◌, arith}
use Rattle.ec_lexer.specs.declared.lexeme.Lexeme.TheVariants.{End}
use Rattle.ec_lexer.specs.Lexemes.{begins, begins_by}
use Rattle.ec_lexer.proofs.lexeme.begins.Goals as goal

none : (z : List ℕ) → length z ≡ 0 → End ≡ begins z
unfolding begins
none [] h = refl
none (b ∷ z) h = absurd (omega arith)

some : (z : List ℕ) → 1 ≤ length z → begins_by (slice_index z 0) z ≡ begins z
unfolding begins
some [] h = absurd (omega arith)
some (b ∷ z) h = refl

pub returns-in-empty-clause-value : goal.returns-in-empty-clause-value
returns-in-empty-clause-value c = none c.args.text.now (omega arith)

pub returns-in-len1-up-clause-value : goal.returns-in-len1-up-clause-value
returns-in-len1-up-clause-value c = c.begins_by_first.ensures.value ∙ some c.args.text.now (omega arith)
