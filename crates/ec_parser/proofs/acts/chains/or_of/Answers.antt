use Rattle.std.proofs.Common.{◌≡◌, List, [], ◌∷◌, true, false, refl}
use Rattle.ec_ast.specs.declared.Expression.{Expression}
use Rattle.ec_ast.specs.declared.Expression.TheVariants as e
use Rattle.ec_parser.specs.Chains.{or_of}
use Rattle.ec_parser.proofs.acts.chains.or_of.Goals as goal

none : (first : Expression) (more : List Expression) → more ≡ [] → first ≡ or_of first more
unfolding or_of
none first more h = rw h refl

some : (first : Expression) (more : List Expression) → (more ≡ [] → ⊥) → e.Or first more ≡ or_of first more
unfolding or_of
some first [] h = absurd (h refl)
some first (x ∷ more) h = refl

pub returns-then-is_empty : goal.returns-then-is_empty
returns-then-is_empty c = none _ _ (c.if-is_empty.ensures.0 refl)

pub returns : goal.returns
returns c = rw c.in_ok-new.ensures (some _ _ (λ e. absurd (let f : false ≡ true = c.if-is_empty.ensures.1 e in cc)))
