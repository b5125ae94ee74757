-- Chains: the first alone, where nothing stands behind it.
use Rattle.std.specs.Prelude.{List, [], ◌∷◌}
use Rattle.ec_ast.specs.declared.Expression.{Expression}
use Rattle.ec_ast.specs.declared.Expression.TheVariants as e
use Rattle.ec_ast.specs.declared.Link.{Link}
use Rattle.ec_ast.specs.declared.Factor.{Factor}
use Rattle.ec_ast.specs.declared.Addend.{Addend}

unfoldable pub or_of : Expression → List Expression → Expression
or_of first [] = first
or_of first (x ∷ more) = e.Or first (x ∷ more)

unfoldable pub and_of : Expression → List Expression → Expression
and_of first [] = first
and_of first (x ∷ more) = e.And first (x ∷ more)

unfoldable pub sum_of : Expression → List Addend → Expression
sum_of first [] = first
sum_of first (x ∷ more) = e.Sum first (x ∷ more)

unfoldable pub term_of : Expression → List Factor → Expression
term_of first [] = first
term_of first (x ∷ more) = e.Term first (x ∷ more)

unfoldable pub postfix_of : Expression → List Link → Expression
postfix_of first [] = first
postfix_of first (x ∷ more) = e.Postfix first (x ∷ more)
