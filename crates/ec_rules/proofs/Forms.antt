-- The form of an expression, from one layer of the tree.
use Rattle.std.proofs.Common.{◌≡◌, ap, sym, ◌∙◌}
use Rattle.ec_ast.specs.declared.Expression.{Expression}
use Rattle.ec_rules.specs.Judging.{expression_part, form_of}
use Rattle.ec_rules.specs.Parts.{AnExpression}
use Rattle.ec_rules.specs.Tree.{part_of, layer_of}
use Rattle.ec_rules.proofs.Equations.{part_is_layer}

form_is : (x : Expression) → (part_of x).form ≡ form_of (layer_of x)
unfolding expression_part
form_is x = ap (λ p. p.form) (part_is_layer x)

pub form_at : (x y : Expression) (l : AnExpression) → x ≡ y → layer_of y ≡ l → form_of l ≡ (part_of x).form
form_at x y l e f = sym (ap (λ z. (part_of z).form) e ∙ form_is y ∙ ap form_of f)
