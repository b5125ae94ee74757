-- What is said to be a target is a name, or a chain that ends in an index.
use Rattle.std.proofs.Common.{◌≡◌, true, List, [], ◌∷◌, ◌++◌, map, sym, ap, ◌∙◌, subst}
use Rattle.ec_ast.specs.declared.Expression.{Expression, roll-Expression, out-Expression, roll-out-Expression}
use Rattle.ec_ast.specs.declared.Expression.TheOpen.{Expression-F, Link-F}
use Rattle.ec_ast.specs.declared.Expression.TheVariants as tree
use Rattle.ec_ast.specs.declared.Link.{Link, roll-Link, out-Link, roll-out-Link}
use Rattle.ec_ast.specs.declared.Link.TheVariants as tree_link
use Rattle.ec_ast.specs.declared.Name.{Name}
use Rattle.ec_ast.specs.declared.Span.{Span}
use Rattle.ec_base.specs.Stack.{top_of}
use Rattle.ec_check.proofs.Every.{not_both}
use Rattle.ec_core_laws.proofs.AllTargets.{said, rolled}
use Rattle.ec_core_laws.specs.Targets.{Part, ends_in_index, is_index, is_target}
use Rattle.ec_ast.specs.Kinds.{ExpressionLayer, LinkLayer}
use Rattle.ec_ast.specs.Layers as layers

data IsIndex : Link → Type 0 where
  index : (number : Expression) (at : Span) → IsIndex (tree_link.Index number at)

data EndInIndex : List Link → Type 0 where
  ends : (before : List Link) (number : Expression) (at : Span) → EndInIndex (before ++ tree_link.Index number at ∷ [])

pub data IsTarget : Expression → Type 0 where
  a_name : (name : Name) → IsTarget (tree.Variable name)
  an_index : (x : Expression) (before : List Link) (number : Expression) (at : Span) →
      IsTarget (tree.Postfix x (before ++ tree_link.Index number at ∷ []))

-- ---- links

index_layer : (y : LinkLayer) → is_index (layers.link_mapped said y) ≡ true → IsIndex (roll-Link y)
index_layer (Link-F.Call name xs) h = not_both h
index_layer (Link-F.Index number at) h = subst IsIndex (sym (tree_link.rolls-Index number at)) (index number at)

index_of : (k : Link) → (said.link k).is_target ≡ true → IsIndex k
index_of k h =
    subst IsIndex (roll-out-Link k)
    (index_layer (out-Link k)
    (ap (λ (p : Part). p.is_target) (sym (rolled.link (out-Link k)) ∙ ap said.link (roll-out-Link k)) ∙ h))

alone : {k : Link} → IsIndex k → EndInIndex (k ∷ [])
alone (index number at) = ends [] number at

behind : (k : Link) {ks : List Link} → EndInIndex ks → EndInIndex (k ∷ ks)
behind k (ends before number at) = ends (k ∷ before) number at

last_index : (ks : List Link) → ends_in_index (top_of (map said.link ks)) ≡ true → EndInIndex ks
last_index [] h = not_both h
last_index (k ∷ []) h = alone (index_of k h)
last_index (k ∷ m ∷ ks) h = behind k (last_index (m ∷ ks) h)

-- ---- expressions

chain : (x : Expression) {ks : List Link} → EndInIndex ks → IsTarget (tree.Postfix x ks)
chain x (ends before number at) = an_index x before number at

target_layer : (y : ExpressionLayer) → is_target (layers.expression_mapped said y) ≡ true → IsTarget (roll-Expression y)
target_layer (Expression-F.Expression::Variable name) h = subst IsTarget (sym (tree.rolls-Variable name)) (a_name name)
target_layer (Expression-F.Postfix x links) h =
    subst IsTarget (sym (tree.rolls-Postfix x links)) (chain x (last_index links h))
target_layer _ h = not_both h

pub form_of_target : (x : Expression) → (said.expression x).is_target ≡ true → IsTarget x
form_of_target x h =
    subst IsTarget (roll-out-Expression x)
    (target_layer (out-Expression x)
    (ap (λ (p : Part). p.is_target)
    (sym (rolled.expression (out-Expression x)) ∙ ap said.expression (roll-out-Expression x)) ∙ h))
