-- What a fold gives of an expression or a link of the core.
use Rattle.std.proofs.Common.{◌≡◌, sym, ap, ◌∙◌}
use Rattle.ec_core.specs.declared.Addend.{Addend, roll-Addend, fold-Addend, fold-roll-Addend}
use Rattle.ec_core.specs.declared.Expression.{Expression, roll-Expression, map-Expression, fold-Expression, fold-roll-Expression}
use Rattle.ec_core.specs.declared.Expression.{out-Expression, roll-out-Expression}
use Rattle.ec_core.specs.declared.Expression.TheOpen.{Expression-F, Link-F, Addend-F, Factor-F}
use Rattle.ec_core.specs.declared.Factor.{Factor, roll-Factor, fold-Factor, fold-roll-Factor}
use Rattle.ec_core.specs.declared.Link.{Link, roll-Link, map-Link, fold-Link, fold-roll-Link, out-Link, roll-out-Link}

module _ (D : Type 0) (f : Expression-F D D D D → D) (g : Link-F D D D D → D) (h : Addend-F D D D D → D) (k : Factor-F D D D D → D) where
  abbrev pub of_expression : Expression → D
  of_expression = fold-Expression D D D D f g h k

  abbrev pub of_link : Link → D
  of_link = fold-Link D D D D f g h k

  abbrev pub of_addend : Addend → D
  of_addend = fold-Addend D D D D f g h k

  abbrev pub of_factor : Factor → D
  of_factor = fold-Factor D D D D f g h k

  pub expression_is : (x : Expression) (y : Expression-F Expression Link Addend Factor) → roll-Expression y ≡ x →
      of_expression x ≡ f (map-Expression Expression Link Addend Factor D D D D of_expression of_link of_addend of_factor y)
  expression_is x y e = ap of_expression (sym e) ∙ fold-roll-Expression D D D D f g h k y

  pub link_is : (x : Link) (y : Link-F Expression Link Addend Factor) → roll-Link y ≡ x →
      of_link x ≡ g (map-Link Expression Link Addend Factor D D D D of_expression of_link of_addend of_factor y)
  link_is x y e = ap of_link (sym e) ∙ fold-roll-Link D D D D f g h k y

  pub addend_is : (y : Addend-F Expression Link Addend Factor) →
      of_addend (roll-Addend y) ≡ h (record { operator = y.operator; value = of_expression y.value; at = y.at })
  addend_is y = fold-roll-Addend D D D D f g h k y

  pub factor_is : (y : Factor-F Expression Link Addend Factor) →
      of_factor (roll-Factor y) ≡ k (record { operator = y.operator; value = of_expression y.value; at = y.at })
  factor_is y = fold-roll-Factor D D D D f g h k y

  pub out_is : (x : Expression) →
      of_expression x
      ≡ f (map-Expression Expression Link Addend Factor D D D D of_expression of_link of_addend of_factor (out-Expression x))
  out_is x = expression_is x (out-Expression x) (roll-out-Expression x)

  pub link_out_is : (x : Link) →
      of_link x ≡ g (map-Link Expression Link Addend Factor D D D D of_expression of_link of_addend of_factor (out-Link x))
  link_out_is x = link_is x (out-Link x) (roll-out-Link x)
