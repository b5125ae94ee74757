-- What becomes of a part of an expression, by what becomes of the parts within it.
use Rattle.std.proofs.Common.{◌≡◌, refl, sym, ap, ◌∙◌}
use Rattle.ec_core.specs.declared.Addend.{Addend, roll-Addend, out-Addend, roll-out-Addend, map-Addend, fold-roll-Addend}
use Rattle.ec_core.specs.declared.Expression.{Expression, roll-Expression, out-Expression, roll-out-Expression}
use Rattle.ec_core.specs.declared.Expression.{map-Expression}
use Rattle.ec_core.specs.declared.Expression.{fold-roll-Expression}
use Rattle.ec_core.specs.declared.Expression.TheOpen.{Expression-F, Link-F, Addend-F, Factor-F}
use Rattle.ec_core.specs.declared.Factor.{Factor, roll-Factor, out-Factor, roll-out-Factor, map-Factor, fold-roll-Factor}
use Rattle.ec_core.specs.declared.Link.{Link, roll-Link, out-Link, roll-out-Link, map-Link, fold-roll-Link}
use Rattle.ec_emission.specs.Expressions.{Emitted, Following, Applied, emitted}
use Rattle.ec_emission.specs.Expressions.{expression_code, link_code, addend_code, factor_code}
use Rattle.ec_expressions.specs.Emitting.{source_by, count_by, emitted_by, following_by, addend_by, factor_by}
use Rattle.ec_expressions.specs.Emitting.{AnExpression, ALink}
use Rattle.ec_expressions.specs.declared.emitter.Emitter.{Emitter}

abbrev pub AnAddend : Type 0
AnAddend = Addend-F Expression Link Addend Factor

abbrev pub AFactor : Type 0
AFactor = Factor-F Expression Link Addend Factor

module _ (m : Emitter) where
  abbrev pub of_expression : Expression-F Emitted Following Applied Applied → Emitted
  of_expression = expression_code (source_by m) m.captured (count_by m) m.literals.now

  abbrev pub of_link : Link-F Emitted Following Applied Applied → Following
  of_link = link_code (source_by m) m.captured (count_by m) m.literals.now

  abbrev pub of_addend : Addend-F Emitted Following Applied Applied → Applied
  of_addend = addend_code (source_by m) m.captured (count_by m) m.literals.now

  abbrev pub of_factor : Factor-F Emitted Following Applied Applied → Applied
  of_factor = factor_code (source_by m) m.captured (count_by m) m.literals.now

  -- ---- a layer with its parts made

  abbrev pub layer : AnExpression → Expression-F Emitted Following Applied Applied
  layer =
      map-Expression Expression Link Addend Factor Emitted Following Applied Applied (emitted_by m) (following_by m) (addend_by m)
      (factor_by m)

  abbrev pub link_layer : ALink → Link-F Emitted Following Applied Applied
  link_layer =
      map-Link Expression Link Addend Factor Emitted Following Applied Applied (emitted_by m) (following_by m) (addend_by m)
      (factor_by m)

  abbrev pub addend_layer : AnAddend → Addend-F Emitted Following Applied Applied
  addend_layer =
      map-Addend Expression Link Addend Factor Emitted Following Applied Applied (emitted_by m) (following_by m) (addend_by m)
      (factor_by m)

  abbrev pub factor_layer : AFactor → Factor-F Emitted Following Applied Applied
  factor_layer =
      map-Factor Expression Link Addend Factor Emitted Following Applied Applied (emitted_by m) (following_by m) (addend_by m)
      (factor_by m)

  -- ---- the part that is made of it

  expression_rolled : (y : AnExpression) → emitted_by m (roll-Expression y) ≡ of_expression (layer y)
  unfolding emitted_by following_by addend_by factor_by
  expression_rolled y = fold-roll-Expression Emitted Following Applied Applied of_expression of_link of_addend of_factor y

  link_rolled : (y : ALink) → following_by m (roll-Link y) ≡ of_link (link_layer y)
  unfolding emitted_by following_by addend_by factor_by
  link_rolled y = fold-roll-Link Emitted Following Applied Applied of_expression of_link of_addend of_factor y

  addend_rolled : (y : AnAddend) → addend_by m (roll-Addend y) ≡ of_addend (addend_layer y)
  unfolding emitted_by following_by addend_by factor_by
  addend_rolled y = fold-roll-Addend Emitted Following Applied Applied of_expression of_link of_addend of_factor y

  factor_rolled : (y : AFactor) → factor_by m (roll-Factor y) ≡ of_factor (factor_layer y)
  unfolding emitted_by following_by addend_by factor_by
  factor_rolled y = fold-roll-Factor Emitted Following Applied Applied of_expression of_link of_addend of_factor y

  pub expression_is : (x : Expression) → emitted_by m x ≡ of_expression (layer (out-Expression x))
  expression_is x = ap (emitted_by m) (sym (roll-out-Expression x)) ∙ expression_rolled (out-Expression x)

  pub link_is : (x : Link) → following_by m x ≡ of_link (link_layer (out-Link x))
  link_is x = ap (following_by m) (sym (roll-out-Link x)) ∙ link_rolled (out-Link x)

  pub addend_is : (x : Addend) → addend_by m x ≡ of_addend (addend_layer (out-Addend x))
  addend_is x = ap (addend_by m) (sym (roll-out-Addend x)) ∙ addend_rolled (out-Addend x)

  pub factor_is : (x : Factor) → factor_by m x ≡ of_factor (factor_layer (out-Factor x))
  factor_is x = ap (factor_by m) (sym (roll-out-Factor x)) ∙ factor_rolled (out-Factor x)

-- It is what the definitions say.
pub is_emitted : (m : Emitter) (x : Expression) →
    emitted_by m x ≡ emitted (source_by m) m.captured (count_by m) m.literals.now x
unfolding emitted_by
is_emitted m x = refl
