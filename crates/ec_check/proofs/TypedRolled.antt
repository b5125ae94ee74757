-- What is known of a part of the core, by what is known of the parts within it.
use Rattle.std.proofs.Common.{◌≡◌, Bool, List, [], ◌∷◌, map, refl, sym, ap, ◌∙◌}
use Rattle.ec_core.specs.declared.Addend.{Addend, roll-Addend, fold-roll-Addend}
use Rattle.ec_core.specs.declared.Arm.{Arm, roll-Arm, map-Arm, fold-roll-Arm}
use Rattle.ec_core.specs.declared.Block.{Block, roll-Block, map-Block, fold-roll-Block}
use Rattle.ec_core.specs.declared.Statement.TheOpen.{Statement-F, Arm-F, Block-F}
use Rattle.ec_core.specs.declared.Expression.{Expression, roll-Expression, out-Expression, roll-out-Expression, map-Expression}
use Rattle.ec_core.specs.declared.Expression.{fold-roll-Expression}
use Rattle.ec_core.specs.declared.Expression.TheOpen.{Expression-F, Link-F, Addend-F, Factor-F}
use Rattle.ec_core.specs.declared.Expression.TheVariants as e
use Rattle.ec_core.specs.declared.Factor.{Factor, roll-Factor, fold-roll-Factor}
use Rattle.ec_core.specs.declared.Link.{Link, roll-Link, out-Link, roll-out-Link, map-Link, fold-roll-Link}
use Rattle.ec_core.specs.declared.Statement.{Statement, roll-Statement, map-Statement, fold-roll-Statement}
use Rattle.ec_check.specs.Resolving.{chained}
use Rattle.ec_check.specs.WellTyped.{Site, Typed, TypedAddend, AfterLink, along, expression_typed, link_typed, addend_typed, factor_typed}
use Rattle.ec_check.specs.WellTyped.{typed, typed_link, typed_addend, typed_factor, statement_is_well, arm_is_well, block_is_well}
use Rattle.ec_check.specs.WellTyped.{is_well_statement, is_well_arm, is_well_block}

module _ (site : Site) where
  -- ---- expressions

  abbrev pub typed_layer : Expression-F Expression Link Addend Factor → Expression-F Typed AfterLink TypedAddend Typed
  typed_layer =
      map-Expression Expression Link Addend Factor Typed AfterLink TypedAddend Typed (typed site) (typed_link site)
      (typed_addend site) (typed_factor site)

  pub expression_rolled : (x : Expression-F Expression Link Addend Factor) →
      typed site (roll-Expression x) ≡ expression_typed site (typed_layer x)
  expression_rolled x =
      fold-roll-Expression Typed AfterLink TypedAddend Typed (expression_typed site) (link_typed site) (addend_typed site)
      (factor_typed site) x

  abbrev pub typed_link_layer : Link-F Expression Link Addend Factor → Link-F Typed AfterLink TypedAddend Typed
  typed_link_layer =
      map-Link Expression Link Addend Factor Typed AfterLink TypedAddend Typed (typed site) (typed_link site) (typed_addend site)
      (typed_factor site)

  pub link_rolled : (x : Link-F Expression Link Addend Factor) → typed_link site (roll-Link x) ≡ link_typed site (typed_link_layer x)
  link_rolled x =
      fold-roll-Link Typed AfterLink TypedAddend Typed (expression_typed site) (link_typed site) (addend_typed site)
      (factor_typed site) x

  pub addend_rolled : (x : Addend-F Expression Link Addend Factor) →
      typed_addend site (roll-Addend x) ≡ record { operator = x.operator; value = typed site x.value }
  addend_rolled x =
      fold-roll-Addend Typed AfterLink TypedAddend Typed (expression_typed site) (link_typed site) (addend_typed site)
      (factor_typed site) x

  pub factor_rolled : (x : Factor-F Expression Link Addend Factor) → typed_factor site (roll-Factor x) ≡ typed site x.value
  factor_rolled x =
      fold-roll-Factor Typed AfterLink TypedAddend Typed (expression_typed site) (link_typed site) (addend_typed site)
      (factor_typed site) x

  -- ---- statements

  abbrev pub well_layer : Statement-F Statement Arm Block → Statement-F Bool Bool Bool
  well_layer = map-Statement Statement Arm Block Bool Bool Bool (is_well_statement site) (is_well_arm site) (is_well_block site)

  pub statement_rolled : (x : Statement-F Statement Arm Block) →
      is_well_statement site (roll-Statement x) ≡ statement_is_well site (well_layer x)
  statement_rolled x = fold-roll-Statement Bool Bool Bool (statement_is_well site) (arm_is_well site) (block_is_well site) x

  abbrev pub well_arm_layer : Arm-F Statement Arm Block → Arm-F Bool Bool Bool
  well_arm_layer = map-Arm Statement Arm Block Bool Bool Bool (is_well_statement site) (is_well_arm site) (is_well_block site)

  pub arm_rolled : (x : Arm-F Statement Arm Block) → is_well_arm site (roll-Arm x) ≡ arm_is_well site (well_arm_layer x)
  arm_rolled x = fold-roll-Arm Bool Bool Bool (statement_is_well site) (arm_is_well site) (block_is_well site) x

  abbrev pub well_block_layer : Block-F Statement Arm Block → Block-F Bool Bool Bool
  well_block_layer = map-Block Statement Arm Block Bool Bool Bool (is_well_statement site) (is_well_arm site) (is_well_block site)

  pub block_rolled : (x : Block-F Statement Arm Block) → is_well_block site (roll-Block x) ≡ block_is_well site (well_block_layer x)
  block_rolled x = fold-roll-Block Bool Bool Bool (statement_is_well site) (arm_is_well site) (block_is_well site) x

  -- ---- the same, of a part as it is written

  pub expression_has : (x : Expression) (y : Expression-F Expression Link Addend Factor) → roll-Expression y ≡ x →
      typed site x ≡ expression_typed site (typed_layer y)
  expression_has x y e = ap (typed site) (sym e) ∙ expression_rolled y

  pub expression_is : (x : Expression) → typed site x ≡ expression_typed site (typed_layer (out-Expression x))
  expression_is x = expression_has x (out-Expression x) (roll-out-Expression x)

  pub link_has : (x : Link) (y : Link-F Expression Link Addend Factor) → roll-Link y ≡ x →
      typed_link site x ≡ link_typed site (typed_link_layer y)
  link_has x y e = ap (typed_link site) (sym e) ∙ link_rolled y

  pub link_is : (x : Link) → typed_link site x ≡ link_typed site (typed_link_layer (out-Link x))
  link_is x = link_has x (out-Link x) (roll-out-Link x)

  pub statement_has : (x : Statement) (y : Statement-F Statement Arm Block) → roll-Statement y ≡ x →
      is_well_statement site x ≡ statement_is_well site (well_layer y)
  statement_has x y e = ap (is_well_statement site) (sym e) ∙ statement_rolled y

  -- what stands alone, or before links
  pub chained_typed : (head : Expression) (ls : List Link) →
      typed site (chained head ls) ≡ along (typed site head) (map (typed_link site) ls)
  chained_typed head [] = refl
  chained_typed head (l ∷ ls) = expression_has (e.Chain head (l ∷ ls)) (Expression-F.Chain head (l ∷ ls)) (e.rolls-Chain head (l ∷ ls))
