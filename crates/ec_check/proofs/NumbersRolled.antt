-- The numbers in a part of the core, of those in the parts within it.
use Rattle.std.proofs.Common.{◌≡◌, List, sym, ap, ◌∙◌}
use Rattle.ec_core.specs.declared.Addend.{Addend, roll-Addend, fold-roll-Addend}
use Rattle.ec_core.specs.declared.Arm.{Arm, roll-Arm, map-Arm, fold-roll-Arm}
use Rattle.ec_core.specs.declared.Block.{Block, roll-Block, map-Block, fold-roll-Block}
use Rattle.ec_core.specs.declared.Statement.TheOpen.{Statement-F, Arm-F, Block-F}
use Rattle.ec_core.specs.declared.Expression.{Expression, roll-Expression, map-Expression, fold-roll-Expression}
use Rattle.ec_core.specs.declared.Expression.TheOpen.{Expression-F, Link-F, Addend-F, Factor-F}
use Rattle.ec_core.specs.declared.Factor.{Factor, roll-Factor, fold-roll-Factor}
use Rattle.ec_core.specs.declared.Link.{Link, roll-Link, map-Link, fold-roll-Link}
use Rattle.ec_core.specs.declared.Statement.{Statement, roll-Statement, map-Statement, fold-roll-Statement}
use Rattle.ec_check.specs.Numbers.{Number, in_expression, in_link, in_addend, in_factor, in_statement, in_arm, in_block}
use Rattle.ec_check.specs.Numbers.{expression_numbers, link_numbers, addend_numbers, factor_numbers}
use Rattle.ec_check.specs.Numbers.{statement_numbers, arm_numbers, block_numbers}

abbrev Numbers : Type 0
Numbers = List Number

abbrev pub expression_counted : Expression-F Expression Link Addend Factor → Expression-F Numbers Numbers Numbers Numbers
expression_counted =
    map-Expression
    Expression Link Addend Factor Numbers Numbers Numbers Numbers in_expression in_link in_addend in_factor

pub expression_rolled : (x : Expression-F Expression Link Addend Factor) →
    in_expression (roll-Expression x) ≡ expression_numbers (expression_counted x)
expression_rolled x =
    fold-roll-Expression Numbers Numbers Numbers Numbers expression_numbers link_numbers addend_numbers factor_numbers x

abbrev pub link_counted : Link-F Expression Link Addend Factor → Link-F Numbers Numbers Numbers Numbers
link_counted =
    map-Link
    Expression Link Addend Factor Numbers Numbers Numbers Numbers in_expression in_link in_addend in_factor

pub link_rolled : (x : Link-F Expression Link Addend Factor) → in_link (roll-Link x) ≡ link_numbers (link_counted x)
link_rolled x =
    fold-roll-Link Numbers Numbers Numbers Numbers expression_numbers link_numbers addend_numbers factor_numbers x

pub addend_rolled : (x : Addend-F Expression Link Addend Factor) → in_addend (roll-Addend x) ≡ in_expression x.value
addend_rolled x =
    fold-roll-Addend Numbers Numbers Numbers Numbers expression_numbers link_numbers addend_numbers factor_numbers x

pub factor_rolled : (x : Factor-F Expression Link Addend Factor) → in_factor (roll-Factor x) ≡ in_expression x.value
factor_rolled x =
    fold-roll-Factor Numbers Numbers Numbers Numbers expression_numbers link_numbers addend_numbers factor_numbers x

abbrev pub statement_counted : Statement-F Statement Arm Block → Statement-F Numbers Numbers Numbers
statement_counted = map-Statement Statement Arm Block Numbers Numbers Numbers in_statement in_arm in_block

pub statement_rolled : (x : Statement-F Statement Arm Block) →
    in_statement (roll-Statement x) ≡ statement_numbers (statement_counted x)
statement_rolled x = fold-roll-Statement Numbers Numbers Numbers statement_numbers arm_numbers block_numbers x

abbrev pub arm_counted : Arm-F Statement Arm Block → Arm-F Numbers Numbers Numbers
arm_counted = map-Arm Statement Arm Block Numbers Numbers Numbers in_statement in_arm in_block

pub arm_rolled : (x : Arm-F Statement Arm Block) → in_arm (roll-Arm x) ≡ arm_numbers (arm_counted x)
arm_rolled x = fold-roll-Arm Numbers Numbers Numbers statement_numbers arm_numbers block_numbers x

abbrev pub block_counted : Block-F Statement Arm Block → Block-F Numbers Numbers Numbers
block_counted = map-Block Statement Arm Block Numbers Numbers Numbers in_statement in_arm in_block

pub block_rolled : (x : Block-F Statement Arm Block) → in_block (roll-Block x) ≡ block_numbers (block_counted x)
block_rolled x = fold-roll-Block Numbers Numbers Numbers statement_numbers arm_numbers block_numbers x

-- ---- the same, of a part as it is written

pub expression_has : (x : Expression) (y : Expression-F Expression Link Addend Factor) → roll-Expression y ≡ x →
    in_expression x ≡ expression_numbers (expression_counted y)
expression_has x y e = ap in_expression (sym e) ∙ expression_rolled y

pub link_has : (x : Link) (y : Link-F Expression Link Addend Factor) → roll-Link y ≡ x → in_link x ≡ link_numbers (link_counted y)
link_has x y e = ap in_link (sym e) ∙ link_rolled y

pub statement_has : (x : Statement) (y : Statement-F Statement Arm Block) → roll-Statement y ≡ x →
    in_statement x ≡ statement_numbers (statement_counted y)
statement_has x y e = ap in_statement (sym e) ∙ statement_rolled y
