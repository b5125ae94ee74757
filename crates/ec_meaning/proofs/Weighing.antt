-- The weights of parts of the core, of those of the parts within them, and of lists.
use Rattle.std.proofs.Common.{◌≡◌, ℕ, suc, ◌+◌, ◌*◌, ◌≤◌, ◌<◌, List, [], ◌∷◌, ◌++◌, length, map, Option, Some, None, refl, sym, ap}
use Rattle.std.proofs.Common.{◌∙◌, arith}
use Rattle.ec_core.specs.declared.Addend.{Addend, out-Addend, roll-Addend, roll-out-Addend, fold-roll-Addend}
use Rattle.ec_core.specs.declared.Arm.{Arm, out-Arm, roll-out-Arm, map-Arm, fold-roll-Arm}
use Rattle.ec_core.specs.declared.Block.{Block, out-Block, roll-out-Block, map-Block, fold-roll-Block}
use Rattle.ec_core.specs.declared.Expression.{Expression, out-Expression, roll-out-Expression, map-Expression, fold-roll-Expression}
use Rattle.ec_core.specs.declared.Expression.TheOpen.{Expression-F, Link-F, Addend-F, Factor-F}
use Rattle.ec_core.specs.declared.Expression.TheVariants as e
use Rattle.ec_core.specs.declared.Factor.{Factor, out-Factor, roll-out-Factor, fold-roll-Factor}
use Rattle.ec_core.specs.declared.Link.{Link, out-Link, roll-out-Link, map-Link, fold-roll-Link}
use Rattle.ec_core.specs.declared.Place.{Place}
use Rattle.ec_core.specs.declared.Statement.{Statement, out-Statement, roll-out-Statement, map-Statement, fold-roll-Statement}
use Rattle.ec_core.specs.declared.Statement.TheOpen.{Statement-F, Arm-F, Block-F}
use Rattle.ec_meaning.specs.Weights.{total, expression_weight, link_weight, addend_weight, factor_weight, statement_weight}
use Rattle.ec_meaning.specs.Weights.{arm_weight, block_weight}
use Rattle.ec_meaning.specs.Weights.{weight_of_expression, weight_of_link, weight_of_addend, weight_of_factor, weight_of_statement}
use Rattle.ec_meaning.specs.Weights.{weight_of_arm, weight_of_block}
use Rattle.ec_meaning.specs.Weights.{weight_of_arms, weight_of_other, weight_if, item_weight, weight}
use Rattle.ec_meaning.specs.declared.item.Item.{Item}
use Rattle.ec_meaning.specs.declared.item.Item.TheVariants as i

-- ---- parts

abbrev pub expression_weighed : Expression-F Expression Link Addend Factor → Expression-F ℕ ℕ ℕ ℕ
expression_weighed = map-Expression Expression Link Addend Factor ℕ ℕ ℕ ℕ weight_of_expression weight_of_link weight_of_addend
    weight_of_factor

pub expression_is : (x : Expression) → weight_of_expression x ≡ expression_weight (expression_weighed (out-Expression x))
expression_is x =
    ap weight_of_expression (sym (roll-out-Expression x))
    ∙ fold-roll-Expression ℕ ℕ ℕ ℕ expression_weight link_weight addend_weight factor_weight (out-Expression x)

abbrev pub link_weighed : Link-F Expression Link Addend Factor → Link-F ℕ ℕ ℕ ℕ
link_weighed = map-Link Expression Link Addend Factor ℕ ℕ ℕ ℕ weight_of_expression weight_of_link weight_of_addend weight_of_factor

pub link_is : (l : Link) → weight_of_link l ≡ link_weight (link_weighed (out-Link l))
link_is l =
    ap weight_of_link (sym (roll-out-Link l))
    ∙ fold-roll-Link ℕ ℕ ℕ ℕ expression_weight link_weight addend_weight factor_weight (out-Link l)

pub addend_is : (d : Addend) → weight_of_addend d ≡ 3 + weight_of_expression (out-Addend d).value
addend_is d =
    ap weight_of_addend (sym (roll-out-Addend d))
    ∙ fold-roll-Addend ℕ ℕ ℕ ℕ expression_weight link_weight addend_weight factor_weight (out-Addend d)

pub factor_is : (f : Factor) → weight_of_factor f ≡ 2 + weight_of_expression (out-Factor f).value
factor_is f =
    ap weight_of_factor (sym (roll-out-Factor f))
    ∙ fold-roll-Factor ℕ ℕ ℕ ℕ expression_weight link_weight addend_weight factor_weight (out-Factor f)

abbrev pub statement_weighed : Statement-F Statement Arm Block → Statement-F ℕ ℕ ℕ
statement_weighed = map-Statement Statement Arm Block ℕ ℕ ℕ weight_of_statement weight_of_arm weight_of_block

pub statement_is : (x : Statement) → weight_of_statement x ≡ statement_weight (statement_weighed (out-Statement x))
statement_is x =
    ap weight_of_statement (sym (roll-out-Statement x))
    ∙ fold-roll-Statement ℕ ℕ ℕ statement_weight arm_weight block_weight (out-Statement x)

pub arm_is : (a : Arm) → weight_of_arm a ≡ 2 + (weight_of_expression (out-Arm a).condition + weight_of_block (out-Arm a).block)
arm_is a =
    ap weight_of_arm (sym (roll-out-Arm a)) ∙ fold-roll-Arm ℕ ℕ ℕ statement_weight arm_weight block_weight (out-Arm a)

pub block_is : (b : Block) → weight_of_block b ≡ total (map weight_of_statement (out-Block b).statements)
block_is b =
    ap weight_of_block (sym (roll-out-Block b)) ∙ fold-roll-Block ℕ ℕ ℕ statement_weight arm_weight block_weight (out-Block b)

-- ---- lists

pub arms_are : (arms : List Arm) → weight_of_arms arms ≡ total (map weight_of_arm arms)
arms_are [] = refl
arms_are (a ∷ arms) = ap (λ n. 1 + (weight_of_arm a + n)) (arms_are arms)

pub weight_append : (xs ys : List Item) → weight (xs ++ ys) ≡ weight xs + weight ys
weight_append [] ys = omega arith
weight_append (x ∷ xs) ys = let e = weight_append xs ys in omega arith

-- items of several parts, of which each is one heavier at most
pub weight_each : {A : Type 0} (f : A → Item) (w : A → ℕ) → ((x : A) → item_weight (f x) ≤ 1 + w x) → (xs : List A) →
    weight (map f xs) ≤ total (map w xs)
weight_each f w one [] = omega arith
weight_each f w one (x ∷ xs) = let h = one x in let t = weight_each f w one xs in omega arith

pub weight_evaluated : (xs : List Expression) → weight (map i.Evaluate xs) ≤ total (map weight_of_expression xs)
weight_evaluated xs = weight_each i.Evaluate weight_of_expression (λ x. omega arith) xs

pub weight_block : (b : Block) → weight (map i.Do (out-Block b).statements) ≤ weight_of_block b
weight_block b =
    let h = weight_each i.Do weight_of_statement (λ x. omega arith) (out-Block b).statements in
    let e = block_is b in
    omega arith
