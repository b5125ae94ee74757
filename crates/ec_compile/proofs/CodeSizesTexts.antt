-- A program has no more literals than its core has nodes, and the empty text.
use Rattle.std.proofs.Common.{◌≡◌, ℕ, ◌+◌, ◌≤◌, Bool, true, false, if◌then◌else◌, List, [], ◌∷◌, ◌++◌, length, map, Some, None}
use Rattle.std.proofs.Common.{ap, subst, arith}
use Rattle.std.proofs.lemmas.List.{length-append}
use Rattle.ec_core.specs.declared.Addend.{Addend, roll-Addend, map-Addend, fold-Addend, fold-roll-Addend}
use Rattle.ec_core.specs.declared.Arm.{Arm, roll-Arm, map-Arm, fold-Arm, fold-roll-Arm}
use Rattle.ec_core.specs.declared.Block.{Block, roll-Block, map-Block, fold-roll-Block, ind-Block}
use Rattle.ec_core.specs.declared.Constant.{Constant}
use Rattle.ec_core.specs.declared.Core.{Core}
use Rattle.ec_core.specs.declared.Expression.{Expression, roll-Expression, map-Expression, ind-Expression, fold-roll-Expression}
use Rattle.ec_core.specs.declared.Expression.TheOpen.{Expression-F, Link-F, Addend-F, Factor-F}
use Rattle.ec_core.specs.declared.Factor.{Factor, roll-Factor, map-Factor, fold-Factor, fold-roll-Factor}
use Rattle.ec_core.specs.declared.Link.{Link, roll-Link, map-Link, fold-Link, fold-roll-Link}
use Rattle.ec_core.specs.declared.Operation.{Operation}
use Rattle.ec_core.specs.declared.Statement.{Statement, roll-Statement, map-Statement, fold-Statement, fold-roll-Statement}
use Rattle.ec_core.specs.declared.Statement.TheOpen.{Statement-F, Arm-F, Block-F}
use Rattle.ec_core_laws.specs.Measures.{all_of, all_behind, expression_size, link_size, factor_size, addend_size, size_of}
use Rattle.ec_core_laws.specs.Measures.{size_of_link, size_of_factor, size_of_addend, statement_size, arm_size, block_size}
use Rattle.ec_core_laws.specs.Measures.{size_of_statement, size_of_arm, size_of_block}
use Rattle.ec_core_laws.specs.Constants.{size_of_constants}
use Rattle.ec_core_laws.specs.Limits.{size_of_core, size_of_operations}
use Rattle.ec_emission.specs.Expressions.{has_text}
use Rattle.ec_core.specs.Literals.{Texts, joined, addend_texts, arm_texts, block_texts, expression_texts, factor_texts}
use Rattle.ec_core.specs.Literals.{texts_of_link, texts_of_addend, texts_of_factor, texts_of_statement, texts_of_arm}
use Rattle.ec_core.specs.Literals.{link_texts, statement_texts, texts_of, texts_of_block}
use Rattle.ec_emission.specs.Literals.{literals_of, texts_of_constants, texts_of_operations, with_new}

-- ---- lists

both_few : (ts us : Texts) (n m : ℕ) → length ts ≤ n → length us ≤ m → length (ts ++ us) ≤ n + m
both_few ts us n m h k = let e : length (ts ++ us) ≡ length ts + length us = length-append ts us in omega arith

-- a part with so many texts and nodes
abbrev Few : {A : Type 0} → (A → Texts) → (A → ℕ) → A → Type 0
Few f g x = length (f x) ≤ g x

abbrev bare : {A : Type 0} (f : A → Texts) (g : A → ℕ) → (x : A) × Few f g x → A
bare f g x = x.0

all_few : {A : Type 0} (f : A → Texts) (g : A → ℕ) (xs : List ((x : A) × Few f g x)) →
    length (joined (map f (map (bare f g) xs))) ≤ all_of (map g (map (bare f g) xs))
all_few f g [] = omega arith
all_few f g (x ∷ xs) =
    both_few (f x.0) (joined (map f (map (bare f g) xs))) (g x.0) (all_of (map g (map (bare f g) xs))) x.1 (all_few f g xs)

behind_few : {A : Type 0} (f : A → Texts) (g : A → ℕ) (xs : List ((x : A) × Few f g x)) →
    length (joined (map f (map (bare f g) xs))) ≤ all_behind (map g (map (bare f g) xs))
behind_few f g [] = omega arith
behind_few f g (x ∷ xs) =
    let own : length (f x.0) ≤ g x.0 = x.1 in
    both_few (f x.0) (joined (map f (map (bare f g) xs))) (1 + g x.0) (all_behind (map g (map (bare f g) xs))) (omega arith)
    (behind_few f g xs)

-- one node more
one_more : (ts : Texts) (n : ℕ) → length ts ≤ n → length ts ≤ 1 + n
one_more ts n h = omega arith

-- ---- expressions

abbrev IsFew : Expression → Type 0
IsFew = Few texts_of size_of

abbrev LinkFew : Link → Type 0
LinkFew = Few texts_of_link size_of_link

abbrev AddendFew : Addend → Type 0
AddendFew = Few texts_of_addend size_of_addend

abbrev FactorFew : Factor → Type 0
FactorFew = Few texts_of_factor size_of_factor

abbrev ExpressionHeld : Type 0
ExpressionHeld = (x : Expression) × IsFew x

abbrev LinkHeld : Type 0
LinkHeld = (x : Link) × LinkFew x

abbrev AddendHeld : Type 0
AddendHeld = (x : Addend) × AddendFew x

abbrev FactorHeld : Type 0
FactorHeld = (x : Factor) × FactorFew x

abbrev bare_x : ExpressionHeld → Expression
bare_x = bare texts_of size_of

abbrev bare_l : LinkHeld → Link
bare_l = bare texts_of_link size_of_link

abbrev bare_a : AddendHeld → Addend
bare_a = bare texts_of_addend size_of_addend

abbrev bare_f : FactorHeld → Factor
bare_f = bare texts_of_factor size_of_factor

abbrev bare_expression : Expression-F ExpressionHeld LinkHeld AddendHeld FactorHeld → Expression-F Expression Link Addend Factor
bare_expression =
    map-Expression ExpressionHeld LinkHeld AddendHeld FactorHeld Expression Link Addend Factor bare_x bare_l bare_a bare_f

abbrev bare_link : Link-F ExpressionHeld LinkHeld AddendHeld FactorHeld → Link-F Expression Link Addend Factor
bare_link = map-Link ExpressionHeld LinkHeld AddendHeld FactorHeld Expression Link Addend Factor bare_x bare_l bare_a bare_f

abbrev bare_addend : Addend-F ExpressionHeld LinkHeld AddendHeld FactorHeld → Addend-F Expression Link Addend Factor
bare_addend = map-Addend ExpressionHeld LinkHeld AddendHeld FactorHeld Expression Link Addend Factor bare_x bare_l bare_a bare_f

abbrev bare_factor : Factor-F ExpressionHeld LinkHeld AddendHeld FactorHeld → Factor-F Expression Link Addend Factor
bare_factor = map-Factor ExpressionHeld LinkHeld AddendHeld FactorHeld Expression Link Addend Factor bare_x bare_l bare_a bare_f

abbrev texts_in : Expression-F Expression Link Addend Factor → Texts
texts_in y =
    expression_texts
    (map-Expression Expression Link Addend Factor Texts Texts Texts Texts texts_of texts_of_link texts_of_addend texts_of_factor y)

abbrev size_in : Expression-F Expression Link Addend Factor → ℕ
size_in y =
    expression_size (map-Expression Expression Link Addend Factor ℕ ℕ ℕ ℕ size_of size_of_link size_of_addend size_of_factor y)

layer : (y : Expression-F ExpressionHeld LinkHeld AddendHeld FactorHeld) →
    length (texts_in (bare_expression y)) ≤ size_in (bare_expression y)
layer (Expression-F.Number n) = omega arith
layer (Expression-F.Literal text) = omega arith
layer (Expression-F.Truth b) = omega arith
layer Expression-F.Nil = omega arith
layer Expression-F.Itself = omega arith
layer (Expression-F.Read p) = omega arith
layer Expression-F.NodeCount = omega arith
layer (Expression-F.NodeAt x at) = one_more (texts_of x.0) (size_of x.0) x.1
layer (Expression-F.NewVector of x at) = one_more (texts_of x.0) (size_of x.0) x.1
layer (Expression-F.Construct class places) = omega arith
layer (Expression-F.Create class xs) = one_more _ _ (all_few texts_of size_of xs)
layer (Expression-F.Chain head xs) =
    both_few (texts_of head.0) (joined (map texts_of_link (map bare_l xs))) (size_of head.0) _ head.1
    (all_few texts_of_link size_of_link xs)
layer (Expression-F.Negative x) = one_more (texts_of x.0) (size_of x.0) x.1
layer (Expression-F.Not x) = one_more (texts_of x.0) (size_of x.0) x.1
layer (Expression-F.View x of at) = one_more (texts_of x.0) (size_of x.0) x.1
layer (Expression-F.IsFixed x at) = one_more (texts_of x.0) (size_of x.0) x.1
layer (Expression-F.Term first xs) =
    both_few (texts_of first.0) (joined (map texts_of_factor (map bare_f xs))) (size_of first.0) _ first.1
    (all_few texts_of_factor size_of_factor xs)
layer (Expression-F.Sum first xs) =
    both_few (texts_of first.0) (joined (map texts_of_addend (map bare_a xs))) (size_of first.0) _ first.1
    (all_few texts_of_addend size_of_addend xs)
layer (Expression-F.Compare x how what y) =
    one_more (texts_of x.0 ++ texts_of y.0) (size_of x.0 + size_of y.0)
    (both_few (texts_of x.0) (texts_of y.0) (size_of x.0) (size_of y.0) x.1 y.1)
layer (Expression-F.And first xs) =
    both_few (texts_of first.0) (joined (map texts_of (map bare_x xs))) (size_of first.0) _ first.1 (behind_few texts_of size_of xs)
layer (Expression-F.Or first xs) =
    both_few (texts_of first.0) (joined (map texts_of (map bare_x xs))) (size_of first.0) _ first.1 (behind_few texts_of size_of xs)

link_layer : (y : Link-F ExpressionHeld LinkHeld AddendHeld FactorHeld) →
    length
    (link_texts
    (map-Link Expression Link Addend Factor Texts Texts Texts Texts texts_of texts_of_link texts_of_addend texts_of_factor (bare_link y)))
    ≤ link_size (map-Link Expression Link Addend Factor ℕ ℕ ℕ ℕ size_of size_of_link size_of_addend size_of_factor (bare_link y))
link_layer (Link-F.Invoke name xs result at) = one_more _ _ (all_few texts_of size_of xs)
link_layer (Link-F.Call builtin xs at) = one_more _ _ (all_few texts_of size_of xs)
link_layer (Link-F.Element x of at) = one_more (texts_of x.0) (size_of x.0) x.1

same_few : (ts us : Texts) (n m : ℕ) → ts ≡ us → n ≡ m → length us ≤ m → length ts ≤ n
same_few ts us n m e f h = let k : length ts ≡ length us = ap length e in omega arith

expression_from : (x : Expression-F Expression Link Addend Factor) (y : Expression-F ExpressionHeld LinkHeld AddendHeld FactorHeld) →
    bare_expression y ≡ x → IsFew (roll-Expression x)
expression_from x y is =
    subst (λ z. IsFew (roll-Expression z)) is
    (same_few _ _ _ _
    (fold-roll-Expression Texts Texts Texts Texts expression_texts link_texts addend_texts factor_texts (bare_expression y))
    (fold-roll-Expression ℕ ℕ ℕ ℕ expression_size link_size addend_size factor_size (bare_expression y)) (layer y))

link_from : (x : Link-F Expression Link Addend Factor) (y : Link-F ExpressionHeld LinkHeld AddendHeld FactorHeld) → bare_link y ≡ x →
    LinkFew (roll-Link x)
link_from x y is =
    subst (λ z. LinkFew (roll-Link z)) is
    (same_few _ _ _ _ (fold-roll-Link Texts Texts Texts Texts expression_texts link_texts addend_texts factor_texts (bare_link y))
    (fold-roll-Link ℕ ℕ ℕ ℕ expression_size link_size addend_size factor_size (bare_link y)) (link_layer y))

addend_from : (x : Addend-F Expression Link Addend Factor) (y : Addend-F ExpressionHeld LinkHeld AddendHeld FactorHeld) →
    bare_addend y ≡ x → AddendFew (roll-Addend x)
addend_from x y is =
    subst (λ z. AddendFew (roll-Addend z)) is
    (same_few _ _ _ _ (fold-roll-Addend Texts Texts Texts Texts expression_texts link_texts addend_texts factor_texts (bare_addend y))
    (fold-roll-Addend ℕ ℕ ℕ ℕ expression_size link_size addend_size factor_size (bare_addend y))
    (one_more (texts_of y.value.0) (size_of y.value.0) y.value.1))

factor_from : (x : Factor-F Expression Link Addend Factor) (y : Factor-F ExpressionHeld LinkHeld AddendHeld FactorHeld) →
    bare_factor y ≡ x → FactorFew (roll-Factor x)
factor_from x y is =
    subst (λ z. FactorFew (roll-Factor z)) is
    (same_few _ _ _ _ (fold-roll-Factor Texts Texts Texts Texts expression_texts link_texts addend_texts factor_texts (bare_factor y))
    (fold-roll-Factor ℕ ℕ ℕ ℕ expression_size link_size addend_size factor_size (bare_factor y))
    (one_more (texts_of y.value.0) (size_of y.value.0) y.value.1))

few_texts : (x : Expression) → IsFew x
few_texts = ind-Expression IsFew LinkFew AddendFew FactorFew expression_from link_from addend_from factor_from

-- ---- statements

abbrev StatementFew : Statement → Type 0
StatementFew = Few texts_of_statement size_of_statement

abbrev ArmFew : Arm → Type 0
ArmFew = Few texts_of_arm size_of_arm

abbrev BlockFew : Block → Type 0
BlockFew = Few texts_of_block size_of_block

abbrev StatementHeld : Type 0
StatementHeld = (x : Statement) × StatementFew x

abbrev ArmHeld : Type 0
ArmHeld = (x : Arm) × ArmFew x

abbrev BlockHeld : Type 0
BlockHeld = (x : Block) × BlockFew x

abbrev bare_s : StatementHeld → Statement
bare_s = bare texts_of_statement size_of_statement

abbrev bare_r : ArmHeld → Arm
bare_r = bare texts_of_arm size_of_arm

abbrev bare_b : BlockHeld → Block
bare_b = bare texts_of_block size_of_block

abbrev bare_statement : Statement-F StatementHeld ArmHeld BlockHeld → Statement-F Statement Arm Block
bare_statement = map-Statement StatementHeld ArmHeld BlockHeld Statement Arm Block bare_s bare_r bare_b

abbrev bare_arm : Arm-F StatementHeld ArmHeld BlockHeld → Arm-F Statement Arm Block
bare_arm = map-Arm StatementHeld ArmHeld BlockHeld Statement Arm Block bare_s bare_r bare_b

abbrev bare_block : Block-F StatementHeld ArmHeld BlockHeld → Block-F Statement Arm Block
bare_block = map-Block StatementHeld ArmHeld BlockHeld Statement Arm Block bare_s bare_r bare_b

two_few : (x y : Expression) → length (texts_of x ++ texts_of y) ≤ size_of x + size_of y
two_few x y = both_few (texts_of x) (texts_of y) (size_of x) (size_of y) (few_texts x) (few_texts y)

statement_layer : (y : Statement-F StatementHeld ArmHeld BlockHeld) →
    length
    (statement_texts
    (map-Statement Statement Arm Block Texts Texts Texts texts_of_statement texts_of_arm texts_of_block (bare_statement y)))
    ≤ statement_size (map-Statement Statement Arm Block ℕ ℕ ℕ size_of_statement size_of_arm size_of_block (bare_statement y))
statement_layer (Statement-F.Declare n None) = omega arith
statement_layer (Statement-F.Declare n (Some x)) = one_more _ _ (few_texts x)
statement_layer (Statement-F.Assign p x) = one_more _ _ (few_texts x)
statement_layer (Statement-F.SetElement x y z at) =
    one_more (texts_of x ++ (texts_of y ++ texts_of z)) (size_of x + (size_of y + size_of z))
    (both_few (texts_of x) (texts_of y ++ texts_of z) (size_of x) (size_of y + size_of z) (few_texts x) (two_few y z))
statement_layer (Statement-F.Drop x) = one_more _ _ (few_texts x)
statement_layer (Statement-F.Print x) = one_more _ _ (few_texts x)
statement_layer (Statement-F.If arms None) =
    both_few (joined (map texts_of_arm (map bare_r arms))) [] (all_of (map size_of_arm (map bare_r arms))) 0
    (all_few texts_of_arm size_of_arm arms) (omega arith)
statement_layer (Statement-F.If arms (Some b)) =
    both_few (joined (map texts_of_arm (map bare_r arms))) (texts_of_block b.0) (all_of (map size_of_arm (map bare_r arms)))
    (size_of_block b.0) (all_few texts_of_arm size_of_arm arms) b.1
statement_layer (Statement-F.Loop b) = one_more (texts_of_block b.0) (size_of_block b.0) b.1
statement_layer (Statement-F.Exit None) = omega arith
statement_layer (Statement-F.Exit (Some x)) = one_more _ _ (few_texts x)
statement_layer Statement-F.Return = omega arith
statement_layer (Statement-F.Assert x at) = one_more _ _ (few_texts x)
statement_layer (Statement-F.Move x y at) = one_more _ _ (two_few x y)
statement_layer (Statement-F.Fix x y at) = one_more _ _ (two_few x y)
statement_layer (Statement-F.Refix x y at) = one_more _ _ (two_few x y)
statement_layer (Statement-F.Unfix x at) = one_more _ _ (few_texts x)
statement_layer (Statement-F.Wait n) = omega arith
statement_layer (Statement-F.Signal n) = omega arith

statement_from : (x : Statement-F Statement Arm Block) (y : Statement-F StatementHeld ArmHeld BlockHeld) → bare_statement y ≡ x →
    StatementFew (roll-Statement x)
statement_from x y is =
    subst (λ z. StatementFew (roll-Statement z)) is
    (same_few _ _ _ _ (fold-roll-Statement Texts Texts Texts statement_texts arm_texts block_texts (bare_statement y))
    (fold-roll-Statement ℕ ℕ ℕ statement_size arm_size block_size (bare_statement y)) (statement_layer y))

arm_from : (x : Arm-F Statement Arm Block) (y : Arm-F StatementHeld ArmHeld BlockHeld) → bare_arm y ≡ x → ArmFew (roll-Arm x)
arm_from x y is =
    subst (λ z. ArmFew (roll-Arm z)) is
    (same_few _ _ _ _ (fold-roll-Arm Texts Texts Texts statement_texts arm_texts block_texts (bare_arm y))
    (fold-roll-Arm ℕ ℕ ℕ statement_size arm_size block_size (bare_arm y))
    (one_more (texts_of y.condition ++ texts_of_block y.block.0) (size_of y.condition + size_of_block y.block.0)
    (both_few (texts_of y.condition) (texts_of_block y.block.0) (size_of y.condition) (size_of_block y.block.0) (few_texts y.condition)
    y.block.1)))

block_from : (x : Block-F Statement Arm Block) (y : Block-F StatementHeld ArmHeld BlockHeld) → bare_block y ≡ x → BlockFew (roll-Block x)
block_from x y is =
    subst (λ z. BlockFew (roll-Block z)) is
    (same_few _ _ _ _ (fold-roll-Block Texts Texts Texts statement_texts arm_texts block_texts (bare_block y))
    (fold-roll-Block ℕ ℕ ℕ statement_size arm_size block_size (bare_block y)) (all_few texts_of_statement size_of_statement y.statements))

few_in_block : (x : Block) → BlockFew x
few_in_block = ind-Block StatementFew ArmFew BlockFew statement_from arm_from block_from

-- ---- the whole

few_in_constants : (cs : List Constant) → length (texts_of_constants cs) ≤ size_of_constants cs
few_in_constants [] = omega arith
few_in_constants (c ∷ cs) =
    both_few (texts_of c.value) (texts_of_constants cs) (size_of c.value) (size_of_constants cs) (few_texts c.value) (few_in_constants cs)

few_in_operations : (os : List Operation) → length (texts_of_operations os) ≤ size_of_operations os
few_in_operations [] = omega arith
few_in_operations (o ∷ os) =
    both_few (texts_of_block o.block) (texts_of_operations os) (size_of_block o.block) (size_of_operations os) (few_in_block o.block)
    (few_in_operations os)

one_new : (b : Bool) (there : Texts) (t : List ℕ) → length (if b then there else there ++ t ∷ []) ≤ length there + 1
one_new true there t = omega arith
one_new false there t = let e : length (there ++ t ∷ []) ≡ length there + 1 = length-append there (t ∷ []) in omega arith

few_new : (there ts : Texts) → length (with_new there ts) ≤ length there + length ts
few_new there [] = omega arith
few_new there (t ∷ ts) =
    let own : length (if has_text there t then there else there ++ t ∷ []) ≤ length there + 1 = one_new (has_text there t) there t in
    let rest : length (with_new (if has_text there t then there else there ++ t ∷ []) ts)
    ≤ length (if has_text there t then there else there ++ t ∷ []) + length ts =
    few_new (if has_text there t then there else there ++ t ∷ []) ts in
    omega arith

pub few_literals : (core : Core) → length (literals_of core) ≤ 1 + size_of_core core
few_literals core =
    let texts : length (texts_of_constants core.constants ++ texts_of_operations core.operations) ≤ size_of_core core =
    both_few (texts_of_constants core.constants) (texts_of_operations core.operations) (size_of_constants core.constants)
    (size_of_operations core.operations) (few_in_constants core.constants) (few_in_operations core.operations) in
    let new : length (literals_of core)
    ≤ 1 + length (texts_of_constants core.constants ++ texts_of_operations core.operations) =
    few_new ([] ∷ []) (texts_of_constants core.constants ++ texts_of_operations core.operations) in
    omega arith
