-- A statement or a block of the core is no larger than the one that it is made of, and has no more locals.
use Rattle.std.proofs.Common.{◌≡◌, ℕ, ◌+◌, ◌≤◌, max, Bool, true, false, List, [], ◌∷◌, ◌++◌, length, map, Option, Some, None, option_map}
use Rattle.std.proofs.Common.{refl, sym, ap, ◌∙◌, subst, arith}
use Rattle.std.proofs.lemmas.List.{length-append}
use Rattle.ec_ast.specs.declared.Expression.TheOpen.{Statement-F}
use Rattle.ec_base.specs.Stack.{top_of, below_of}
use Rattle.ec_check.proofs.Every.{Every, Where}
use Rattle.ec_check.specs.Layers.{statement_judged}
use Rattle.ec_check.specs.Parts.{Part, Piece, StatementPart, ArmPart, AStatement, ABlock, arm_judged}
use Rattle.ec_check.specs.Places.{Env, condition_named}
use Rattle.ec_check.specs.Resolving.{chained, element_set, element_set_if, assigned, in_scope, arms_core, locals_of_arms, locals_of_block}
use Rattle.ec_check.specs.Resolving.{locals_of}
use Rattle.ec_check.specs.Resolving.{core_of_statement, behind, statements_core, locals_of_statements}
use Rattle.ec_check.specs.Tree.{statement_step, block_step}
use Rattle.ec_types.specs.declared.conform.static_type.StaticType.{StaticType}
use Rattle.ec_core.specs.declared.Addend.{Addend}
use Rattle.ec_core.specs.declared.Arm.{Arm}
use Rattle.ec_core.specs.declared.Block.{Block}
use Rattle.ec_core.specs.declared.Expression.{Expression, out-Expression, map-Expression, out-roll-Expression}
use Rattle.ec_core.specs.declared.Expression.TheOpen.{Expression-F as CoreExpression-F, Link-F as CoreLink-F}
use Rattle.ec_core.specs.declared.Expression.TheVariants as e
use Rattle.ec_core.specs.declared.Factor.{Factor}
use Rattle.ec_core.specs.declared.Link.{Link, out-Link, map-Link}
use Rattle.ec_core.specs.declared.Place.{Place}
use Rattle.ec_core.specs.declared.Statement.{Statement, roll-Statement, map-Statement}
use Rattle.ec_core.specs.declared.Statement.TheOpen.{Statement-F as Core-F}
use Rattle.ec_core.specs.declared.Statement.TheVariants as s
use Rattle.ec_core_laws.proofs.Expressions.{expression_is, out_is, link_out_is}
use Rattle.ec_core_laws.proofs.Small.{Small, none_small, both_small, same_small}
use Rattle.ec_core_laws.proofs.SmallExpressions as expressions
use Rattle.ec_core_laws.proofs.SmallExpressions.{SmallPart, is_alone}
use Rattle.ec_core_laws.proofs.Statements.{statement_is, arm_is, block_is}
use Rattle.ec_core_laws.proofs.Trees as trees
use Rattle.ec_core_laws.proofs.Trees.{IsPiece}
use Rattle.ec_core_laws.specs.Measures.{all_of, greatest_of, if_there, expression_size, link_size, factor_size, addend_size}
use Rattle.ec_core_laws.specs.Measures.{expression_height, link_height, factor_height, addend_height, size_of_link, size_of_factor}
use Rattle.ec_core_laws.specs.Measures.{size_of_addend}
use Rattle.ec_core_laws.specs.Measures.{height_of_link, height_of_factor, height_of_addend}
use Rattle.ec_core_laws.specs.Measures.{size_of, height_of, statement_size, arm_size, block_size, statement_height, arm_height}
use Rattle.ec_core_laws.specs.Measures.{block_height}
use Rattle.ec_core_laws.specs.Measures.{size_of_statement, size_of_arm, size_of_block, height_of_statement, height_of_arm, height_of_block}
use Rattle.ec_rules.specs.Forms.{Form, Literal, Negated, Constructor, Vector, Created, Itself, NameAlone, Other}
use Rattle.ec_rules.specs.Judging.{statement_part, statement_finished, block_finished}
use Rattle.ec_rules.specs.Lists.{greatest, plus, total}
use Rattle.ec_rules.specs.Parts as judged
use Rattle.ec_rules.specs.Statements.{piece_of_arm, pieces_of_block, assigned_height}
use Rattle.ec_rules.specs.declared.judged.Done.{Done}
use Rattle.ec_types.specs.declared.scopes.scope.Scope.{Scope}
use Rattle.ec_types.specs.Scopes.{declaring, in_a_loop}

-- It is small, and has no more locals than these, where they are within the limit.
pub record SmallDone (s h l : ℕ) (done : Done) : Type 0 where
  pub small : Small s h done.nodes done.height
  pub locals : done.variables ≤ 100 → l ≤ done.variables

pub record SmallStatement (x : StatementPart) : Type 0 where
  pub small : (env : Env) →
      SmallDone (size_of_statement (x.core env)) (height_of_statement (x.core env)) (length (x.locals env.scope))
      (x.part.finished env.scope).done

pub record SmallPiece (b : Piece) : Type 0 where
  pub small : (env : Env) →
      SmallDone (size_of_block (b.core env)) (height_of_block (b.core env)) (length (b.locals env.scope)) (b.piece env.scope).done

abbrev PieceHas : Piece → Type 0
PieceHas = trees.PieceHas SmallPart SmallStatement SmallPiece

abbrev ArmHas : ArmPart → Type 0
ArmHas = trees.ArmHas SmallPart SmallStatement SmallPiece

-- ---- sums of one or two

one_total : (s h n v : ℕ) → Small s h n v → Small (1 + s) h (plus 1 (plus n 0)) (max v 0)
one_total s h n v k = record {
  size = λ l. let r : s ≤ n = k.size (omega arith) in omega arith;
  height = λ l. let r : h ≤ v = k.height (omega arith) in omega arith;
}

two_total : (s h n v t i m w a b : ℕ) → Small s h n v → Small t i m w → Small a b 0 0 →
    Small (1 + (s + t)) (max h (1 + i)) (plus 1 (plus n (plus m 0))) (max v (plus 1 w))
two_total s h n v t i m w a b k j z = record {
  size = λ l. let r : s ≤ n = k.size (omega arith) in let q : t ≤ m = j.size (omega arith) in omega arith;
  height = λ l. let r : h ≤ v = k.height (omega arith) in let q : i ≤ w = j.height (omega arith) in omega arith;
}

leaf_total : Small 1 0 (plus 1 0) 0
leaf_total = record { size = λ l. omega arith; height = λ l. omega arith }

-- ---- what a statement has

measured : (x : Statement) (y : Core-F Statement Arm Block) → roll-Statement y ≡ x → (n v : ℕ) →
    Small
    (statement_size (map-Statement Statement Arm Block ℕ ℕ ℕ size_of_statement size_of_arm size_of_block y))
    (statement_height (map-Statement Statement Arm Block ℕ ℕ ℕ height_of_statement height_of_arm height_of_block y)) n v →
    Small (size_of_statement x) (height_of_statement x) n v
measured x y r n v k =
    same_small (statement_is ℕ statement_size arm_size block_size x y r) (statement_is ℕ statement_height arm_height block_height x y r) k

-- ---- what is assigned to

abbrev BelowTarget : Expression → Expression → Statement → Type 0
BelowTarget target value x =
    (size_of_statement x ≤ 1 + (size_of target + size_of value)) × (height_of_statement x ≤ max (height_of target) (2 + height_of value))

dropped_below : (target value : Expression) → BelowTarget target value (s.Drop value)
dropped_below target value =
    let a : size_of_statement (s.Drop value) ≡ 1 + size_of value =
    statement_is ℕ statement_size arm_size block_size (s.Drop value) (Core-F.Drop value) (s.rolls-Drop value) in
    let b : height_of_statement (s.Drop value) ≡ height_of value =
    statement_is ℕ statement_height arm_height block_height (s.Drop value) (Core-F.Drop value) (s.rolls-Drop value) in
    (omega arith, omega arith)

kept_below : (target value : Expression) (place : Place) → BelowTarget target value (s.Assign place value)
kept_below target value place =
    let a : size_of_statement (s.Assign place value) ≡ 1 + size_of value =
    statement_is ℕ statement_size arm_size block_size (s.Assign place value) (Core-F.Assign place value) (s.rolls-Assign place value) in
    let b : height_of_statement (s.Assign place value) ≡ height_of value =
    statement_is ℕ statement_height arm_height block_height (s.Assign place value) (Core-F.Assign place value)
    (s.rolls-Assign place value) in
    (omega arith, omega arith)

-- the vector before an index, and the index, are no larger than the chain
element_below : (target vector number value : Expression) (at : ℕ) → size_of vector + (1 + size_of number) ≤ size_of target →
    max (height_of vector) (1 + height_of number) ≤ height_of target → BelowTarget target value (s.SetElement vector number value at)
element_below target vector number value at l m =
    let a : size_of_statement (s.SetElement vector number value at) ≡ 1 + (size_of vector + (size_of number + size_of value)) =
    statement_is ℕ statement_size arm_size block_size (s.SetElement vector number value at) (Core-F.SetElement vector number value at)
    (s.rolls-SetElement vector number value at) in
    let b : height_of_statement (s.SetElement vector number value at)
    ≡ max (height_of vector) (max (1 + height_of number) (2 + height_of value)) =
    statement_is ℕ statement_height arm_height block_height (s.SetElement vector number value at)
    (Core-F.SetElement vector number value at) (s.rolls-SetElement vector number value at) in
    (omega arith, omega arith)

abbrev layer_size : CoreLink-F Expression Link Addend Factor → ℕ
layer_size l = link_size (map-Link Expression Link Addend Factor ℕ ℕ ℕ ℕ size_of size_of_link size_of_addend size_of_factor l)

abbrev layer_height : CoreLink-F Expression Link Addend Factor → ℕ
layer_height l = link_height (map-Link Expression Link Addend Factor ℕ ℕ ℕ ℕ height_of height_of_link height_of_addend height_of_factor l)

link_below : (target vector value : Expression) (l : CoreLink-F Expression Link Addend Factor) →
    size_of vector + layer_size l ≤ size_of target → max (height_of vector) (layer_height l) ≤ height_of target →
    BelowTarget target value (element_set vector l value)
link_below target vector value (CoreLink-F.Element number of at) l m = element_below target vector number value at l m
link_below target vector value (CoreLink-F.Invoke name arguments of at) l m = dropped_below target value
link_below target vector value (CoreLink-F.Call builtin arguments at) l m = dropped_below target value

chained_size : (head : Expression) (xs : List Link) → size_of (chained head xs) ≡ size_of head + all_of (map size_of_link xs)
chained_size head [] = omega arith
chained_size head (x ∷ xs) =
    expression_is ℕ expression_size link_size addend_size factor_size (e.Chain head (x ∷ xs)) (CoreExpression-F.Chain head (x ∷ xs))
    (e.rolls-Chain head (x ∷ xs))

chained_height : (head : Expression) (xs : List Link) →
    height_of (chained head xs) ≡ max (height_of head) (greatest_of (map height_of_link xs))
chained_height head [] = omega arith
chained_height head (x ∷ xs) =
    expression_is ℕ expression_height link_height addend_height factor_height (e.Chain head (x ∷ xs))
    (CoreExpression-F.Chain head (x ∷ xs)) (e.rolls-Chain head (x ∷ xs))

-- the links below the last and the last one
abbrev TopIs : List Link → Option Link → Type 0
TopIs links None = Unit {0}
TopIs links (Some last) =
    (all_of (map size_of_link links) ≡ all_of (map size_of_link (below_of links)) + size_of_link last)
    × (greatest_of (map height_of_link links) ≡ max (greatest_of (map height_of_link (below_of links))) (height_of_link last))

top_more : (x y : Link) (xs : List Link) (last : Option Link) → TopIs (y ∷ xs) last → TopIs (x ∷ y ∷ xs) last
top_more x y xs None h = tt
top_more x y xs (Some last) h =
    let a : all_of (map size_of_link (y ∷ xs)) ≡ all_of (map size_of_link (below_of (y ∷ xs))) + size_of_link last = h.0 in
    let b : greatest_of (map height_of_link (y ∷ xs)) ≡ max (greatest_of (map height_of_link (below_of (y ∷ xs)))) (height_of_link last) =
    h.1 in
    (omega arith, omega arith)

top_is : (links : List Link) → TopIs links (top_of links)
top_is [] = tt
top_is (x ∷ []) = (omega arith, omega arith)
top_is (x ∷ y ∷ xs) = top_more x y xs (top_of (y ∷ xs)) (top_is (y ∷ xs))

chain_below : (target head value : Expression) (links : List Link) (last : Option Link) → TopIs links last →
    size_of target ≡ size_of head + all_of (map size_of_link links) →
    height_of target ≡ max (height_of head) (greatest_of (map height_of_link links)) →
    BelowTarget target value (element_set_if head (below_of links) last value)
chain_below target head value links None h a b = dropped_below target value
chain_below target head value links (Some last) h a b =
    let i : all_of (map size_of_link links) ≡ all_of (map size_of_link (below_of links)) + size_of_link last = h.0 in
    let j : greatest_of (map height_of_link links) ≡ max (greatest_of (map height_of_link (below_of links))) (height_of_link last) = h.1 in
    let c : size_of (chained head (below_of links)) ≡ size_of head + all_of (map size_of_link (below_of links)) =
    chained_size head (below_of links) in
    let d : height_of (chained head (below_of links)) ≡ max (height_of head) (greatest_of (map height_of_link (below_of links))) =
    chained_height head (below_of links) in
    let f : size_of_link last ≡ layer_size (out-Link last) = link_out_is ℕ expression_size link_size addend_size factor_size last in
    let g : height_of_link last ≡ layer_height (out-Link last) =
    link_out_is ℕ expression_height link_height addend_height factor_height last in
    link_below target (chained head (below_of links)) value (out-Link last) (omega arith) (omega arith)

abbrev form_size : CoreExpression-F Expression Link Addend Factor → ℕ
form_size x =
    expression_size (map-Expression Expression Link Addend Factor ℕ ℕ ℕ ℕ size_of size_of_link size_of_addend size_of_factor x)

abbrev form_height : CoreExpression-F Expression Link Addend Factor → ℕ
form_height x =
    expression_height (map-Expression Expression Link Addend Factor ℕ ℕ ℕ ℕ height_of height_of_link height_of_addend height_of_factor x)

assigned_below : (target value : Expression) (t : CoreExpression-F Expression Link Addend Factor) → size_of target ≡ form_size t →
    height_of target ≡ form_height t → BelowTarget target value (assigned t value)
assigned_below target value (CoreExpression-F.Read place) a b = kept_below target value place
assigned_below target value (CoreExpression-F.Chain head links) a b =
    chain_below target head value links (top_of links) (top_is links) a b
assigned_below target value (CoreExpression-F.Number n) a b = dropped_below target value
assigned_below target value (CoreExpression-F.Literal text) a b = dropped_below target value
assigned_below target value (CoreExpression-F.Truth x) a b = dropped_below target value
assigned_below target value CoreExpression-F.Nil a b = dropped_below target value
assigned_below target value CoreExpression-F.Itself a b = dropped_below target value
assigned_below target value CoreExpression-F.NodeCount a b = dropped_below target value
assigned_below target value (CoreExpression-F.NodeAt x at) a b = dropped_below target value
assigned_below target value (CoreExpression-F.NewVector of x at) a b = dropped_below target value
assigned_below target value (CoreExpression-F.Construct class places) a b = dropped_below target value
assigned_below target value (CoreExpression-F.Create class arguments) a b = dropped_below target value
assigned_below target value (CoreExpression-F.Negative x) a b = dropped_below target value
assigned_below target value (CoreExpression-F.Not x) a b = dropped_below target value
assigned_below target value (CoreExpression-F.View x of at) a b = dropped_below target value
assigned_below target value (CoreExpression-F.IsFixed x at) a b = dropped_below target value
assigned_below target value (CoreExpression-F.Term x more) a b = dropped_below target value
assigned_below target value (CoreExpression-F.Sum x more) a b = dropped_below target value
assigned_below target value (CoreExpression-F.Compare x op what y) a b = dropped_below target value
assigned_below target value (CoreExpression-F.And x more) a b = dropped_below target value
assigned_below target value (CoreExpression-F.Or x more) a b = dropped_below target value

-- a name gets a value
read_small : (place : Place) (value : Expression) (head n m w v : ℕ) → Small (size_of value) (height_of value) m w →
    Small (size_of_statement (assigned (out-Expression (e.Read place)) value))
    (height_of_statement (assigned (out-Expression (e.Read place)) value)) (plus 1 (plus n (plus m 0))) w
read_small place value head n m w v k =
    let is : assigned (out-Expression (e.Read place)) value ≡ s.Assign place value =
    ap (λ t. assigned t value) (ap out-Expression (sym (e.rolls-Read place)) ∙ out-roll-Expression (CoreExpression-F.Read place)) in
    subst (λ x. Small (size_of_statement x) (height_of_statement x) (plus 1 (plus n (plus m 0))) w) (sym is)
    (measured (s.Assign place value) (Core-F.Assign place value) (s.rolls-Assign place value) _ _ (more (size_of value)
    (height_of value) n m w k))
  where
    more : (s h n m w : ℕ) → Small s h m w → Small (1 + s) h (plus 1 (plus n (plus m 0))) w
    more s h n m w k = record {
      size = λ l. let r : s ≤ m = k.size (omega arith) in omega arith;
      height = k.height;
    }

below_small : (s h st ht n v sv hv m w : ℕ) → s ≤ 1 + (st + sv) → h ≤ max ht (2 + hv) → Small st ht n v → Small sv hv m w →
    Small s h (plus 1 (plus n (plus m 0))) (max v (plus 2 w))
below_small s h st ht n v sv hv m w a b k j = record {
  size = λ l. let r : st ≤ n = k.size (omega arith) in let q : sv ≤ m = j.size (omega arith) in omega arith;
  height = λ l. let r : ht ≤ v = k.height (omega arith) in let q : hv ≤ w = j.height (omega arith) in omega arith;
}

abbrev AssignedSmall : Env → Part → Part → Form → Type 0
AssignedSmall env x y form =
    Small (size_of_statement (assigned (out-Expression (x.core env)) (y.core env)))
    (height_of_statement (assigned (out-Expression (x.core env)) (y.core env)))
    (plus 1 (plus (judged.value_in env.scope x.part).nodes (plus (judged.value_in env.scope y.part).nodes 0)))
    (assigned_height form (judged.value_in env.scope x.part) (judged.value_in env.scope y.part))

element_small : (env : Env) (x y : Part) → SmallPart x → SmallPart y →
    Small (size_of_statement (assigned (out-Expression (x.core env)) (y.core env)))
    (height_of_statement (assigned (out-Expression (x.core env)) (y.core env)))
    (plus 1 (plus (judged.value_in env.scope x.part).nodes (plus (judged.value_in env.scope y.part).nodes 0)))
    (max (judged.value_in env.scope x.part).height (plus 2 (judged.value_in env.scope y.part).height))
element_small env x y h k =
    let below : BelowTarget (x.core env) (y.core env) (assigned (out-Expression (x.core env)) (y.core env)) =
    assigned_below (x.core env) (y.core env) (out-Expression (x.core env))
    (out_is ℕ expression_size link_size addend_size factor_size (x.core env))
    (out_is ℕ expression_height link_height addend_height factor_height (x.core env)) in
    below_small _ _ _ _ _ _ _ _ _ _ below.0 below.1 (h.small true env) (k.small true env)

assigned_small : (env : Env) (x y : Part) → SmallPart x → SmallPart y → (form : Form) → x.part.form ≡ form → AssignedSmall env x y form
assigned_small env x y h k (NameAlone name) is =
    let read : (place : Place) × (x.core env ≡ e.Read place) = h.alone (ap is_alone is) env in
    subst
    (λ t.
    Small (size_of_statement (assigned (out-Expression t) (y.core env))) (height_of_statement (assigned (out-Expression t) (y.core env)))
    (plus 1 (plus (judged.value_in env.scope x.part).nodes (plus (judged.value_in env.scope y.part).nodes 0)))
    (judged.value_in env.scope y.part).height)
    (sym read.1)
    (read_small read.0 (y.core env) 0 (judged.value_in env.scope x.part).nodes _ _ 0 (k.small true env))
assigned_small env x y h k (Literal of) is = element_small env x y h k
assigned_small env x y h k Negated is = element_small env x y h k
assigned_small env x y h k (Constructor at) is = element_small env x y h k
assigned_small env x y h k (Vector of) is = element_small env x y h k
assigned_small env x y h k (Created name) is = element_small env x y h k
assigned_small env x y h k Itself is = element_small env x y h k
assigned_small env x y h k Other is = element_small env x y h k

-- ---- arms

-- what several pieces are found to be, one after another
abbrev pieces_done : Scope → List judged.Piece → Done
pieces_done scope pieces = record {
  height = greatest (λ (p : judged.Piece). (p scope).done.height) pieces;
  nodes = total (λ (p : judged.Piece). (p scope).done.nodes) pieces;
  variables = total (λ (p : judged.Piece). (p scope).done.variables) pieces;
}

locals_both : (xs ys : List StaticType) (n m : ℕ) → (n ≤ 100 → length xs ≤ n) → (m ≤ 100 → length ys ≤ m) → plus n m ≤ 100 →
    length (xs ++ ys) ≤ plus n m
locals_both xs ys n m k j l =
    let e : length (xs ++ ys) ≡ length xs + length ys = length-append xs ys in
    let r : length xs ≤ n = k (omega arith) in
    let q : length ys ≤ m = j (omega arith) in
    omega arith

locals_three : (xs ys zs : List StaticType) (n m : ℕ) → (n ≤ 100 → length xs ≤ n) → (m ≤ 100 → length (ys ++ zs) ≤ m) →
    plus n m ≤ 100 → length ((xs ++ ys) ++ zs) ≤ plus n m
locals_three xs ys zs n m k j l =
    let e : length ((xs ++ ys) ++ zs) ≡ length (xs ++ ys) + length zs = length-append (xs ++ ys) zs in
    let f : length (xs ++ ys) ≡ length xs + length ys = length-append xs ys in
    let g : length (ys ++ zs) ≡ length ys + length zs = length-append ys zs in
    let r : length xs ≤ n = k (omega arith) in
    let q : length (ys ++ zs) ≤ m = j (omega arith) in
    omega arith

-- the same place, with so many variables before it
abbrev counting : ℕ → Env → Env
counting n env = record env { count = n }

one_piece : (s h n v : ℕ) → Small s h n v → Small s h (plus n 0) (max v 0)
one_piece s h n v k = record {
  size = λ l. let r : s ≤ n = k.size (omega arith) in omega arith;
  height = λ l. let r : h ≤ v = k.height (omega arith) in omega arith;
}

one_more : (a n : ℕ) → (n ≤ 100 → a ≤ n) → plus n 0 ≤ 100 → a ≤ plus n 0
one_more a n k l = let r : a ≤ n = k (omega arith) in omega arith

from_none : (s h n v : ℕ) → Small s h n v → Small (0 + s) (max 0 h) n v
from_none s h n v k = record {
  size = λ l. let r : s ≤ n = k.size l in omega arith;
  height = λ l. let r : h ≤ v = k.height l in omega arith;
}

other_done : (env : Env) (n : ℕ) (other : Option Piece) → Where PieceHas other →
    SmallDone (if_there (option_map size_of_block (option_map (λ b. b.core (counting n env)) other)))
    (if_there (option_map height_of_block (option_map (λ b. b.core (counting n env)) other))) (length (locals_of_block env.scope other))
    (pieces_done env.scope (pieces_of_block (option_map (λ b. b.piece) other)))
other_done env n None h = record { small = none_small; locals = λ l. omega arith }
other_done env n (Some b) h =
    let d : SmallDone (size_of_block (b.core (counting n env))) (height_of_block (b.core (counting n env)))
    (length (b.locals env.scope)) (b.piece env.scope).done = h.1.small (counting n env) in
    record { small = one_piece _ _ _ _ d.small; locals = one_more _ _ d.locals }

-- an arm before the others and what follows them
arm_first : (c ch b bh n v m w rs rh os oh rn rv : ℕ) → Small c ch n v → Small b bh m w → Small (rs + os) (max rh oh) rn rv →
    Small (((1 + (c + b)) + rs) + os) (max (max (max ch bh) rh) oh) (plus (plus 1 (plus n m)) rn) (max (max v w) rv)
arm_first c ch b bh n v m w rs rh os oh rn rv k j r = record {
  size = λ l.
      let x : c ≤ n = k.size (omega arith) in
      let y : b ≤ m = j.size (omega arith) in
      let z : rs + os ≤ rn = r.size (omega arith) in omega arith;
  height = λ l.
      let x : ch ≤ v = k.height (omega arith) in
      let y : bh ≤ w = j.height (omega arith) in
      let z : max rh oh ≤ rv = r.height (omega arith) in omega arith;
}

arms_done : (env : Env) (n last : ℕ) (arms : List ArmPart) (other : Option Piece) → Every ArmHas arms → Where PieceHas other →
    SmallDone
    (all_of (map size_of_arm (arms_core (counting n env) arms))
    + if_there (option_map size_of_block (option_map (λ b. b.core (counting last env)) other)))
    (max (greatest_of (map height_of_arm (arms_core (counting n env) arms)))
    (if_there (option_map height_of_block (option_map (λ b. b.core (counting last env)) other))))
    (length (locals_of_arms env.scope arms ++ locals_of_block env.scope other))
    (pieces_done env.scope (map piece_of_arm (map arm_judged arms) ++ pieces_of_block (option_map (λ b. b.piece) other)))
arms_done env n last [] other h k =
    let d : SmallDone (if_there (option_map size_of_block (option_map (λ b. b.core (counting last env)) other)))
    (if_there (option_map height_of_block (option_map (λ b. b.core (counting last env)) other))) (length (locals_of_block env.scope other))
    (pieces_done env.scope (pieces_of_block (option_map (λ b. b.piece) other))) = other_done env last other k in
    record { small = from_none _ _ _ _ d.small; locals = d.locals }
arms_done env n last (a ∷ arms) other h k =
    let rest : SmallDone
    (all_of (map size_of_arm (arms_core (counting (n + length (a.block.locals env.scope)) env) arms))
    + if_there (option_map size_of_block (option_map (λ b. b.core (counting last env)) other)))
    (max (greatest_of (map height_of_arm (arms_core (counting (n + length (a.block.locals env.scope)) env) arms)))
    (if_there (option_map height_of_block (option_map (λ b. b.core (counting last env)) other))))
    (length (locals_of_arms env.scope arms ++ locals_of_block env.scope other))
    (pieces_done env.scope (map piece_of_arm (map arm_judged arms) ++ pieces_of_block (option_map (λ b. b.piece) other))) =
    arms_done env (n + length (a.block.locals env.scope)) last arms other h.1 k in
    let block : SmallDone (size_of_block (a.block.core (counting n env))) (height_of_block (a.block.core (counting n env)))
    (length (a.block.locals env.scope)) (a.block.piece env.scope).done = h.0.1.1.small (counting n env) in
    record {
      small =
          same_small
          (ap
          (λ x.
          (x + all_of (map size_of_arm (arms_core (counting (n + length (a.block.locals env.scope)) env) arms)))
          + if_there (option_map size_of_block (option_map (λ b. b.core (counting last env)) other)))
          (arm_is ℕ statement_size arm_size block_size
          (record { condition = a.condition.core (counting n env); block = a.block.core (counting n env) })))
          (ap
          (λ x.
          max (max x (greatest_of (map height_of_arm (arms_core (counting (n + length (a.block.locals env.scope)) env) arms))))
          (if_there (option_map height_of_block (option_map (λ b. b.core (counting last env)) other))))
          (arm_is ℕ statement_height arm_height block_height
          (record { condition = a.condition.core (counting n env); block = a.block.core (counting n env) })))
          (arm_first _ _ _ _ _ _ _ _ _ _ _ _ _ _ (h.0.0.1.small true (counting n env)) block.small rest.small);
      locals = λ l.
          locals_three (a.block.locals env.scope) (locals_of_arms env.scope arms) (locals_of_block env.scope other) _ _ block.locals
          rest.locals l;
    }

if_size : (arms : List Arm) (other : Option Block) →
    size_of_statement (s.If arms other) ≡ all_of (map size_of_arm arms) + if_there (option_map size_of_block other)
if_size arms None = statement_is ℕ statement_size arm_size block_size (s.If arms None) (Core-F.If arms None) (s.rolls-If arms None)
if_size arms (Some b) =
    statement_is ℕ statement_size arm_size block_size (s.If arms (Some b)) (Core-F.If arms (Some b)) (s.rolls-If arms (Some b))

if_height : (arms : List Arm) (other : Option Block) →
    height_of_statement (s.If arms other) ≡ max (greatest_of (map height_of_arm arms)) (if_there (option_map height_of_block other))
if_height arms None = statement_is ℕ statement_height arm_height block_height (s.If arms None) (Core-F.If arms None) (s.rolls-If arms None)
if_height arms (Some b) =
    statement_is ℕ statement_height arm_height block_height (s.If arms (Some b)) (Core-F.If arms (Some b)) (s.rolls-If arms (Some b))

-- ---- statements

abbrev layer_done : AStatement → Env → Done
layer_done x env = (statement_finished (statement_judged x) env.scope).done

one_done : (x : Statement) (p : Part) (needed : Bool) (env : Env) → SmallPart p → size_of_statement x ≡ 1 + size_of (p.core env) →
    height_of_statement x ≡ height_of (p.core env) →
    SmallDone (size_of_statement x) (height_of_statement x) 0
    (record {
      height = max (p.part.judged needed env.scope).value.height 0;
      nodes = plus 1 (plus (p.part.judged needed env.scope).value.nodes 0);
      variables = plus 0 (plus 0 0);
    })
one_done x p needed env h a b =
    record { small = same_small a b (one_total _ _ _ _ (h.small needed env)); locals = λ l. omega arith }

declared_done : (x : Statement) (p : Part) (env : Env) → SmallPart p → size_of_statement x ≡ 1 + size_of (p.core env) →
    height_of_statement x ≡ height_of (p.core env) →
    SmallDone (size_of_statement x) (height_of_statement x) 1
    (record {
      height = max (p.part.judged true env.scope).value.height 0;
      nodes = plus 1 (plus (p.part.judged true env.scope).value.nodes 0);
      variables = plus 1 (plus 0 0);
    })
declared_done x p env h a b =
    record { small = same_small a b (one_total _ _ _ _ (h.small true env)); locals = λ l. omega arith }

leaf_done : (x : Statement) → size_of_statement x ≡ 1 → height_of_statement x ≡ 0 → (vs : ℕ) →
    SmallDone (size_of_statement x) (height_of_statement x) 0 (record { height = 0; nodes = plus 1 0; variables = plus 0 vs })
leaf_done x a b vs = record { small = same_small a b leaf_total; locals = λ l. omega arith }

pair_done : (x : Statement) (p q : Part) (env : Env) → SmallPart p → SmallPart q →
    size_of_statement x ≡ 1 + (size_of (p.core env) + size_of (q.core env)) →
    height_of_statement x ≡ max (height_of (p.core env)) (1 + height_of (q.core env)) →
    SmallDone (size_of_statement x) (height_of_statement x) 0
    (record {
      height = max (p.part.judged true env.scope).value.height (plus 1 (q.part.judged true env.scope).value.height);
      nodes =
          plus 1 (plus (p.part.judged true env.scope).value.nodes (plus (q.part.judged true env.scope).value.nodes 0));
      variables = plus 0 (plus 0 (plus 0 0));
    })
pair_done x p q env h k a b = record {
  small = same_small a b (two_total _ _ _ _ _ _ _ _ 0 0 (h.small true env) (k.small true env) none_small);
  locals = λ l. omega arith;
}

abbrev sized : (x : Statement) (y : Core-F Statement Arm Block) → roll-Statement y ≡ x →
    size_of_statement x ≡ statement_size (map-Statement Statement Arm Block ℕ ℕ ℕ size_of_statement size_of_arm size_of_block y)
sized x y r = statement_is ℕ statement_size arm_size block_size x y r

abbrev high : (x : Statement) (y : Core-F Statement Arm Block) → roll-Statement y ≡ x →
    height_of_statement x ≡ statement_height (map-Statement Statement Arm Block ℕ ℕ ℕ height_of_statement height_of_arm height_of_block y)
high x y r = statement_is ℕ statement_height arm_height block_height x y r

choice_nodes : (s h n v : ℕ) → Small s h n v → Small s h (plus 0 n) v
choice_nodes s h n v k = record {
  size = λ l. let r : s ≤ n = k.size (omega arith) in omega arith;
  height = k.height;
}

choice_locals : (a n : ℕ) → (n ≤ 100 → a ≤ n) → plus 0 n ≤ 100 → a ≤ plus 0 n
choice_locals a n k l = let r : a ≤ n = k (omega arith) in omega arith

loop_locals : (a n : ℕ) → (n ≤ 100 → a ≤ n) → plus 0 (plus n 0) ≤ 100 → a ≤ plus 0 (plus n 0)
loop_locals a n k l = let r : a ≤ n = k (omega arith) in omega arith

layer_small : (x : AStatement) → trees.StatementHas SmallPart SmallStatement SmallPiece x → (env : Env) →
    SmallDone (size_of_statement (core_of_statement x env)) (height_of_statement (core_of_statement x env))
    (length (locals_of x env.scope)) (layer_done x env)
layer_small (Statement-F.LocalVariable name of None) h env =
    record {
      small = same_small (sized (s.Declare env.count None) (Core-F.Declare env.count None) (s.rolls-Declare env.count None)) (high
          (s.Declare env.count None) (Core-F.Declare env.count None) (s.rolls-Declare env.count None)) leaf_total;
      locals = λ l. omega arith;
    }
layer_small (Statement-F.LocalVariable name of (Some x)) h env =
    declared_done (s.Declare env.count (Some (x.core env))) x env h.1
    (sized (s.Declare env.count (Some (x.core env))) (Core-F.Declare env.count (Some (x.core env))) (s.rolls-Declare env.count (Some
    (x.core env))))
    (high (s.Declare env.count (Some (x.core env))) (Core-F.Declare env.count (Some (x.core env))) (s.rolls-Declare env.count (Some
    (x.core env))))
layer_small (Statement-F.LocalConstant name of x) h env =
    declared_done (s.Declare env.count (Some (x.core env))) x env h.1
    (sized (s.Declare env.count (Some (x.core env))) (Core-F.Declare env.count (Some (x.core env))) (s.rolls-Declare env.count (Some
    (x.core env))))
    (high (s.Declare env.count (Some (x.core env))) (Core-F.Declare env.count (Some (x.core env))) (s.rolls-Declare env.count (Some
    (x.core env))))
layer_small (Statement-F.Assign x y) h env =
    record { small = assigned_small env x y h.0.1 h.1.1 x.part.form refl; locals = λ l. omega arith }
layer_small (Statement-F.Invoke x) h env =
    one_done (s.Drop (x.core env)) x false env h.1 (sized (s.Drop (x.core env)) (Core-F.Drop (x.core env)) (s.rolls-Drop (x.core env)))
    (high (s.Drop (x.core env)) (Core-F.Drop (x.core env)) (s.rolls-Drop (x.core env)))
layer_small (Statement-F.Print x at) h env =
    one_done (s.Print (x.core env)) x true env h.1 (sized (s.Print (x.core env)) (Core-F.Print (x.core env)) (s.rolls-Print (x.core env)))
    (high (s.Print (x.core env)) (Core-F.Print (x.core env)) (s.rolls-Print (x.core env)))
layer_small (Statement-F.If arms other at) h env =
    let inner : ℕ = env.count + length (locals_of_arms env.scope arms) in
    let d : SmallDone
    (all_of (map size_of_arm (arms_core env arms))
    + if_there (option_map size_of_block (option_map (λ b. b.core (counting inner env)) other)))
    (max (greatest_of (map height_of_arm (arms_core env arms)))
    (if_there (option_map height_of_block (option_map (λ b. b.core (counting inner env)) other))))
    (length (locals_of_arms env.scope arms ++ locals_of_block env.scope other))
    (pieces_done env.scope (map piece_of_arm (map arm_judged arms) ++ pieces_of_block (option_map (λ b. b.piece) other))) =
    arms_done env env.count inner arms other h.0 h.1 in
    record {
      small =
          same_small (if_size (arms_core env arms) (option_map (λ b. b.core (counting inner env)) other))
          (if_height (arms_core env arms) (option_map (λ b. b.core (counting inner env)) other)) (choice_nodes _ _ _ _ d.small);
      locals = choice_locals _ _ d.locals;
    }
layer_small (Statement-F.Loop b at) h env =
    let inner : Env = in_scope (in_a_loop env.scope) env in
    let d : SmallDone (size_of_block (b.core inner)) (height_of_block (b.core inner)) (length (b.locals (in_a_loop env.scope)))
    (b.piece (in_a_loop env.scope)).done = h.1.small inner in
    record {
      small =
          same_small (sized (s.Loop (b.core inner)) (Core-F.Loop (b.core inner)) (s.rolls-Loop (b.core inner)))
          (high (s.Loop (b.core inner)) (Core-F.Loop (b.core inner)) (s.rolls-Loop (b.core inner))) (one_total _ _ _ _ d.small);
      locals = loop_locals _ _ d.locals;
    }
layer_small (Statement-F.Exit None at) h env =
    leaf_done (s.Exit None) (sized (s.Exit None) (Core-F.Exit None) (s.rolls-Exit None))
    (high (s.Exit None) (Core-F.Exit None) (s.rolls-Exit None)) 0
layer_small (Statement-F.Exit (Some x) at) h env =
    one_done (s.Exit (Some (x.core env))) x true env h.1 (sized (s.Exit (Some (x.core env))) (Core-F.Exit (Some (x.core env)))
    (s.rolls-Exit (Some (x.core env))))
    (high (s.Exit (Some (x.core env))) (Core-F.Exit (Some (x.core env))) (s.rolls-Exit (Some (x.core env))))
layer_small (Statement-F.Return at) h env =
    leaf_done s.Return (sized s.Return Core-F.Return s.rolls-Return) (high s.Return Core-F.Return s.rolls-Return) 0
layer_small (Statement-F.Assert x at) h env =
    one_done (s.Assert (x.core env) at.from) x true env h.1 (sized (s.Assert (x.core env) at.from) (Core-F.Assert (x.core env) at.from)
    (s.rolls-Assert (x.core env) at.from))
    (high (s.Assert (x.core env) at.from) (Core-F.Assert (x.core env) at.from) (s.rolls-Assert (x.core env) at.from))
layer_small (Statement-F.Move x y at) h env =
    pair_done (s.Move (x.core env) (y.core env) at.from) x y env h.0.1 h.1.1
    (sized (s.Move (x.core env) (y.core env) at.from) (Core-F.Move (x.core env) (y.core env) at.from)
    (s.rolls-Move (x.core env) (y.core env) at.from))
    (high (s.Move (x.core env) (y.core env) at.from) (Core-F.Move (x.core env) (y.core env) at.from)
    (s.rolls-Move (x.core env) (y.core env) at.from))
layer_small (Statement-F.Fix x y at) h env =
    pair_done (s.Fix (x.core env) (y.core env) at.from) x y env h.0.1 h.1.1
    (sized (s.Fix (x.core env) (y.core env) at.from) (Core-F.Fix (x.core env) (y.core env) at.from)
    (s.rolls-Fix (x.core env) (y.core env) at.from))
    (high (s.Fix (x.core env) (y.core env) at.from) (Core-F.Fix (x.core env) (y.core env) at.from)
    (s.rolls-Fix (x.core env) (y.core env) at.from))
layer_small (Statement-F.Refix x y at) h env =
    pair_done (s.Refix (x.core env) (y.core env) at.from) x y env h.0.1 h.1.1
    (sized (s.Refix (x.core env) (y.core env) at.from) (Core-F.Refix (x.core env) (y.core env) at.from)
    (s.rolls-Refix (x.core env) (y.core env) at.from))
    (high (s.Refix (x.core env) (y.core env) at.from) (Core-F.Refix (x.core env) (y.core env) at.from)
    (s.rolls-Refix (x.core env) (y.core env) at.from))
layer_small (Statement-F.Unfix x at) h env =
    one_done (s.Unfix (x.core env) at.from) x true env h.1 (sized (s.Unfix (x.core env) at.from) (Core-F.Unfix (x.core env) at.from)
    (s.rolls-Unfix (x.core env) at.from))
    (high (s.Unfix (x.core env) at.from) (Core-F.Unfix (x.core env) at.from) (s.rolls-Unfix (x.core env) at.from))
layer_small (Statement-F.Wait name at) h env =
    leaf_done (s.Wait (condition_named env name.text))
    (sized (s.Wait (condition_named env name.text)) (Core-F.Wait (condition_named env name.text)) (s.rolls-Wait
    (condition_named env name.text)))
    (high (s.Wait (condition_named env name.text)) (Core-F.Wait (condition_named env name.text)) (s.rolls-Wait
    (condition_named env name.text))) 0
layer_small (Statement-F.Signal name at) h env =
    leaf_done (s.Signal (condition_named env name.text))
    (sized (s.Signal (condition_named env name.text)) (Core-F.Signal (condition_named env name.text)) (s.rolls-Signal
    (condition_named env name.text)))
    (high (s.Signal (condition_named env name.text)) (Core-F.Signal (condition_named env name.text)) (s.rolls-Signal
    (condition_named env name.text))) 0

pub statement_has : (x : AStatement) → trees.StatementHas SmallPart SmallStatement SmallPiece x → SmallStatement (statement_step x)
unfolding statement_step statement_part
statement_has x h = record { small = λ env. layer_small x h env }

-- ---- blocks

statements_done : (xs : List StatementPart) → Every SmallStatement xs → (env : Env) →
    SmallDone (all_of (map size_of_statement (statements_core xs env))) (greatest_of (map height_of_statement (statements_core xs env)))
    (length (locals_of_statements xs env.scope)) (block_finished (map (λ x. x.part) xs) env.scope).done
statements_done [] h env = record { small = none_small; locals = λ l. omega arith }
statements_done (x ∷ xs) h env =
    let first : SmallDone (size_of_statement (x.core env)) (height_of_statement (x.core env)) (length (x.locals env.scope))
    (x.part.finished env.scope).done = h.0.small env in
    let rest : SmallDone (all_of (map size_of_statement (statements_core xs (behind env x))))
    (greatest_of (map height_of_statement (statements_core xs (behind env x))))
    (length (locals_of_statements xs (declaring (x.part.declares env.scope) env.scope)))
    (block_finished (map (λ x. x.part) xs) (declaring (x.part.declares env.scope) env.scope)).done =
    statements_done xs h.1 (behind env x) in
    record {
      small = both_small _ _ _ _ _ _ _ _ first.small rest.small;
      locals = λ l.
          locals_both (x.locals env.scope) (locals_of_statements xs (declaring (x.part.declares env.scope) env.scope)) _ _
          first.locals rest.locals l;
    }

pub block_has : (b : ABlock) → Every SmallStatement b.statements → SmallPiece (block_step b)
unfolding block_step
block_has b h = record {
  small = λ env.
      let d : SmallDone (all_of (map size_of_statement (statements_core b.statements env)))
      (greatest_of (map height_of_statement (statements_core b.statements env))) (length (locals_of_statements b.statements env.scope))
      (block_finished (map (λ x. x.part) b.statements) env.scope).done = statements_done b.statements h env in
      record {
        small =
            same_small (block_is ℕ statement_size arm_size block_size (record { statements = statements_core b.statements env }))
            (block_is ℕ statement_height arm_height block_height (record { statements = statements_core b.statements env })) d.small;
        locals = d.locals;
      };
}

pub small_piece : (b : Piece) → IsPiece b → SmallPiece b
small_piece b tree =
    subst SmallPiece tree.1
    (trees.block_of_has SmallPart SmallStatement SmallPiece (expressions.expression_has SmallStatement SmallPiece) statement_has block_has
    tree.0).1
