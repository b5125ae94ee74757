-- The literal texts in the core of a statement or a block are lists of bytes, where those in its tree are.
use Rattle.std.proofs.Common.{◌≡◌, List, [], ◌∷◌, ◌++◌, length, map, Option, Some, None, option_map, sym, subst}
use Rattle.ec_ast.specs.declared.Expression.TheOpen.{Statement-F}
use Rattle.ec_base.specs.Stack.{top_of, below_of}
use Rattle.ec_check.proofs.Every.{Every, Where, every_joined, every_left, every_right}
use Rattle.ec_check.specs.Parts.{Part, Piece, StatementPart, ArmPart, AStatement}
use Rattle.ec_check.specs.Places.{Env, condition_named}
use Rattle.ec_check.specs.Resolving.{chained, element_set, element_set_if, assigned, further, in_scope, arms_core, locals_of_arms}
use Rattle.ec_check.specs.Resolving.{core_of_statement, behind, statements_core}
use Rattle.ec_core.specs.declared.Addend.{Addend}
use Rattle.ec_core.specs.declared.Arm.{Arm}
use Rattle.ec_core.specs.declared.Block.{Block}
use Rattle.ec_core.specs.declared.Expression.TheOpen.{Expression-F as Form-F, Link-F as CoreLink-F}
use Rattle.ec_core.specs.declared.Expression.{Expression, out-Expression}
use Rattle.ec_core.specs.declared.Factor.{Factor}
use Rattle.ec_core.specs.declared.Link.{Link, out-Link}
use Rattle.ec_core.specs.declared.Statement.TheOpen.{Statement-F as Core-F}
use Rattle.ec_core.specs.declared.Statement.TheVariants as s
use Rattle.ec_core.specs.declared.Statement.{Statement, roll-Statement, map-Statement}
use Rattle.ec_core_laws.proofs.Expressions.{out_is, link_out_is}
use Rattle.ec_core_laws.proofs.Statements.{statement_is, arm_is}
use Rattle.ec_core_laws.proofs.Trees as trees
use Rattle.ec_core.specs.Literals.{expression_texts, link_texts, addend_texts, factor_texts, statement_texts, arm_texts, block_texts}
use Rattle.ec_core.specs.Literals.{texts_of, texts_of_link, texts_of_statement, texts_of_arm, texts_of_block, Texts, joined}
use Rattle.ec_core_laws.proofs.CoreTextsExpressions.{AllFit, Fit, FitLink, FitStatement, PartFits, StatementFits, PieceFits, PartHas, ArmHas}
use Rattle.ec_core_laws.proofs.CoreTextsExpressions.{PieceHas, each_fits, layer_texts, link_layer_texts, chained_fits}
use Rattle.ec_core_laws.specs.TreeTexts.{IsBytes}
use Rattle.ec_types.specs.Scopes.{in_a_loop}

pub has : (x : Statement) (y : Core-F Statement Arm Block) → roll-Statement y ≡ x →
    AllFit
    (statement_texts
    (map-Statement Statement Arm Block Texts Texts Texts texts_of_statement texts_of_arm texts_of_block y)) →
    FitStatement x
has x y r h = subst AllFit (sym (statement_is Texts statement_texts arm_texts block_texts x y r)) h

-- ---- what is assigned to

drop_fits : (v : Expression) → Fit v → FitStatement (s.Drop v)
drop_fits v h = has (s.Drop v) (Core-F.Drop v) (s.rolls-Drop v) h

below_fit : (xs : List Link) → Every FitLink xs → Every FitLink (below_of xs)
below_fit [] h = tt
below_fit (x ∷ []) h = tt
below_fit (x ∷ y ∷ xs) h = (h.0, below_fit (y ∷ xs) h.1)

top_fits : (xs : List Link) → Every FitLink xs → Where FitLink (top_of xs)
top_fits [] h = tt
top_fits (x ∷ []) h = h.0
top_fits (x ∷ y ∷ xs) h = top_fits (y ∷ xs) h.1

element_fits : (vector : Expression) (x : CoreLink-F Expression Link Addend Factor) (v : Expression) → Fit vector →
    AllFit (link_layer_texts x) → Fit v → FitStatement (element_set vector x v)
element_fits vector (CoreLink-F.Element number of at) v h k g =
    has (s.SetElement vector number v at) (Core-F.SetElement vector number v at) (s.rolls-SetElement vector number v at)
    (every_joined IsBytes (texts_of vector) (texts_of number ++ texts_of v) h
    (every_joined IsBytes (texts_of number) (texts_of v) k g))
element_fits vector (CoreLink-F.Invoke name arguments of at) v h k g = drop_fits v g
element_fits vector (CoreLink-F.Call builtin arguments at) v h k g = drop_fits v g

element_if_fits : (head : Expression) (before : List Link) (last : Option Link) (v : Expression) → Fit head → Every FitLink before →
    Where FitLink last → Fit v → FitStatement (element_set_if head before last v)
element_if_fits head before None v h b k g = drop_fits v g
element_if_fits head before (Some last) v h b k g =
    element_fits (chained head before) (out-Link last) v (chained_fits head before h b)
    (subst AllFit (link_out_is Texts expression_texts link_texts addend_texts factor_texts last) k) g

assigned_fits : (t : Form-F Expression Link Addend Factor) (v : Expression) → AllFit (layer_texts t) → Fit v →
    FitStatement (assigned t v)
assigned_fits (Form-F.Read p) v h k = has (s.Assign p v) (Core-F.Assign p v) (s.rolls-Assign p v) k
assigned_fits (Form-F.Chain head links) v h k =
    let later : Every FitLink links =
    each_fits texts_of_link links (every_right IsBytes (texts_of head) (joined (map texts_of_link links)) h) in
    element_if_fits head (below_of links) (top_of links) v
    (every_left IsBytes (texts_of head) (joined (map texts_of_link links)) h)
    (below_fit links later) (top_fits links later) k
assigned_fits (Form-F.Number n) v h k = drop_fits v k
assigned_fits (Form-F.Literal text) v h k = drop_fits v k
assigned_fits (Form-F.Truth b) v h k = drop_fits v k
assigned_fits Form-F.Nil v h k = drop_fits v k
assigned_fits Form-F.Itself v h k = drop_fits v k
assigned_fits Form-F.NodeCount v h k = drop_fits v k
assigned_fits (Form-F.NodeAt x at) v h k = drop_fits v k
assigned_fits (Form-F.NewVector of x at) v h k = drop_fits v k
assigned_fits (Form-F.Construct class places) v h k = drop_fits v k
assigned_fits (Form-F.Create class arguments) v h k = drop_fits v k
assigned_fits (Form-F.Negative x) v h k = drop_fits v k
assigned_fits (Form-F.Not x) v h k = drop_fits v k
assigned_fits (Form-F.View x of at) v h k = drop_fits v k
assigned_fits (Form-F.IsFixed x at) v h k = drop_fits v k
assigned_fits (Form-F.Term x more) v h k = drop_fits v k
assigned_fits (Form-F.Sum x more) v h k = drop_fits v k
assigned_fits (Form-F.Compare x op what y) v h k = drop_fits v k
assigned_fits (Form-F.And x more) v h k = drop_fits v k
assigned_fits (Form-F.Or x more) v h k = drop_fits v k

-- ---- arms

arms_fit : (env : Env) (arms : List ArmPart) → Every ArmHas arms → AllFit (joined (map texts_of_arm (arms_core env arms)))
arms_fit env [] h = tt
arms_fit env (a ∷ arms) h =
    every_joined IsBytes _ _
    (subst AllFit
    (sym
    (arm_is Texts statement_texts arm_texts block_texts (record { condition = a.condition.core env; block = a.block.core env })))
    (every_joined IsBytes (texts_of (a.condition.core env)) (texts_of_block (a.block.core env)) (h.0.0.1.0 env) (h.0.1.1.0 env)))
    (arms_fit (further (length (a.block.locals env.scope)) env) arms h.1)

choice_fits : (env : Env) (arms : List ArmPart) (other : Option Piece) → Every ArmHas arms → Where PieceHas other →
    FitStatement
    (s.If (arms_core env arms) (option_map (λ b. b.core (further (length (locals_of_arms env.scope arms)) env)) other))
choice_fits env arms None h k =
    has (s.If (arms_core env arms) None) (Core-F.If (arms_core env arms) None) (s.rolls-If (arms_core env arms) None)
    (every_joined IsBytes (joined (map texts_of_arm (arms_core env arms))) [] (arms_fit env arms h) tt)
choice_fits env arms (Some b) h k =
    let inner : Env = further (length (locals_of_arms env.scope arms)) env in
    has (s.If (arms_core env arms) (Some (b.core inner))) (Core-F.If (arms_core env arms) (Some (b.core inner)))
    (s.rolls-If (arms_core env arms) (Some (b.core inner)))
    (every_joined IsBytes (joined (map texts_of_arm (arms_core env arms))) (texts_of_block (b.core inner)) (arms_fit env arms h)
    (k.1.0 inner))

-- ---- statements

two_fit : (env : Env) (p q : Part) → PartHas p → PartHas q → AllFit (texts_of (p.core env) ++ texts_of (q.core env))
two_fit env p q h k = every_joined IsBytes (texts_of (p.core env)) (texts_of (q.core env)) (h.1.0 env) (k.1.0 env)

pub statement_core_fits : (x : AStatement) → trees.StatementHas PartFits StatementFits PieceFits x → (env : Env) →
    FitStatement (core_of_statement x env)
statement_core_fits (Statement-F.LocalVariable name of None) h env =
    has (s.Declare env.count None) (Core-F.Declare env.count None) (s.rolls-Declare env.count None) tt
statement_core_fits (Statement-F.LocalVariable name of (Some x)) h env =
    has (s.Declare env.count (Some (x.core env))) (Core-F.Declare env.count (Some (x.core env)))
    (s.rolls-Declare env.count (Some (x.core env))) (h.1.0 env)
statement_core_fits (Statement-F.LocalConstant name of x) h env =
    has (s.Declare env.count (Some (x.core env))) (Core-F.Declare env.count (Some (x.core env)))
    (s.rolls-Declare env.count (Some (x.core env))) (h.1.0 env)
statement_core_fits (Statement-F.Assign x y) h env =
    assigned_fits (out-Expression (x.core env)) (y.core env)
    (subst AllFit (out_is Texts expression_texts link_texts addend_texts factor_texts (x.core env)) (h.0.1.0 env))
    (h.1.1.0 env)
statement_core_fits (Statement-F.Invoke x) h env =
    has (s.Drop (x.core env)) (Core-F.Drop (x.core env)) (s.rolls-Drop (x.core env)) (h.1.0 env)
statement_core_fits (Statement-F.Print x at) h env =
    has (s.Print (x.core env)) (Core-F.Print (x.core env)) (s.rolls-Print (x.core env)) (h.1.0 env)
statement_core_fits (Statement-F.If arms other at) h env = choice_fits env arms other h.0 h.1
statement_core_fits (Statement-F.Loop b at) h env =
    has (s.Loop (b.core (in_scope (in_a_loop env.scope) env))) (Core-F.Loop (b.core (in_scope (in_a_loop env.scope) env)))
    (s.rolls-Loop (b.core (in_scope (in_a_loop env.scope) env))) (h.1.0 (in_scope (in_a_loop env.scope) env))
statement_core_fits (Statement-F.Exit None at) h env = has (s.Exit None) (Core-F.Exit None) (s.rolls-Exit None) tt
statement_core_fits (Statement-F.Exit (Some x) at) h env =
    has (s.Exit (Some (x.core env))) (Core-F.Exit (Some (x.core env))) (s.rolls-Exit (Some (x.core env))) (h.1.0 env)
statement_core_fits (Statement-F.Return at) h env = has s.Return Core-F.Return s.rolls-Return tt
statement_core_fits (Statement-F.Assert x at) h env =
    has (s.Assert (x.core env) at.from) (Core-F.Assert (x.core env) at.from) (s.rolls-Assert (x.core env) at.from) (h.1.0 env)
statement_core_fits (Statement-F.Move x y at) h env =
    has (s.Move (x.core env) (y.core env) at.from) (Core-F.Move (x.core env) (y.core env) at.from)
    (s.rolls-Move (x.core env) (y.core env) at.from) (two_fit env x y h.0 h.1)
statement_core_fits (Statement-F.Fix x y at) h env =
    has (s.Fix (x.core env) (y.core env) at.from) (Core-F.Fix (x.core env) (y.core env) at.from)
    (s.rolls-Fix (x.core env) (y.core env) at.from) (two_fit env x y h.0 h.1)
statement_core_fits (Statement-F.Refix x y at) h env =
    has (s.Refix (x.core env) (y.core env) at.from) (Core-F.Refix (x.core env) (y.core env) at.from)
    (s.rolls-Refix (x.core env) (y.core env) at.from) (two_fit env x y h.0 h.1)
statement_core_fits (Statement-F.Unfix x at) h env =
    has (s.Unfix (x.core env) at.from) (Core-F.Unfix (x.core env) at.from) (s.rolls-Unfix (x.core env) at.from) (h.1.0 env)
statement_core_fits (Statement-F.Wait name at) h env =
    has (s.Wait (condition_named env name.text)) (Core-F.Wait (condition_named env name.text))
    (s.rolls-Wait (condition_named env name.text)) tt
statement_core_fits (Statement-F.Signal name at) h env =
    has (s.Signal (condition_named env name.text)) (Core-F.Signal (condition_named env name.text))
    (s.rolls-Signal (condition_named env name.text)) tt

-- ---- blocks

pub statements_fit : (xs : List StatementPart) → Every StatementFits xs → (env : Env) → Every FitStatement (statements_core xs env)
statements_fit [] h env = tt
statements_fit (x ∷ xs) h env = (h.0.0 env, statements_fit xs h.1 (behind env x))
