-- In a statement or a block of such parts each new object has its class.
use Rattle.std.proofs.Common.{◌≡◌, ℕ, List, [], ◌∷◌, ◌++◌, length, map, Option, Some, None, option_map, sym, ap, ◌∙◌, subst}
use Rattle.ec_ast.specs.declared.Expression.TheOpen.{Statement-F}
use Rattle.ec_base.specs.Stack.{top_of, below_of}
use Rattle.ec_check.proofs.Every.{Every, Where, every_joined, every_left, every_right}
use Rattle.ec_check.proofs.NumbersRolled.{expression_counted, expression_rolled, link_counted, statement_has, arm_rolled}
use Rattle.ec_check.proofs.NumbersRolled.{block_rolled}
use Rattle.ec_check.proofs.RangedChains.{chained_counted}
use Rattle.ec_check.specs.Numbers.{Begun, Condition, joined, if_there, in_expression, in_link, in_statement, in_arm}
use Rattle.ec_check.specs.Numbers.{in_block, expression_numbers, link_numbers}
use Rattle.ec_check.specs.Parts.{Part, Piece, StatementPart, ArmPart, AStatement, ABlock, Made, both_made}
use Rattle.ec_check.specs.Places.{Env, condition_named}
use Rattle.ec_check.specs.Resolving.{arms_core, arms_made, assigned, behind, chained, choice_core, core_of_statement}
use Rattle.ec_check.specs.Resolving.{element_set, element_set_if, further, in_scope, initially_made, locals_of_arms}
use Rattle.ec_check.specs.Resolving.{statement_made, statements_core, statements_made}
use Rattle.ec_check.specs.Tree.{statement_step, block_step}
use Rattle.ec_core.specs.declared.Addend.{Addend}
use Rattle.ec_core.specs.declared.Arm.{Arm, roll-Arm}
use Rattle.ec_core.specs.declared.Block.{Block}
use Rattle.ec_core.specs.declared.Class.{Class}
use Rattle.ec_core.specs.declared.Expression.{Expression, out-Expression, roll-out-Expression}
use Rattle.ec_core.specs.declared.Expression.TheOpen.{Expression-F as Form-F, Link-F as CoreLink-F}
use Rattle.ec_core.specs.declared.Factor.{Factor}
use Rattle.ec_core.specs.declared.Link.{Link, out-Link}
use Rattle.ec_core.specs.declared.Statement.{Statement}
use Rattle.ec_core.specs.declared.Statement.TheOpen.{Statement-F as Core-F}
use Rattle.ec_core.specs.declared.Statement.TheVariants as s
use Rattle.ec_core_laws.proofs.MakingChains.{link_is}
use Rattle.ec_core_laws.proofs.MakingParts.{IsThere, Taken, Makes, StatementMakes, PieceMakes, PartHas, ArmHas, PieceHas}
use Rattle.ec_core_laws.proofs.MakingParts.{StatementHas, first_taken, second_taken, none_make, both_make, same_make}
use Rattle.ec_core_laws.proofs.MakingParts.{one_more}
use Rattle.ec_rules.specs.Judging.{statement_part}
use Rattle.ec_types.specs.declared.scopes.scope.Scope.{Scope}
use Rattle.ec_types.specs.Scopes.{declaring, in_a_loop}

-- ---- what is assigned to

module _ (classes : List Class) where
  abbrev ExpressionThere : Expression → Type 0
  ExpressionThere x = Every (IsThere classes) (in_expression x)

  abbrev LinkThere : Link → Type 0
  LinkThere x = Every (IsThere classes) (in_link x)

  abbrev StatementThere : Statement → Type 0
  StatementThere x = Every (IsThere classes) (in_statement x)

  below_there : (xs : List Link) → Every (IsThere classes) (joined (map in_link xs)) →
      Every (IsThere classes) (joined (map in_link (below_of xs)))
  below_there [] h = tt
  below_there (x ∷ []) h = tt
  below_there (x ∷ y ∷ xs) h =
      every_joined (IsThere classes) (in_link x) (joined (map in_link (below_of (y ∷ xs))))
      (every_left (IsThere classes) (in_link x) (joined (map in_link (y ∷ xs))) h)
      (below_there (y ∷ xs) (every_right (IsThere classes) (in_link x) (joined (map in_link (y ∷ xs))) h))

  top_there : (xs : List Link) → Every (IsThere classes) (joined (map in_link xs)) → Where LinkThere (top_of xs)
  top_there [] h = tt
  top_there (x ∷ []) h = every_left (IsThere classes) (in_link x) [] h
  top_there (x ∷ y ∷ xs) h = top_there (y ∷ xs)
      (every_right (IsThere classes) (in_link x) (joined (map in_link (y ∷ xs))) h)

  drop_there : (v : Expression) → ExpressionThere v → StatementThere (s.Drop v)
  drop_there v h = subst (Every (IsThere classes)) (sym (statement_has (s.Drop v) (Core-F.Drop v) (s.rolls-Drop v))) h

  element_there : (vector : Expression) (x : CoreLink-F Expression Link Addend Factor) (v : Expression) →
      ExpressionThere vector →
      Every (IsThere classes) (link_numbers (link_counted x)) → ExpressionThere v → StatementThere (element_set vector x v)
  element_there vector (CoreLink-F.Element number of at) v h k g =
      subst (Every (IsThere classes))
      (sym
      (statement_has (s.SetElement vector number v at) (Core-F.SetElement vector number v at)
      (s.rolls-SetElement vector number v at)))
      (every_joined (IsThere classes) (in_expression vector) (in_expression number ++ in_expression v) h
      (every_joined (IsThere classes) (in_expression number) (in_expression v) k g))
  element_there vector (CoreLink-F.Invoke name arguments of at) v h k g = drop_there v g
  element_there vector (CoreLink-F.Call builtin arguments at) v h k g = drop_there v g

  element_if_there : (head : Expression) (before : List Link) (last : Option Link) (v : Expression) → ExpressionThere head →
      Every (IsThere classes) (joined (map in_link before)) → Where LinkThere last → ExpressionThere v →
      StatementThere (element_set_if head before last v)
  element_if_there head before None v h b k g = drop_there v g
  element_if_there head before (Some last) v h b k g =
      element_there (chained head before) (out-Link last) v
      (subst (Every (IsThere classes)) (sym (chained_counted head before))
      (every_joined (IsThere classes) (in_expression head) (joined (map in_link before)) h b))
      (subst (Every (IsThere classes)) (link_is last) k) g

  assigned_there : (t : Form-F Expression Link Addend Factor) (v : Expression) →
      Every (IsThere classes) (expression_numbers (expression_counted t)) → ExpressionThere v →
      StatementThere (assigned t v)
  assigned_there (Form-F.Read p) v h k =
      subst (Every (IsThere classes)) (sym (statement_has (s.Assign p v) (Core-F.Assign p v) (s.rolls-Assign p v))) (tt, k)
  assigned_there (Form-F.Chain head links) v h k =
      let later : Every (IsThere classes) (joined (map in_link links)) =
      every_right (IsThere classes) (in_expression head) (joined (map in_link links)) h in
      element_if_there head (below_of links) (top_of links) v
      (every_left (IsThere classes) (in_expression head) (joined (map in_link links)) h)
      (below_there links later) (top_there links later) k
  assigned_there (Form-F.Number n) v h k = drop_there v k
  assigned_there (Form-F.Literal text) v h k = drop_there v k
  assigned_there (Form-F.Truth b) v h k = drop_there v k
  assigned_there Form-F.Nil v h k = drop_there v k
  assigned_there Form-F.Itself v h k = drop_there v k
  assigned_there Form-F.NodeCount v h k = drop_there v k
  assigned_there (Form-F.NodeAt x at) v h k = drop_there v k
  assigned_there (Form-F.NewVector of x at) v h k = drop_there v k
  assigned_there (Form-F.Construct class places) v h k = drop_there v k
  assigned_there (Form-F.Create class arguments) v h k = drop_there v k
  assigned_there (Form-F.Negative x) v h k = drop_there v k
  assigned_there (Form-F.Not x) v h k = drop_there v k
  assigned_there (Form-F.View x of at) v h k = drop_there v k
  assigned_there (Form-F.IsFixed x at) v h k = drop_there v k
  assigned_there (Form-F.Term x more) v h k = drop_there v k
  assigned_there (Form-F.Sum x more) v h k = drop_there v k
  assigned_there (Form-F.Compare x op what y) v h k = drop_there v k
  assigned_there (Form-F.And x more) v h k = drop_there v k
  assigned_there (Form-F.Or x more) v h k = drop_there v k

expression_is : (x : Expression) → in_expression x ≡ expression_numbers (expression_counted (out-Expression x))
expression_is x = ap in_expression (sym (roll-out-Expression x)) ∙ expression_rolled (out-Expression x)

-- ---- arms

abbrev arm_core : Env → ArmPart → Arm
arm_core env a = roll-Arm (record { condition = a.condition.core env; block = a.block.core env })

abbrev arm_made : Scope → ArmPart → Made
arm_made scope a = both_made (a.condition.made scope) (a.block.made scope)

arm_makes : (classes : List Class) (env : Env) (a : ArmPart) → ArmHas a →
    Taken classes env.scope.globals (arm_made env.scope a).classes →
    Makes classes (in_arm (arm_core env a)) (arm_made env.scope a)
arm_makes classes env a h t =
    same_make (arm_rolled (record { condition = a.condition.core env; block = a.block.core env }))
    (both_make (in_expression (a.condition.core env)) (in_block (a.block.core env)) (a.condition.made env.scope)
    (a.block.made env.scope)
    (h.0.1 classes env (first_taken (a.condition.made env.scope).classes (a.block.made env.scope).classes t))
    (h.1.1 classes env (second_taken (a.condition.made env.scope).classes (a.block.made env.scope).classes t)))

arms_make : (classes : List Class) (env : Env) (arms : List ArmPart) → Every ArmHas arms →
    Taken classes env.scope.globals (arms_made env.scope arms).classes →
    Makes classes (joined (map in_arm (arms_core env arms))) (arms_made env.scope arms)
arms_make classes env [] h t = none_make
arms_make classes env (a ∷ arms) h t =
    let inner : Env = further (length (a.block.locals env.scope)) env in
    both_make (in_arm (arm_core env a)) (joined (map in_arm (arms_core inner arms))) (arm_made env.scope a)
    (arms_made env.scope arms)
    (arm_makes classes env a h.0 (first_taken (arm_made env.scope a).classes (arms_made env.scope arms).classes t))
    (arms_make classes inner arms h.1 (second_taken (arm_made env.scope a).classes (arms_made env.scope arms).classes t))

other_makes : (classes : List Class) (env : Env) (more : ℕ) (other : Option Piece) → Where PieceHas other →
    Taken classes env.scope.globals (initially_made env.scope other).classes →
    Makes classes (if_there (option_map in_block (option_map (λ b. b.core (further more env)) other)))
    (initially_made env.scope other)
other_makes classes env more None h t = none_make
other_makes classes env more (Some b) h t = h.1 classes (further more env) t

if_has : (arms : List Arm) (other : Option Block) →
    in_statement (s.If arms other) ≡ joined (map in_arm arms) ++ if_there (option_map in_block other)
if_has arms None = statement_has (s.If arms None) (Core-F.If arms None) (s.rolls-If arms None)
if_has arms (Some b) = statement_has (s.If arms (Some b)) (Core-F.If arms (Some b)) (s.rolls-If arms (Some b))

choice_makes : (classes : List Class) (env : Env) (arms : List ArmPart) (other : Option Piece) → Every ArmHas arms →
    Where PieceHas other →
    Taken classes env.scope.globals ((arms_made env.scope arms).classes ++ (initially_made env.scope other).classes) →
    Makes classes (in_statement (choice_core arms other env))
    (both_made (arms_made env.scope arms) (initially_made env.scope other))
choice_makes classes env arms other h k t =
    let more : ℕ = length (locals_of_arms env.scope arms) in
    let inner : Option Block = option_map (λ b. b.core (further more env)) other in
    same_make (if_has (arms_core env arms) inner)
    (both_make (joined (map in_arm (arms_core env arms))) (if_there (option_map in_block inner)) (arms_made env.scope arms)
    (initially_made env.scope other)
    (arms_make classes env arms h
    (first_taken (arms_made env.scope arms).classes (initially_made env.scope other).classes t))
    (other_makes classes env more other k
    (second_taken (arms_made env.scope arms).classes (initially_made env.scope other).classes t)))

-- ---- statements

two_make : (classes : List Class) (env : Env) (p q : Part) → PartHas p → PartHas q →
    Taken classes env.scope.globals ((p.made env.scope).classes ++ (q.made env.scope).classes) →
    Makes classes (in_expression (p.core env) ++ in_expression (q.core env))
    (both_made (p.made env.scope) (q.made env.scope))
two_make classes env p q h k t =
    both_make (in_expression (p.core env)) (in_expression (q.core env)) (p.made env.scope) (q.made env.scope)
    (h.1 classes env (first_taken (p.made env.scope).classes (q.made env.scope).classes t))
    (k.1 classes env (second_taken (p.made env.scope).classes (q.made env.scope).classes t))

declared_makes : (classes : List Class) (env : Env) (p : Part) → PartHas p →
    Taken classes env.scope.globals (p.made env.scope).classes →
    Makes classes (in_statement (s.Declare env.count (Some (p.core env)))) (p.made env.scope)
declared_makes classes env p h t =
    same_make
    (statement_has (s.Declare env.count (Some (p.core env))) (Core-F.Declare env.count (Some (p.core env)))
    (s.rolls-Declare env.count (Some (p.core env))))
    (one_more (Begun env.count) (in_expression (p.core env)) tt (h.1 classes env t))

assigned_makes : (classes : List Class) (env : Env) (p q : Part) → PartHas p → PartHas q →
    Taken classes env.scope.globals ((p.made env.scope).classes ++ (q.made env.scope).classes) →
    Makes classes (in_statement (assigned (out-Expression (p.core env)) (q.core env)))
    (both_made (p.made env.scope) (q.made env.scope))
assigned_makes classes env p q h k t =
    let done : Makes classes (in_expression (p.core env) ++ in_expression (q.core env))
    (both_made (p.made env.scope) (q.made env.scope)) = two_make classes env p q h k t in
    record {
      numbers =
          assigned_there classes (out-Expression (p.core env)) (q.core env)
          (subst (Every (IsThere classes)) (expression_is (p.core env))
          (every_left (IsThere classes) (in_expression (p.core env)) (in_expression (q.core env)) done.numbers))
          (every_right (IsThere classes) (in_expression (p.core env)) (in_expression (q.core env)) done.numbers);
      operations = done.operations;
      holders = done.holders;
    }

layer_makes : (x : AStatement) → StatementHas x → (classes : List Class) (env : Env) →
    Taken classes env.scope.globals (statement_made x env.scope).classes →
    Makes classes (in_statement (core_of_statement x env)) (statement_made x env.scope)
layer_makes (Statement-F.LocalVariable name of None) h classes env t =
    same_make (statement_has (s.Declare env.count None) (Core-F.Declare env.count None) (s.rolls-Declare env.count None))
    (one_more (Begun env.count) [] tt none_make)
layer_makes (Statement-F.LocalVariable name of (Some x)) h classes env t = declared_makes classes env x h t
layer_makes (Statement-F.LocalConstant name of x) h classes env t = declared_makes classes env x h t
layer_makes (Statement-F.Assign x y) h classes env t = assigned_makes classes env x y h.0 h.1 t
layer_makes (Statement-F.Invoke x) h classes env t =
    same_make (statement_has (s.Drop (x.core env)) (Core-F.Drop (x.core env)) (s.rolls-Drop (x.core env)))
    (h.1 classes env t)
layer_makes (Statement-F.Print x at) h classes env t =
    same_make (statement_has (s.Print (x.core env)) (Core-F.Print (x.core env)) (s.rolls-Print (x.core env)))
    (h.1 classes env t)
layer_makes (Statement-F.If arms other at) h classes env t = choice_makes classes env arms other h.0 h.1 t
layer_makes (Statement-F.Loop b at) h classes env t =
    let inner : Env = in_scope (in_a_loop env.scope) env in
    same_make (statement_has (s.Loop (b.core inner)) (Core-F.Loop (b.core inner)) (s.rolls-Loop (b.core inner)))
    (h.1 classes inner (record { known = t.known; within = t.within }))
layer_makes (Statement-F.Exit None at) h classes env t =
    same_make (statement_has (s.Exit None) (Core-F.Exit None) (s.rolls-Exit None)) none_make
layer_makes (Statement-F.Exit (Some x) at) h classes env t =
    same_make (statement_has (s.Exit (Some (x.core env))) (Core-F.Exit (Some (x.core env)))
    (s.rolls-Exit (Some (x.core env))))
    (h.1 classes env t)
layer_makes (Statement-F.Return at) h classes env t =
    same_make (statement_has s.Return Core-F.Return s.rolls-Return) none_make
layer_makes (Statement-F.Assert x at) h classes env t =
    same_make (statement_has (s.Assert (x.core env) at.from) (Core-F.Assert (x.core env) at.from)
    (s.rolls-Assert (x.core env) at.from))
    (h.1 classes env t)
layer_makes (Statement-F.Move x y at) h classes env t =
    same_make
    (statement_has (s.Move (x.core env) (y.core env) at.from) (Core-F.Move (x.core env) (y.core env) at.from)
    (s.rolls-Move (x.core env) (y.core env) at.from))
    (two_make classes env x y h.0 h.1 t)
layer_makes (Statement-F.Fix x y at) h classes env t =
    same_make
    (statement_has (s.Fix (x.core env) (y.core env) at.from) (Core-F.Fix (x.core env) (y.core env) at.from)
    (s.rolls-Fix (x.core env) (y.core env) at.from))
    (two_make classes env x y h.0 h.1 t)
layer_makes (Statement-F.Refix x y at) h classes env t =
    same_make
    (statement_has (s.Refix (x.core env) (y.core env) at.from) (Core-F.Refix (x.core env) (y.core env) at.from)
    (s.rolls-Refix (x.core env) (y.core env) at.from))
    (two_make classes env x y h.0 h.1 t)
layer_makes (Statement-F.Unfix x at) h classes env t =
    same_make (statement_has (s.Unfix (x.core env) at.from) (Core-F.Unfix (x.core env) at.from)
    (s.rolls-Unfix (x.core env) at.from))
    (h.1 classes env t)
layer_makes (Statement-F.Wait name at) h classes env t =
    let n : ℕ = condition_named env name.text in
    same_make (statement_has (s.Wait n) (Core-F.Wait n) (s.rolls-Wait n)) (one_more (Condition n) [] tt none_make)
layer_makes (Statement-F.Signal name at) h classes env t =
    let n : ℕ = condition_named env name.text in
    same_make (statement_has (s.Signal n) (Core-F.Signal n) (s.rolls-Signal n)) (one_more (Condition n) [] tt none_make)

pub statement_makes : (x : AStatement) → StatementHas x → StatementMakes (statement_step x)
unfolding statement_step statement_part
statement_makes x h classes env t = layer_makes x h classes env t

-- ---- blocks

statements_make : (xs : List StatementPart) → Every StatementMakes xs → (classes : List Class) (env : Env) →
    Taken classes env.scope.globals (statements_made xs env.scope).classes →
    Makes classes (joined (map in_statement (statements_core xs env))) (statements_made xs env.scope)
statements_make [] h classes env t = none_make
statements_make (x ∷ xs) h classes env t =
    let inner : Scope = declaring (x.part.declares env.scope) env.scope in
    both_make (in_statement (x.core env)) (joined (map in_statement (statements_core xs (behind env x)))) (x.made env.scope)
    (statements_made xs inner)
    (h.0 classes env (first_taken (x.made env.scope).classes (statements_made xs inner).classes t))
    (statements_make xs h.1 classes (behind env x)
    (second_taken (x.made env.scope).classes (statements_made xs inner).classes t))

pub block_makes : (b : ABlock) → Every StatementMakes b.statements → PieceMakes (block_step b)
unfolding block_step
block_makes b h classes env t =
    same_make (block_rolled (record { statements = statements_core b.statements env }))
    (statements_make b.statements h classes env t)
