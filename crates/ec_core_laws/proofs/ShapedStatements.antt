-- The core of a statement or a block is shaped, where the cores of its parts are.
use Rattle.std.proofs.Common.{◌≡◌, ℕ, ◌&&◌, Bool, true, List, [], ◌∷◌, length, map, Option, Some, None, option_map, refl, sym, ◌∙◌}
use Rattle.ec_ast.specs.declared.Expression.TheOpen.{Statement-F}
use Rattle.ec_base.specs.Stack.{top_of, below_of}
use Rattle.ec_check.proofs.Every.{Every, Where, first_holds, second_holds}
use Rattle.ec_check.proofs.WellValues.{both_hold}
use Rattle.ec_check.specs.Parts.{Part, Piece, StatementPart, ArmPart, AStatement}
use Rattle.ec_check.specs.Places.{Env, condition_named}
use Rattle.ec_check.specs.Resolving.{chained, element_set, element_set_if, assigned, further, in_scope, arms_core, locals_of_arms}
use Rattle.ec_check.specs.Resolving.{core_of_statement, behind, statements_core}
use Rattle.ec_core.specs.declared.Addend.{Addend}
use Rattle.ec_core.specs.declared.Arm.{Arm}
use Rattle.ec_core.specs.declared.Block.{Block}
use Rattle.ec_core.specs.declared.Expression.{Expression, out-Expression}
use Rattle.ec_core.specs.declared.Expression.TheOpen.{Expression-F as Form-F, Link-F as CoreLink-F}
use Rattle.ec_core.specs.declared.Factor.{Factor}
use Rattle.ec_core.specs.declared.Link.{Link, out-Link}
use Rattle.ec_core.specs.declared.Statement.{Statement, roll-Statement, map-Statement}
use Rattle.ec_core.specs.declared.Statement.TheOpen.{Statement-F as Core-F}
use Rattle.ec_core.specs.declared.Statement.TheVariants as s
use Rattle.ec_core_laws.proofs.Expressions.{out_is, link_out_is}
use Rattle.ec_core_laws.proofs.Statements.{statement_is, arm_is}
use Rattle.ec_core_laws.proofs.Scopes.{NamesFit}
use Rattle.ec_core_laws.proofs.ShapedExpressions.{layer_shaped, link_layer_shaped, chained_shaped}
use Rattle.ec_core_laws.proofs.ShapedParts.{StatementShaped, PartHas, ArmHas, PieceHas, StatementHas, each_shaped}
use Rattle.ec_core_laws.proofs.Shapes.{expression_shaped, link_shaped, addend_shaped, factor_shaped, shaped, shaped_link}
use Rattle.ec_core_laws.proofs.Shapes.{statement_shaped, arm_shaped, block_shaped, shaped_statement, shaped_arm, shaped_block}
use Rattle.ec_core_laws.proofs.Shapes.{IsShaped, IsShapedLink, IsShapedStatement}
use Rattle.ec_core_laws.specs.Formed.{all_formed}
use Rattle.ec_types.specs.Scopes.{in_a_loop}

module _ (types : ℕ) where
  pub has : (x : Statement) (y : Core-F Statement Arm Block) → roll-Statement y ≡ x →
      statement_shaped types
      (map-Statement Statement Arm Block Bool Bool Bool (shaped_statement types) (shaped_arm types) (shaped_block types) y) ≡ true →
      IsShapedStatement types x
  has x y r h = statement_is Bool (statement_shaped types) (arm_shaped types) (block_shaped types) x y r ∙ h

  -- ---- what is assigned to

  drop_shaped : (v : Expression) → IsShaped types v → IsShapedStatement types (s.Drop v)
  drop_shaped v h = has (s.Drop v) (Core-F.Drop v) (s.rolls-Drop v) h

  below_shaped : (xs : List Link) → Every (IsShapedLink types) xs → Every (IsShapedLink types) (below_of xs)
  below_shaped [] h = tt
  below_shaped (x ∷ []) h = tt
  below_shaped (x ∷ y ∷ xs) h = (h.0, below_shaped (y ∷ xs) h.1)

  top_shaped : (xs : List Link) → Every (IsShapedLink types) xs → Where (IsShapedLink types) (top_of xs)
  top_shaped [] h = tt
  top_shaped (x ∷ []) h = h.0
  top_shaped (x ∷ y ∷ xs) h = top_shaped (y ∷ xs) h.1

  element_shaped : (vector : Expression) (x : CoreLink-F Expression Link Addend Factor) (v : Expression) → IsShaped types vector →
      link_layer_shaped types x ≡ true → IsShaped types v → IsShapedStatement types (element_set vector x v)
  element_shaped vector (CoreLink-F.Element number of at) v h k g =
      has (s.SetElement vector number v at) (Core-F.SetElement vector number v at) (s.rolls-SetElement vector number v at)
      (both_hold (shaped types vector) (shaped types number && shaped types v) h
      (both_hold (shaped types number) (shaped types v) k g))
  element_shaped vector (CoreLink-F.Invoke name arguments of at) v h k g = drop_shaped v g
  element_shaped vector (CoreLink-F.Call builtin arguments at) v h k g = drop_shaped v g

  element_if_shaped : (head : Expression) (before : List Link) (last : Option Link) (v : Expression) → IsShaped types head →
      Every (IsShapedLink types) before → Where (IsShapedLink types) last → IsShaped types v →
      IsShapedStatement types (element_set_if head before last v)
  element_if_shaped head before None v h b k g = drop_shaped v g
  element_if_shaped head before (Some last) v h b k g =
      element_shaped (chained head before) (out-Link last) v (chained_shaped types head before h b)
      (sym (link_out_is Bool (expression_shaped types) (link_shaped types) (addend_shaped types) (factor_shaped types) last) ∙ k) g

  chain_assigned : (head : Expression) (links : List Link) (v : Expression) →
      layer_shaped types (Form-F.Chain head links) ≡ true → IsShaped types v →
      IsShapedStatement types (assigned (Form-F.Chain head links) v)
  chain_assigned head [] v h k = drop_shaped v k
  chain_assigned head (x ∷ xs) v h k =
      let later : Every (IsShapedLink types) (x ∷ xs) =
      each_shaped (shaped_link types) (x ∷ xs)
      (second_holds (shaped types head) (all_formed (map (shaped_link types) (x ∷ xs))) h) in
      element_if_shaped head (below_of (x ∷ xs)) (top_of (x ∷ xs)) v
      (first_holds (shaped types head) (all_formed (map (shaped_link types) (x ∷ xs))) h)
      (below_shaped (x ∷ xs) later) (top_shaped (x ∷ xs) later) k

  assigned_shaped : (t : Form-F Expression Link Addend Factor) (v : Expression) → layer_shaped types t ≡ true → IsShaped types v →
      IsShapedStatement types (assigned t v)
  assigned_shaped (Form-F.Read p) v h k = has (s.Assign p v) (Core-F.Assign p v) (s.rolls-Assign p v) k
  assigned_shaped (Form-F.Chain head links) v h k = chain_assigned head links v h k
  assigned_shaped (Form-F.Number n) v h k = drop_shaped v k
  assigned_shaped (Form-F.Literal text) v h k = drop_shaped v k
  assigned_shaped (Form-F.Truth b) v h k = drop_shaped v k
  assigned_shaped Form-F.Nil v h k = drop_shaped v k
  assigned_shaped Form-F.Itself v h k = drop_shaped v k
  assigned_shaped Form-F.NodeCount v h k = drop_shaped v k
  assigned_shaped (Form-F.NodeAt x at) v h k = drop_shaped v k
  assigned_shaped (Form-F.NewVector of x at) v h k = drop_shaped v k
  assigned_shaped (Form-F.Construct class places) v h k = drop_shaped v k
  assigned_shaped (Form-F.Create class arguments) v h k = drop_shaped v k
  assigned_shaped (Form-F.Negative x) v h k = drop_shaped v k
  assigned_shaped (Form-F.Not x) v h k = drop_shaped v k
  assigned_shaped (Form-F.View x of at) v h k = drop_shaped v k
  assigned_shaped (Form-F.IsFixed x at) v h k = drop_shaped v k
  assigned_shaped (Form-F.Term x more) v h k = drop_shaped v k
  assigned_shaped (Form-F.Sum x more) v h k = drop_shaped v k
  assigned_shaped (Form-F.Compare x op what y) v h k = drop_shaped v k
  assigned_shaped (Form-F.And x more) v h k = drop_shaped v k
  assigned_shaped (Form-F.Or x more) v h k = drop_shaped v k

  -- ---- arms

  arms_shaped : (env : Env) → NamesFit types env.scope → (arms : List ArmPart) → Every (ArmHas types) arms →
      all_formed (map (shaped_arm types) (arms_core env arms)) ≡ true
  arms_shaped env n [] h = refl
  arms_shaped env n (a ∷ arms) h =
      both_hold _ _
      (arm_is Bool (statement_shaped types) (arm_shaped types) (block_shaped types)
      (record { condition = a.condition.core env; block = a.block.core env })
      ∙ both_hold (shaped types (a.condition.core env)) (shaped_block types (a.block.core env)) (h.0.0.1.core env n)
      (h.0.1.1.core env n))
      (arms_shaped (further (length (a.block.locals env.scope)) env) n arms h.1)

  choice_shaped : (env : Env) → NamesFit types env.scope → (arms : List ArmPart) (other : Option Piece) →
      Every (ArmHas types) arms → Where (PieceHas types) other →
      IsShapedStatement types
      (s.If (arms_core env arms) (option_map (λ b. b.core (further (length (locals_of_arms env.scope arms)) env)) other))
  choice_shaped env n arms None h k =
      has (s.If (arms_core env arms) None) (Core-F.If (arms_core env arms) None) (s.rolls-If (arms_core env arms) None)
      (both_hold (all_formed (map (shaped_arm types) (arms_core env arms))) true (arms_shaped env n arms h) refl)
  choice_shaped env n arms (Some b) h k =
      let inner : Env = further (length (locals_of_arms env.scope arms)) env in
      has (s.If (arms_core env arms) (Some (b.core inner))) (Core-F.If (arms_core env arms) (Some (b.core inner)))
      (s.rolls-If (arms_core env arms) (Some (b.core inner)))
      (both_hold (all_formed (map (shaped_arm types) (arms_core env arms))) (shaped_block types (b.core inner))
      (arms_shaped env n arms h) (k.1.core inner n))

  -- ---- statements

  two_shaped : (env : Env) → NamesFit types env.scope → (p q : Part) → PartHas types p → PartHas types q →
      shaped types (p.core env) && shaped types (q.core env) ≡ true
  two_shaped env n p q h k =
      both_hold (shaped types (p.core env)) (shaped types (q.core env)) (h.1.core env n) (k.1.core env n)

  pub statement_core_shaped : (x : AStatement) → StatementHas types x → (env : Env) → NamesFit types env.scope →
      IsShapedStatement types (core_of_statement x env)
  statement_core_shaped (Statement-F.LocalVariable name of None) h env n =
      has (s.Declare env.count None) (Core-F.Declare env.count None) (s.rolls-Declare env.count None) refl
  statement_core_shaped (Statement-F.LocalVariable name of (Some x)) h env n =
      has (s.Declare env.count (Some (x.core env))) (Core-F.Declare env.count (Some (x.core env)))
      (s.rolls-Declare env.count (Some (x.core env))) (h.1.core env n)
  statement_core_shaped (Statement-F.LocalConstant name of x) h env n =
      has (s.Declare env.count (Some (x.core env))) (Core-F.Declare env.count (Some (x.core env)))
      (s.rolls-Declare env.count (Some (x.core env))) (h.1.core env n)
  statement_core_shaped (Statement-F.Assign x y) h env n =
      assigned_shaped (out-Expression (x.core env)) (y.core env)
      (sym (out_is Bool (expression_shaped types) (link_shaped types) (addend_shaped types) (factor_shaped types) (x.core env))
      ∙ h.0.1.core env n)
      (h.1.1.core env n)
  statement_core_shaped (Statement-F.Invoke x) h env n =
      has (s.Drop (x.core env)) (Core-F.Drop (x.core env)) (s.rolls-Drop (x.core env)) (h.1.core env n)
  statement_core_shaped (Statement-F.Print x at) h env n =
      has (s.Print (x.core env)) (Core-F.Print (x.core env)) (s.rolls-Print (x.core env)) (h.1.core env n)
  statement_core_shaped (Statement-F.If arms other at) h env n = choice_shaped env n arms other h.0 h.1
  statement_core_shaped (Statement-F.Loop b at) h env n =
      let inner : Env = in_scope (in_a_loop env.scope) env in
      has (s.Loop (b.core inner)) (Core-F.Loop (b.core inner)) (s.rolls-Loop (b.core inner)) (h.1.core inner n)
  statement_core_shaped (Statement-F.Exit None at) h env n = has (s.Exit None) (Core-F.Exit None) (s.rolls-Exit None) refl
  statement_core_shaped (Statement-F.Exit (Some x) at) h env n =
      has (s.Exit (Some (x.core env))) (Core-F.Exit (Some (x.core env))) (s.rolls-Exit (Some (x.core env))) (h.1.core env n)
  statement_core_shaped (Statement-F.Return at) h env n = has s.Return Core-F.Return s.rolls-Return refl
  statement_core_shaped (Statement-F.Assert x at) h env n =
      has (s.Assert (x.core env) at.from) (Core-F.Assert (x.core env) at.from) (s.rolls-Assert (x.core env) at.from) (h.1.core env n)
  statement_core_shaped (Statement-F.Move x y at) h env n =
      has (s.Move (x.core env) (y.core env) at.from) (Core-F.Move (x.core env) (y.core env) at.from)
      (s.rolls-Move (x.core env) (y.core env) at.from) (two_shaped env n x y h.0 h.1)
  statement_core_shaped (Statement-F.Fix x y at) h env n =
      has (s.Fix (x.core env) (y.core env) at.from) (Core-F.Fix (x.core env) (y.core env) at.from)
      (s.rolls-Fix (x.core env) (y.core env) at.from) (two_shaped env n x y h.0 h.1)
  statement_core_shaped (Statement-F.Refix x y at) h env n =
      has (s.Refix (x.core env) (y.core env) at.from) (Core-F.Refix (x.core env) (y.core env) at.from)
      (s.rolls-Refix (x.core env) (y.core env) at.from) (two_shaped env n x y h.0 h.1)
  statement_core_shaped (Statement-F.Unfix x at) h env n =
      has (s.Unfix (x.core env) at.from) (Core-F.Unfix (x.core env) at.from) (s.rolls-Unfix (x.core env) at.from) (h.1.core env n)
  statement_core_shaped (Statement-F.Wait name at) h env n =
      has (s.Wait (condition_named env name.text)) (Core-F.Wait (condition_named env name.text))
      (s.rolls-Wait (condition_named env name.text)) refl
  statement_core_shaped (Statement-F.Signal name at) h env n =
      has (s.Signal (condition_named env name.text)) (Core-F.Signal (condition_named env name.text))
      (s.rolls-Signal (condition_named env name.text)) refl

  -- ---- blocks

  pub statements_shaped : (xs : List StatementPart) → Every (StatementShaped types) xs → (env : Env) → NamesFit types env.scope →
      Every (IsShapedStatement types) (statements_core xs env)
  statements_shaped [] h env n = tt
  statements_shaped (x ∷ xs) h env n = (h.0.core env n, statements_shaped xs h.1 (behind env x) n)
