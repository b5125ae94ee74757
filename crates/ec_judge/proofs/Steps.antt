-- The steps of the walk as the code takes them: from what the calls find and leave behind to what the rules say.
use Rattle.std.proofs.Common.{◌≡◌, ℕ, Bool, true, false, List, [], ◌∷◌, ◌++◌, length, map, max, Option, Some, None, Result, Ok}
use Rattle.std.proofs.Common.{Err, refl, sym, ap, ◌∙◌, append_assoc, arith}
use Rattle.std.specs.Prelude.{is_some, option_map, OnOk}
use Rattle.std.proofs.lemmas.List.{append-nil}
use Rattle.ec_ast.specs.declared.Additive.{Additive}
use Rattle.ec_ast.specs.declared.Arm.{Arm, out-Arm}
use Rattle.ec_ast.specs.declared.Comparison.{Comparison}
use Rattle.ec_ast.specs.declared.Expression.{Expression}
use Rattle.ec_ast.specs.declared.Expression.TheOpen.{Expression-F, Statement-F}
use Rattle.ec_ast.specs.declared.Name.{Name}
use Rattle.ec_ast.specs.declared.Span.{Span}
use Rattle.ec_ast.specs.declared.Statement.{Statement}
use Rattle.ec_ast.specs.declared.TypeName.{TypeName}
use Rattle.ec_types.specs.Types.{known, number_at, vector_of}
use Rattle.ec_types.specs.declared.conform.static_type.Plain.TheVariants.{Named}
use Rattle.ec_types.specs.declared.conform.static_type.StaticType.TheVariants.{Plain}
use Rattle.ec_types.specs.declared.conform.static_type.StaticType.{StaticType}
use Rattle.ec_judge.specs.Blocks as blocks
use Rattle.ec_judge.specs.Blocks.{behind, behind_layer, over_part_if}
use Rattle.ec_judge.specs.Holders as holders
use Rattle.ec_judge.specs.Walks as spec
use Rattle.ec_judge.specs.Walks.{walked, noting, in_scope, over_finished, over_layer, over_operand, over_operands, over_part}
use Rattle.ec_judge.specs.Walks.{over_parts, looked}
use Rattle.ec_judge.specs.declared.walk.Looked.{Looked}
use Rattle.ec_judge.specs.declared.walk.Walk.{Walk}
use Rattle.ec_judge.proofs.Judged.{arm_behind}
use Rattle.ec_judge.proofs.Layers.{same_walked, sum_walk, compare_walk, term_walk, and_walk, or_walk}
use Rattle.ec_judge.proofs.Parts.{part_at}
use Rattle.ec_judge.proofs.Statements.{assign_walk, behind_by_layer, behind_undeclared, constant_walk, exit_walk}
use Rattle.ec_judge.proofs.Statements.{finished_by_layer, fix_walk, move_walk, refix_walk, variable_walk}
use Rattle.ec_judge.proofs.Bodies.{constant_field_walk, variable_field_walk}
use Rattle.ec_judge.proofs.Walks.{walk_of, walked_walked}
use Rattle.ec_rules.specs.Assignments.{assigned_form}
use Rattle.ec_types.specs.Names.{Text}
use Rattle.ec_rules.specs.Captures.{Use, captured, use_of}
use Rattle.ec_rules.specs.Forms.{Form}
use Rattle.ec_rules.specs.Heights.{chain_height}
use Rattle.ec_rules.specs.Judging.{entries_of, member_finished, statement_finished, type_of_sum, uses_within}
use Rattle.ec_rules.specs.Lists.{each, each_of, plus}
use Rattle.ec_rules.specs.Members.{constant_type}
use Rattle.ec_rules.specs.Names.{is_found, unknown_types}
use Rattle.ec_rules.specs.Nodes.{chain_nodes}
use Rattle.ec_rules.specs.Operands.{added_in, comparison_faults, must_conform_if, sum_faults, wants, wants_all}
use Rattle.ec_rules.specs.Parts.{AddendPart, ArmPart, AStatement, FactorPart, variable, constant, ObjectPart, Part, Piece}
use Rattle.ec_rules.specs.Parts.{faults_in, uses_in, value_in, values_in}
use Rattle.ec_rules.specs.Rules.{fault_unless, noted}
use Rattle.ec_rules.specs.Statements.{looped, piece_of_arm}
use Rattle.ec_rules.specs.Tree.{arm_of, block_of, part_of, statement_of, statement_layer}
use Rattle.ec_rules.specs.Types as kinds
use Rattle.ec_rules.specs.declared.Rule.TheVariants.{ExitOutside, Mismatch, UnknownName}
use Rattle.ec_rules.specs.declared.StaticFault.{StaticFault}
use Rattle.ec_rules.specs.declared.faults.Faults.{Faults}
use Rattle.ec_rules.specs.declared.judged.Added.{Added}
use Rattle.ec_rules.specs.declared.judged.Done.{Done}
use Rattle.ec_rules.specs.declared.judged.Judged.{Judged}
use Rattle.ec_rules.specs.declared.operands.Wanted.TheVariants as wanted
use Rattle.ec_rules.proofs.Equations.{arm_step}
use Rattle.ec_rules.proofs.Noted.{noted_joined}
use Rattle.ec_types.specs.Scopes.{declaring, find, in_a_loop, innermost, is_in_loop, looping, written_in}
use Rattle.ec_types.specs.declared.scopes.scope.Scope.{Scope}
use Rattle.ec_types.proofs.ScopesLemmas.{looping-loop}

-- ---- what holds of a result, where there is one

pub on_ok : {T E : Type 0} {P Q : Type 0} → (r : Result T E) → (P → Q) → OnOk r P → OnOk r Q
on_ok (Ok x) f p = f p
on_ok (Err e) f p = p

-- ---- an operand, and then faults

pub operand_noted : (w : Walk) (p : Part) (own : List StaticFault) → noting (over_part w p) own ≡ over_operand w p own
operand_noted w p own =
    walked_walked w (faults_in w.scope p) own (uses_in w.scope p) []
    ∙ same_walked w _ _ _ _ refl (append-nil (uses_in w.scope p))

pub behind_operand : (w v : Walk) (p : Part) (own : List StaticFault) (faults : Faults) → v ≡ over_part w p → faults ≡ noted v.faults own →
    walk_of v.scope faults v.uses ≡ over_operand w p own
unfolding walked
behind_operand w v p own faults e f =
    ap (walk_of v.scope faults) refl
    ∙ ap (λ x. walk_of v.scope x v.uses) f
    ∙ ap (λ (x : Walk). walk_of x.scope (noted x.faults own) x.uses) e
    ∙ ap (λ x. walk_of w.scope x (w.uses ++ uses_in w.scope p)) (noted_joined w.faults (faults_in w.scope p) own)

pub behind_operands : (w v : Walk) (ps : List Part) (own : List StaticFault) (faults : Faults) → v ≡ over_parts w ps →
    faults ≡ noted v.faults own →
    walk_of v.scope faults v.uses ≡ over_operands w ps own
unfolding walked
behind_operands w v ps own faults e f =
    ap (λ x. walk_of v.scope x v.uses) f
    ∙ ap (λ (x : Walk). walk_of x.scope (noted x.faults own) x.uses) e
    ∙ ap (λ x. walk_of w.scope x (w.uses ++ each (uses_in w.scope) ps)) (noted_joined w.faults (each (faults_in w.scope) ps) own)

pub part_scope : (w v : Walk) (p : Part) → v ≡ over_part w p → v.scope ≡ w.scope
unfolding walked
part_scope w v p e = ap (λ (x : Walk). x.scope) e

pub finished_scope : (w v : Walk) (faults : List StaticFault) (uses : List Use) → v ≡ walked w faults uses → v.scope ≡ w.scope
unfolding walked
finished_scope w v faults uses e = ap (λ (x : Walk). x.scope) e

-- ---- statements by their form

pub done_is : (x y : Statement) (l : AStatement) (scope : Scope) → x ≡ y → statement_layer y ≡ l →
    (statement_finished l scope).done ≡ ((statement_of x).finished scope).done
done_is x y l scope i j =
    ap (λ (k : AStatement). (statement_finished k scope).done) (sym (ap statement_layer i ∙ j))
    ∙ sym (ap (λ f. f.done) (finished_by_layer x scope))

pub walk_is : (w : Walk) (x y : Statement) (l : AStatement) → x ≡ y → statement_layer y ≡ l → behind_layer w l ≡ behind w (statement_of x)
walk_is w x y l i j = ap (behind_layer w) (sym (ap statement_layer i ∙ j)) ∙ sym (behind_by_layer w x)

-- of those that declare nothing
pub undeclared_is : (w : Walk) (x y : Statement) (l : AStatement) → entries_of l w.scope ≡ [] → x ≡ y → statement_layer y ≡ l →
    over_finished w (statement_finished l w.scope) ≡ behind w (statement_of x)
undeclared_is w x y l none i j = behind_undeclared w l none ∙ walk_is w x y l i j

-- ---- declarations

pub declared_constant : (w v u next : Walk) (p : Part) (name : Name) (of : Option TypeName) (form : Form) (found : Judged)
    (t : Option StaticType) →
    v ≡ over_part w p → found ≡ value_in w.scope p → form ≡ p.form →
    u ≡ noting v (blocks.constant_faults v.scope name of form found) → t ≡ constant_type v.scope of form →
    next ≡ in_scope u (declaring (record { name = name.text; of = t; is_variable = false } ∷ []) u.scope) →
    next ≡ behind_layer w (Statement-F.LocalConstant name of p)
unfolding walked
declared_constant w v u next p name of form found t e f g h k n = rw (n, k, h, f, g, e) (constant_walk w name of p)

pub declared_variable : (w v u next : Walk) (x : Option Part) (name : Name) (of : TypeName) (found : Option Judged) (t : StaticType) →
    v ≡ over_part_if w x → found ≡ option_map (value_in w.scope) x →
    u ≡ noting v (blocks.variable_faults v.scope name of found) → t ≡ written_in v.scope of →
    next ≡ in_scope u (declaring (record { name = name.text; of = Some t; is_variable = true } ∷ []) u.scope) →
    next ≡ behind_layer w (Statement-F.LocalVariable name of x)
unfolding walked
declared_variable w v u next None name of found t e f h k n = rw (n, k, h, f, e) (variable_walk w name of None)
declared_variable w v u next (Some p) name of found t e f h k n = rw (n, k, h, f, e) (variable_walk w name of (Some p))

-- ---- the other statements

pub left_loop : (w v next : Walk) (when : Option Part) (at : Span) (found : Option Judged) → v ≡ over_part_if w when →
    found ≡ option_map (value_in w.scope) when →
    next ≡ noting v (each_of (wants wanted.Boolean) found ++ fault_unless (is_in_loop v.scope) ExitOutside at) →
    next ≡ over_finished w (statement_finished (Statement-F.Exit when at) w.scope)
unfolding walked
left_loop w v next None at found e f n = rw (n, f, e) (exit_walk w None at)
left_loop w v next (Some p) at found e f n = rw (n, f, e) (exit_walk w (Some p) at)

pub looped_walk : (w end : Walk) (block : Piece) (first last : Scope) (was : Bool) → was ≡ is_in_loop w.scope → first ≡ in_a_loop w.scope →
    end ≡ over_finished (walk_of first w.faults w.uses) (block first) → last ≡ looping was end.scope →
    walk_of last end.faults end.uses ≡ over_finished w (looped block w.scope)
unfolding walked
looped_walk w end block first last was b f e l =
    let inner = block (in_a_loop w.scope) in
    rw (l, e, f, b) (ap (λ scope. walk_of scope (noted w.faults inner.faults) (w.uses ++ inner.uses)) (looping-loop w.scope))

module _ (w v : Walk) (p q : Part) (to : Judged) (e : v ≡ over_part w p) (t : to ≡ value_in w.scope p) where
  two_nodes : (a b : ℕ) → plus 1 (plus a b) ≡ plus 1 (plus a (plus b 0))
  two_nodes a b = omega arith

  no_variables : 0 ≡ plus 0 (plus 0 (plus 0 0))
  no_variables = omega arith

  abbrev done_with : ℕ → ℕ → ℕ → Done
  done_with height nodes variables = record { height = height; nodes = nodes; variables = variables }

  pub assigned_walk : (form : Form) → form ≡ p.form →
      over_operand v q (must_conform_if v.scope.table to.of (value_in v.scope q) ++ assigned_form v.scope form)
      ≡ over_finished w (statement_finished (Statement-F.Assign p q) w.scope)
  unfolding walked
  assigned_walk form f = rw (f, t, e) (assign_walk w p q)

  pub assigned_done : (form : Form) → form ≡ p.form →
      blocks.assigned form to (value_in v.scope q) ≡ (statement_finished (Statement-F.Assign p q) w.scope).done
  unfolding walked
  assigned_done form f =
      rw (f, t, e)
      (ap (λ n. done_with (blocks.assigned p.form (value_in w.scope p) (value_in w.scope q)).height n 0)
      (two_nodes (value_in w.scope p).nodes (value_in w.scope q).nodes)
      ∙ ap (done_with (blocks.assigned p.form (value_in w.scope p) (value_in w.scope q)).height
      (plus 1 (plus (value_in w.scope p).nodes (plus (value_in w.scope q).nodes 0)))) no_variables)

  moved_done : blocks.moved to (value_in v.scope q)
      ≡ done_with (blocks.moved (value_in w.scope p) (value_in w.scope q)).height
      (plus 1 (plus (value_in w.scope p).nodes (plus (value_in w.scope q).nodes 0))) (plus 0 (plus 0 (plus 0 0)))
  unfolding walked
  moved_done =
      rw (t, e)
      (ap (λ n. done_with (blocks.moved (value_in w.scope p) (value_in w.scope q)).height n 0)
      (two_nodes (value_in w.scope p).nodes (value_in w.scope q).nodes)
      ∙ ap (done_with (blocks.moved (value_in w.scope p) (value_in w.scope q)).height
      (plus 1 (plus (value_in w.scope p).nodes (plus (value_in w.scope q).nodes 0)))) no_variables)

  pub move_done : (at : Span) → blocks.moved to (value_in v.scope q) ≡ (statement_finished (Statement-F.Move p q at) w.scope).done
  move_done at = moved_done

  pub fix_done : (at : Span) → blocks.moved to (value_in v.scope q) ≡ (statement_finished (Statement-F.Fix p q at) w.scope).done
  fix_done at = moved_done

  pub refix_done : (at : Span) → blocks.moved to (value_in v.scope q) ≡ (statement_finished (Statement-F.Refix p q at) w.scope).done
  refix_done at = moved_done

  abbrev references : List StaticFault
  references = wants_all wanted.Reference (to ∷ value_in v.scope q ∷ [])

  pub moved_walk : (at : Span) → over_operand v q references ≡ over_finished w (statement_finished (Statement-F.Move p q at) w.scope)
  unfolding walked
  moved_walk at = rw (t, e) (move_walk w p q at)

  pub fixed_walk : (at : Span) → over_operand v q references ≡ over_finished w (statement_finished (Statement-F.Fix p q at) w.scope)
  unfolding walked
  fixed_walk at = rw (t, e) (fix_walk w p q at)

  pub refixed_walk : (at : Span) → over_operand v q references ≡ over_finished w (statement_finished (Statement-F.Refix p q at) w.scope)
  unfolding walked
  refixed_walk at = rw (t, e) (refix_walk w p q at)

-- what is assigned, where what is assigned to is known
pub assigned_operand : (w v : Walk) (p : Part) (form : Form) (to from : Judged) → v ≡ over_part w p → from ≡ value_in w.scope p →
    noting v (must_conform_if v.scope.table to.of from ++ assigned_form v.scope form)
    ≡ over_operand w p (must_conform_if w.scope.table to.of (value_in w.scope p) ++ assigned_form w.scope form)
unfolding walked
assigned_operand w v p form to from e f =
    rw (e, f) (operand_noted w p (must_conform_if w.scope.table to.of (value_in w.scope p) ++ assigned_form w.scope form))

-- ---- expressions by their form

abbrev pub looked_of : Span → Option StaticType → ℕ → ℕ → Looked
looked_of at of height nodes = record { at = at; of = of; height = height; nodes = nodes }

pub itself_walk : (needed : Bool) (w : Walk) (at : Span) →
    noting w (fault_unless (is_some (innermost w.scope)) UnknownName at) ≡ over_layer needed w (Expression-F.Itself at)
itself_walk needed w at = same_walked w _ _ _ _ (simp append-nil refl) refl

pub name_walk : (needed : Bool) (w : Walk) (name : Name) →
    walked w (fault_unless (is_found (find w.scope name.text)) UnknownName name.at) (use_of name (find w.scope name.text))
    ≡ over_layer needed w (Expression-F.Expression::Variable name)
name_walk needed w name = same_walked w _ _ _ _ (simp append-nil refl) refl

module _ (w v : Walk) (x : Expression) (head : Judged) (needed : Bool) (e : v ≡ over_part w (part_of x))
    (h : head ≡ value_in w.scope (part_of x)) where
  abbrev first : Judged
  first = value_in w.scope (part_of x)

  pub term_looked : (factors : List FactorPart) →
      spec.chained (Some kinds.integer) head (map (λ f. value_in v.scope f.value) factors) ≡ looked needed w.scope
      (Expression-F.Term (part_of x) factors)
  unfolding walked
  term_looked factors =
      let more = map (λ f. value_in w.scope f.value) factors in
      rw (h, e) (ap (λ at. looked_of at (Some kinds.integer) (chain_height first more) (chain_nodes first more)) (part_at x w.scope))

  pub term_walked : (factors : List FactorPart) →
      over_operands v (map (λ f. f.value) factors) (wants_all wanted.Integer (head ∷ map (λ f. value_in v.scope f.value) factors))
      ≡ over_layer needed w (Expression-F.Term (part_of x) factors)
  unfolding walked
  term_walked factors =
      ap (λ (t : Walk). over_operands t (map (λ f. f.value) factors)
      (wants_all wanted.Integer (head ∷ map (λ f. value_in t.scope f.value) factors))) e
      ∙ ap (λ hd. over_operands (over_part w (part_of x)) (map (λ f. f.value) factors)
      (wants_all wanted.Integer (hd ∷ map (λ f. value_in w.scope f.value) factors))) h
      ∙ term_walk w (part_of x) needed factors

  pub sum_looked : (addends : List AddendPart) →
      spec.chained (type_of_sum head.of addends) head (map (λ a. value_in v.scope a.value) addends) ≡ looked needed w.scope
      (Expression-F.Sum (part_of x) addends)
  unfolding walked
  sum_looked addends =
      let more = map (λ a. value_in w.scope a.value) addends in
      rw (h, e) (ap (λ at. looked_of at (type_of_sum first.of addends) (chain_height first more) (chain_nodes first more))
      (part_at x w.scope))

  pub sum_walked : (addends : List AddendPart) →
      over_operands v (map (λ a. a.value) addends) (sum_faults head.at head.is_clean head.of (map (added_in v.scope) addends))
      ≡ over_layer needed w (Expression-F.Sum (part_of x) addends)
  unfolding walked
  sum_walked addends = rw (h, e) (sum_walk w (part_of x) needed addends (part_at x w.scope))

  pub compare_looked : (op : Comparison) (at : Span) (q : Part) →
      spec.compared head (value_in v.scope q) ≡ looked needed w.scope (Expression-F.Compare (part_of x) op at q)
  unfolding walked
  compare_looked op at q =
      let c = spec.compared first (value_in w.scope q) in
      rw (h, e) (ap (λ place. looked_of place c.of c.height c.nodes) (part_at x w.scope))

  pub compare_walked : (op : Comparison) (at : Span) (q : Part) →
      over_operand v q (comparison_faults op head (value_in v.scope q)) ≡ over_layer needed w (Expression-F.Compare (part_of x) op at q)
  unfolding walked
  compare_walked op at q = rw (h, e) (compare_walk w (part_of x) needed op at q)

  pub and_looked : (more : List Part) → spec.joined head (values_in v.scope more) ≡ looked needed w.scope
      (Expression-F.And (part_of x) more)
  unfolding walked
  and_looked more =
      let c = spec.joined first (values_in w.scope more) in
      ap (λ (t : Walk). spec.joined head (values_in t.scope more)) e
      ∙ ap (λ hd. spec.joined hd (values_in w.scope more)) h
      ∙ ap (λ place. looked_of place c.of c.height c.nodes) (part_at x w.scope)

  pub and_walked : (more : List Part) →
      over_operands v more (wants_all wanted.Boolean (head ∷ values_in v.scope more)) ≡ over_layer needed w
      (Expression-F.And (part_of x) more)
  unfolding walked
  and_walked more =
      ap (λ (t : Walk). over_operands t more (wants_all wanted.Boolean (head ∷ values_in t.scope more))) e
      ∙ ap (λ hd. over_operands (over_part w (part_of x)) more (wants_all wanted.Boolean (hd ∷ values_in w.scope more))) h
      ∙ and_walk w (part_of x) needed more

  pub or_looked : (more : List Part) → spec.joined head (values_in v.scope more) ≡ looked needed w.scope (Expression-F.Or (part_of x) more)
  unfolding walked
  or_looked more =
      let c = spec.joined first (values_in w.scope more) in
      ap (λ (t : Walk). spec.joined head (values_in t.scope more)) e
      ∙ ap (λ hd. spec.joined hd (values_in w.scope more)) h
      ∙ ap (λ place. looked_of place c.of c.height c.nodes) (part_at x w.scope)

  pub or_walked : (more : List Part) →
      over_operands v more (wants_all wanted.Boolean (head ∷ values_in v.scope more)) ≡ over_layer needed w
      (Expression-F.Or (part_of x) more)
  unfolding walked
  or_walked more =
      ap (λ (t : Walk). over_operands t more (wants_all wanted.Boolean (head ∷ values_in t.scope more))) e
      ∙ ap (λ hd. over_operands (over_part w (part_of x)) more (wants_all wanted.Boolean (hd ∷ values_in w.scope more))) h
      ∙ or_walk w (part_of x) needed more

module _ (w v : Walk) (p : Part) (of : TypeName) (at : Span) (found : Judged) (e : v ≡ over_part w p) (f : found ≡ value_in w.scope p) where
  pub new_vector_found : (word : Span) (made : Option StaticType) (nodes : ℕ) →
      made ≡ known (vector_of (written_in v.scope of)) → nodes ≡ plus 1 found.nodes →
      looked_of at made found.height nodes ≡ looked true w.scope (Expression-F.NewVector of p at word)
  unfolding walked
  new_vector_found word made nodes m n = rw (n, m, f, e) refl

  pub view_found : (seen : Option StaticType) (nodes : ℕ) → seen ≡ known (written_in v.scope of) → nodes ≡ plus 1 found.nodes →
      looked_of at seen found.height nodes ≡ looked true w.scope (Expression-F.View p of at)
  unfolding walked
  view_found seen nodes m n = rw (n, m, f, e) refl

  pub new_vector_walked : (word : Span) (next : Walk) → next ≡ noting v (unknown_types v.scope.table of ++ wants wanted.Integer found) →
      next ≡ over_layer true w (Expression-F.NewVector of p at word)
  unfolding walked
  new_vector_walked word next n =
      rw (n, f, e)
      (walked_walked w (faults_in w.scope p) (unknown_types w.scope.table of ++ wants wanted.Integer (value_in w.scope p))
      (uses_in w.scope p) []
      ∙ same_walked w _ _ _ _ (simp (append-nil, append_assoc) refl) (simp append-nil refl))

  pub view_walked : (next : Walk) →
      next ≡ noting v (unknown_types v.scope.table of ++ (wants wanted.Reference found ++ fault_unless
      (kinds.fits wanted.Reference (known (written_in v.scope of))) Mismatch (kinds.type_place of))) →
      next ≡ over_layer true w (Expression-F.View p of at)
  unfolding walked
  view_walked next n =
      rw (n, f, e)
      (walked_walked w (faults_in w.scope p) (unknown_types w.scope.table
      of ++ (wants wanted.Reference (value_in w.scope p) ++ fault_unless
      (kinds.fits wanted.Reference (known (written_in w.scope of))) Mismatch (kinds.type_place of))) (uses_in w.scope p) []
      ∙ same_walked w _ _ _ _ (simp (append-nil, append_assoc) refl) (simp append-nil refl))

-- ---- arms

module _ (w v : Walk) (arm : Arm) (found : Judged) (e : v ≡ over_part w (part_of (out-Arm arm).condition))
    (f : found ≡ value_in w.scope (part_of (out-Arm arm).condition)) where
  pub arm_walked : (end : Walk) (faults : Faults) → faults ≡ noted v.faults (wants wanted.Boolean found) →
      end ≡ over_finished (walk_of v.scope faults v.uses) (block_of (out-Arm arm).block v.scope) →
      end ≡ over_finished w (piece_of_arm (arm_of arm) w.scope)
  unfolding walked
  arm_walked end faults g n =
      let p = part_of (out-Arm arm).condition in
      let block = block_of (out-Arm arm).block in
      n
      ∙ ap (λ x. over_finished (walk_of v.scope x v.uses) (block v.scope)) (g ∙ ap (λ x. noted v.faults (wants wanted.Boolean x)) f)
      ∙ ap (λ (t : Walk). over_finished (walk_of t.scope (noted t.faults (wants wanted.Boolean (value_in w.scope p))) t.uses)
      (block t.scope)) e
      ∙ arm_behind w p (wants wanted.Boolean (value_in w.scope p)) (block w.scope)
      ∙ ap (λ (a : ArmPart). over_finished w (piece_of_arm a w.scope)) (sym (arm_step arm))

  pub arm_done : (d : Done) → d ≡ (block_of (out-Arm arm).block v.scope).done →
      blocks.tested found d ≡ (piece_of_arm (arm_of arm) w.scope).done
  unfolding walked
  arm_done d h =
      let p = part_of (out-Arm arm).condition in
      let block = block_of (out-Arm arm).block in
      ap (λ x. blocks.tested x d) f
      ∙ ap (blocks.tested (value_in w.scope p)) (h ∙ ap (λ (t : Walk). (block t.scope).done) e)
      ∙ ap (λ (a : ArmPart). (piece_of_arm a w.scope).done) (sym (arm_step arm))

-- ---- object constructors

abbrev pub added_of : Additive → Judged → Added
added_of operator value = record { operator = operator; value = value }

max_comm : (a b : ℕ) → max a b ≡ max b a
max_comm a b = omega arith

pub object_found : (w v : Walk) (o : ObjectPart) (captures : List Text) (number len height : ℕ) → v ≡ holders.over_holder w o.holder →
    captures ≡ captured (uses_within w.scope o.holder) → number ≡ number_at v.scope.table.places o.holder.name.at.from →
    len ≡ length captures → height ≡ max len 1 →
    looked_of o.at (Some (Plain (Named number))) height 1 ≡ looked true w.scope (Expression-F.Constructor o)
unfolding walked
object_found w v o captures number len height e c n l h =
    ap (λ x. looked_of o.at (Some (Plain (Named number))) x 1)
    (h ∙ ap (λ x. max x 1) (l ∙ ap length c) ∙ max_comm (length (captured (uses_within w.scope o.holder))) 1)
    ∙ ap (λ x. looked_of o.at (Some (Plain (Named x))) (max 1 (length (captured (uses_within w.scope o.holder)))) 1)
    (n ∙ ap (λ (t : Walk). number_at t.scope.table.places o.holder.name.at.from) e)

-- ---- fields

pub variable_fielded : (w v next : Walk) (is_monitored is_attached : Bool) (name : Name) (of : TypeName) (x : Option Part)
    (found : Option Judged) →
    v ≡ over_part_if w x → found ≡ option_map (value_in w.scope) x →
    next ≡ noting v (holders.variable_faults v.scope is_attached name of found) →
    next ≡ over_finished w (member_finished w.scope is_monitored (variable is_attached name of x))
unfolding walked
variable_fielded w v next is_monitored is_attached name of None found e f n =
    rw (n, f, e) (variable_field_walk w is_monitored is_attached name of None)
variable_fielded w v next is_monitored is_attached name of (Some p) found e f n =
    rw (n, f, e) (variable_field_walk w is_monitored is_attached name of (Some p))

pub constant_fielded : (w v next : Walk) (is_monitored is_attached : Bool) (name : Name) (of : Option TypeName) (p : Part) (form : Form)
    (found : Judged) →
    v ≡ over_part w p → found ≡ value_in w.scope p → form ≡ p.form →
    next ≡ noting v (holders.constant_faults v.scope is_attached name of form found) →
    next ≡ over_finished w (member_finished w.scope is_monitored (constant is_attached name of p))
unfolding walked
constant_fielded w v next is_monitored is_attached name of p form found e f g n =
    rw (n, f, g, e) (constant_field_walk w is_monitored is_attached name of p)
