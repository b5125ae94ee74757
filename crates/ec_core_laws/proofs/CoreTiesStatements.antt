-- The core of a statement or a block of parts that are tied is tied to its tree.
use Rattle.std.proofs.Common.{◌≡◌, ℕ, ◌+◌, ◌≤◌, Bool, true, false, List, [], ◌∷◌, ◌++◌, length, map, Option, Some, None, option_map}
use Rattle.std.proofs.Common.{refl, sym, ap, ◌∙◌, subst, arith}
use Rattle.std.proofs.lemmas.List.{length-append, length-map}
use Rattle.ec_ast.specs.declared.Arm.{Arm, roll-Arm, out-Arm, roll-out-Arm}
use Rattle.ec_ast.specs.declared.Block.{Block, roll-Block}
use Rattle.ec_ast.specs.declared.Expression.{Expression}
use Rattle.ec_ast.specs.declared.Expression.TheOpen.{Statement-F}
use Rattle.ec_ast.specs.declared.Span.{Span}
use Rattle.ec_ast.specs.declared.Statement.{Statement, roll-Statement, out-Statement, roll-out-Statement}
use Rattle.ec_ast.specs.declared.Statement.TheVariants as tree
use Rattle.ec_base.specs.Stack.{top_of, below_of}
use Rattle.ec_check.proofs.Equations.{arm_step_of}
use Rattle.ec_check.proofs.Every.{Every, Where, none_left, none_right, not_both}
use Rattle.ec_check.proofs.FittingScopes.{locals_changed, locals_declared}
use Rattle.ec_check.proofs.Fusion.{same_statement}
use Rattle.ec_check.proofs.KnownTypes.{test_holds}
use Rattle.ec_check.proofs.Rolled.{ArmLayer, StatementLayer, BlockLayer, statement_mapped, block_mapped, statement_rolled, block_rolled}
use Rattle.ec_check.specs.Layers.{statement_judged}
use Rattle.ec_check.specs.Parts.{Made, both_made, Piece, StatementPart, ArmPart, arm_judged}
use Rattle.ec_check.specs.Places.{Env}
use Rattle.ec_check.specs.Resolving.{chained, element_set, element_set_if, assigned, further, in_scope, arms_core, locals_of_arms}
use Rattle.ec_check.specs.Resolving.{choice_core, core_of_statement}
use Rattle.ec_check.specs.Resolving.{locals_of_block, locals_of, behind, statements_core, locals_of_statements, statements_made}
use Rattle.ec_check.specs.Resolving.{arms_made, initially_made, statement_made}
use Rattle.ec_check.specs.Tree.{part_of, statement_of, arm_of, block_of, statement_step, block_step, arm_step}
use Rattle.ec_core.specs.declared.Addend.{Addend as CoreAddend}
use Rattle.ec_core.specs.declared.Expression.{Expression as CoreExpression, roll-Expression, out-Expression, out-roll-Expression}
use Rattle.ec_core.specs.declared.Expression.{roll-out-Expression}
use Rattle.ec_core.specs.declared.Expression.TheOpen.{Expression-F as Core-F, Link-F as CoreLink-F}
use Rattle.ec_core.specs.declared.Expression.TheVariants as e
use Rattle.ec_core.specs.declared.Factor.{Factor as CoreFactor}
use Rattle.ec_core.specs.declared.Link.{Link as CoreLink, roll-Link, out-Link, roll-out-Link}
use Rattle.ec_core.specs.declared.Link.TheVariants as l
use Rattle.ec_core.specs.declared.Place.{Place}
use Rattle.ec_core.specs.declared.Statement.TheVariants as s
use Rattle.ec_core_laws.proofs.Holders.{constant_is_typed}
use Rattle.ec_core_laws.proofs.Naming.{Fit, condition_is}
use Rattle.ec_core_laws.proofs.Ready.{Ready, first_ready, second_ready, ready_within, same_ready, PartTied, StatementTied}
use Rattle.ec_core_laws.proofs.Ready.{BlockTied, each_joined}
use Rattle.ec_core_laws.proofs.Targets.{target_is, is_index, ends_in_index, is_target}
use Rattle.ec_core_laws.proofs.CoreTiesTrees as trees
use Rattle.ec_core_laws.specs.Names.{numbered}
use Rattle.ec_core_laws.specs.Names as names
use Rattle.ec_core_laws.specs.Ties as ties
use Rattle.ec_core_laws.specs.Ties.{TiedExpression, TiedStatement, TiedBlock, AreArms, IsElse, AreStatements}
use Rattle.ec_types.specs.Names.{Text}
use Rattle.ec_rules.specs.Captures.{Use}
use Rattle.ec_rules.specs.Judging.{block_finished, entries_of, statement_finished, statement_part}
use Rattle.ec_rules.specs.Lists.{each}
use Rattle.ec_rules.specs.Operands.{wants}
use Rattle.ec_rules.specs.Parts as judged
use Rattle.ec_rules.specs.Statements.{piece_of_arm, pieces_of_block}
use Rattle.ec_rules.specs.Tree as judged_tree
use Rattle.ec_rules.specs.declared.StaticFault.{StaticFault}
use Rattle.ec_rules.specs.declared.operands.Wanted.TheVariants as wanted
use Rattle.ec_types.specs.declared.scopes.entries.Entry.{Entry}
use Rattle.ec_types.specs.declared.scopes.scope.Scope.{Scope}
use Rattle.ec_types.specs.Scopes.{at_loop, declaring, in_a_loop, innermost}
use Rattle.ec_types.specs.Scopes as scopes

-- ---- the parts of a statement

abbrev uses_of : Bool → Env → Expression → List Use
uses_of needed env x = ((part_of x).part.judged needed env.scope).uses

abbrev faults_of : Bool → Env → Expression → List StaticFault
faults_of needed env x = ((part_of x).part.judged needed env.scope).faults

abbrev Tied : Env → Expression → Type 0
Tied env x = TiedExpression env x ((part_of x).core env) ((part_of x).made env.scope)

one : (needed : Bool) (env : Env) (x : Expression) (own : List StaticFault) → PartTied x →
    Ready env (uses_of needed env x ++ []) ((faults_of needed env x ++ []) ++ own) → Tied env x
one needed env x own h r =
    h needed env (first_ready (uses_of needed env x) [] (faults_of needed env x) [] (ready_within (faults_of needed env x ++ []) own r))

abbrev ReadyTwo : Env → Expression → Expression → List StaticFault → Type 0
ReadyTwo env x y own =
    Ready env (uses_of true env x ++ (uses_of true env y ++ [])) ((faults_of true env x ++ (faults_of true env y ++ [])) ++ own)

first_of_two : (env : Env) (x y : Expression) (own : List StaticFault) → PartTied x → ReadyTwo env x y own → Tied env x
first_of_two env x y own h r =
    h true env
    (first_ready (uses_of true env x) (uses_of true env y ++ []) (faults_of true env x) (faults_of true env y ++ [])
    (ready_within (faults_of true env x ++ (faults_of true env y ++ [])) own r))

second_of_two : (env : Env) (x y : Expression) (own : List StaticFault) → PartTied y → ReadyTwo env x y own → Tied env y
second_of_two env x y own h r =
    h true env
    (first_ready (uses_of true env y) [] (faults_of true env y) []
    (second_ready (uses_of true env x) (uses_of true env y ++ []) (faults_of true env x) (faults_of true env y ++ [])
    (ready_within (faults_of true env x ++ (faults_of true env y ++ [])) own r)))

-- ---- assignments

abbrev CoreLayer : Type 0
CoreLayer = Core-F CoreExpression CoreLink CoreAddend CoreFactor

module _ (env : Env) (x z : Expression) (m n : Made) (w : CoreExpression) (value : TiedExpression env z w n)
    (y : CoreExpression) (target : is_target (out-Expression y) ≡ true) where
  abbrev Becomes : CoreLayer → Type 0
  Becomes t = TiedExpression env x y m → TiedStatement env (tree.Assign x z) (assigned t w) [] (both_made m n)

  -- no core of a target has such a layer
  no_target : {A : Type 0} (t : CoreLayer) → roll-Expression t ≡ y → is_target t ≡ false → A
  no_target t is none =
      not_both
      (sym none
      ∙ (ap is_target (sym (out-roll-Expression t)) ∙ (ap (λ y. is_target (out-Expression y)) is ∙ target)))

  place_set : (at : Place) → roll-Expression (Core-F.Read at) ≡ y → Becomes (Core-F.Read at)
  place_set at is h = ties.assign (subst (λ y. TiedExpression env x y m) (sym is ∙ e.rolls-Read at) h) value

  element_set_is : (head : CoreExpression) (links : List CoreLink) (last : CoreLink)
      (k : CoreLink-F CoreExpression CoreLink CoreAddend CoreFactor) →
      roll-Expression (Core-F.Chain head links) ≡ y → top_of links ≡ Some last → out-Link last ≡ k → TiedExpression env x y m →
      TiedStatement env (tree.Assign x z) (element_set (chained head (below_of links)) k w) [] (both_made m n)
  element_set_is head links last (CoreLink-F.Element number of at) is top out h =
      subst (λ v. TiedStatement env (tree.Assign x z) (s.SetElement v number w at) [] (both_made m n)) (with_links_is head (below_of links))
      (ties.set_element head links of (subst (λ y. TiedExpression env x y m) (sym is ∙ e.rolls-Chain head links) h)
      (top ∙ ap Some (sym (roll-out-Link last) ∙ (ap roll-Link out ∙ l.rolls-Element number of at))) value)
    where
      with_links_is : (y : CoreExpression) (ks : List CoreLink) → ties.with_links y ks ≡ chained y ks
      with_links_is y [] = refl
      with_links_is y (k ∷ ks) = refl
  element_set_is head links last (CoreLink-F.Invoke name arguments of at) is top out h =
      no_target (Core-F.Chain head links) is (ap ends_in_index top ∙ ap is_index out)
  element_set_is head links last (CoreLink-F.Call builtin arguments at) is top out h =
      no_target (Core-F.Chain head links) is (ap ends_in_index top ∙ ap is_index out)

  last_set : (head : CoreExpression) (links : List CoreLink) (last : Option CoreLink) → roll-Expression (Core-F.Chain head links) ≡ y →
      top_of links ≡ last → TiedExpression env x y m →
      TiedStatement env (tree.Assign x z) (element_set_if head (below_of links) last w) [] (both_made m n)
  last_set head links None is top h = no_target (Core-F.Chain head links) is (ap ends_in_index top)
  last_set head links (Some last) is top h = element_set_is head links last (out-Link last) is top refl h

  becomes : (t : CoreLayer) → roll-Expression t ≡ y → Becomes t
  becomes (Core-F.Read at) is h = place_set at is h
  becomes (Core-F.Chain head links) is h = last_set head links (top_of links) is refl h
  becomes t is h = no_target t is refl

-- ---- blocks within a statement

abbrev piece_uses : Scope → judged.Piece → List Use
piece_uses scope piece = (piece scope).uses

abbrev piece_faults : Scope → judged.Piece → List StaticFault
piece_faults scope piece = (piece scope).faults

abbrev ArmTied : Arm → Type 0
ArmTied = trees.TreeArmHas PartTied StatementTied BlockTied

abbrev ReadyArms : Env → List ArmPart → Type 0
ReadyArms env arms =
    Ready env (each (piece_uses env.scope) (map piece_of_arm (map arm_judged arms)))
    (each (piece_faults env.scope) (map piece_of_arm (map arm_judged arms)))

ready_further : {env : Env} {us : List Use} {fs : List StaticFault} (more : ℕ) → Ready env us fs → Ready (further more env) us fs
ready_further more r = record { fit = r.fit; reach = r.reach; faultless = r.faultless }

abbrev FirstArm : Env → List Arm → Arm → ArmPart → Type 0
FirstArm env xs x a =
    ReadyArms env (a ∷ map arm_of xs) →
    AreArms env (x ∷ xs) (arms_core env (a ∷ map arm_of xs)) (locals_of_arms env.scope (a ∷ map arm_of xs))
    (arms_made env.scope (a ∷ map arm_of xs))

first_arm : (env : Env) (xs : List Arm) (a : ArmLayer) → PartTied a.condition → BlockTied a.block →
    ((at : Env) → ReadyArms at (map arm_of xs) →
    AreArms at xs (arms_core at (map arm_of xs)) (locals_of_arms at.scope (map arm_of xs)) (arms_made at.scope (map arm_of xs))) →
    FirstArm env xs (roll-Arm a) (arm_step (record { condition = part_of a.condition; block = block_of a.block }))
first_arm env xs a h k later q =
    let condition : judged.Judgement = (part_of a.condition).part.judged true env.scope in
    let block : judged.Finished = (block_of a.block).piece env.scope in
    let own : Ready env (condition.uses ++ block.uses) (condition.faults ++ (wants wanted.Boolean condition.value ++ block.faults)) =
    first_ready _ _ _ _ q in
    ties.arm (h true env
    (first_ready condition.uses block.uses condition.faults (wants wanted.Boolean condition.value ++ block.faults) own))
    (k env
    (ready_behind (wants wanted.Boolean condition.value) block.faults
    (second_ready condition.uses block.uses condition.faults (wants wanted.Boolean condition.value ++ block.faults) own)))
    (later (further (length ((block_of a.block).locals env.scope)) env)
    (ready_further (length ((block_of a.block).locals env.scope)) (second_ready _ _ _ _ q)))
  where
    ready_behind : {us : List Use} (fs gs : List StaticFault) → Ready env us (fs ++ gs) → Ready env us gs
    ready_behind fs gs r = record { fit = r.fit; reach = r.reach; faultless = none_right fs gs r.faultless }

arms_tied : (xs : List Arm) → Every ArmTied xs → (env : Env) → ReadyArms env (map arm_of xs) →
    AreArms env xs (arms_core env (map arm_of xs)) (locals_of_arms env.scope (map arm_of xs)) (arms_made env.scope (map arm_of xs))
arms_tied [] h env r = ties.arms_end
arms_tied (x ∷ xs) h env r =
    subst (λ y. FirstArm env xs y (arm_of x)) (roll-out-Arm x)
    (subst (FirstArm env xs (roll-Arm (out-Arm x))) (sym (arm_step_of x))
    (λ q. first_arm env xs (out-Arm x) h.0.0 h.0.1 (λ at. arms_tied xs h.1 at) q)) r

else_tied : (at : Env) (x : Option Block) → Where BlockTied x →
    Ready at (each (piece_uses at.scope) (pieces_of_block (option_map (λ b. b.piece) (option_map block_of x))))
    (each (piece_faults at.scope) (pieces_of_block (option_map (λ b. b.piece) (option_map block_of x)))) →
    IsElse at x (option_map (λ b. b.core at) (option_map block_of x)) (locals_of_block at.scope (option_map block_of x))
    (initially_made at.scope (option_map block_of x))
else_tied at None h r = ties.no_else
else_tied at (Some x) h r =
    ties.else_block (h at (first_ready ((block_of x).piece at.scope).uses [] ((block_of x).piece at.scope).faults [] r))

loop_fits : (env : Env) → Fit env → Fit (in_scope (in_a_loop env.scope) env)
loop_fits env f = subst (λ ls. length ls ≤ length env.numbers) (sym (locals_changed (at_loop true) (λ o. refl) env.scope)) f

-- ---- one layer

abbrev LayerTied : StatementLayer → Statement → Type 0
LayerTied x y = (env : Env) →
    Ready env (statement_finished (statement_judged (statement_mapped x)) env.scope).uses
    (statement_finished (statement_judged (statement_mapped x)) env.scope).faults →
    TiedStatement env y (core_of_statement (statement_mapped x) env) (locals_of (statement_mapped x) env.scope)
    (statement_made (statement_mapped x) env.scope)

choice_tied : (arms : List Arm) (other : Option Block) (at : Span) → Every ArmTied arms → Where BlockTied other → (env : Env)
    (own : List StaticFault) →
    Ready env
    (each (piece_uses env.scope)
    (map piece_of_arm (map arm_judged (map arm_of arms)) ++ pieces_of_block (option_map (λ b. b.piece) (option_map block_of other))))
    (each (piece_faults env.scope)
    (map piece_of_arm (map arm_judged (map arm_of arms)) ++ pieces_of_block (option_map (λ b. b.piece) (option_map block_of other)))
    ++ own) →
    TiedStatement env (tree.If arms other at) (choice_core (map arm_of arms) (option_map block_of other) env)
    (locals_of_arms env.scope (map arm_of arms) ++ locals_of_block env.scope (option_map block_of other))
    (both_made (arms_made env.scope (map arm_of arms)) (initially_made env.scope (option_map block_of other)))
choice_tied arms other at h k env own r =
    let first : List judged.Piece = map piece_of_arm (map arm_judged (map arm_of arms)) in
    let last : List judged.Piece = pieces_of_block (option_map (λ b. b.piece) (option_map block_of other)) in
    let split : Ready env (each (piece_uses env.scope) first ++ each (piece_uses env.scope) last)
    (each (piece_faults env.scope) first ++ each (piece_faults env.scope) last) =
    same_ready (each_joined (piece_uses env.scope) first last)
    (sym (each_joined (piece_faults env.scope) first last) ∙ none_left _ _ r.faultless) r in
    ties.choice (arms_tied arms h env (first_ready _ _ _ _ split))
    (else_tied (further (length (locals_of_arms env.scope (map arm_of arms))) env) other k
    (ready_further (length (locals_of_arms env.scope (map arm_of arms))) (second_ready _ _ _ _ split)))

abbrev AllTied : StatementLayer → Type 0
AllTied = trees.StatementHas PartTied StatementTied BlockTied

layer_tied : (x : StatementLayer) → AllTied x → trees.HasTarget x → LayerTied x (roll-Statement x)
layer_tied (Statement-F.LocalVariable name of None) h t =
    subst (LayerTied (Statement-F.LocalVariable name of None)) (sym (tree.rolls-LocalVariable name of None)) (λ env r. ties.local_variable)
layer_tied (Statement-F.LocalVariable name of (Some x)) h t =
    subst (LayerTied (Statement-F.LocalVariable name of (Some x))) (sym (tree.rolls-LocalVariable name of (Some x)))
    (λ env r. ties.local_with_value (one true env x _ h r))
layer_tied (Statement-F.LocalConstant name of x) h t =
    subst (LayerTied (Statement-F.LocalConstant name of x)) (sym (tree.rolls-LocalConstant name of x))
    (λ env r.
    ties.local_constant
    (constant_is_typed env.scope name of x
    (none_left _ _ (none_right _ _ (none_right _ _ (none_right (faults_of true env x ++ []) _ r.faultless)))))
    (one true env x _ h r))
layer_tied (Statement-F.Assign x y) h t =
    subst (LayerTied (Statement-F.Assign x y)) (sym (tree.rolls-Assign x y))
    (λ env r.
    becomes env x y ((part_of x).made env.scope) ((part_of y).made env.scope) ((part_of y).core env) (second_of_two env x y _ h.1 r)
    ((part_of x).core env) (target_is x t env) (out-Expression ((part_of x).core env)) (roll-out-Expression ((part_of x).core env))
    (first_of_two env x y _ h.0 r))
layer_tied (Statement-F.Invoke x) h t =
    subst (LayerTied (Statement-F.Invoke x)) (sym (tree.rolls-Invoke x)) (λ env r. ties.invoke_statement (one false env x _ h r))
layer_tied (Statement-F.Print x at) h t =
    subst (LayerTied (Statement-F.Print x at)) (sym (tree.rolls-Print x at)) (λ env r. ties.print (one true env x _ h r))
layer_tied (Statement-F.If arms None at) h t =
    subst (LayerTied (Statement-F.If arms None at)) (sym (tree.rolls-If arms None at)) (λ env r. choice_tied arms None at h.0 h.1 env _ r)
layer_tied (Statement-F.If arms (Some b) at) h t =
    subst (LayerTied (Statement-F.If arms (Some b) at)) (sym (tree.rolls-If arms (Some b) at))
    (λ env r. choice_tied arms (Some b) at h.0 h.1 env _ r)
layer_tied (Statement-F.Loop b at) h t =
    subst (LayerTied (Statement-F.Loop b at)) (sym (tree.rolls-Loop b at))
    (λ env r.
    ties.loop
    (h (in_scope (in_a_loop env.scope) env)
    (record {
      fit = loop_fits env r.fit;
      reach = (first_ready {env = env} ((block_of b).piece (in_a_loop env.scope)).uses [] [] []
          (record { fit = r.fit; reach = r.reach; faultless = refl })).reach;
      faultless = none_left _ _ (none_left _ _ r.faultless);
    })))
layer_tied (Statement-F.Exit None at) h t =
    subst (LayerTied (Statement-F.Exit None at)) (sym (tree.rolls-Exit None at)) (λ env r. ties.exit)
layer_tied (Statement-F.Exit (Some x) at) h t =
    subst (LayerTied (Statement-F.Exit (Some x) at)) (sym (tree.rolls-Exit (Some x) at)) (λ env r. ties.exit_when (one true env x _ h r))
layer_tied (Statement-F.Return at) h t = subst (LayerTied (Statement-F.Return at)) (sym (tree.rolls-Return at)) (λ env r. ties.return)
layer_tied (Statement-F.Assert x at) h t =
    subst (LayerTied (Statement-F.Assert x at)) (sym (tree.rolls-Assert x at)) (λ env r. ties.assert (one true env x _ h r))
layer_tied (Statement-F.Move x y at) h t =
    subst (LayerTied (Statement-F.Move x y at)) (sym (tree.rolls-Move x y at))
    (λ env r. ties.move (first_of_two env x y _ h.0 r) (second_of_two env x y _ h.1 r))
layer_tied (Statement-F.Fix x y at) h t =
    subst (LayerTied (Statement-F.Fix x y at)) (sym (tree.rolls-Fix x y at))
    (λ env r. ties.fix (first_of_two env x y _ h.0 r) (second_of_two env x y _ h.1 r))
layer_tied (Statement-F.Refix x y at) h t =
    subst (LayerTied (Statement-F.Refix x y at)) (sym (tree.rolls-Refix x y at))
    (λ env r. ties.refix (first_of_two env x y _ h.0 r) (second_of_two env x y _ h.1 r))
layer_tied (Statement-F.Unfix x at) h t =
    subst (LayerTied (Statement-F.Unfix x at)) (sym (tree.rolls-Unfix x at)) (λ env r. ties.unfix (one true env x _ h r))
layer_tied (Statement-F.Wait name at) h t =
    subst (LayerTied (Statement-F.Wait name at)) (sym (tree.rolls-Wait name at))
    (λ env r. ties.wait (condition_is env name.text (test_holds _ _ _ (none_left _ [] r.faultless))))
layer_tied (Statement-F.Signal name at) h t =
    subst (LayerTied (Statement-F.Signal name at)) (sym (tree.rolls-Signal name at))
    (λ env r. ties.signal (condition_is env name.text (test_holds _ _ _ (none_left _ [] r.faultless))))

abbrev StepTied : Statement → StatementPart → Type 0
StepTied x p = (env : Env) → Ready env (p.part.finished env.scope).uses (p.part.finished env.scope).faults →
    TiedStatement env x (p.core env) (p.locals env.scope) (p.made env.scope)

step_tied : (x : StatementLayer) → AllTied x → trees.HasTarget x →
    StepTied (roll-Statement x) (statement_step (statement_mapped x))
unfolding statement_step statement_part
step_tied x h t env r = layer_tied x h t env r

pub statement_has : (x : StatementLayer) → AllTied x → trees.HasTarget x → StatementTied (roll-Statement x)
statement_has x h t = subst (StepTied (roll-Statement x)) (sym (statement_rolled x)) (step_tied x h t)

-- ---- what a statement declares

abbrev NumberedOnce : ℕ → List Entry → Type 0
NumberedOnce n es = map (λ (e : Entry). n) es ≡ numbered n es

layer_once : (x : StatementLayer) (n : ℕ) (scope : Scope) → NumberedOnce n (entries_of (statement_judged (statement_mapped x)) scope)
layer_once (Statement-F.LocalVariable name of None) n scope = refl
layer_once (Statement-F.LocalVariable name of (Some x)) n scope = refl
layer_once (Statement-F.LocalConstant name of x) n scope = refl
layer_once (Statement-F.Assign x y) n scope = refl
layer_once (Statement-F.Invoke x) n scope = refl
layer_once (Statement-F.Print x at) n scope = refl
layer_once (Statement-F.If arms None at) n scope = refl
layer_once (Statement-F.If arms (Some b) at) n scope = refl
layer_once (Statement-F.Loop b at) n scope = refl
layer_once (Statement-F.Exit None at) n scope = refl
layer_once (Statement-F.Exit (Some x) at) n scope = refl
layer_once (Statement-F.Return at) n scope = refl
layer_once (Statement-F.Assert x at) n scope = refl
layer_once (Statement-F.Move x y at) n scope = refl
layer_once (Statement-F.Fix x y at) n scope = refl
layer_once (Statement-F.Refix x y at) n scope = refl
layer_once (Statement-F.Unfix x at) n scope = refl
layer_once (Statement-F.Wait name at) n scope = refl
layer_once (Statement-F.Signal name at) n scope = refl

step_once : (x : StatementLayer) (n : ℕ) (scope : Scope) → NumberedOnce n ((statement_step (statement_mapped x)).part.declares scope)
unfolding statement_step statement_part
step_once x n scope = layer_once x n scope

numbered_once : (x : Statement) (n : ℕ) (scope : Scope) → NumberedOnce n ((statement_of x).part.declares scope)
numbered_once x n scope =
    subst (λ (p : StatementPart). NumberedOnce n (p.part.declares scope))
    (sym (statement_rolled (out-Statement x)) ∙ ap statement_of (roll-out-Statement x)) (step_once (out-Statement x) n scope)

abbrev with_numbers : Scope → List Text → ℕ → List ℕ → Env
with_numbers scope captures count numbers = record { scope = scope; captures = captures; numbers = numbers; count = count }

-- what stands behind a statement, by what the rules see
behind_same : (env : Env) (x : Statement) →
    behind env (statement_of x)
    ≡ names.behind env ((judged_tree.statement_of x).declares env.scope) (length ((statement_of x).locals env.scope))
behind_same env x =
    ap
    (with_numbers (declaring ((statement_of x).part.declares env.scope) env.scope) env.captures
    (env.count + length ((statement_of x).locals env.scope)))
    (ap (λ ns. env.numbers ++ ns) (numbered_once x env.count env.scope))
    ∙ ap (λ (p : judged.StatementPart). names.behind env (p.declares env.scope) (length ((statement_of x).locals env.scope)))
    (same_statement x)

behind_fits : (env : Env) (x : Statement) → Fit env → Fit (behind env (statement_of x))
behind_fits env x f =
    let declared : List Entry = (statement_of x).part.declares env.scope in
    let a : length (scopes.locals_of (innermost (declaring declared env.scope)))
    ≤ length (scopes.locals_of (innermost env.scope)) + length declared = locals_declared declared env.scope in
    let b : length (env.numbers ++ map (λ (entry : Entry). env.count) declared)
    ≡ length env.numbers + length (map (λ (entry : Entry). env.count) declared) =
    length-append env.numbers (map (λ (entry : Entry). env.count) declared) in
    let c : length (map (λ (entry : Entry). env.count) declared) ≡ length declared = length-map declared (λ (entry : Entry). env.count) in
    let d : length (scopes.locals_of (innermost env.scope)) ≤ length env.numbers = f in
    omega arith

-- ---- blocks

statements_tied : (xs : List Statement) → Every StatementTied xs → (env : Env) →
    Ready env (block_finished (map (λ x. x.part) (map statement_of xs)) env.scope).uses
    (block_finished (map (λ x. x.part) (map statement_of xs)) env.scope).faults →
    AreStatements env xs (statements_core (map statement_of xs) env) (locals_of_statements (map statement_of xs) env.scope)
    (statements_made (map statement_of xs) env.scope)
statements_tied [] h env r = ties.statements_end
statements_tied (x ∷ xs) h env r =
    let later : Ready env (block_finished (map (λ x. x.part) (map statement_of xs)) (behind env (statement_of x)).scope).uses
    (block_finished (map (λ x. x.part) (map statement_of xs)) (behind env (statement_of x)).scope).faults = second_ready _ _ _ _ r in
    ties.statement (h.0 env (first_ready _ _ _ _ r))
    (subst
    (λ at.
    AreStatements at xs (statements_core (map statement_of xs) (behind env (statement_of x)))
    (locals_of_statements (map statement_of xs) (behind env (statement_of x)).scope)
    (statements_made (map statement_of xs) (behind env (statement_of x)).scope))
    (behind_same env x)
    (statements_tied xs h.1 (behind env (statement_of x))
    (record { fit = behind_fits env x r.fit; reach = later.reach; faultless = later.faultless })))

abbrev BlockStepTied : Block → Piece → Type 0
BlockStepTied x b = (env : Env) → Ready env (b.piece env.scope).uses (b.piece env.scope).faults →
    TiedBlock env x (b.core env) (b.locals env.scope) (b.made env.scope)

block_step_tied : (b : BlockLayer) → Every StatementTied b.statements → BlockStepTied (roll-Block b) (block_step (block_mapped b))
unfolding block_step
block_step_tied b h env r = ties.block (statements_tied b.statements h env r)

pub block_has : (b : BlockLayer) → Every StatementTied b.statements → BlockTied (roll-Block b)
block_has b h = subst (BlockStepTied (roll-Block b)) (sym (block_rolled b)) (block_step_tied b h)
