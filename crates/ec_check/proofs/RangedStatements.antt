-- In a statement or a block of parts whose numbers are in range, each number is in range.
use Rattle.std.proofs.Common.{◌≡◌, ℕ, ◌+◌, ◌<◌, ◌≤◌, Bool, true, false, List, [], ◌∷◌, ◌++◌, length, map, Option, Some, None}
use Rattle.std.proofs.Common.{option_map, refl, sym, ap, ◌∙◌, subst, arith, append_assoc}
use Rattle.std.proofs.lemmas.List.{length-append}
use Rattle.ec_ast.specs.declared.Expression.TheOpen.{Statement-F}
use Rattle.ec_ast.specs.declared.Name.{Name}
use Rattle.ec_base.specs.Stack.{top_of, below_of}
use Rattle.ec_check.proofs.CapturedNames.{UsesHeld, held_both, held_changed, none_outside_left, none_outside_right}
use Rattle.ec_check.proofs.Every.{Every, Where, every_joined, every_left, every_right, none_left, none_right, not_both, second_holds}
use Rattle.ec_check.proofs.FittingScopes.{fits_further, fits_in_a_loop, fits_behind}
use Rattle.ec_check.proofs.FoundPlaces.{Fits, named_below, some_names}
use Rattle.ec_check.proofs.KnownTypes.{test_holds}
use Rattle.ec_check.proofs.NumbersRolled.{expression_rolled, expression_counted, link_rolled, link_counted, statement_has}
use Rattle.ec_check.proofs.NumbersRolled.{arm_rolled, block_rolled}
use Rattle.ec_check.proofs.RangedChains.{chained_counted}
use Rattle.ec_check.proofs.RangedParts.{Ready, Ranged, RangedPart, RangedPiece, RangedStatement, RangedArm, first_ready}
use Rattle.ec_check.proofs.RangedParts.{second_ready, ready_within}
use Rattle.ec_check.proofs.RangedParts.{both_ranged, same_ranged}
use Rattle.ec_check.specs.Layers.{statement_judged}
use Rattle.ec_check.specs.Numbers.{Condition, Limits, InRange, joined, if_there, in_expression, in_link, in_statement, in_arm, in_block}
use Rattle.ec_check.specs.Numbers.{expression_numbers, link_numbers}
use Rattle.ec_check.specs.Parts.{Part, Piece, StatementPart, ArmPart, AStatement, ABlock, arm_judged}
use Rattle.ec_check.specs.Places.{Env, condition_named, conditions_of}
use Rattle.ec_check.specs.Resolving.{chained, element_set, element_set_if, assigned, further, in_scope, arms_core, locals_of_arms}
use Rattle.ec_check.specs.Resolving.{choice_core}
use Rattle.ec_check.specs.Resolving.{core_of_statement, locals_of_block, locals_of, behind, statements_core, locals_of_statements}
use Rattle.ec_check.specs.Resolving.{statements_made}
use Rattle.ec_check.specs.Resolving.{arms_made, initially_made, statement_made}
use Rattle.ec_check.specs.Tree.{statement_step, block_step}
use Rattle.ec_core.specs.declared.Expression.{Expression, out-Expression, roll-out-Expression}
use Rattle.ec_core.specs.declared.Expression.TheOpen.{Expression-F as Core-F, Link-F as CoreLink-F}
use Rattle.ec_core.specs.declared.Addend.{Addend}
use Rattle.ec_core.specs.declared.Arm.{Arm}
use Rattle.ec_core.specs.declared.Block.{Block}
use Rattle.ec_core.specs.declared.Factor.{Factor}
use Rattle.ec_core.specs.declared.Link.{Link, out-Link, roll-out-Link}
use Rattle.ec_core.specs.declared.Statement.{Statement}
use Rattle.ec_core.specs.declared.Statement.TheOpen.{Statement-F as CoreStatement-F}
use Rattle.ec_core.specs.declared.Statement.TheVariants as s
use Rattle.ec_types.specs.Names.{Text}
use Rattle.ec_rules.specs.Captures.{Use, uses_outside}
use Rattle.ec_rules.specs.Assignments.{assignment_in_statement}
use Rattle.ec_rules.specs.Conditions.{condition_in_statement}
use Rattle.ec_rules.specs.Doubled.{doubled_in_statement}
use Rattle.ec_rules.specs.Exits.{exit_outside}
use Rattle.ec_rules.specs.Names.{unknown_in_statement}
use Rattle.ec_rules.specs.Operands.{wrong_in_statement}
use Rattle.ec_rules.specs.Judging.{statement_part, statement_finished, entries_of, own_faults, block_finished}
use Rattle.ec_rules.specs.Lists.{each}
use Rattle.ec_rules.specs.Parts as judged
use Rattle.ec_rules.specs.Statements.{piece_of_arm, pieces_of_block}
use Rattle.ec_rules.specs.declared.StaticFault.{StaticFault}
use Rattle.ec_types.specs.declared.scopes.object.Object.{Object}
use Rattle.ec_types.specs.declared.scopes.scope.Scope.{Scope}
use Rattle.ec_types.specs.Scopes.{declaring, in_a_loop, innermost, may_use, may_use_in, with_locals, at_loop}

-- ---- the parts of a statement

abbrev pub RangedParts : AStatement → Type 0
RangedParts (Statement-F.LocalVariable name of value) = Where RangedPart value
RangedParts (Statement-F.LocalConstant name of value) = RangedPart value
RangedParts (Statement-F.Assign target value) = RangedPart target × RangedPart value
RangedParts (Statement-F.Invoke x) = RangedPart x
RangedParts (Statement-F.Print x at) = RangedPart x
RangedParts (Statement-F.If arms other at) = Every RangedArm arms × Where RangedPiece other
RangedParts (Statement-F.Loop block at) = RangedPiece block
RangedParts (Statement-F.Exit when at) = Where RangedPart when
RangedParts (Statement-F.Return at) = Unit {0}
RangedParts (Statement-F.Assert x at) = RangedPart x
RangedParts (Statement-F.Move x to at) = RangedPart x × RangedPart to
RangedParts (Statement-F.Fix x place at) = RangedPart x × RangedPart place
RangedParts (Statement-F.Refix x place at) = RangedPart x × RangedPart place
RangedParts (Statement-F.Unfix x at) = RangedPart x
RangedParts (Statement-F.Wait name at) = Unit {0}
RangedParts (Statement-F.Signal name at) = Unit {0}

-- ---- what is used in it

abbrev piece_uses : Scope → judged.Piece → List Use
piece_uses scope piece = (piece scope).uses

abbrev piece_faults : Scope → judged.Piece → List StaticFault
piece_faults scope piece = (piece scope).faults

one_used : (needed : Bool) (scope : Scope) (p : Part) → RangedPart p → UsesHeld scope ((p.part.judged needed scope).uses ++ [])
one_used needed scope p h = held_both scope (p.part.judged needed scope).uses [] (h.uses needed scope) tt

two_used : (scope : Scope) (p q : Part) → RangedPart p → RangedPart q →
    UsesHeld scope ((p.part.judged true scope).uses ++ ((q.part.judged true scope).uses ++ []))
two_used scope p q h k =
    held_both scope (p.part.judged true scope).uses ((q.part.judged true scope).uses ++ []) (h.uses true scope) (one_used true scope q k)

arms_used : (scope : Scope) (arms : List ArmPart) (more : List judged.Piece) → Every RangedArm arms →
    UsesHeld scope (each (piece_uses scope) more) →
    UsesHeld scope (each (piece_uses scope) (map piece_of_arm (map arm_judged arms) ++ more))
arms_used scope [] more h k = k
arms_used scope (a ∷ arms) more h k =
    held_both scope ((a.condition.part.judged true scope).uses ++ (a.block.piece scope).uses)
    (each (piece_uses scope) (map piece_of_arm (map arm_judged arms) ++ more))
    (held_both scope (a.condition.part.judged true scope).uses (a.block.piece scope).uses (h.0.0.uses true scope) (h.0.1.uses scope))
    (arms_used scope arms more h.1 k)

other_used : (scope : Scope) (other : Option Piece) → Where RangedPiece other →
    UsesHeld scope (each (piece_uses scope) (pieces_of_block (option_map (λ b. b.piece) other)))
other_used scope None h = tt
other_used scope (Some b) h = held_both scope (b.piece scope).uses [] (h.uses scope) tt

used_in : (x : AStatement) → RangedParts x → (scope : Scope) → UsesHeld scope (statement_finished (statement_judged x) scope).uses
used_in (Statement-F.LocalVariable name of None) h scope = tt
used_in (Statement-F.LocalVariable name of (Some x)) h scope = one_used true scope x h
used_in (Statement-F.LocalConstant name of x) h scope = one_used true scope x h
used_in (Statement-F.Assign x y) h scope = two_used scope x y h.0 h.1
used_in (Statement-F.Invoke x) h scope = one_used false scope x h
used_in (Statement-F.Print x at) h scope = one_used true scope x h
used_in (Statement-F.If arms other at) h scope =
    arms_used scope arms (pieces_of_block (option_map (λ b. b.piece) other)) h.0 (other_used scope other h.1)
used_in (Statement-F.Loop b at) h scope =
    held_both scope (b.piece (in_a_loop scope)).uses []
    (held_changed (at_loop true) scope (b.piece (in_a_loop scope)).uses (h.uses (in_a_loop scope))) tt
used_in (Statement-F.Exit None at) h scope = tt
used_in (Statement-F.Exit (Some x) at) h scope = one_used true scope x h
used_in (Statement-F.Return at) h scope = tt
used_in (Statement-F.Assert x at) h scope = one_used true scope x h
used_in (Statement-F.Move x y at) h scope = two_used scope x y h.0 h.1
used_in (Statement-F.Fix x y at) h scope = two_used scope x y h.0 h.1
used_in (Statement-F.Refix x y at) h scope = two_used scope x y h.0 h.1
used_in (Statement-F.Unfix x at) h scope = one_used true scope x h
used_in (Statement-F.Wait name at) h scope = tt
used_in (Statement-F.Signal name at) h scope = tt

-- ---- what it declares

declares_less : (x : AStatement) (scope : Scope) → length (entries_of (statement_judged x) scope) ≤ length (locals_of x scope)
declares_less (Statement-F.LocalVariable name of value) scope = omega arith
declares_less (Statement-F.LocalConstant name of value) scope = omega arith
declares_less (Statement-F.Assign x y) scope = omega arith
declares_less (Statement-F.Invoke x) scope = omega arith
declares_less (Statement-F.Print x at) scope = omega arith
declares_less (Statement-F.If arms other at) scope = omega arith
declares_less (Statement-F.Loop b at) scope = omega arith
declares_less (Statement-F.Exit when at) scope = omega arith
declares_less (Statement-F.Return at) scope = omega arith
declares_less (Statement-F.Assert x at) scope = omega arith
declares_less (Statement-F.Move x y at) scope = omega arith
declares_less (Statement-F.Fix x y at) scope = omega arith
declares_less (Statement-F.Refix x y at) scope = omega arith
declares_less (Statement-F.Unfix x at) scope = omega arith
declares_less (Statement-F.Wait name at) scope = omega arith
declares_less (Statement-F.Signal name at) scope = omega arith

-- ---- what is assigned to

below_links : (limits : Limits) (ls : List Link) → Every (InRange limits) (joined (map in_link ls)) →
    Every (InRange limits) (joined (map in_link (below_of ls)))
below_links limits [] h = tt
below_links limits (l ∷ []) h = tt
below_links limits (l ∷ m ∷ ls) h =
    every_joined (InRange limits) (in_link l) (joined (map in_link (below_of (m ∷ ls))))
    (every_left (InRange limits) (in_link l) (joined (map in_link (m ∷ ls))) h)
    (below_links limits (m ∷ ls) (every_right (InRange limits) (in_link l) (joined (map in_link (m ∷ ls))) h))

top_link : (limits : Limits) (ls : List Link) → Every (InRange limits) (joined (map in_link ls)) →
    Where (λ l. Every (InRange limits) (in_link l)) (top_of ls)
top_link limits [] h = tt
top_link limits (l ∷ []) h = every_left (InRange limits) (in_link l) [] h
top_link limits (l ∷ m ∷ ls) h =
    top_link limits (m ∷ ls) (every_right (InRange limits) (in_link l) (joined (map in_link (m ∷ ls))) h)

abbrev StatementInRange : Limits → Statement → Type 0
StatementInRange limits x = Every (InRange limits) (in_statement x)

drop_in_range : (limits : Limits) (v : Expression) → Every (InRange limits) (in_expression v) → StatementInRange limits (s.Drop v)
drop_in_range limits v h = subst (Every (InRange limits)) (sym (statement_has (s.Drop v) (CoreStatement-F.Drop v) (s.rolls-Drop v))) h

element_in_range : (limits : Limits) (vector : Expression) (l : CoreLink-F Expression Link Addend Factor) (v : Expression) →
    Every (InRange limits) (in_expression vector) → Every (InRange limits) (link_numbers (link_counted l)) →
    Every (InRange limits) (in_expression v) → StatementInRange limits (element_set vector l v)
element_in_range limits vector (CoreLink-F.Element number of at) v h k g =
    subst (Every (InRange limits))
    (sym
    (statement_has (s.SetElement vector number v at) (CoreStatement-F.SetElement vector number v at)
    (s.rolls-SetElement vector number v at)))
    (every_joined (InRange limits) (in_expression vector) (in_expression number ++ in_expression v) h
    (every_joined (InRange limits) (in_expression number) (in_expression v) k g))
element_in_range limits vector (CoreLink-F.Invoke name arguments of at) v h k g = drop_in_range limits v g
element_in_range limits vector (CoreLink-F.Call builtin arguments at) v h k g = drop_in_range limits v g

link_is : (l : Link) → in_link l ≡ link_numbers (link_counted (out-Link l))
link_is l = ap in_link (sym (roll-out-Link l)) ∙ link_rolled (out-Link l)

element_if_in_range : (limits : Limits) (head : Expression) (before : List Link) (last : Option Link) (v : Expression) →
    Every (InRange limits) (in_expression head) → Every (InRange limits) (joined (map in_link before)) →
    Where (λ l. Every (InRange limits) (in_link l)) last → Every (InRange limits) (in_expression v) →
    StatementInRange limits (element_set_if head before last v)
element_if_in_range limits head before None v h b l g = drop_in_range limits v g
element_if_in_range limits head before (Some last) v h b l g =
    element_in_range limits (chained head before) (out-Link last) v
    (subst (Every (InRange limits)) (sym (chained_counted head before))
    (every_joined (InRange limits) (in_expression head) (joined (map in_link before)) h b))
    (subst (Every (InRange limits)) (link_is last) l) g

assigned_in_range : (limits : Limits) (t : Core-F Expression Link Addend Factor) (v : Expression) →
    Every (InRange limits) (expression_numbers (expression_counted t)) → Every (InRange limits) (in_expression v) →
    StatementInRange limits (assigned t v)
assigned_in_range limits (Core-F.Read place) v h k =
    subst (Every (InRange limits)) (sym (statement_has (s.Assign place v) (CoreStatement-F.Assign place v) (s.rolls-Assign place v)))
    (h.0, k)
assigned_in_range limits (Core-F.Chain head links) v h k =
    element_if_in_range limits head (below_of links) (top_of links) v
    (every_left (InRange limits) (in_expression head) (joined (map in_link links)) h)
    (below_links limits links (every_right (InRange limits) (in_expression head) (joined (map in_link links)) h))
    (top_link limits links (every_right (InRange limits) (in_expression head) (joined (map in_link links)) h)) k
assigned_in_range limits (Core-F.Number n) v h k = drop_in_range limits v k
assigned_in_range limits (Core-F.Literal text) v h k = drop_in_range limits v k
assigned_in_range limits (Core-F.Truth b) v h k = drop_in_range limits v k
assigned_in_range limits Core-F.Nil v h k = drop_in_range limits v k
assigned_in_range limits Core-F.Itself v h k = drop_in_range limits v k
assigned_in_range limits Core-F.NodeCount v h k = drop_in_range limits v k
assigned_in_range limits (Core-F.NodeAt x at) v h k = drop_in_range limits v k
assigned_in_range limits (Core-F.NewVector of x at) v h k = drop_in_range limits v k
assigned_in_range limits (Core-F.Construct class places) v h k = drop_in_range limits v k
assigned_in_range limits (Core-F.Create class arguments) v h k = drop_in_range limits v k
assigned_in_range limits (Core-F.Negative x) v h k = drop_in_range limits v k
assigned_in_range limits (Core-F.Not x) v h k = drop_in_range limits v k
assigned_in_range limits (Core-F.View x of at) v h k = drop_in_range limits v k
assigned_in_range limits (Core-F.IsFixed x at) v h k = drop_in_range limits v k
assigned_in_range limits (Core-F.Term x more) v h k = drop_in_range limits v k
assigned_in_range limits (Core-F.Sum x more) v h k = drop_in_range limits v k
assigned_in_range limits (Core-F.Compare x op what y) v h k = drop_in_range limits v k
assigned_in_range limits (Core-F.And x more) v h k = drop_in_range limits v k
assigned_in_range limits (Core-F.Or x more) v h k = drop_in_range limits v k

expression_is : (x : Expression) → in_expression x ≡ expression_numbers (expression_counted (out-Expression x))
expression_is x = ap in_expression (sym (roll-out-Expression x)) ∙ expression_rolled (out-Expression x)

-- ---- the expressions in it

one_ranged : (needed : Bool) (limits : Limits) (env : Env) (p : Part) (own : List StaticFault) → RangedPart p →
    Ready limits env ((p.part.judged needed env.scope).uses ++ []) (((p.part.judged needed env.scope).faults ++ []) ++ own)
    (p.made env.scope).classes →
    Ranged limits (in_expression (p.core env)) (p.made env.scope).operations
one_ranged needed limits env p own h r =
    h.ranged needed limits env
    (record {
      fits = r.fits;
      reach = λ c. none_outside_left (p.part.judged needed env.scope).uses [] (r.reach c);
      faultless = none_left _ _ (none_left _ _ r.faultless);
      within = r.within;
    })

two_ranged : (limits : Limits) (env : Env) (p q : Part) (own : List StaticFault) → RangedPart p → RangedPart q →
    Ready limits env ((p.part.judged true env.scope).uses ++ ((q.part.judged true env.scope).uses ++ []))
    (((p.part.judged true env.scope).faults ++ ((q.part.judged true env.scope).faults ++ [])) ++ own)
    ((p.made env.scope).classes ++ (q.made env.scope).classes) →
    Ranged limits (in_expression (p.core env) ++ in_expression (q.core env))
    ((p.made env.scope).operations ++ (q.made env.scope).operations)
two_ranged limits env p q own h k r =
    both_ranged (in_expression (p.core env)) (in_expression (q.core env)) (p.made env.scope).operations (q.made env.scope).operations
    (h.ranged true limits env
    (first_ready (p.part.judged true env.scope).uses ((q.part.judged true env.scope).uses ++ []) (p.part.judged true env.scope).faults
    ((q.part.judged true env.scope).faults ++ []) (p.made env.scope).classes (q.made env.scope).classes
    (ready_within ((p.part.judged true env.scope).faults ++ ((q.part.judged true env.scope).faults ++ [])) own r)))
    (one_ranged true limits env q [] k
    (record {
      fits = r.fits;
      reach = λ c. none_outside_right (p.part.judged true env.scope).uses ((q.part.judged true env.scope).uses ++ []) (r.reach c);
      faultless = ap (λ f. f ++ []) (none_right _ _ (none_left _ _ r.faultless));
      within = every_right _ (p.made env.scope).classes (q.made env.scope).classes r.within;
    }))

-- ---- conditions

condition_of : (scope : Scope) (s : judged.AStatement) → own_faults scope s ≡ [] → condition_in_statement scope s ≡ []
condition_of scope s e =
    none_left (condition_in_statement scope s) (exit_outside scope s)
    (none_right (assignment_in_statement scope s) _
    (none_right (wrong_in_statement scope s) _
    (none_right (doubled_in_statement scope s) _ (none_right (unknown_in_statement scope s) _ e))))

some_conditions : (o : Option Object) (name : Text) → may_use_in o name ≡ true → 0 < length (conditions_of o)
some_conditions None name e = not_both e
some_conditions (Some o) name e = some_names o.conditions name (second_holds _ _ (second_holds _ _ e))

condition_in_range : (limits : Limits) (env : Env) (name : Name) → Fits limits env → may_use env.scope name.text ≡ true →
    condition_named env name.text < limits.conditions
condition_in_range limits env name f e =
    let k : length (conditions_of (innermost env.scope)) ≤ limits.conditions = f.conditions in
    let l : condition_named env name.text < length (conditions_of (innermost env.scope)) =
    named_below (conditions_of (innermost env.scope)) name.text (some_conditions (innermost env.scope) name.text e) in
    omega arith

-- ---- arms

pub ready_further : {limits : Limits} {env : Env} {us : List Use} {fs : List StaticFault} (more : ℕ) {cs : List _} →
    Ready limits env us fs cs → Ready limits (further more env) us fs cs
ready_further {limits} {env} more r = record {
  fits = fits_further limits more env r.fits;
  reach = r.reach;
  faultless = r.faultless;
  within = r.within;
}

arm_ranged : (limits : Limits) (env : Env) (a : ArmPart) → RangedArm a →
    Ready limits env (piece_of_arm (arm_judged a) env.scope).uses (piece_of_arm (arm_judged a) env.scope).faults
    ((a.condition.made env.scope).classes ++ (a.block.made env.scope).classes) →
    env.count + length (a.block.locals env.scope) ≤ limits.variables →
    Ranged limits (in_expression (a.condition.core env) ++ in_block (a.block.core env))
    ((a.condition.made env.scope).operations ++ (a.block.made env.scope).operations)
arm_ranged limits env a h r l =
    both_ranged (in_expression (a.condition.core env)) (in_block (a.block.core env)) (a.condition.made env.scope).operations
    (a.block.made env.scope).operations
    (h.0.ranged true limits env
    (first_ready (a.condition.part.judged true env.scope).uses (a.block.piece env.scope).uses
    (a.condition.part.judged true env.scope).faults _ (a.condition.made env.scope).classes (a.block.made env.scope).classes r))
    (h.1.ranged limits env
    (record {
      fits = r.fits;
      reach = λ c. none_outside_right (a.condition.part.judged true env.scope).uses (a.block.piece env.scope).uses (r.reach c);
      faultless = none_right _ _ (none_right _ _ r.faultless);
      within = every_right _ (a.condition.made env.scope).classes (a.block.made env.scope).classes r.within;
    })
    l)

arms_ranged : (limits : Limits) (env : Env) (arms : List ArmPart) → Every RangedArm arms →
    Ready limits env (each (piece_uses env.scope) (map piece_of_arm (map arm_judged arms)))
    (each (piece_faults env.scope) (map piece_of_arm (map arm_judged arms))) (arms_made env.scope arms).classes →
    env.count + length (locals_of_arms env.scope arms) ≤ limits.variables →
    Ranged limits (joined (map in_arm (arms_core env arms))) (arms_made env.scope arms).operations
arms_ranged limits env [] h r l = record { numbers = tt; operations = tt }
arms_ranged limits env (a ∷ arms) h r l =
    let e : length (a.block.locals env.scope ++ locals_of_arms env.scope arms)
    ≡ length (a.block.locals env.scope) + length (locals_of_arms env.scope arms) =
    length-append (a.block.locals env.scope) (locals_of_arms env.scope arms) in
    same_ranged
    (ap (λ x. x ++ joined (map in_arm (arms_core (further (length (a.block.locals env.scope)) env) arms)))
    (arm_rolled (record { condition = a.condition.core env; block = a.block.core env })))
    (both_ranged (in_expression (a.condition.core env) ++ in_block (a.block.core env))
    (joined (map in_arm (arms_core (further (length (a.block.locals env.scope)) env) arms)))
    ((a.condition.made env.scope).operations ++ (a.block.made env.scope).operations) (arms_made env.scope arms).operations
    (arm_ranged limits env a h.0
    (first_ready (piece_of_arm (arm_judged a) env.scope).uses (each (piece_uses env.scope) (map piece_of_arm (map arm_judged arms)))
    (piece_of_arm (arm_judged a) env.scope).faults (each (piece_faults env.scope) (map piece_of_arm (map arm_judged arms)))
    ((a.condition.made env.scope).classes ++ (a.block.made env.scope).classes) (arms_made env.scope arms).classes r)
    (omega arith))
    (arms_ranged limits (further (length (a.block.locals env.scope)) env) arms h.1
    (ready_further (length (a.block.locals env.scope))
    (second_ready (piece_of_arm (arm_judged a) env.scope).uses (each (piece_uses env.scope) (map piece_of_arm (map arm_judged arms)))
    (piece_of_arm (arm_judged a) env.scope).faults (each (piece_faults env.scope) (map piece_of_arm (map arm_judged arms)))
    ((a.condition.made env.scope).classes ++ (a.block.made env.scope).classes) (arms_made env.scope arms).classes r))
    (omega arith)))

other_ranged : (limits : Limits) (env : Env) (other : Option Piece) → Where RangedPiece other →
    Ready limits env (each (piece_uses env.scope) (pieces_of_block (option_map (λ b. b.piece) other)))
    (each (piece_faults env.scope) (pieces_of_block (option_map (λ b. b.piece) other))) (initially_made env.scope other).classes →
    env.count + length (locals_of_block env.scope other) ≤ limits.variables →
    Ranged limits (if_there (option_map in_block (option_map (λ b. b.core env) other))) (initially_made env.scope other).operations
other_ranged limits env None h r l = record { numbers = tt; operations = tt }
other_ranged limits env (Some b) h r l =
    h.ranged limits env
    (record {
      fits = r.fits;
      reach = λ c. none_outside_left (b.piece env.scope).uses [] (r.reach c);
      faultless = none_left _ _ r.faultless;
      within = r.within;
    })
    l

each_joined : {A B : Type 0} (f : A → List B) (xs ys : List A) → each f (xs ++ ys) ≡ each f xs ++ each f ys
each_joined f [] ys = refl
each_joined f (x ∷ xs) ys = ap (λ r. f x ++ r) (each_joined f xs ys) ∙ sym (append_assoc (f x) (each f xs) (each f ys))

if_has : (arms : List Arm) (other : Option Block) →
    in_statement (s.If arms other) ≡ joined (map in_arm arms) ++ if_there (option_map in_block other)
if_has arms None = statement_has (s.If arms None) (CoreStatement-F.If arms None) (s.rolls-If arms None)
if_has arms (Some b) = statement_has (s.If arms (Some b)) (CoreStatement-F.If arms (Some b)) (s.rolls-If arms (Some b))

choice_ranged : (limits : Limits) (env : Env) (arms : List ArmPart) (other : Option Piece) (own : List StaticFault) →
    Every RangedArm arms → Where RangedPiece other →
    Ready limits env
    (each (piece_uses env.scope) (map piece_of_arm (map arm_judged arms) ++ pieces_of_block (option_map (λ b. b.piece) other)))
    (each (piece_faults env.scope) (map piece_of_arm (map arm_judged arms) ++ pieces_of_block (option_map (λ b. b.piece) other)) ++ own)
    ((arms_made env.scope arms).classes ++ (initially_made env.scope other).classes) →
    env.count + length (locals_of_arms env.scope arms ++ locals_of_block env.scope other) ≤ limits.variables →
    Ranged limits (in_statement (choice_core arms other env))
    ((arms_made env.scope arms).operations ++ (initially_made env.scope other).operations)
choice_ranged limits env arms other own h k r l =
    let e : length (locals_of_arms env.scope arms ++ locals_of_block env.scope other)
    ≡ length (locals_of_arms env.scope arms) + length (locals_of_block env.scope other) =
    length-append (locals_of_arms env.scope arms) (locals_of_block env.scope other) in
    let split : Ready limits env
    (each (piece_uses env.scope) (map piece_of_arm (map arm_judged arms))
    ++ each (piece_uses env.scope) (pieces_of_block (option_map (λ b. b.piece) other)))
    (each (piece_faults env.scope) (map piece_of_arm (map arm_judged arms))
    ++ each (piece_faults env.scope) (pieces_of_block (option_map (λ b. b.piece) other)))
    ((arms_made env.scope arms).classes ++ (initially_made env.scope other).classes) =
    record {
      fits = r.fits;
      reach = λ c.
          subst (λ us. uses_outside us ≡ [])
          (each_joined (piece_uses env.scope) (map piece_of_arm (map arm_judged arms))
          (pieces_of_block (option_map (λ b. b.piece) other))) (r.reach c);
      faultless =
          sym
          (each_joined (piece_faults env.scope) (map piece_of_arm (map arm_judged arms))
          (pieces_of_block (option_map (λ b. b.piece) other))) ∙ none_left _ _ r.faultless;
      within = r.within;
    } in
    same_ranged
    (if_has (arms_core env arms) (option_map (λ b. b.core (further (length (locals_of_arms env.scope arms)) env)) other))
    (both_ranged (joined (map in_arm (arms_core env arms)))
    (if_there (option_map in_block (option_map (λ b. b.core (further (length (locals_of_arms env.scope arms)) env)) other)))
    (arms_made env.scope arms).operations (initially_made env.scope other).operations
    (arms_ranged limits env arms h (first_ready _ _ _ _ _ _ split) (omega arith))
    (other_ranged limits (further (length (locals_of_arms env.scope arms)) env) other k
    (ready_further (length (locals_of_arms env.scope arms)) (second_ready _ _ _ _ _ _ split)) (omega arith)))

-- ---- statements

number_ranged : (limits : Limits) (x : Statement) (n : ℕ) → in_statement x ≡ Condition n ∷ [] → n < limits.conditions →
    Ranged limits (in_statement x) []
number_ranged limits x n e l = same_ranged e (record { numbers = (l, tt); operations = tt })

declared_ranged : (limits : Limits) (env : Env) (p : Part) (own : List StaticFault) → RangedPart p →
    Ready limits env ((p.part.judged true env.scope).uses ++ []) (((p.part.judged true env.scope).faults ++ []) ++ own)
    (p.made env.scope).classes →
    env.count < limits.variables →
    Ranged limits (in_statement (s.Declare env.count (Some (p.core env)))) (p.made env.scope).operations
declared_ranged limits env p own h r l =
    let done : Ranged limits (in_expression (p.core env)) (p.made env.scope).operations = one_ranged true limits env p own h r in
    same_ranged
    (statement_has (s.Declare env.count (Some (p.core env))) (CoreStatement-F.Declare env.count (Some (p.core env)))
    (s.rolls-Declare env.count (Some (p.core env))))
    (record { numbers = (l, done.numbers); operations = done.operations })

layer_ranged : (x : AStatement) → RangedParts x → (limits : Limits) (env : Env) →
    Ready limits env (statement_finished (statement_judged x) env.scope).uses (statement_finished (statement_judged x) env.scope).faults
    (statement_made x env.scope).classes →
    env.count + length (locals_of x env.scope) ≤ limits.variables →
    Ranged limits (in_statement (core_of_statement x env)) (statement_made x env.scope).operations
layer_ranged (Statement-F.LocalVariable name of None) h limits env r l =
    same_ranged (statement_has (s.Declare env.count None) (CoreStatement-F.Declare env.count None) (s.rolls-Declare env.count None))
    (record { numbers = (omega arith, tt); operations = tt })
layer_ranged (Statement-F.LocalVariable name of (Some x)) h limits env r l = declared_ranged limits env x _ h r (omega arith)
layer_ranged (Statement-F.LocalConstant name of x) h limits env r l = declared_ranged limits env x _ h r (omega arith)
layer_ranged (Statement-F.Assign x y) h limits env r l =
    let done : Ranged limits (in_expression (x.core env) ++ in_expression (y.core env))
    ((x.made env.scope).operations ++ (y.made env.scope).operations) = two_ranged limits env x y _ h.0 h.1 r in
    record {
      numbers =
          assigned_in_range limits (out-Expression (x.core env)) (y.core env)
          (subst (Every (InRange limits)) (expression_is (x.core env))
          (every_left (InRange limits) (in_expression (x.core env)) (in_expression (y.core env)) done.numbers))
          (every_right (InRange limits) (in_expression (x.core env)) (in_expression (y.core env)) done.numbers);
      operations = done.operations;
    }
layer_ranged (Statement-F.Invoke x) h limits env r l =
    same_ranged (statement_has (s.Drop (x.core env)) (CoreStatement-F.Drop (x.core env)) (s.rolls-Drop (x.core env)))
    (one_ranged false limits env x _ h r)
layer_ranged (Statement-F.Print x at) h limits env r l =
    same_ranged (statement_has (s.Print (x.core env)) (CoreStatement-F.Print (x.core env)) (s.rolls-Print (x.core env)))
    (one_ranged true limits env x _ h r)
layer_ranged (Statement-F.If arms other at) h limits env r l = choice_ranged limits env arms other _ h.0 h.1 r l
layer_ranged (Statement-F.Loop b at) h limits env r l =
    same_ranged
    (statement_has (s.Loop (b.core (in_scope (in_a_loop env.scope) env)))
    (CoreStatement-F.Loop (b.core (in_scope (in_a_loop env.scope) env))) (s.rolls-Loop (b.core (in_scope (in_a_loop env.scope) env))))
    (h.ranged limits (in_scope (in_a_loop env.scope) env)
    (record {
      fits = fits_in_a_loop limits env r.fits;
      reach = λ c. none_outside_left (b.piece (in_a_loop env.scope)).uses [] (r.reach c);
      faultless = none_left _ _ (none_left _ _ r.faultless);
      within = r.within;
    })
    l)
layer_ranged (Statement-F.Exit None at) h limits env r l =
    same_ranged (statement_has (s.Exit None) (CoreStatement-F.Exit None) (s.rolls-Exit None)) (record { numbers = tt; operations = tt })
layer_ranged (Statement-F.Exit (Some x) at) h limits env r l =
    same_ranged
    (statement_has (s.Exit (Some (x.core env))) (CoreStatement-F.Exit (Some (x.core env))) (s.rolls-Exit (Some (x.core env))))
    (one_ranged true limits env x _ h r)
layer_ranged (Statement-F.Return at) h limits env r l =
    same_ranged (statement_has s.Return CoreStatement-F.Return s.rolls-Return) (record { numbers = tt; operations = tt })
layer_ranged (Statement-F.Assert x at) h limits env r l =
    same_ranged
    (statement_has (s.Assert (x.core env) at.from) (CoreStatement-F.Assert (x.core env) at.from) (s.rolls-Assert (x.core env) at.from))
    (one_ranged true limits env x _ h r)
layer_ranged (Statement-F.Move x y at) h limits env r l =
    same_ranged
    (statement_has (s.Move (x.core env) (y.core env) at.from) (CoreStatement-F.Move (x.core env) (y.core env) at.from)
    (s.rolls-Move (x.core env) (y.core env) at.from))
    (two_ranged limits env x y _ h.0 h.1 r)
layer_ranged (Statement-F.Fix x y at) h limits env r l =
    same_ranged
    (statement_has (s.Fix (x.core env) (y.core env) at.from) (CoreStatement-F.Fix (x.core env) (y.core env) at.from)
    (s.rolls-Fix (x.core env) (y.core env) at.from))
    (two_ranged limits env x y _ h.0 h.1 r)
layer_ranged (Statement-F.Refix x y at) h limits env r l =
    same_ranged
    (statement_has (s.Refix (x.core env) (y.core env) at.from) (CoreStatement-F.Refix (x.core env) (y.core env) at.from)
    (s.rolls-Refix (x.core env) (y.core env) at.from))
    (two_ranged limits env x y _ h.0 h.1 r)
layer_ranged (Statement-F.Unfix x at) h limits env r l =
    same_ranged
    (statement_has (s.Unfix (x.core env) at.from) (CoreStatement-F.Unfix (x.core env) at.from) (s.rolls-Unfix (x.core env) at.from))
    (one_ranged true limits env x _ h r)
layer_ranged (Statement-F.Wait name at) h limits env r l =
    number_ranged limits (s.Wait (condition_named env name.text)) (condition_named env name.text)
    (statement_has (s.Wait (condition_named env name.text)) (CoreStatement-F.Wait (condition_named env name.text))
    (s.rolls-Wait (condition_named env name.text)))
    (condition_in_range limits env name r.fits
    (test_holds _ _ _ (condition_of env.scope (Statement-F.Wait name at) r.faultless)))
layer_ranged (Statement-F.Signal name at) h limits env r l =
    number_ranged limits (s.Signal (condition_named env name.text)) (condition_named env name.text)
    (statement_has (s.Signal (condition_named env name.text)) (CoreStatement-F.Signal (condition_named env name.text))
    (s.rolls-Signal (condition_named env name.text)))
    (condition_in_range limits env name r.fits
    (test_holds _ _ _ (condition_of env.scope (Statement-F.Signal name at) r.faultless)))

pub statement_ranged : (x : AStatement) → RangedParts x → RangedStatement (statement_step x)
unfolding statement_step statement_part
statement_ranged x h = record {
  uses = λ scope. used_in x h scope;
  declares = λ scope. declares_less x scope;
  ranged = λ limits env r l. layer_ranged x h limits env r l;
}

-- ---- blocks

statements_used : (xs : List StatementPart) → Every RangedStatement xs → (scope : Scope) →
    UsesHeld scope (block_finished (map (λ x. x.part) xs) scope).uses
statements_used [] h scope = tt
statements_used (x ∷ xs) h scope =
    held_both scope (x.part.finished scope).uses
    (block_finished (map (λ x. x.part) xs) (declaring (x.part.declares scope) scope)).uses (h.0.uses scope)
    (held_changed (with_locals (x.part.declares scope)) scope
    (block_finished (map (λ x. x.part) xs) (declaring (x.part.declares scope) scope)).uses
    (statements_used xs h.1 (declaring (x.part.declares scope) scope)))

statements_ranged : (xs : List StatementPart) → Every RangedStatement xs → (limits : Limits) (env : Env) →
    Ready limits env (block_finished (map (λ x. x.part) xs) env.scope).uses (block_finished (map (λ x. x.part) xs) env.scope).faults
    (statements_made xs env.scope).classes →
    env.count + length (locals_of_statements xs env.scope) ≤ limits.variables →
    Ranged limits (joined (map in_statement (statements_core xs env))) (statements_made xs env.scope).operations
statements_ranged [] h limits env r l = record { numbers = tt; operations = tt }
statements_ranged (x ∷ xs) h limits env r l =
    let e : length (x.locals env.scope ++ locals_of_statements xs (declaring (x.part.declares env.scope) env.scope))
    ≡ length (x.locals env.scope) + length (locals_of_statements xs (declaring (x.part.declares env.scope) env.scope)) =
    length-append (x.locals env.scope) (locals_of_statements xs (declaring (x.part.declares env.scope) env.scope)) in
    both_ranged (in_statement (x.core env)) (joined (map in_statement (statements_core xs (behind env x))))
    (x.made env.scope).operations (statements_made xs (declaring (x.part.declares env.scope) env.scope)).operations
    (h.0.ranged limits env
    (first_ready (x.part.finished env.scope).uses
    (block_finished (map (λ x. x.part) xs) (declaring (x.part.declares env.scope) env.scope)).uses
    (x.part.finished env.scope).faults
    (block_finished (map (λ x. x.part) xs) (declaring (x.part.declares env.scope) env.scope)).faults
    (x.made env.scope).classes (statements_made xs (declaring (x.part.declares env.scope) env.scope)).classes r)
    (omega arith))
    (statements_ranged xs h.1 limits (behind env x)
    (record {
      fits = fits_behind limits env x r.fits (h.0.declares env.scope) (omega arith);
      reach = λ c.
          none_outside_right (x.part.finished env.scope).uses
          (block_finished (map (λ x. x.part) xs) (declaring (x.part.declares env.scope) env.scope)).uses (r.reach c);
      faultless = none_right _ _ r.faultless;
      within =
          every_right _ (x.made env.scope).classes
          (statements_made xs (declaring (x.part.declares env.scope) env.scope)).classes r.within;
    })
    (omega arith))

pub block_ranged : (b : ABlock) → Every RangedStatement b.statements → RangedPiece (block_step b)
unfolding block_step
block_ranged b h = record {
  uses = λ scope. statements_used b.statements h scope;
  ranged = λ limits env r l.
      same_ranged (block_rolled (record { statements = statements_core b.statements env }))
      (statements_ranged b.statements h limits env r l);
}
