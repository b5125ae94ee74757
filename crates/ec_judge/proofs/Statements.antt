-- What is found of a statement, and left behind it, by its form.
use Rattle.std.proofs.Common.{◌≡◌, ℕ, List, [], ◌∷◌, ◌++◌, map, Option, Some, None, max, refl, sym, ap, ◌∙◌, append_assoc, arith}
use Rattle.std.specs.Prelude.{option_map}
use Rattle.std.proofs.lemmas.List.{append-nil}
use Rattle.ec_ast.specs.declared.Name.{Name}
use Rattle.ec_ast.specs.declared.Span.{Span}
use Rattle.ec_ast.specs.declared.TypeName.{TypeName}
use Rattle.ec_ast.specs.declared.Statement.{Statement}
use Rattle.ec_ast.specs.declared.Expression.TheOpen.{Statement-F}
use Rattle.ec_judge.specs.Blocks.{all_finished, behind, behind_layer, constant_faults, counted, declared, done_if, over_part_if}
use Rattle.ec_judge.specs.Blocks.{variable_faults}
use Rattle.ec_judge.specs.declared.walk.Walk.{Walk}
use Rattle.ec_judge.specs.Walks.{walked, noting, in_scope, over_finished, over_operand, over_part}
use Rattle.ec_judge.proofs.Layers.{one_operand, same_walked}
use Rattle.ec_judge.proofs.Walks.{walked_none, walked_walked}
use Rattle.ec_rules.specs.Assignments.{assigned_form}
use Rattle.ec_rules.specs.Captures.{Use}
use Rattle.ec_rules.specs.Conditions.{condition_used}
use Rattle.ec_rules.specs.Judging.{entries_of, finished_if, statement_finished, statement_part}
use Rattle.ec_rules.specs.Lists.{each, each_of, greatest, plus, total}
use Rattle.ec_rules.specs.Members.{constant_entry, constant_type, variable_entry}
use Rattle.ec_rules.specs.Operands.{must_conform_if, wants, wants_all}
use Rattle.ec_rules.specs.Parts.{ArmPart, AStatement, Finished, Part, Piece, StatementPart, faults_in, uses_in, value_in}
use Rattle.ec_rules.specs.Rules.{fault_unless}
use Rattle.ec_rules.specs.Statements.{done_both, dropped, looped, nothing_done, piece_of_arm, pieces_of_block}
use Rattle.ec_rules.specs.Tree.{statement_of, statement_layer}
use Rattle.ec_rules.specs.declared.Rule.TheVariants.{ExitOutside}
use Rattle.ec_rules.specs.declared.StaticFault.{StaticFault}
use Rattle.ec_rules.specs.declared.judged.Done.{Done}
use Rattle.ec_rules.specs.declared.operands.Wanted.TheVariants as wanted
use Rattle.ec_rules.proofs.Equations.{statement_is_layer}
use Rattle.ec_types.specs.Scopes.{declaring, is_in_loop}
use Rattle.ec_types.specs.declared.scopes.scope.Scope.{Scope}
use Rattle.ec_types.proofs.ScopesLemmas.{declaring-none}

-- ---- by the layer

pub finished_by_layer : (s : Statement) (scope : Scope) → (statement_of s).finished scope ≡ statement_finished (statement_layer s) scope
unfolding statement_part
finished_by_layer s scope = ap (λ (p : StatementPart). p.finished scope) (statement_is_layer s)

pub behind_by_layer : (w : Walk) (s : Statement) → behind w (statement_of s) ≡ behind_layer w (statement_layer s)
unfolding statement_part
behind_by_layer w s = ap (λ (p : StatementPart). behind w p) (statement_is_layer s)

-- what declares nothing leaves the scope
pub behind_undeclared : (w : Walk) (s : AStatement) → entries_of s w.scope ≡ [] →
    over_finished w (statement_finished s w.scope) ≡ behind_layer w s
unfolding walked
behind_undeclared w s e =
    ap (in_scope (over_finished w (statement_finished s w.scope)))
    (sym (declaring-none w.scope) ∙ sym (ap (λ es. declaring es w.scope) e))

-- ---- one operand

module _ (w : Walk) (p : Part) (at : Span) where
  pub print_walk : over_operand w p (wants wanted.String (value_in w.scope p)) ≡ over_finished w
      (statement_finished (Statement-F.Print p at) w.scope)
  print_walk = one_operand w p (wants wanted.String (value_in w.scope p))

  pub assert_walk : over_operand w p (wants wanted.Boolean (value_in w.scope p)) ≡ over_finished w
      (statement_finished (Statement-F.Assert p at) w.scope)
  assert_walk = one_operand w p (wants wanted.Boolean (value_in w.scope p))

  pub unfix_walk : over_operand w p (wants wanted.Reference (value_in w.scope p)) ≡ over_finished w
      (statement_finished (Statement-F.Unfix p at) w.scope)
  unfix_walk = one_operand w p (wants wanted.Reference (value_in w.scope p))

pub invoke_walk : (w : Walk) (p : Part) → over_finished w (dropped p w.scope) ≡ over_finished w
    (statement_finished (Statement-F.Invoke p) w.scope)
invoke_walk w p = simp append-nil refl

pub loop_walk : (w : Walk) (block : Piece) (at : Span) →
    over_finished w (looped block w.scope) ≡ over_finished w (statement_finished (Statement-F.Loop block at) w.scope)
loop_walk w block at = simp append-nil refl

-- ---- none

pub return_walk : (w : Walk) (at : Span) → w ≡ over_finished w (statement_finished (Statement-F.Return at) w.scope)
return_walk w at = sym (walked_none w)

pub wait_walk : (w : Walk) (name : Name) (at : Span) → noting w (condition_used w.scope name) ≡ over_finished w
    (statement_finished (Statement-F.Wait name at) w.scope)
wait_walk w name at = simp append-nil refl

pub signal_walk : (w : Walk) (name : Name) (at : Span) → noting w (condition_used w.scope name) ≡ over_finished w
    (statement_finished (Statement-F.Signal name at) w.scope)
signal_walk w name at = simp append-nil refl

-- ---- two operands

module _ (w : Walk) (p q : Part) where
  two_operands : (own : List StaticFault) →
      over_operand (over_part w p) q own
      ≡ walked w ((faults_in w.scope p ++ (faults_in w.scope q ++ [])) ++ (own ++ [])) (uses_in w.scope p ++ (uses_in w.scope q ++ []))
  unfolding walked
  two_operands own =
      walked_walked w (faults_in w.scope p) (faults_in w.scope q ++ own) (uses_in w.scope p) (uses_in w.scope q)
      ∙ same_walked w _ _ _ _ (simp (append-nil, append_assoc) refl) (simp append-nil refl)

  pub assign_walk : over_operand (over_part w p) q (must_conform_if w.scope.table (value_in w.scope p).of
      (value_in w.scope q) ++ assigned_form w.scope p.form)
      ≡ over_finished w (statement_finished (Statement-F.Assign p q) w.scope)
  assign_walk =
      two_operands (must_conform_if w.scope.table (value_in w.scope p).of (value_in w.scope q) ++ assigned_form w.scope p.form)
      ∙ simp append_assoc refl

  pub move_walk : (at : Span) → over_operand (over_part w p) q (wants_all wanted.Reference (value_in w.scope p ∷ value_in w.scope q ∷ []))
      ≡ over_finished w (statement_finished (Statement-F.Move p q at) w.scope)
  move_walk at = two_operands (wants_all wanted.Reference (value_in w.scope p ∷ value_in w.scope q ∷ []))

  pub fix_walk : (at : Span) → over_operand (over_part w p) q (wants_all wanted.Reference (value_in w.scope p ∷ value_in w.scope q ∷ []))
      ≡ over_finished w (statement_finished (Statement-F.Fix p q at) w.scope)
  fix_walk at = two_operands (wants_all wanted.Reference (value_in w.scope p ∷ value_in w.scope q ∷ []))

  pub refix_walk : (at : Span) → over_operand (over_part w p) q (wants_all wanted.Reference (value_in w.scope p ∷ value_in w.scope q ∷ []))
      ≡ over_finished w (statement_finished (Statement-F.Refix p q at) w.scope)
  refix_walk at = two_operands (wants_all wanted.Reference (value_in w.scope p ∷ value_in w.scope q ∷ []))

-- ---- declarations

pub variable_walk : (w : Walk) (name : Name) (of : TypeName) (v : Option Part) →
    declared (over_part_if w v) (variable_faults w.scope name of (option_map (value_in w.scope) v)) (variable_entry w.scope name of)
    ≡ behind_layer w (Statement-F.LocalVariable name of v)
unfolding walked
variable_walk w name of None =
    ap (λ t. in_scope t (declaring (variable_entry w.scope name of ∷ []) w.scope)) (same_walked w _ _ _ _ (simp append-nil refl) refl)
variable_walk w name of (Some p) =
    ap (λ t. in_scope t (declaring (variable_entry w.scope name of ∷ []) w.scope))
    (walked_walked w (faults_in w.scope p) (variable_faults w.scope name of (Some (value_in w.scope p))) (uses_in w.scope p) []
    ∙ same_walked w _ _ _ _ (simp (append-nil, append_assoc) refl) refl)

pub constant_walk : (w : Walk) (name : Name) (of : Option TypeName) (p : Part) →
    declared (over_part w p) (constant_faults w.scope name of p.form (value_in w.scope p))
    (constant_entry name (constant_type w.scope of p.form))
    ≡ behind_layer w (Statement-F.LocalConstant name of p)
unfolding walked
constant_walk w name None p =
    ap (λ t. in_scope t (declaring (constant_entry name (constant_type w.scope None p.form) ∷ []) w.scope))
    (walked_walked w (faults_in w.scope p) (constant_faults w.scope name None p.form (value_in w.scope p)) (uses_in w.scope p) []
    ∙ same_walked w _ _ _ _ (simp (append-nil, append_assoc) refl) refl)
constant_walk w name (Some of) p =
    ap (λ t. in_scope t (declaring (constant_entry name (constant_type w.scope (Some of) p.form) ∷ []) w.scope))
    (walked_walked w (faults_in w.scope p) (constant_faults w.scope name (Some of) p.form (value_in w.scope p)) (uses_in w.scope p) []
    ∙ same_walked w _ _ _ _ (simp (append-nil, append_assoc) refl) refl)

pub variable_done : (scope : Scope) (name : Name) (of : TypeName) (v : Option Part) →
    counted 1 1 (done_if (option_map (value_in scope) v)) ≡ (statement_finished (Statement-F.LocalVariable name of v) scope).done
variable_done scope name of None = refl
variable_done scope name of (Some p) = refl

-- ---- exits

pub exit_walk : (w : Walk) (when : Option Part) (at : Span) →
    noting (over_part_if w when) (each_of (wants wanted.Boolean) (option_map (value_in w.scope) when) ++ fault_unless
    (is_in_loop w.scope) ExitOutside at)
    ≡ over_finished w (statement_finished (Statement-F.Exit when at) w.scope)
exit_walk w None at = refl
exit_walk w (Some p) at =
    walked_walked w (faults_in w.scope p) (wants wanted.Boolean (value_in w.scope p) ++ fault_unless (is_in_loop w.scope) ExitOutside at)
    (uses_in w.scope p) []
    ∙ same_walked w _ _ _ _ (simp (append-nil, append_assoc) refl) refl

pub exit_done : (scope : Scope) (when : Option Part) (at : Span) →
    counted 1 0 (done_if (option_map (value_in scope) when)) ≡ (statement_finished (Statement-F.Exit when at) scope).done
exit_done scope None at = refl
exit_done scope (Some p) at = refl

-- ---- several pieces

module _ (scope : Scope) where
  abbrev faults_of_pieces : List Piece → List StaticFault
  faults_of_pieces ps = each (λ (p : Piece). (p scope).faults) ps

  abbrev uses_of_pieces : List Piece → List Use
  uses_of_pieces ps = each (λ (p : Piece). (p scope).uses) ps

  abbrev done_of_pieces : List Piece → Done
  done_of_pieces ps = record {
    height = greatest (λ (p : Piece). (p scope).done.height) ps;
    nodes = total (λ (p : Piece). (p scope).done.nodes) ps;
    variables = total (λ (p : Piece). (p scope).done.variables) ps;
  }

  abbrev finished_of : Done → List Use → List StaticFault → Finished
  finished_of done uses faults = record { done = done; uses = uses; faults = faults }

  pieces_finished : (ps : List Piece) → all_finished ps scope ≡ finished_of (done_of_pieces ps) (uses_of_pieces ps) (faults_of_pieces ps)
  pieces_finished [] = refl
  pieces_finished (p ∷ ps) =
      ap (λ (f : Finished). finished_of (done_both (p scope).done f.done) ((p scope).uses ++ f.uses) ((p scope).faults ++ f.faults))
      (pieces_finished ps)

-- ---- the arms of an `if`, and its other block

module _ (scope : Scope) (other : Option Piece) where
  faults_of_both : (ps : List Piece) → faults_of_pieces scope
      (ps ++ pieces_of_block other) ≡ faults_of_pieces scope ps ++ (finished_if scope other).faults
  faults_of_both [] = faults_of_block other
    where
      faults_of_block : (o : Option Piece) → faults_of_pieces scope (pieces_of_block o) ≡ (finished_if scope o).faults
      faults_of_block None = refl
      faults_of_block (Some b) = append-nil (b scope).faults
  faults_of_both (p ∷ ps) =
      ap (λ fs. (p scope).faults ++ fs) (faults_of_both ps) ∙ sym
      (append_assoc (p scope).faults (faults_of_pieces scope ps) (finished_if scope other).faults)

  uses_of_both : (ps : List Piece) → uses_of_pieces scope (ps ++ pieces_of_block other) ≡ uses_of_pieces scope
      ps ++ (finished_if scope other).uses
  uses_of_both [] = uses_of_block other
    where
      uses_of_block : (o : Option Piece) → uses_of_pieces scope (pieces_of_block o) ≡ (finished_if scope o).uses
      uses_of_block None = refl
      uses_of_block (Some b) = append-nil (b scope).uses
  uses_of_both (p ∷ ps) =
      ap (λ us. (p scope).uses ++ us) (uses_of_both ps) ∙ sym
      (append_assoc (p scope).uses (uses_of_pieces scope ps) (finished_if scope other).uses)

-- one more piece before the others
plus_before : (a n t s : ℕ) → plus t n ≡ plus 0 s → plus (plus a t) n ≡ plus 0 (plus a s)
plus_before a n t s e = omega arith

max_before : (a n t s : ℕ) → max t n ≡ s → max (max a t) n ≡ max a s
max_before a n t s e = omega arith

module _ (scope : Scope) (f : Done → ℕ) where
  abbrev of_piece : Piece → ℕ
  of_piece p = f (p scope).done

  abbrev of_other : Option Piece → ℕ
  of_other other = f (finished_if scope other).done

  greatest_of_both : f nothing_done ≡ 0 → (other : Option Piece) (ps : List Piece) →
      max (greatest of_piece ps) (of_other other) ≡ greatest of_piece (ps ++ pieces_of_block other)
  greatest_of_both z None [] = omega arith
  greatest_of_both z (Some b) [] = omega arith
  greatest_of_both z other (p ∷ ps) =
      max_before (of_piece p) (of_other other) (greatest of_piece ps) (greatest of_piece (ps ++ pieces_of_block other))
      (greatest_of_both z other ps)

  total_of_both : f nothing_done ≡ 0 → (other : Option Piece) (ps : List Piece) →
      plus (total of_piece ps) (of_other other) ≡ plus 0 (total of_piece (ps ++ pieces_of_block other))
  total_of_both z None [] = rw z refl
  total_of_both z (Some b) [] = omega arith
  total_of_both z other (p ∷ ps) =
      plus_before (of_piece p) (of_other other) (total of_piece ps) (total of_piece (ps ++ pieces_of_block other))
      (total_of_both z other ps)

module _ (scope : Scope) (arms : List ArmPart) (other : Option Piece) (at : Span) where
  abbrev arm_pieces : List Piece
  arm_pieces = map piece_of_arm arms

  abbrev done_with : ℕ → ℕ → ℕ → Done
  done_with height nodes variables = record { height = height; nodes = nodes; variables = variables }

  pub if_done : done_both (all_finished arm_pieces scope).done (finished_if scope other).done
      ≡ (statement_finished (Statement-F.If arms other at) scope).done
  if_done =
      ap (λ (f : Finished). done_both f.done (finished_if scope other).done) (pieces_finished scope arm_pieces)
      ∙ ap (λ h. done_with h (plus (total (λ (p : Piece). (p scope).done.nodes) arm_pieces) (finished_if scope other).done.nodes)
      (plus (total (λ (p : Piece). (p scope).done.variables) arm_pieces) (finished_if scope other).done.variables))
      (greatest_of_both scope (λ d. d.height) refl other arm_pieces)
      ∙ ap (λ n. done_with (greatest (λ (p : Piece). (p scope).done.height) (arm_pieces ++ pieces_of_block other)) n
      (plus (total (λ (p : Piece). (p scope).done.variables) arm_pieces) (finished_if scope other).done.variables))
      (total_of_both scope (λ d. d.nodes) refl other arm_pieces)
      ∙ ap (done_with (greatest (λ (p : Piece). (p scope).done.height) (arm_pieces ++ pieces_of_block other))
      (plus 0 (total (λ (p : Piece). (p scope).done.nodes) (arm_pieces ++ pieces_of_block other))))
      (total_of_both scope (λ d. d.variables) refl other arm_pieces)

pub if_walk : (w : Walk) (arms : List ArmPart) (other : Option Piece) (at : Span) →
    over_finished (over_finished w (all_finished (map piece_of_arm arms) w.scope)) (finished_if w.scope other)
    ≡ over_finished w (statement_finished (Statement-F.If arms other at) w.scope)
if_walk w arms other at =
    let ps = map piece_of_arm arms in
    let e = pieces_finished w.scope ps in
    walked_walked w (all_finished ps w.scope).faults (finished_if w.scope other).faults (all_finished ps w.scope).uses
    (finished_if w.scope other).uses
    ∙ same_walked w _ _ _ _
    (ap (λ (f : Finished). f.faults ++ (finished_if w.scope other).faults) e ∙ sym (faults_of_both w.scope other ps)
    ∙ sym (append-nil (faults_of_pieces w.scope (ps ++ pieces_of_block other))))
    (ap (λ (f : Finished). f.uses ++ (finished_if w.scope other).uses) e ∙ sym (uses_of_both w.scope other ps))
