-- Blocks: one statement behind another, and the end of what they declare.
use Rattle.std.proofs.Common.{◌≡◌, ℕ, List, [], ◌∷◌, ◌++◌, length, map, max, sym, ap, ◌∙◌, append_assoc, arith}
use Rattle.ec_ast.specs.declared.Block.{Block, out-Block}
use Rattle.ec_judge.specs.Blocks.{behind, behind_all, scope_behind}
use Rattle.ec_judge.specs.declared.walk.Walk.{Walk}
use Rattle.ec_judge.specs.Walks.{walked, in_scope, over_finished}
use Rattle.ec_judge.proofs.Walks.{walk_of}
use Rattle.ec_rules.specs.Captures.{Use}
use Rattle.ec_rules.specs.Judging.{block_finished, block_piece}
use Rattle.ec_rules.specs.Lists.{plus}
use Rattle.ec_rules.specs.Parts.{StatementPart}
use Rattle.ec_rules.specs.Rules.{noted}
use Rattle.ec_rules.specs.Statements.{done_both, nothing_done}
use Rattle.ec_rules.specs.Tree.{block_of, statement_of}
use Rattle.ec_rules.specs.declared.StaticFault.{StaticFault}
use Rattle.ec_rules.specs.declared.judged.Done.{Done}
use Rattle.ec_rules.proofs.Equations.{block_step}
use Rattle.ec_rules.proofs.Noted.{noted_joined}
use Rattle.ec_types.specs.Scopes.{declaring, forgetting, innermost, locals_of}
use Rattle.ec_types.specs.declared.scopes.entries.Entry.{Entry}
use Rattle.ec_types.specs.declared.scopes.scope.Scope.{Scope}
use Rattle.ec_types.proofs.ScopesLemmas.{declaring-declaring, declaring-none, forgetting-declaring}

-- ---- counts

abbrev done_with : ℕ → ℕ → ℕ → Done
done_with height nodes variables = record { height = height; nodes = nodes; variables = variables }

three : (h k n m v u : ℕ) → h ≡ k → n ≡ m → v ≡ u → done_with h n v ≡ done_with k m u
three h k n m v u a b c = ap (λ x. done_with x n v) a ∙ ap (λ x. done_with k x v) b ∙ ap (done_with k m) c

plus_assoc : (a b c : ℕ) → plus (plus a b) c ≡ plus a (plus b c)
plus_assoc a b c = omega arith

plus_fits : (a b : ℕ) → plus (plus a b) 0 ≡ plus a b
plus_fits a b = omega arith

max_assoc : (a b c : ℕ) → max (max a b) c ≡ max a (max b c)
max_assoc a b c = omega arith

max_none : (a : ℕ) → max a 0 ≡ a
max_none a = omega arith

pub done_assoc : (a b c : Done) → done_both (done_both a b) c ≡ done_both a (done_both b c)
done_assoc a b c =
    three _ _ _ _ _ _ (max_assoc a.height b.height c.height) (plus_assoc a.nodes b.nodes c.nodes)
    (plus_assoc a.variables b.variables c.variables)

-- what was joined stays as it is with nothing behind it
pub done_fits : (a b : Done) → done_both (done_both a b) nothing_done ≡ done_both a b
done_fits a b = three _ _ _ _ _ _ (max_none (max a.height b.height)) (plus_fits a.nodes b.nodes) (plus_fits a.variables b.variables)

-- ---- statements

-- one part behind another, in the scope behind it
scoped_walk : (w : Walk) (f g : List StaticFault) (u v : List Use) (first second : Scope) →
    in_scope (walked (in_scope (walked w f u) first) g v) second ≡ in_scope (walked w (f ++ g) (u ++ v)) second
unfolding walked
scoped_walk w f g u v first second =
    ap (λ faults. walk_of second faults ((w.uses ++ u) ++ v)) (noted_joined w.faults f g)
    ∙ ap (walk_of second (noted w.faults (f ++ g))) (append_assoc w.uses u v)

pub behind_more : (w : Walk) (s : StatementPart) (more : List StatementPart) → behind_all (behind w s) more ≡ behind_all w (s ∷ more)
unfolding walked
behind_more w s more =
    let scope = declaring (s.declares w.scope) w.scope in
    scoped_walk w (s.finished w.scope).faults (block_finished more scope).faults (s.finished w.scope).uses (block_finished more scope).uses
    scope (scope_behind more scope)

-- ---- the end of a block

entries_behind : List StatementPart → Scope → List Entry
entries_behind [] scope = []
entries_behind (s ∷ more) scope = s.declares scope ++ entries_behind more (declaring (s.declares scope) scope)

scope_declaring : (ss : List StatementPart) (scope : Scope) → scope_behind ss scope ≡ declaring (entries_behind ss scope) scope
unfolding entries_behind
scope_declaring [] scope = sym (declaring-none scope)
scope_declaring (s ∷ more) scope =
    let next = declaring (s.declares scope) scope in
    scope_declaring more next ∙ declaring-declaring (s.declares scope) (entries_behind more next) scope

forgotten : (ss : List StatementPart) (scope : Scope) → forgetting (length (locals_of (innermost scope))) (scope_behind ss scope) ≡ scope
forgotten ss scope =
    ap (forgetting (length (locals_of (innermost scope)))) (scope_declaring ss scope) ∙ forgetting-declaring (entries_behind ss scope) scope

-- What a block declares is gone behind it.
pub block_walk : (w end : Walk) (ss : List StatementPart) (scope : Scope) → end ≡ behind_all w ss →
    scope ≡ forgetting (length (locals_of (innermost w.scope))) end.scope → in_scope end scope ≡ over_finished w (block_finished ss w.scope)
unfolding walked
block_walk w end ss scope e h =
    ap (λ (t : Walk). in_scope t scope) e
    ∙ ap (in_scope (over_finished w (block_finished ss w.scope)))
    (h ∙ ap (λ (t : Walk). forgetting (length (locals_of (innermost w.scope))) t.scope) e ∙ forgotten ss w.scope)

pub block_by_step : (b : Block) (scope : Scope) → block_of b scope ≡ block_finished (map statement_of (out-Block b).statements) scope
unfolding block_piece
block_by_step b scope = ap (λ p. p scope) (block_step b)
