-- A walk along a list: one item more, and its end.
use Rattle.std.proofs.Common.{◌≡◌, ℕ, ◌+◌, ◌<◌, ◌≤◌, List, [], ◌∷◌, ◌++◌, drop, get_or, length, map, max, refl, sym, ap, ◌∙◌}
use Rattle.std.proofs.Common.{append_assoc, arith}
use Rattle.std.proofs.lemmas.List.{at_drop_all, at_drop_more}
use Rattle.ec_ast.specs.declared.Statement.{Statement}
use Rattle.ec_judge.specs.Blocks.{behind, behind_all}
use Rattle.ec_judge.specs.declared.walk.Walk.{Walk}
use Rattle.ec_judge.specs.Walks.{walked, in_scope, over_finished, over_part, over_parts}
use Rattle.ec_judge.proofs.Ends.{behind_more, done_assoc, done_fits}
use Rattle.ec_judge.proofs.Walks.{walked_none, walked_walked}
use Rattle.ec_rules.specs.Judging.{block_finished}
use Rattle.ec_rules.specs.Lists.{each, plus}
use Rattle.ec_rules.specs.Parts.{Finished, Part, StatementPart, faults_in, uses_in}
use Rattle.ec_rules.specs.Statements.{both, done_both, nothing_done, nothing_finished}
use Rattle.ec_rules.specs.Tree.{statement_of}
use Rattle.ec_rules.specs.declared.judged.Done.{Done}
use Rattle.ec_types.specs.Scopes.{declaring}
use Rattle.ec_types.specs.declared.scopes.scope.Scope.{Scope}

-- ---- counts, with nothing before them

abbrev done_with : ℕ → ℕ → ℕ → Done
done_with height nodes variables = record { height = height; nodes = nodes; variables = variables }

plus_first : (a b : ℕ) → plus 0 (plus a b) ≡ plus a b
plus_first a b = omega arith

max_first : (a : ℕ) → max 0 a ≡ a
max_first a = omega arith

pub none_before : (a b : Done) → done_both nothing_done (done_both a b) ≡ done_both a b
none_before a b =
    ap (λ h. done_with h (plus 0 (plus a.nodes b.nodes)) (plus 0 (plus a.variables b.variables))) (max_first (max a.height b.height))
    ∙ ap (λ n. done_with (max a.height b.height) n (plus 0 (plus a.variables b.variables))) (plus_first a.nodes b.nodes)
    ∙ ap (done_with (max a.height b.height) (plus a.nodes b.nodes)) (plus_first a.variables b.variables)

-- ---- expressions

module _ {A : Type 0} (f : A → Part) (parts : List A → List Part) (cons : (x : A) (ys : List A) → parts (x ∷ ys) ≡ f x ∷ parts ys) where
  pub parts_next : (w next : Walk) (xs : List A) (i : ℕ) (x : A) → i < length xs → x ≡ get_or xs i x → next ≡ over_part w (f x) →
      over_parts next (parts (drop (i + 1) xs)) ≡ over_parts w (parts (drop i xs))
  unfolding walked
  parts_next w next xs i x lt is e =
      let rest = parts (drop (i + 1) xs) in
      ap (λ n. over_parts n rest) e
      ∙ walked_walked w (faults_in w.scope (f x)) (each (faults_in w.scope) rest) (uses_in w.scope (f x)) (each (uses_in w.scope) rest)
      ∙ ap (over_parts w) (sym (cons x (drop (i + 1) xs)))
      ∙ ap (λ y. over_parts w (parts (y ∷ drop (i + 1) xs))) is
      ∙ sym (at_drop_more (λ ys. over_parts w (parts ys)) xs i x lt)

  pub parts_end : (w : Walk) (xs : List A) (i : ℕ) → parts [] ≡ [] → length xs ≤ i → w ≡ over_parts w (parts (drop i xs))
  parts_end w xs i none le =
      sym (walked_none w) ∙ sym (ap (over_parts w) none) ∙ sym (at_drop_all (λ ys. over_parts w (parts ys)) xs i le)

module _ {A B : Type 0} (g : A → B) (values : List A → List B) (cons : (x : A) (ys : List A) → values (x ∷ ys) ≡ g x ∷ values ys) where
  pub values_next : (found next : List B) (xs : List A) (i : ℕ) (x : A) (v : B) → i < length xs → x ≡ get_or xs i x →
      next ≡ found ++ v ∷ [] → v ≡ g x → next ++ values (drop (i + 1) xs) ≡ found ++ values (drop i xs)
  values_next found next xs i x v lt is e h =
      let rest = values (drop (i + 1) xs) in
      ap (λ n. n ++ rest) (e ∙ ap (λ y. found ++ y ∷ []) h)
      ∙ append_assoc found (g x ∷ []) rest
      ∙ ap (λ ys. found ++ ys)
      (sym (cons x (drop (i + 1) xs)) ∙ ap (λ y. values (y ∷ drop (i + 1) xs)) is ∙ sym (at_drop_more values xs i x lt))

-- ---- parts without a value

pub finished_behind : (w : Walk) (f g : Finished) → over_finished (over_finished w f) g ≡ over_finished w (both f g)
finished_behind w f g = walked_walked w f.faults g.faults f.uses g.uses

module _ {A : Type 0} (f : A → Finished) (all : List A → Finished) (cons : (x : A) (ys : List A) → all (x ∷ ys) ≡ both (f x) (all ys)) where
  pub finished_next : (w next : Walk) (xs : List A) (i : ℕ) (x : A) → i < length xs → x ≡ get_or xs i x → next ≡ over_finished w (f x) →
      over_finished next (all (drop (i + 1) xs)) ≡ over_finished w (all (drop i xs))
  finished_next w next xs i x lt is e =
      let rest = all (drop (i + 1) xs) in
      ap (λ n. over_finished n rest) e
      ∙ finished_behind w (f x) rest
      ∙ ap (over_finished w) (sym (cons x (drop (i + 1) xs)))
      ∙ ap (λ y. over_finished w (all (y ∷ drop (i + 1) xs))) is
      ∙ sym (at_drop_more (λ ys. over_finished w (all ys)) xs i x lt)

  pub finished_end : (w : Walk) (xs : List A) (i : ℕ) → all [] ≡ nothing_finished → length xs ≤ i → w ≡ over_finished w (all (drop i xs))
  finished_end w xs i none le =
      sym (walked_none w) ∙ sym (ap (over_finished w) none) ∙ sym (at_drop_all (λ ys. over_finished w (all ys)) xs i le)

  pub done_next : (d next : Done) (xs : List A) (i : ℕ) (x : A) → i < length xs → x ≡ get_or xs i x → next ≡ done_both d (f x).done →
      done_both next (all (drop (i + 1) xs)).done ≡ done_both d (all (drop i xs)).done
  done_next d next xs i x lt is e =
      let rest = all (drop (i + 1) xs) in
      ap (λ n. done_both n rest.done) e
      ∙ done_assoc d (f x).done rest.done
      ∙ ap (λ (a : Finished). done_both d a.done) (sym (cons x (drop (i + 1) xs)))
      ∙ ap (λ y. done_both d (all (y ∷ drop (i + 1) xs)).done) is
      ∙ sym (at_drop_more (λ ys. done_both d (all ys).done) xs i x lt)

  pub done_first : (xs : List A) → all [] ≡ nothing_finished → done_both nothing_done (all xs).done ≡ (all xs).done
  done_first [] none = ap (λ (a : Finished). done_both nothing_done a.done) none ∙ sym (ap (λ (a : Finished). a.done) none)
  done_first (x ∷ xs) none =
      ap (λ (a : Finished). done_both nothing_done a.done) (cons x xs)
      ∙ none_before (f x).done (all xs).done
      ∙ sym (ap (λ (a : Finished). a.done) (cons x xs))

pub fits_next : (d b next : Done) → next ≡ done_both d b → done_both next nothing_done ≡ next
fits_next d b next e = ap (λ n. done_both n nothing_done) e ∙ done_fits d b ∙ sym e

-- ---- statements

pub statement_next : (w next : Walk) (xs : List Statement) (i : ℕ) (x : Statement) → i < length xs → x ≡ get_or xs i x →
    next ≡ behind w (statement_of x) → behind_all next (map statement_of (drop (i + 1) xs)) ≡ behind_all w (map statement_of (drop i xs))
statement_next w next xs i x lt is e =
    let rest = map statement_of (drop (i + 1) xs) in
    ap (λ n. behind_all n rest) e
    ∙ behind_more w (statement_of x) rest
    ∙ ap (λ y. behind_all w (statement_of y ∷ rest)) is
    ∙ sym (at_drop_more (λ ys. behind_all w (map statement_of ys)) xs i x lt)

pub statements_end : (w : Walk) (xs : List Statement) (i : ℕ) → length xs ≤ i → w ≡ behind_all w (map statement_of (drop i xs))
unfolding walked
statements_end w xs i le =
    sym (ap (λ t. in_scope t w.scope) (walked_none w)) ∙ sym (at_drop_all (λ ys. behind_all w (map statement_of ys)) xs i le)

pub statement_done_next : (w next : Walk) (d after : Done) (xs : List Statement) (i : ℕ) (x : Statement) → i < length xs →
    x ≡ get_or xs i x →
    next ≡ behind w (statement_of x) → after ≡ done_both d ((statement_of x).finished w.scope).done →
    done_both after (block_finished (map statement_of (drop (i + 1) xs)) next.scope).done
    ≡ done_both d (block_finished (map statement_of (drop i xs)) w.scope).done
statement_done_next w next d after xs i x lt is e h =
    let rest = map statement_of (drop (i + 1) xs) in
    let s = statement_of x in
    ap (λ (n : Walk). done_both after (block_finished rest n.scope).done) e
    ∙ ap (λ a. done_both a (block_finished rest (declaring (s.declares w.scope) w.scope)).done) h
    ∙ done_assoc d (s.finished w.scope).done (block_finished rest (declaring (s.declares w.scope) w.scope)).done
    ∙ ap (λ y. done_both d (block_finished (statement_of y ∷ rest) w.scope).done) is
    ∙ sym (at_drop_more (λ ys. done_both d (block_finished (map statement_of ys) w.scope).done) xs i x lt)

pub statements_done_first : (ss : List StatementPart) (scope : Scope) →
    done_both nothing_done (block_finished ss scope).done ≡ (block_finished ss scope).done
statements_done_first [] scope = refl
statements_done_first (s ∷ ss) scope = none_before (s.finished scope).done (block_finished ss (declaring (s.declares scope) scope)).done
