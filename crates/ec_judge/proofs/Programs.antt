-- Constants one behind another, and the whole program: from what the calls find and leave behind to what the rules say.
use Rattle.std.proofs.Common.{◌≡◌, ℕ, ◌+◌, ◌<◌, List, [], ◌∷◌, ◌++◌, drop, get_or, length, map, Option, Some, None, refl, sym, ap, ◌∙◌}
use Rattle.std.specs.Prelude.{slice_get}
use Rattle.std.proofs.lemmas.List.{at_drop_more}
use Rattle.ec_ast.specs.declared.Constant.{Constant}
use Rattle.ec_ast.specs.declared.Name.{Name}
use Rattle.ec_ast.specs.declared.Program.{Program}
use Rattle.ec_ast.specs.declared.TypeName.{TypeName}
use Rattle.ec_types.specs.Declarations.{declarations_of}
use Rattle.ec_types.specs.Table.{IsTable, Table}
use Rattle.ec_judge.specs.Blocks as blocks
use Rattle.ec_judge.specs.Holders.{over_holder}
use Rattle.ec_judge.specs.Programs as programs
use Rattle.ec_judge.specs.Programs.{behind_class, faults_of, program_faults, value_faults}
use Rattle.ec_judge.specs.Walks.{walked, over_operand, over_part}
use Rattle.ec_judge.specs.declared.walk.Walk.{Walk}
use Rattle.ec_judge.proofs.Along.{none_before}
use Rattle.ec_judge.proofs.Ends.{done_assoc}
use Rattle.ec_judge.proofs.Steps.{behind_operand}
use Rattle.ec_judge.proofs.Walks.{walk_of, walked_noted}
use Rattle.ec_rules.specs.Captures.{uses_outside}
use Rattle.ec_rules.specs.Doubled.{doubled}
use Rattle.ec_rules.specs.EndNames.{differs, name_of_constant}
use Rattle.ec_rules.specs.Faults.{HasFaults, StaticFaults, constants_done, faults_in_constant, faults_of_constants}
use Rattle.ec_rules.specs.Faults.{faults_of_program, scope_of_program, too_large_program, value_done}
use Rattle.ec_rules.specs.Forms.{Form}
use Rattle.ec_rules.specs.Judging.{faults_in_holder, uses_within}
use Rattle.ec_rules.specs.Lists.{each, each_of}
use Rattle.ec_rules.specs.Names.{unknown_types}
use Rattle.ec_rules.specs.Operands.{wrong_constant}
use Rattle.ec_rules.specs.Parts.{ConstantPart, Holder, Part, class, expression, faults_in, value_in}
use Rattle.ec_rules.specs.Rules.{least_of, no_faults, noted}
use Rattle.ec_rules.specs.Statements.{done_both, nothing_done}
use Rattle.ec_rules.specs.Tree.{constant_part}
use Rattle.ec_rules.specs.declared.StaticFault.{StaticFault}
use Rattle.ec_rules.specs.declared.faults.Faults.{Faults}
use Rattle.ec_rules.specs.declared.judged.Done.{Done}
use Rattle.ec_rules.specs.declared.judged.Judged.{Judged}
use Rattle.ec_rules.proofs.Noted.{noted_joined}
use Rattle.ec_rules.proofs.Order.{first_in_order}
use Rattle.ec_types.specs.declared.scopes.scope.Scope.{Scope}

-- ---- a constant with an expression

pub value_ruled : (w v : Walk) (p : Part) (name : Name) (of : Option TypeName) (form : Form) (found : Judged) (faults : Faults) →
    v ≡ over_part w p → found ≡ value_in w.scope p → form ≡ p.form → faults ≡ noted v.faults (value_faults v.scope name of form found) →
    walk_of v.scope faults v.uses ≡ over_operand w p (value_faults w.scope name of p.form (value_in w.scope p))
unfolding walked
value_ruled w v p name of form found faults e f g n =
    behind_operand w v p (value_faults w.scope name of p.form (value_in w.scope p)) faults e
    (n
    ∙ ap (λ (t : Walk). noted v.faults (value_faults t.scope name of form found)) e
    ∙ ap (λ x. noted v.faults (value_faults w.scope name of form x)) f
    ∙ ap (λ x. noted v.faults (value_faults w.scope name of x (value_in w.scope p))) g)

wrong_by_part : (scope : Scope) (name : Name) (of : Option TypeName) (p : Part) →
    blocks.wrong_constant scope name of p.form (value_in scope p) ≡ wrong_constant scope name of p
wrong_by_part scope name None p = refl
wrong_by_part scope name (Some of) p = refl

pub value_faults_are : (w next : Walk) (p : Part) (name : Name) (of : Option TypeName) →
    next ≡ over_operand w p (value_faults w.scope name of p.form (value_in w.scope p)) →
    next.faults ≡ noted w.faults (faults_in_constant w.scope name of (expression p))
unfolding walked
value_faults_are w next p name of e =
    ap (λ (t : Walk). t.faults) e
    ∙ ap (λ x. noted w.faults (faults_in w.scope p ++ (each_of (unknown_types w.scope.table) of ++ x))) (wrong_by_part w.scope name of p)

-- ---- a class

pub class_ruled : (w v : Walk) (h : Holder) (name : Name) (faults : Faults) → v ≡ over_holder w h →
    faults ≡ noted v.faults (differs name h.name) →
    walk_of v.scope faults v.uses ≡ behind_class w name h
unfolding walked
class_ruled w v h name faults e n =
    ap (λ x. walk_of v.scope x v.uses) n
    ∙ ap (λ (t : Walk). walk_of t.scope (noted t.faults (name_of_constant name h.name)) t.uses) e
    ∙ walked_noted w (faults_in_holder w.scope h) (name_of_constant name h.name) (uses_outside (uses_within w.scope h))

pub class_faults_are : (w next : Walk) (h : Holder) (name : Name) (of : Option TypeName) → next ≡ behind_class w name h →
    next.faults ≡ noted w.faults (faults_in_constant w.scope name of (class h))
unfolding walked
class_faults_are w next h name of e = ap (λ (t : Walk). t.faults) e

-- ---- constants one behind another

module _ (scope : Scope) (xs : List Constant) (i : ℕ) (x : Constant) (lt : i < length xs) (is : x ≡ get_or xs i x) where
  abbrev rest : List ConstantPart
  rest = map constant_part (drop (i + 1) xs)

  pub constant_faults_next : (g h : Faults) → h ≡ noted g (faults_of scope (constant_part x)) →
      noted h (each (faults_of scope) rest) ≡ noted g (each (faults_of scope) (map constant_part (drop i xs)))
  constant_faults_next g h e =
      ap (λ k. noted k (each (faults_of scope) rest)) e
      ∙ noted_joined g (faults_of scope (constant_part x)) (each (faults_of scope) rest)
      ∙ ap (λ y. noted g (each (faults_of scope) (constant_part y ∷ rest))) is
      ∙ sym (at_drop_more (λ ys. noted g (each (faults_of scope) (map constant_part ys))) xs i x lt)

  pub constant_done_next : (d next : Done) → next ≡ done_both d (value_done scope (constant_part x).value) →
      done_both next (constants_done scope rest) ≡ done_both d (constants_done scope (map constant_part (drop i xs)))
  constant_done_next d next e =
      ap (λ n. done_both n (constants_done scope rest)) e
      ∙ done_assoc d (value_done scope (constant_part x).value) (constants_done scope rest)
      ∙ ap (λ y. done_both d (constants_done scope (constant_part y ∷ rest))) is
      ∙ sym (at_drop_more (λ ys. done_both d (constants_done scope (map constant_part ys))) xs i x lt)

pub constants_done_first : (scope : Scope) (cs : List ConstantPart) →
    done_both nothing_done (constants_done scope cs) ≡ constants_done scope cs
constants_done_first scope [] = refl
constants_done_first scope (c ∷ cs) = none_before (value_done scope c.value) (constants_done scope cs)

-- ---- the program

too_large_by_done : (scope : Scope) (cs : List ConstantPart) →
    programs.too_large_program cs (constants_done scope cs) ≡ too_large_program scope cs
too_large_by_done scope [] = refl
too_large_by_done scope (c ∷ cs) = refl

pub first_of_all : (scope : Scope) (cs : List ConstantPart) (first behind last : Faults) (done : Done) →
    first ≡ no_faults → behind ≡ noted first (each (faults_of scope) cs) → done ≡ constants_done scope cs →
    last ≡ noted behind (program_faults cs done) → last.first ≡ least_of None (faults_of_constants scope cs)
first_of_all scope cs first behind last done n b d l =
    let all = each (faults_of scope) cs in
    ap (λ (f : Faults). f.first)
    (l
    ∙ ap (λ x. noted x (program_faults cs done)) (b ∙ ap (λ x. noted x all) n)
    ∙ noted_joined no_faults all (program_faults cs done)
    ∙ ap (λ x. noted no_faults (all ++ program_faults cs x)) d
    ∙ ap (λ x. noted no_faults (all ++ (doubled (map (λ c. c.name) cs) ++ x))) (too_large_by_done scope cs))

pub first_found : (program : Program) (table : Table) (scope : Scope) (cs : List Constant) (first : Option StaticFault) →
    IsTable (declarations_of program) table → scope ≡ scope_of_program table (map constant_part cs) →
    cs ≡ program.constants → first ≡ least_of None (faults_of_constants scope (map constant_part cs)) →
    (faults : List StaticFault) × HasFaults program faults × (first ≡ slice_get faults 0)
first_found program table scope cs first t s c f =
    let least =
    f
    ∙ ap (λ x. least_of None (faults_of_constants x (map constant_part cs))) s
    ∙ ap (λ ys. least_of None (faults_of_constants (scope_of_program table (map constant_part ys)) (map constant_part ys))) c
    ∙ sym (first_in_order (faults_of_program table program)) in
    (StaticFaults table program, (table, t, refl), least)
