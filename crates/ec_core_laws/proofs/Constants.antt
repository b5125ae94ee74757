-- The values of an accepted program's constants are within the limits of an operation.
use Rattle.std.proofs.Common.{◌≡◌, ℕ, suc, ◌≤◌, Bool, true, false, List, [], ◌∷◌, ◌++◌, length, map, refl, subst, ltb-false, arith}
use Rattle.ec_ast.specs.declared.Constant.{Constant}
use Rattle.ec_ast.specs.declared.ConstantValue.{ConstantValue}
use Rattle.ec_ast.specs.declared.ConstantValue.TheVariants as stands
use Rattle.ec_ast.specs.declared.Expression.{Expression}
use Rattle.ec_ast.specs.declared.Program.{Program}
use Rattle.ec_ast.specs.declared.Span.{Span}
use Rattle.ec_check.proofs.Every.{none_left, none_right}
use Rattle.ec_check.proofs.Fusion.{same_part}
use Rattle.ec_check.proofs.RangedPrograms.{none_in_order}
use Rattle.ec_check.specs.Places.{Env}
use Rattle.ec_check.specs.Program.{constant_core, constants_core, core_of, outermost}
use Rattle.ec_check.specs.Resolving.{env_in}
use Rattle.ec_check.specs.Tree.{part_of}
use Rattle.ec_types.specs.Table.{Table}
use Rattle.ec_core.specs.declared.Constant.{Constant as CoreConstant}
use Rattle.ec_core_laws.proofs.Small.{Small}
use Rattle.ec_core_laws.proofs.SmallExpressions as expressions
use Rattle.ec_core_laws.proofs.SmallExpressions.{SmallPart}
use Rattle.ec_core_laws.proofs.SmallStatements.{SmallStatement, SmallPiece, statement_has, block_has}
use Rattle.ec_core_laws.proofs.Trees as trees
use Rattle.ec_core_laws.specs.Measures.{height_of, size_of}
use Rattle.ec_core_laws.specs.Constants.{HasSmallConstants, height_of_constants, size_of_constants}
use Rattle.ec_rules.specs.Faults.{StaticFaults, constants_done, faults_of_program, too_large_program, value_done}
use Rattle.ec_rules.specs.Limits.{many_nodes, many_variables, too_large}
use Rattle.ec_rules.specs.Lists.{plus}
use Rattle.ec_rules.specs.Parts as judged
use Rattle.ec_rules.specs.Parts.{value_in}
use Rattle.ec_rules.specs.Rules.{fault_if}
use Rattle.ec_rules.specs.Statements.{done_both}
use Rattle.ec_rules.specs.Tree as judged_tree
use Rattle.ec_rules.specs.Tree.{constant_part, constant_parts, value_part}
use Rattle.ec_rules.specs.declared.Rule.{Rule}
use Rattle.ec_rules.specs.declared.judged.Done.{Done}

none_breaks : (b : Bool) (rule : Rule) (at : Span) → fault_if b rule at ≡ [] → b ≡ false
none_breaks true rule at e = cc
none_breaks false rule at e = refl

-- no larger than this, where it is within the limits
record Fits (cs : List CoreConstant) (done : Done) : Type 0 where
  pub size : done.nodes ≤ 4000 → size_of_constants cs ≤ done.nodes
  pub count : done.nodes ≤ 4000 → length cs ≤ done.nodes
  pub values : done.height ≤ 100 → height_of_constants cs ≤ done.height

small_part : (x : Expression) → SmallPart (part_of x)
small_part x =
    (trees.part_has SmallPart SmallStatement SmallPiece (expressions.expression_has SmallStatement SmallPiece) statement_has block_has
    x).1

abbrev Values : Expression → Env → judged.Part → Type 0
Values x env p =
    Small (size_of ((part_of x).core env)) (height_of ((part_of x).core env)) (value_in env.scope p).nodes (value_in env.scope p).height
    × (1 ≤ (value_in env.scope p).nodes)

value_fits : (x : Expression) (env : Env) → Values x env (judged_tree.part_of x)
value_fits x env = subst (Values x env) (same_part x) ((small_part x).small true env, (small_part x).some true env.scope)

one_fits : (env : Env) (n : ℕ) (c : Constant) (v : ConstantValue) (cs : List CoreConstant) (done : Done) → Fits cs done →
    Fits (constant_core env n c v ++ cs) (done_both (value_done env.scope (value_part v)) done)
one_fits env n c (stands.Expression x) cs done k =
    let v = value_fits x env in
    let some : 1 ≤ (value_in env.scope (judged_tree.part_of x)).nodes = v.1 in
    record {
      size = λ l.
          let a = v.0.size (omega arith) in
          let b : size_of_constants cs ≤ done.nodes = k.size (omega arith) in
          omega arith;
      count = λ l.
          let b : length cs ≤ done.nodes = k.count (omega arith) in
          omega arith;
      values = λ l.
          let a = v.0.height (omega arith) in
          let b : height_of_constants cs ≤ done.height = k.values (omega arith) in
          omega arith;
    }
one_fits env n c (stands.Class class) cs done k = record {
  size = λ l. let b : size_of_constants cs ≤ done.nodes = k.size (omega arith) in omega arith;
  count = λ l. let b : length cs ≤ done.nodes = k.count (omega arith) in omega arith;
  values = λ l. let b : height_of_constants cs ≤ done.height = k.values (omega arith) in omega arith;
}
one_fits env n c (stands.Typeobject t) cs done k = record {
  size = λ l. let b : size_of_constants cs ≤ done.nodes = k.size (omega arith) in omega arith;
  count = λ l. let b : length cs ≤ done.nodes = k.count (omega arith) in omega arith;
  values = λ l. let b : height_of_constants cs ≤ done.height = k.values (omega arith) in omega arith;
}

all_fit : (env : Env) (n : ℕ) (cs : List Constant) → Fits (constants_core env n cs) (constants_done env.scope (map constant_part cs))
all_fit env n [] = record { size = λ l. omega arith; count = λ l. omega arith; values = λ l. omega arith }
all_fit env n (c ∷ cs) = one_fits env n c c.value (constants_core env (suc n) cs) (constants_done env.scope (map constant_part cs))
    (all_fit env (suc n) cs)

within : (at : Span) (cs : List CoreConstant) (done : Done) → Fits cs done → too_large at 0 done ≡ [] →
    (size_of_constants cs ≤ 4000) × (height_of_constants cs ≤ 100) × (length cs ≤ 4000)
within at cs done k e =
    let nodes : done.nodes ≤ 4000 =
    ltb-false 4000 done.nodes (none_breaks _ _ _ (none_right (many_variables at 0 done) (many_nodes at done) e)) in
    let values : plus (plus 0 done.variables) done.height ≤ 100 =
    ltb-false 100 (plus (plus 0 done.variables) done.height) (none_breaks _ _ _ (none_left (many_variables at 0 done) _ e)) in
    let a : size_of_constants cs ≤ done.nodes = k.size nodes in
    let b : length cs ≤ done.nodes = k.count nodes in
    let c : height_of_constants cs ≤ done.height = k.values (omega arith) in
    (omega arith, omega arith, omega arith)

small_of : (env : Env) (cs : List Constant) → too_large_program env.scope (map constant_part cs) ≡ [] →
    (size_of_constants (constants_core env 0 cs) ≤ 4000)
    × (height_of_constants (constants_core env 0 cs) ≤ 100)
    × (length (constants_core env 0 cs) ≤ 4000)
small_of env [] e = (omega arith, omega arith, omega arith)
small_of env (c ∷ cs) e =
    within c.at (constants_core env 0 (c ∷ cs)) (constants_done env.scope (map constant_part (c ∷ cs))) (all_fit env 0 (c ∷ cs)) e

pub constants_are_small : (table : Table) (program : Program) → StaticFaults table program ≡ [] → HasSmallConstants (core_of table program)
constants_are_small table program none =
    let s = small_of (env_in (outermost table program) []) program.constants
    (none_right _ _ (none_right _ _ (none_in_order (faults_of_program table program) none))) in
    record { size = s.0; values = s.1; count = s.2 }
