-- The core of a program is shaped, and the types by which it keeps values name nothing beyond the table's types.
use Rattle.std.proofs.Common.{◌≡◌, ℕ, suc, ◌<◌, ◌≤◌, List, [], ◌∷◌, length, map, Option, ap, ◌∙◌, subst, arith}
use Rattle.std.proofs.lemmas.List.{length-map}
use Rattle.ec_ast.specs.declared.Constant.{Constant}
use Rattle.ec_ast.specs.declared.ConstantValue.{ConstantValue}
use Rattle.ec_ast.specs.declared.ConstantValue.TheVariants as stands
use Rattle.ec_ast.specs.declared.Expression.{Expression}
use Rattle.ec_ast.specs.declared.Program.{Program}
use Rattle.ec_ast.specs.declared.TypeName.{TypeName}
use Rattle.ec_check.proofs.ClassTypes.{classes_are_of_types}
use Rattle.ec_check.proofs.Every.{Every, every_joined, every_weaker}
use Rattle.ec_check.proofs.Fusion.{same_part}
use Rattle.ec_check.proofs.WellParts.{ConformsToItself}
use Rattle.ec_check.specs.Parts.{Made}
use Rattle.ec_check.specs.Places.{Env}
use Rattle.ec_check.specs.Program.{constant_core, constant_made, constants_core, constants_made, core_of, outermost}
use Rattle.ec_check.specs.Resolving.{env_in}
use Rattle.ec_check.specs.Tree.{class_part, part_of}
use Rattle.ec_types.specs.Conforms.{Conforms}
use Rattle.ec_types.specs.Declarations.{declarations_of}
use Rattle.ec_types.specs.Table.{Table, IsTable}
use Rattle.ec_types.specs.Types.{named, names_of, type_with}
use Rattle.ec_types.specs.declared.conform.declared.DeclaredType.{DeclaredType}
use Rattle.ec_core.specs.declared.Class.{Class}
use Rattle.ec_core.specs.declared.Constant.{Constant as CoreConstant}
use Rattle.ec_core.specs.declared.Core.{Core}
use Rattle.ec_core_laws.proofs.Scopes.{GlobalBelow, MeaningBelow, FormBelow, ScopeBelow, constant_below}
use Rattle.ec_core_laws.proofs.ShapedBodies.{holder_shaped}
use Rattle.ec_core_laws.proofs.ShapedParts.{first_numbers, second_numbers, nothing_shaped, both_shaped}
use Rattle.ec_core_laws.proofs.ShapedTrees.{part_shaped, body_has}
use Rattle.ec_core_laws.proofs.Shapes.{ClassBelow, IsShaped, MadeShaped, NumberBelow, NumbersBelow, OperationShaped}
use Rattle.ec_core_laws.proofs.Types.{IsBelow}
use Rattle.ec_rules.specs.Faults.{globals_in, meaning_of, scope_of_names, scope_with}
use Rattle.ec_rules.specs.Parts as judged
use Rattle.ec_rules.specs.Tree as judged_tree
use Rattle.ec_rules.specs.Tree.{constant_part, constant_parts, value_part}
use Rattle.ec_types.specs.declared.scopes.globals.Global.{Global}
use Rattle.ec_types.specs.declared.scopes.scope.Scope.{Scope}

-- ---- a whole core

pub record ConstantShaped (types : ℕ) (c : CoreConstant) : Type 0 where
  pub of : IsBelow types c.of
  pub value : IsShaped types c.value

pub record CoreShaped (types : ℕ) (core : Core) : Type 0 where
  pub operations : Every (OperationShaped types) core.operations
  pub classes : Every (ClassBelow types) core.classes
  pub numbers : Every (NumberBelow types) core.classes
  pub constants : Every (ConstantShaped types) core.constants

-- ---- the numbers of the classes

-- A type that conforms to itself is there.
number_is_below : (program : Program) (table : Table) (n : ℕ) → IsTable (declarations_of program) table →
    ConformsToItself table n → n < length table.types
number_is_below program table n is e =
    let c : Conforms table.types (named n) (named n) = (is.conforms (named n) (named n)).0 e in
    c.1.left n n c.2

numbers_below : (table : Table) (program : Program) → IsTable (declarations_of program) table →
    Every (NumberBelow (length table.types)) (core_of table program).classes
numbers_below table program is =
    every_weaker (λ (c : Class). ConformsToItself table c.number) (NumberBelow (length table.types))
    (λ c e. number_is_below program table c.number is e) (core_of table program).classes (classes_are_of_types table program is)

-- Each type has a name.
pub names_fit : (table : Table) (program : Program) → IsTable (declarations_of program) table →
    length table.names ≤ length table.types
names_fit table program is =
    let declared : List DeclaredType = (declarations_of program).types in
    let names : length table.names ≡ length declared = ap length is.names ∙ length-map declared (λ (d : DeclaredType). d.name.text) in
    let types : length table.types ≡ length declared = ap length is.types ∙ length-map declared (type_with (names_of declared)) in
    omega arith

module _ (types : ℕ) where
  -- ---- constants, in a scope in which the classes that are made have numbers of types

  value_form : (scope : Scope) (x : Expression) → NumbersBelow types ((part_of x).made scope) →
      FormBelow types scope.table (judged_tree.part_of x).form
  value_form scope x n =
      subst (λ (p : judged.Part). FormBelow types scope.table p.form) (same_part x) ((part_shaped types x).form scope n)

  value_shaped : (scope : Scope) → ScopeBelow types scope → (v : ConstantValue) → NumbersBelow types (constant_made scope v) →
      MadeShaped types (constant_made scope v)
  value_shaped scope s (stands.Expression x) n = (part_shaped types x).made scope s n
  value_shaped scope s (stands.Class class) n = holder_shaped types scope (class_part class) s (body_has types class.body) n
  value_shaped scope s (stands.Typeobject t) n = nothing_shaped types

  values_shaped : (scope : Scope) → ScopeBelow types scope → (cs : List Constant) → NumbersBelow types (constants_made scope cs) →
      MadeShaped types (constants_made scope cs)
  values_shaped scope s [] n = nothing_shaped types
  values_shaped scope s (c ∷ cs) n =
      both_shaped types (constant_made scope c.value) (constants_made scope cs)
      (value_shaped scope s c.value (first_numbers types (constant_made scope c.value) (constants_made scope cs) n))
      (values_shaped scope s cs (second_numbers types (constant_made scope c.value) (constants_made scope cs) n))

  -- ---- what the names of constants mean, in a scope with the same table

  meaning_is_below : (table : Table) (gs hs : List Global) → length table.names ≤ types → Every (GlobalBelow types) gs →
      (of : Option TypeName) (v : ConstantValue) → NumbersBelow types (constant_made (scope_with table hs) v) →
      MeaningBelow types (meaning_of (scope_with table gs) of (value_part v))
  meaning_is_below table gs hs l g of (stands.Expression x) n =
      constant_below types (scope_with table gs) l g of (judged_tree.part_of x).form (value_form (scope_with table hs) x n)
  meaning_is_below table gs hs l g of (stands.Class class) n = n.0
  meaning_is_below table gs hs l g of (stands.Typeobject t) n = tt

  globals_below : (table : Table) (gs hs : List Global) → length table.names ≤ types → Every (GlobalBelow types) gs →
      (cs : List Constant) → NumbersBelow types (constants_made (scope_with table hs) cs) →
      Every (GlobalBelow types) (globals_in (scope_with table gs) (map constant_part cs))
  globals_below table gs hs l g [] n = tt
  globals_below table gs hs l g (c ∷ cs) n =
      let first : Made = constant_made (scope_with table hs) c.value in
      let rest : Made = constants_made (scope_with table hs) cs in (
        meaning_is_below table gs hs l g c.of c.value (first_numbers types first rest n),
        globals_below table gs hs l g cs (second_numbers types first rest n),
      )

  outermost_below : (table : Table) (program : Program) → length table.names ≤ types →
      NumbersBelow types (constants_made (outermost table program) program.constants) → ScopeBelow types (outermost table program)
  outermost_below table program l n =
      let parts : List judged.ConstantPart = constant_parts program in
      let named : List Global = globals_in (scope_with table []) parts in
      let all : List Global = globals_in (scope_of_names table parts) parts in
      record {
        names = l;
        globals = globals_below table named all l (globals_below table [] all l tt program.constants n) program.constants n;
        objects = tt;
      }

  -- ---- the constants of the core

  constant_shaped : (env : Env) → ScopeBelow types env.scope → (k : ℕ) (c : Constant) (v : ConstantValue) →
      NumbersBelow types (constant_made env.scope v) → Every (ConstantShaped types) (constant_core env k c v)
  constant_shaped env s k c (stands.Expression x) n = (
    record {
      of = constant_below types env.scope s.names s.globals c.of (part_of x).part.form ((part_shaped types x).form env.scope n);
      value = (part_shaped types x).core env s.names;
    },
    tt,
  )
  constant_shaped env s k c (stands.Class class) n = tt
  constant_shaped env s k c (stands.Typeobject t) n = tt

  constants_shaped : (env : Env) → ScopeBelow types env.scope → (k : ℕ) (cs : List Constant) →
      NumbersBelow types (constants_made env.scope cs) → Every (ConstantShaped types) (constants_core env k cs)
  constants_shaped env s k [] n = tt
  constants_shaped env s k (c ∷ cs) n =
      let first : Made = constant_made env.scope c.value in
      let rest : Made = constants_made env.scope cs in
      every_joined (ConstantShaped types) (constant_core env k c c.value) (constants_core env (suc k) cs)
      (constant_shaped env s k c c.value (first_numbers types first rest n))
      (constants_shaped env s (suc k) cs (second_numbers types first rest n))

-- ---- the whole

pub core_shaped : (table : Table) (program : Program) → IsTable (declarations_of program) table →
    CoreShaped (length table.types) (core_of table program)
core_shaped table program is =
    let types : ℕ = length table.types in
    let numbers : NumbersBelow types (constants_made (outermost table program) program.constants) = numbers_below table program is in
    let scope : ScopeBelow types (outermost table program) =
    outermost_below types table program (names_fit table program is) numbers in
    let made : MadeShaped types (constants_made (outermost table program) program.constants) =
    values_shaped types (outermost table program) scope program.constants numbers in
    record {
      operations = made.operations;
      classes = made.classes;
      numbers = numbers;
      constants = constants_shaped types (env_in (outermost table program) []) scope 0 program.constants numbers;
    }
