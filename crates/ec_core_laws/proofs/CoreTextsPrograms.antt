-- The literal texts in the core of a program are lists of bytes, where those in its tree are.
use Rattle.std.proofs.Common.{ℕ, suc, List, [], ◌∷◌, map, All}
use Rattle.std.proofs.lemmas.List.Elements.{All-head, All-tail}
use Rattle.ec_ast.specs.declared.Constant.{Constant}
use Rattle.ec_ast.specs.declared.ConstantValue.TheVariants as stands
use Rattle.ec_ast.specs.declared.ConstantValue.{ConstantValue}
use Rattle.ec_ast.specs.declared.Program.{Program}
use Rattle.ec_check.proofs.Every.{Every, every_joined, every_left, every_right, every_weaker, all_of}
use Rattle.ec_check.specs.Places.{Env}
use Rattle.ec_check.specs.Program.{constant_core, constant_made, constants_core, constants_made, core_of, outermost}
use Rattle.ec_check.specs.Resolving.{env_in}
use Rattle.ec_check.specs.Tree.{class_part, part_of}
use Rattle.ec_types.specs.Table.{Table}
use Rattle.ec_core.specs.declared.Constant.{Constant as CoreConstant}
use Rattle.ec_core.specs.declared.Operation.{Operation}
use Rattle.ec_core.specs.Literals.{texts_of, texts_of_block, Texts, joined}
use Rattle.ec_core_laws.proofs.CoreTextsExpressions.{AllFit, OperationFits, MadeFits}
use Rattle.ec_core_laws.proofs.Made.{both_fit, holder_fits}
use Rattle.ec_core_laws.proofs.CoreTextsTrees.{fitting_part, fitting_body}
use Rattle.ec_core_laws.specs.TreeTexts.{IsBytes, HasBytes, texts_of_value, texts_of_program}
use Rattle.ec_core_laws.specs.CoreTexts.{HasByteTexts}
use Rattle.ec_types.specs.declared.scopes.scope.Scope.{Scope}

every_of : {A : Type 0} (P : A → Type 0) (xs : List A) → All P xs → Every P xs
every_of P [] h = tt
every_of P (x ∷ xs) h = (All-head P x xs h, every_of P xs (All-tail P x xs h))

abbrev texts_of_constants : List Constant → Texts
texts_of_constants cs = joined (map (λ (c : Constant). texts_of_value c.value) cs)

-- ---- what is made

value_fits : (scope : Scope) (v : ConstantValue) → AllFit (texts_of_value v) → MadeFits (constant_made scope v)
value_fits scope (stands.Expression x) h = (fitting_part x h).1.1 scope
value_fits scope (stands.Class class) h = holder_fits scope (class_part class) (fitting_body class.body h)
value_fits scope (stands.Typeobject t) h = tt

values_fit : (scope : Scope) (cs : List Constant) → AllFit (texts_of_constants cs) → MadeFits (constants_made scope cs)
values_fit scope [] h = tt
values_fit scope (c ∷ cs) h =
    both_fit (constant_made scope c.value) (constants_made scope cs)
    (value_fits scope c.value (every_left IsBytes (texts_of_value c.value) (texts_of_constants cs) h))
    (values_fit scope cs (every_right IsBytes (texts_of_value c.value) (texts_of_constants cs) h))

-- ---- constants

abbrev ConstantFits : CoreConstant → Type 0
ConstantFits c = All IsBytes (texts_of c.value)

constant_fits : (env : Env) (n : ℕ) (c : Constant) (v : ConstantValue) → AllFit (texts_of_value v) →
    Every ConstantFits (constant_core env n c v)
constant_fits env n c (stands.Expression x) h = (all_of IsBytes (texts_of ((part_of x).core env)) ((fitting_part x h).1.0 env), tt)
constant_fits env n c (stands.Class class) h = tt
constant_fits env n c (stands.Typeobject t) h = tt

constants_fit : (env : Env) (n : ℕ) (cs : List Constant) → AllFit (texts_of_constants cs) →
    Every ConstantFits (constants_core env n cs)
constants_fit env n [] h = tt
constants_fit env n (c ∷ cs) h =
    every_joined ConstantFits (constant_core env n c c.value) (constants_core env (suc n) cs)
    (constant_fits env n c c.value (every_left IsBytes (texts_of_value c.value) (texts_of_constants cs) h))
    (constants_fit env (suc n) cs (every_right IsBytes (texts_of_value c.value) (texts_of_constants cs) h))

-- ---- the whole

abbrev SmallOperation : Operation → Type 0
SmallOperation o = All IsBytes (texts_of_block o.block)

pub each_text_is_bytes : (table : Table) (program : Program) → HasBytes program → HasByteTexts (core_of table program)
each_text_is_bytes table program small =
    let scope : Scope = outermost table program in
    let fit : AllFit (texts_of_program program) = every_of IsBytes (texts_of_program program) small in
    record {
      operations =
          all_of SmallOperation (constants_made scope program.constants).operations
          (every_weaker OperationFits SmallOperation (λ o h. all_of IsBytes (texts_of_block o.block) h)
          (constants_made scope program.constants).operations (values_fit scope program.constants fit));
      constants =
          all_of ConstantFits (constants_core (env_in scope []) 0 program.constants)
          (constants_fit (env_in scope []) 0 program.constants fit);
    }
