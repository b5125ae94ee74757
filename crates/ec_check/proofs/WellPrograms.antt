-- The core of a program without faults is well typed, where each part of its tree is.
use Rattle.std.proofs.Common.{◌≡◌, ℕ, suc, ◌<◌, ◌==◌, true, if◌then◌else◌, List, [], ◌∷◌, ◌++◌, length, map, take, Option, Some}
use Rattle.std.proofs.Common.{refl, sym, ap, ◌∙◌, subst, append_assoc, arith}
use Rattle.std.specs.Prelude.{Contains}
use Rattle.std.proofs.lemmas.Bool.{eq-eqb, ne_eqb}
use Rattle.ec_ast.specs.declared.Body.{Body}
use Rattle.ec_ast.specs.declared.Constant.{Constant}
use Rattle.ec_ast.specs.declared.ConstantValue.{ConstantValue}
use Rattle.ec_ast.specs.declared.ConstantValue.TheVariants as stands
use Rattle.ec_ast.specs.declared.Expression.{Expression}
use Rattle.ec_ast.specs.declared.Name.{Name}
use Rattle.ec_ast.specs.declared.Parameter.{Parameter}
use Rattle.ec_ast.specs.declared.Program.{Program}
use Rattle.ec_ast.specs.declared.TypeName.{TypeName}
use Rattle.ec_check.proofs.ClassTypes.{classes_are_of_types}
use Rattle.ec_check.proofs.Every.{Every, every_joined, every_left, every_right, every_weaker, all_of, none_left, none_right}
use Rattle.ec_check.proofs.Fusion.{same_part}
use Rattle.ec_check.proofs.RangedPrograms.{each_contained, none_held}
use Rattle.ec_check.proofs.ReachedNames.{IsReached}
use Rattle.ec_check.proofs.SoundForms.{same_constant, same_class_among_constants}
use Rattle.ec_check.proofs.SoundPrograms.{Faultless, class_without_faults, constants_are_faultless, outermost_is_sound}
use Rattle.ec_check.proofs.SoundScopes.{SoundScope}
use Rattle.ec_check.proofs.WellHolders.{holder_well}
use Rattle.ec_check.proofs.WellParts.{Suits, WellPart, WellBody, GlobalsSuit, ValuesAre, ClassIs}
use Rattle.ec_check.proofs.WellReady.{ReadyPart, part_well, constant_goes_in}
use Rattle.ec_check.specs.Places.{Env, type_or}
use Rattle.ec_check.specs.Program.{constant_core, constant_made, constants_core, constants_made, outermost, core_of}
use Rattle.ec_check.specs.Resolving.{env_in, class_core, parameter_field}
use Rattle.ec_check.specs.Tree.{class_part, part_of, body_of}
use Rattle.ec_check.specs.WellTyped.{IsWellTyped, IsWellOperation, IsWellConstant, site_outside, constant_type_at}
use Rattle.ec_types.specs.Declarations.{declarations_of}
use Rattle.ec_types.specs.Table.{Table, IsTable}
use Rattle.ec_types.specs.declared.conform.static_type.StaticType.{StaticType}
use Rattle.ec_core.specs.declared.Constant.{Constant as CoreConstant}
use Rattle.ec_core.specs.declared.Core.{Core}
use Rattle.ec_core.specs.declared.Field.{Field}
use Rattle.ec_rules.specs.Captures.{uses_outside}
use Rattle.ec_rules.specs.Faults.{meaning_of, globals_in, scope_with, scope_of_names, scope_of_program, faults_in_constant, StaticFaults}
use Rattle.ec_rules.specs.Forms.{Form}
use Rattle.ec_rules.specs.Members.{constant_type}
use Rattle.ec_rules.specs.Operands.{wrong_constant}
use Rattle.ec_rules.specs.Parts as judged
use Rattle.ec_rules.specs.Parts.{faults_in, value_in}
use Rattle.ec_rules.specs.Tree as judged_tree
use Rattle.ec_rules.specs.Tree.{constant_part, constant_parts, value_part}
use Rattle.ec_types.specs.declared.scopes.globals.Global.{Global}
use Rattle.ec_types.specs.declared.scopes.scope.Scope.{Scope}
use Rattle.ec_types.specs.Scopes.{outside, written_in}

-- ---- constants by their numbers

abbrev IsBelow : ℕ → CoreConstant → Type 0
IsBelow n c = c.number < n

passed : (c : CoreConstant) (n : ℕ) (of later : Option StaticType) → c.number < n → (if c.number == n then of else later) ≡ later
passed c n of later l = ap (λ b. if b then of else later) (ne_eqb c.number n (λ e. omega arith))

type_behind : (before later : List CoreConstant) (c : CoreConstant) (n : ℕ) → Every (IsBelow n) before → c.number ≡ n →
    constant_type_at (before ++ (c ∷ later)) n ≡ Some c.of
type_behind [] later c n h e = ap (λ b. if b then Some c.of else constant_type_at later n) (eq-eqb c.number n e)
type_behind (b ∷ before) later c n h e =
    passed b n (Some b.of) (constant_type_at (before ++ (c ∷ later)) n) h.0 ∙ type_behind before later c n h.1 e

one_further : (n : ℕ) (cs : List CoreConstant) → Every (IsBelow n) cs → Every (IsBelow (suc n)) cs
one_further n cs h = every_weaker (IsBelow n) (IsBelow (suc n)) (λ c l. omega arith) cs h

-- ---- the types of the constants in scope

-- They are found in the scope of the names alone.
same_type : (table : Table) (all : List judged.ConstantPart) (of : Option TypeName) (form : Form) →
    constant_type (scope_of_names table all) of form ≡ constant_type (scope_of_program table all) of form
same_type table all =
    same_constant table (globals_in (scope_with table []) all) (globals_in (scope_of_names table all) all) [] []
    (same_class_among_constants table [] (globals_in (scope_with table []) all) all)

value_type : (table : Table) (all : List judged.ConstantPart) (of : Option TypeName) (x : Expression) →
    type_or (constant_type (scope_of_program table all) of (part_of x).part.form)
    ≡ type_or (constant_type (scope_of_names table all) of (judged_tree.part_of x).form)
value_type table all of x =
    ap (λ (p : judged.Part). type_or (constant_type (scope_of_program table all) of p.form)) (same_part x)
    ∙ ap type_or (sym (same_type table all of (judged_tree.part_of x).form))

abbrev global_of : Scope → Constant → ConstantValue → Global
global_of names c v = record { name = c.name.text; meaning = meaning_of names c.of (value_part v) }

module _ (table : Table) (all : List judged.ConstantPart) where
  abbrev env : Env
  env = env_in (scope_of_program table all) []

  abbrev meant : List Constant → List Global
  meant cs = globals_in (scope_of_names table all) (map constant_part cs)

  value_is : (core : Core) (n : ℕ) (c : Constant) (v : ConstantValue) (before later : List CoreConstant) (gs : List Global) →
      Every (IsBelow n) before → core.constants ≡ before ++ (constant_core env n c v ++ later) →
      ((more : List CoreConstant) → Every (IsBelow (suc n)) more → core.constants ≡ more ++ later → ValuesAre core (suc n) gs) →
      ValuesAre core n (global_of (scope_of_names table all) c v ∷ gs)
  value_is core n c (stands.Expression x) before later gs h e k =
      let own : CoreConstant = record {
        number = n;
        of = type_or (constant_type (scope_of_program table all) c.of (part_of x).part.form);
        value = (part_of x).core env;
      } in (
        ap (λ cs. constant_type_at cs n) e ∙ (type_behind before later own n h refl ∙ ap Some (value_type table all c.of x)),
        k (before ++ own ∷ [])
            (every_joined (IsBelow (suc n)) before (own ∷ []) (one_further n before h) (omega arith, tt))
            (e ∙ sym (append_assoc before (own ∷ []) later)),
      )
  value_is core n c (stands.Class class) before later gs h e k = (tt, k before (one_further n before h) e)
  value_is core n c (stands.Typeobject t) before later gs h e k = (tt, k before (one_further n before h) e)

  values_are : (cs : List Constant) (core : Core) (n : ℕ) (before : List CoreConstant) → Every (IsBelow n) before →
      core.constants ≡ before ++ constants_core env n cs → ValuesAre core n (meant cs)
  values_are [] core n before h e = tt
  values_are (c ∷ cs) core n before h e =
      value_is core n c c.value before (constants_core env (suc n) cs) (meant cs) h e
      (λ more k f. values_are cs core (suc n) more k f)

  -- ---- the classes in scope

  parameters_kept : (ps : List Parameter) (fs : List Field) →
      take (length ps) (map (λ (f : Field). f.of) (map (parameter_field (scope_of_program table all)) ps ++ fs))
      ≡ map (λ p. written_in (scope_of_names table all) p.of) ps
  parameters_kept [] fs = refl
  parameters_kept (p ∷ ps) fs = ap (λ ts. written_in (scope_of_names table all) p.of ∷ ts) (parameters_kept ps fs)

  class_is : (core : Core) (c : Constant) (v : ConstantValue) →
      Every (Contains core.classes) (constant_made (scope_of_program table all) v).classes →
      ClassIs core (global_of (scope_of_names table all) c v).meaning
  class_is core c (stands.Expression x) h = tt
  class_is core c (stands.Class class) h = record {
    class = class_core (scope_of_program table all) (class_part class);
    there = h.0;
    is = record { number = refl; parameters = parameters_kept class.parameters _ };
  }
  class_is core c (stands.Typeobject t) h = tt

  classes_are : (core : Core) (cs : List Constant) →
      Every (Contains core.classes) (constants_made (scope_of_program table all) cs).classes →
      Every (λ (g : Global). ClassIs core g.meaning) (meant cs)
  classes_are core [] h = tt
  classes_are core (c ∷ cs) h = (
    class_is core c c.value
        (every_left (Contains core.classes) (constant_made (scope_of_program table all) c.value).classes
        (constants_made (scope_of_program table all) cs).classes h),
    classes_are core cs
        (every_right (Contains core.classes) (constant_made (scope_of_program table all) c.value).classes
        (constants_made (scope_of_program table all) cs).classes h),
  )

-- ---- the values of the constants, and the operations within them

module _ (parts : (x : Expression) → WellPart (part_of x)) (bodies : (b : Body) → WellBody (body_of b))
    (table : Table) (core : Core) (globals : List Global) (suit : GlobalsSuit table core globals)
    (sound : SoundScope (scope_with table globals)) where
  abbrev scope : Scope
  scope = scope_with table globals

  outer_suits : Suits (site_outside table core) (env_in scope [])
  outer_suits = record {
    table = refl;
    own = refl;
    locals = tt;
    fields = tt;
    captures = tt;
    operations = tt;
    globals = suit;
  }

  value_ready : (x : Expression) → faults_in scope (part_of x).part ≡ [] →
      Every (Contains core.classes) ((part_of x).made scope).classes →
      Every (Contains core.operations) ((part_of x).made scope).operations →
      ReadyPart (site_outside table core) (env_in scope []) (part_of x)
  value_ready x e cs os = record {
    suits = outer_suits;
    sound = sound;
    reach =
        subst (Every (IsReached []))
        (sym
        (none_held (outside scope) (uses_outside ((part_of x).part.judged true scope).uses) refl ((parts x).ranged.uses true scope)))
        tt;
    faultless = e;
    classes = cs;
    operations = os;
  }

  value_operations : (name : Name) (of : Option TypeName) (v : ConstantValue) → faults_in_constant scope name of (value_part v) ≡ [] →
      Every (Contains core.classes) (constant_made scope v).classes →
      Every (Contains core.operations) (constant_made scope v).operations →
      Every (IsWellOperation table core) (constant_made scope v).operations
  value_operations name of (stands.Expression x) e cs os =
      (part_well (site_outside table core) (env_in scope []) (part_of x) (parts x)
      (value_ready x (subst (λ p. faults_in scope p ≡ []) (sym (same_part x)) (none_left _ _ e)) cs os)).operations
  value_operations name of (stands.Class class) e cs os =
      holder_well (site_outside table core) scope (class_part class) (bodies class.body) refl suit sound
      (class_without_faults scope class (none_left _ _ e)) cs os
  value_operations name of (stands.Typeobject t) e cs os = tt

  operations_well : (constants : List Constant) → Every (Faultless scope) constants →
      Every (Contains core.classes) (constants_made scope constants).classes →
      Every (Contains core.operations) (constants_made scope constants).operations →
      Every (IsWellOperation table core) (constants_made scope constants).operations
  operations_well [] e cs os = tt
  operations_well (c ∷ more) e cs os =
      every_joined (IsWellOperation table core) (constant_made scope c.value).operations (constants_made scope more).operations
      (value_operations c.name c.of c.value e.0
      (every_left (Contains core.classes) (constant_made scope c.value).classes (constants_made scope more).classes cs)
      (every_left (Contains core.operations) (constant_made scope c.value).operations (constants_made scope more).operations os))
      (operations_well more e.1
      (every_right (Contains core.classes) (constant_made scope c.value).classes (constants_made scope more).classes cs)
      (every_right (Contains core.operations) (constant_made scope c.value).operations (constants_made scope more).operations os))

  constant_well : (n : ℕ) (c : Constant) (v : ConstantValue) → faults_in_constant scope c.name c.of (value_part v) ≡ [] →
      Every (Contains core.classes) (constant_made scope v).classes →
      Every (Contains core.operations) (constant_made scope v).operations →
      Every (IsWellConstant table core) (constant_core (env_in scope []) n c v)
  constant_well n c (stands.Expression x) e cs os = (
    constant_goes_in (site_outside table core) (env_in scope []) c.name c.of (part_of x) (parts x)
        (value_ready x (subst (λ p. faults_in scope p ≡ []) (sym (same_part x)) (none_left _ _ e)) cs os)
        (subst (λ p. wrong_constant scope c.name c.of p ≡ []) (sym (same_part x)) (none_right _ _ (none_right _ _ e))),
    tt,
  )
  constant_well n c (stands.Class class) e cs os = tt
  constant_well n c (stands.Typeobject t) e cs os = tt

  constants_well : (n : ℕ) (constants : List Constant) → Every (Faultless scope) constants →
      Every (Contains core.classes) (constants_made scope constants).classes →
      Every (Contains core.operations) (constants_made scope constants).operations →
      Every (IsWellConstant table core) (constants_core (env_in scope []) n constants)
  constants_well n [] e cs os = tt
  constants_well n (c ∷ more) e cs os =
      every_joined (IsWellConstant table core) (constant_core (env_in scope []) n c c.value) (constants_core (env_in scope []) (suc n) more)
      (constant_well n c c.value e.0
      (every_left (Contains core.classes) (constant_made scope c.value).classes (constants_made scope more).classes cs)
      (every_left (Contains core.operations) (constant_made scope c.value).operations (constants_made scope more).operations os))
      (constants_well (suc n) more e.1
      (every_right (Contains core.classes) (constant_made scope c.value).classes (constants_made scope more).classes cs)
      (every_right (Contains core.operations) (constant_made scope c.value).operations (constants_made scope more).operations os))

-- ---- programs

globals_suit : (table : Table) (program : Program) → IsTable (declarations_of program) table →
    GlobalsSuit table (core_of table program) (outermost table program).globals
globals_suit table program is = record {
  values = values_are table (constant_parts program) program.constants (core_of table program) 0 [] tt refl;
  classes =
      classes_are table (constant_parts program) (core_of table program) program.constants
      (each_contained (core_of table program).classes);
  types = classes_are_of_types table program is;
}

pub program_well : (parts : (x : Expression) → WellPart (part_of x)) (bodies : (b : Body) → WellBody (body_of b))
    (table : Table) (program : Program) → IsTable (declarations_of program) table → StaticFaults table program ≡ [] →
    IsWellTyped table (core_of table program)
program_well parts bodies table program is none = record {
  operations =
      all_of (IsWellOperation table (core_of table program)) (core_of table program).operations
      (operations_well parts bodies table (core_of table program) (outermost table program).globals (globals_suit table program is)
      (outermost_is_sound table program is none) program.constants (constants_are_faultless table program none)
      (each_contained (core_of table program).classes) (each_contained (core_of table program).operations));
  constants =
      all_of (IsWellConstant table (core_of table program)) (core_of table program).constants
      (constants_well parts bodies table (core_of table program) (outermost table program).globals (globals_suit table program is)
      (outermost_is_sound table program is none) 0 program.constants (constants_are_faultless table program none)
      (each_contained (core_of table program).classes) (each_contained (core_of table program).operations));
}
