-- In the core of a program without faults each number is in range.
use Rattle.std.proofs.Common.{◌≡◌, ℕ, zero, suc, ◌+◌, ◌<◌, Bool, true, false, if◌then◌else◌, List, [], ◌∷◌, ◌++◌, length, map}
use Rattle.std.proofs.Common.{Option, refl, sym, subst, All, arith}
use Rattle.std.specs.Prelude.{Contains}
use Rattle.std.proofs.lemmas.List.{length-map}
use Rattle.ec_ast.specs.declared.Constant.{Constant}
use Rattle.ec_ast.specs.declared.ConstantValue.{ConstantValue}
use Rattle.ec_ast.specs.declared.ConstantValue.TheVariants as stands
use Rattle.ec_ast.specs.declared.Expression.{Expression}
use Rattle.ec_ast.specs.declared.Name.{Name}
use Rattle.ec_ast.specs.declared.Program.{Program}
use Rattle.ec_ast.specs.declared.TypeName.{TypeName}
use Rattle.ec_check.proofs.CapturedNames.{HeldAt}
use Rattle.ec_check.proofs.Every.{Every, every_joined, every_left, every_right, every_weaker, every_unmap, all_of, none_left, none_each}
use Rattle.ec_check.proofs.FoundPlaces.{Fits, GlobalsAre, ValuesFrom, ClassThere, held_nowhere}
use Rattle.ec_check.proofs.Fusion.{same_part, same_class}
use Rattle.ec_check.proofs.RangedHolders.{holder_ranged}
use Rattle.ec_check.proofs.RangedParts.{Ranged, ClassesWithin, any_of}
use Rattle.ec_check.proofs.RangedTrees.{ranged_part, ranged_body}
use Rattle.ec_check.specs.Numbers.{Whole, InRange, IsOperation, IsInRange, limits_outside, whole_of, in_expression}
use Rattle.ec_check.specs.Places.{Env}
use Rattle.ec_check.specs.Program.{constant_core, constant_made, constants_core, constants_made, outermost, core_in, core_of}
use Rattle.ec_check.specs.Resolving.{env_in, class_core}
use Rattle.ec_check.specs.Tree.{class_part, part_of}
use Rattle.ec_types.specs.Table.{Table}
use Rattle.ec_core.specs.declared.Constant.{Constant as CoreConstant}
use Rattle.ec_rules.specs.Captures.{Use, uses_outside}
use Rattle.ec_rules.specs.Faults.{meaning_of, globals_in, scope_with, scope_of_names, faults_in_constant, faults_of_program, StaticFaults}
use Rattle.ec_rules.specs.Judging.{faults_in_holder}
use Rattle.ec_rules.specs.Parts.{faults_in}
use Rattle.ec_rules.specs.Rules.{is_before, insert, in_order}
use Rattle.ec_rules.specs.Tree as judged_tree
use Rattle.ec_rules.specs.Tree.{constant_part, constant_parts, value_part}
use Rattle.ec_rules.specs.declared.StaticFault.{StaticFault}
use Rattle.ec_types.specs.declared.scopes.globals.Global.{Global}
use Rattle.ec_types.specs.declared.scopes.scope.Scope.{Scope}
use Rattle.ec_types.specs.Scopes.{outside, written_in}

-- ---- faults in their order

one_of_two : (b : Bool) (f g : StaticFault) (fs gs : List StaticFault) → (if b then (f ∷ fs) else (g ∷ gs)) ≡ [] → ⊥
one_of_two true f g fs gs e = cc
one_of_two false f g fs gs e = cc

inserted : (f : StaticFault) (fs : List StaticFault) → insert f fs ≡ [] → ⊥
inserted f [] e = cc
inserted f (g ∷ gs) e = one_of_two (is_before g f) g f (insert f gs) (g ∷ gs) e

pub none_in_order : (fs : List StaticFault) → in_order fs ≡ [] → fs ≡ []
none_in_order [] e = refl
none_in_order (f ∷ fs) e = absurd (inserted f (in_order fs) e)

-- ---- a list contains what is in it

contained_behind : {A : Type 0} (x : A) (xs : List A) (y : A) → Contains xs y → Contains (x ∷ xs) y
contained_behind x xs y c = (suc c.0, let l : c.0 < length xs = c.1 in omega arith, c.2)

pub each_contained : {A : Type 0} (xs : List A) → Every (Contains xs) xs
each_contained [] = tt
each_contained (x ∷ xs) = (
  (zero, omega arith, refl),
  every_weaker (Contains xs) (Contains (x ∷ xs)) (contained_behind x xs) xs (each_contained xs),
)

-- ---- outside every object

pub none_held : (scope : Scope) (us : List Use) → scope.objects ≡ [] → Every (HeldAt scope) us → us ≡ []
none_held scope [] e h = refl
none_held scope (u ∷ us) e h = absurd (held_nowhere scope u.name.text u.out e h.0)

-- ---- the constants in scope

abbrev numbers_of : List CoreConstant → List ℕ
numbers_of cs = map (λ (c : CoreConstant). c.number) cs

module _ (whole : Whole) where
  values_later : (n : ℕ) (gs : List Global) → ValuesFrom whole (suc n) gs → ValuesFrom whole (n + 1) gs
  values_later n gs h = let e : suc n ≡ n + 1 = omega arith in subst (λ m. ValuesFrom whole m gs) e h

  abbrev global_of : Scope → Constant → ConstantValue → Global
  global_of names c v = record { name = c.name.text; meaning = meaning_of names c.of (value_part v) }

  value_there : (env : Env) (names : Scope) (n : ℕ) (c : Constant) (v : ConstantValue) (later : List CoreConstant) (gs : List Global) →
      Every (Contains whole.constants) (numbers_of (constant_core env n c v ++ later)) →
      (Every (Contains whole.constants) (numbers_of later) → ValuesFrom whole (suc n) gs) →
      ValuesFrom whole n (global_of names c v ∷ gs)
  value_there env names n c (stands.Expression x) later gs h k = (h.0, values_later n gs (k h.1))
  value_there env names n c (stands.Class class) later gs h k = (tt, values_later n gs (k h))
  value_there env names n c (stands.Typeobject t) later gs h k = (tt, values_later n gs (k h))

  values_there : (env : Env) (names : Scope) (n : ℕ) (cs : List Constant) →
      Every (Contains whole.constants) (numbers_of (constants_core env n cs)) →
      ValuesFrom whole n (globals_in names (map constant_part cs))
  values_there env names n [] h = tt
  values_there env names n (c ∷ cs) h =
      value_there env names n c c.value (constants_core env (suc n) cs) (globals_in names (map constant_part cs)) h
      (values_there env names (suc n) cs)

  class_there : (table : Table) (globals other : List Global) (c : Constant) (v : ConstantValue) →
      ClassesWithin whole (constant_made (scope_with table globals) v).classes →
      ClassThere whole (global_of (scope_with table other) c v).meaning
  class_there table globals other c (stands.Expression x) h = tt
  class_there table globals other c (stands.Class class) h =
      any_of _ whole.classes (class_core (scope_with table globals) (class_part class)) h.0
      (refl, sym (length-map class.parameters (λ p. written_in (scope_with table other) p.of)))
  class_there table globals other c (stands.Typeobject t) h = tt

  classes_there : (table : Table) (globals other : List Global) (cs : List Constant) →
      ClassesWithin whole (constants_made (scope_with table globals) cs).classes →
      Every (λ (g : Global). ClassThere whole g.meaning) (globals_in (scope_with table other) (map constant_part cs))
  classes_there table globals other [] h = tt
  classes_there table globals other (c ∷ cs) h = (
    class_there table globals other c c.value
        (every_left (Contains whole.classes) (constant_made (scope_with table globals) c.value).classes
        (constants_made (scope_with table globals) cs).classes h),
    classes_there table globals other cs
        (every_right (Contains whole.classes) (constant_made (scope_with table globals) c.value).classes
        (constants_made (scope_with table globals) cs).classes h),
  )

  -- ---- the values of the constants

  fits_outside : (table : Table) (globals : List Global) → GlobalsAre whole globals →
      Fits (limits_outside whole) (env_in (scope_with table globals) [])
  fits_outside table globals g = record {
    numbers = tt;
    locals = omega arith;
    fields = omega arith;
    conditions = omega arith;
    captures = omega arith;
    globals = g;
  }

  value_ranged : (table : Table) (globals : List Global) (x : Expression) → GlobalsAre whole globals →
      faults_in (scope_with table globals) (judged_tree.part_of x) ≡ [] →
      ClassesWithin whole ((part_of x).made (scope_with table globals)).classes →
      Ranged (limits_outside whole) (in_expression ((part_of x).core (env_in (scope_with table globals) [])))
      ((part_of x).made (scope_with table globals)).operations
  value_ranged table globals x g e w =
      (ranged_part x).ranged true (limits_outside whole) (env_in (scope_with table globals) [])
      (record {
        fits = fits_outside table globals g;
        reach = λ c.
            none_held (outside (scope_with table globals))
            (uses_outside ((part_of x).part.judged true (scope_with table globals)).uses) refl
            ((ranged_part x).uses true (scope_with table globals));
        faultless = subst (λ p. faults_in (scope_with table globals) p ≡ []) (sym (same_part x)) e;
        within = w;
      })

  abbrev Faultless : Scope → Constant → Type 0
  Faultless scope c = faults_in_constant scope c.name c.of (value_part c.value) ≡ []

  value_operations : (table : Table) (globals : List Global) (name : Name) (of : Option TypeName) (v : ConstantValue) →
      GlobalsAre whole globals → faults_in_constant (scope_with table globals) name of (value_part v) ≡ [] →
      ClassesWithin whole (constant_made (scope_with table globals) v).classes →
      Every (IsOperation whole) (constant_made (scope_with table globals) v).operations
  value_operations table globals name of (stands.Expression x) g e w =
      (value_ranged table globals x g (none_left _ _ e) w).operations
  value_operations table globals name of (stands.Class class) g e w =
      holder_ranged whole (scope_with table globals) (class_part class) (ranged_body class.body) g
      (subst (λ h. faults_in_holder (scope_with table globals) h ≡ []) (sym (same_class class)) (none_left _ _ e)) w
  value_operations table globals name of (stands.Typeobject t) g e w = tt

  constants_operations : (table : Table) (globals : List Global) (cs : List Constant) → GlobalsAre whole globals →
      Every (Faultless (scope_with table globals)) cs → ClassesWithin whole (constants_made (scope_with table globals) cs).classes →
      Every (IsOperation whole) (constants_made (scope_with table globals) cs).operations
  constants_operations table globals [] g e w = tt
  constants_operations table globals (c ∷ cs) g e w =
      every_joined (IsOperation whole) (constant_made (scope_with table globals) c.value).operations
      (constants_made (scope_with table globals) cs).operations
      (value_operations table globals c.name c.of c.value g e.0
      (every_left (Contains whole.classes) (constant_made (scope_with table globals) c.value).classes
      (constants_made (scope_with table globals) cs).classes w))
      (constants_operations table globals cs g e.1
      (every_right (Contains whole.classes) (constant_made (scope_with table globals) c.value).classes
      (constants_made (scope_with table globals) cs).classes w))

  abbrev ValueInRange : CoreConstant → Type 0
  ValueInRange c = All (InRange (limits_outside whole)) (in_expression c.value)

  value_in_range : (table : Table) (globals : List Global) (n : ℕ) (c : Constant) (name : Name) (of : Option TypeName)
      (v : ConstantValue) → GlobalsAre whole globals →
      faults_in_constant (scope_with table globals) name of (value_part v) ≡ [] →
      ClassesWithin whole (constant_made (scope_with table globals) v).classes →
      Every ValueInRange (constant_core (env_in (scope_with table globals) []) n c v)
  value_in_range table globals n c name of (stands.Expression x) g e w = (
    all_of (InRange (limits_outside whole)) (in_expression ((part_of x).core (env_in (scope_with table globals) [])))
        (value_ranged table globals x g (none_left _ _ e) w).numbers,
    tt,
  )
  value_in_range table globals n c name of (stands.Class class) g e w = tt
  value_in_range table globals n c name of (stands.Typeobject t) g e w = tt

  constants_in_range : (table : Table) (globals : List Global) (n : ℕ) (cs : List Constant) → GlobalsAre whole globals →
      Every (Faultless (scope_with table globals)) cs → ClassesWithin whole (constants_made (scope_with table globals) cs).classes →
      Every ValueInRange (constants_core (env_in (scope_with table globals) []) n cs)
  constants_in_range table globals n [] g e w = tt
  constants_in_range table globals n (c ∷ cs) g e w =
      every_joined ValueInRange (constant_core (env_in (scope_with table globals) []) n c c.value)
      (constants_core (env_in (scope_with table globals) []) (suc n) cs)
      (value_in_range table globals n c c.name c.of c.value g e.0
      (every_left (Contains whole.classes) (constant_made (scope_with table globals) c.value).classes
      (constants_made (scope_with table globals) cs).classes w))
      (constants_in_range table globals (suc n) cs g e.1
      (every_right (Contains whole.classes) (constant_made (scope_with table globals) c.value).classes
      (constants_made (scope_with table globals) cs).classes w))

-- ---- programs

constants_ranged : (table : Table) (globals other : List Global) (cs : List Constant) →
    globals ≡ globals_in (scope_with table other) (map constant_part cs) →
    Every (λ (c : Constant). faults_in_constant (scope_with table globals) c.name c.of (value_part c.value) ≡ []) cs →
    IsInRange (core_in (scope_with table globals) cs)
constants_ranged table globals other cs same e =
    let whole : Whole = whole_of (core_in (scope_with table globals) cs) in
    let classes : ClassesWithin whole (constants_made (scope_with table globals) cs).classes =
    each_contained (constants_made (scope_with table globals) cs).classes in
    let are : GlobalsAre whole globals =
    subst (GlobalsAre whole) (sym same)
    (record {
      values =
          values_there whole (env_in (scope_with table globals) []) (scope_with table other) 0 cs
          (each_contained (numbers_of (constants_core (env_in (scope_with table globals) []) 0 cs)));
      classes = classes_there whole table globals other cs classes;
    }) in
    record {
      operations =
          all_of (IsOperation whole) (constants_made (scope_with table globals) cs).operations
          (constants_operations whole table globals cs are e classes);
      constants =
          all_of (ValueInRange whole) (constants_core (env_in (scope_with table globals) []) 0 cs)
          (constants_in_range whole table globals 0 cs are e classes);
    }

pub program_ranged : (table : Table) (program : Program) → StaticFaults table program ≡ [] → IsInRange (core_of table program)
program_ranged table program none =
    constants_ranged table (outermost table program).globals (scope_of_names table (constant_parts program)).globals
    program.constants refl
    (every_unmap (λ c. faults_in_constant (outermost table program) c.name c.of c.value ≡ []) constant_part program.constants
    (none_each (λ c. faults_in_constant (outermost table program) c.name c.of c.value) (constant_parts program)
    (none_left _ _ (none_in_order (faults_of_program table program) none))))
