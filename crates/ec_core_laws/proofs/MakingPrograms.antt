-- The core of a program makes each of its objects of a class that fits the way in which it is made.
use Rattle.std.proofs.Common.{◌≡◌, ℕ, zero, suc, ◌<◌, List, [], ◌∷◌, length, map, inl, refl, sym, ap, ◌∙◌, subst, All}
use Rattle.std.proofs.Common.{arith}
use Rattle.std.specs.Prelude.{Any, Contains, slice_index_or}
use Rattle.ec_ast.specs.declared.Class.{Class as ClassTree}
use Rattle.ec_ast.specs.declared.Constant.{Constant}
use Rattle.ec_ast.specs.declared.ConstantValue.{ConstantValue}
use Rattle.ec_ast.specs.declared.ConstantValue.TheVariants as stands
use Rattle.ec_ast.specs.declared.Program.{Program}
use Rattle.ec_check.proofs.CapturedNames.{HeldAt, each_captured}
use Rattle.ec_check.proofs.ClassNumbers.{Ascending, Below, ascending}
use Rattle.ec_check.proofs.Every.{Every, every_joined, every_left, every_right, every_weaker, all_of}
use Rattle.ec_check.proofs.FoundPlaces.{held_nowhere}
use Rattle.ec_check.proofs.RangedHolders.{inner_used, outside_body}
use Rattle.ec_check.proofs.RangedParts.{any_of}
use Rattle.ec_check.proofs.RangedPrograms.{each_contained}
use Rattle.ec_check.proofs.RangedTrees.{ranged_body}
use Rattle.ec_check.specs.Numbers.{Number, Kept, Constructed, Created, Begun, Condition, in_expression, in_block}
use Rattle.ec_check.specs.Parts.{Holder, holder_judged}
use Rattle.ec_check.specs.Places.{type_found}
use Rattle.ec_check.specs.Program.{constant_core, constant_made, constants_core, constants_made, core_in, core_of}
use Rattle.ec_check.specs.Program.{outermost}
use Rattle.ec_check.specs.Resolving.{captures_of, class_core, env_in}
use Rattle.ec_check.specs.Tree.{class_part, part_of}
use Rattle.ec_types.specs.Table.{Table}
use Rattle.ec_core.specs.declared.Class.{Class}
use Rattle.ec_core.specs.declared.Constant.{Constant as CoreConstant}
use Rattle.ec_core.specs.declared.Operation.{Operation}
use Rattle.ec_core_laws.proofs.MakingBodies.{holder_makes}
use Rattle.ec_core_laws.proofs.MakingParts.{IsCreated, IsThere, IsGlobal, MeaningIsThere, Taken, OperationMakes, Makes}
use Rattle.ec_core_laws.proofs.MakingParts.{first_taken, second_taken, none_make, both_make}
use Rattle.ec_core_laws.proofs.MakingTrees.{making_part, making_body}
use Rattle.ec_core_laws.specs.Makings.{HoldsOneOfTwo, MakesRight, BeginsBare, IsMadeRight}
use Rattle.ec_types.specs.Names.{Text}
use Rattle.ec_places.specs.Rising.{IsRising}
use Rattle.ec_rules.specs.Captures.{Use, uses_outside}
use Rattle.ec_rules.specs.Faults.{globals_in, meaning_of, scope_of_names, scope_with}
use Rattle.ec_rules.specs.Judging.{uses_within}
use Rattle.ec_rules.specs.Tree.{constant_part, constant_parts, value_part}
use Rattle.ec_types.specs.declared.scopes.globals.Global.{Global}
use Rattle.ec_types.specs.declared.scopes.scope.Scope.{Scope}
use Rattle.ec_types.specs.Scopes.{find}

-- ---- the classes at the top of a program capture nothing

nothing_in : (names : List Text) → Every (λ (name : Text). ⊥) names → names ≡ []
nothing_in [] h = refl
nothing_in (name ∷ names) h = absurd h.0

captures_none : (scope : Scope) (class : ClassTree) → scope.objects ≡ [] → captures_of scope (class_part class) ≡ []
captures_none scope class none =
    let h : Holder = class_part class in
    let uses : List Use = uses_within scope (holder_judged h) in
    let held : Every (HeldAt scope) (uses_outside uses) =
    subst (λ s. Every (HeldAt s) (uses_outside uses)) (outside_body scope h)
    (inner_used scope h (ranged_body class.body)) in
    nothing_in (captures_of scope h)
    (each_captured (λ name. ⊥) uses
    (every_weaker (HeldAt scope) (λ u. ⊥) (λ u e. held_nowhere scope u.name.text u.out none e) (uses_outside uses) held))

captured_none : (scope : Scope) (class : ClassTree) → scope.objects ≡ [] →
    (class_core scope (class_part class)).captured ≡ []
captured_none scope class none = ap (map (λ (name : Text). type_found (find scope name))) (captures_none scope class none)

-- ---- what is made of the constants

value_makes : (classes : List Class) (scope : Scope) (v : ConstantValue) → scope.objects ≡ [] →
    Taken classes scope.globals (constant_made scope v).classes → Makes classes [] (constant_made scope v)
value_makes classes scope (stands.Expression x) none t =
    let made : Makes classes (in_expression ((part_of x).core (env_in scope []))) ((part_of x).made scope) =
    (making_part x).1 classes (env_in scope []) t in
    record { numbers = tt; operations = made.operations; holders = made.holders }
value_makes classes scope (stands.Class class) none t =
    holder_makes classes scope (class_part class) (making_body class.body) (inl (captured_none scope class none)) t
value_makes classes scope (stands.Typeobject x) none t = none_make

values_make : (classes : List Class) (scope : Scope) (cs : List Constant) → scope.objects ≡ [] →
    Taken classes scope.globals (constants_made scope cs).classes → Makes classes [] (constants_made scope cs)
values_make classes scope [] none t = none_make
values_make classes scope (c ∷ cs) none t =
    both_make [] [] (constant_made scope c.value) (constants_made scope cs)
    (value_makes classes scope c.value none
    (first_taken (constant_made scope c.value).classes (constants_made scope cs).classes t))
    (values_make classes scope cs none
    (second_taken (constant_made scope c.value).classes (constants_made scope cs).classes t))

abbrev ConstantMakes : List Class → CoreConstant → Type 0
ConstantMakes classes c = Every (IsThere classes) (in_expression c.value)

constant_makes : (classes : List Class) (scope : Scope) (n : ℕ) (c : Constant) (v : ConstantValue) →
    Taken classes scope.globals (constant_made scope v).classes →
    Every (ConstantMakes classes) (constant_core (env_in scope []) n c v)
constant_makes classes scope n c (stands.Expression x) t = (((making_part x).1 classes (env_in scope []) t).numbers, tt)
constant_makes classes scope n c (stands.Class class) t = tt
constant_makes classes scope n c (stands.Typeobject x) t = tt

constants_make : (classes : List Class) (scope : Scope) (n : ℕ) (cs : List Constant) →
    Taken classes scope.globals (constants_made scope cs).classes →
    Every (ConstantMakes classes) (constants_core (env_in scope []) n cs)
constants_make classes scope n [] t = tt
constants_make classes scope n (c ∷ cs) t =
    every_joined (ConstantMakes classes) (constant_core (env_in scope []) n c c.value)
    (constants_core (env_in scope []) (suc n) cs)
    (constant_makes classes scope n c c.value
    (first_taken (constant_made scope c.value).classes (constants_made scope cs).classes t))
    (constants_make classes scope (suc n) cs
    (second_taken (constant_made scope c.value).classes (constants_made scope cs).classes t))

-- ---- the classes that constants mean

module _ (classes : List Class) (table : Table) (globals other : List Global) where
  class_there : (c : Constant) (v : ConstantValue) →
      Every (Contains classes) (constant_made (scope_with table globals) v).classes →
      MeaningIsThere classes (meaning_of (scope_with table other) c.of (value_part v))
  class_there c (stands.Expression x) h = tt
  class_there c (stands.Class class) h =
      let own : Class = class_core (scope_with table globals) (class_part class) in
      any_of (IsCreated own.number) classes own h.0 (refl, captured_none (scope_with table globals) class refl)
  class_there c (stands.Typeobject t) h = tt

  classes_there : (cs : List Constant) → Every (Contains classes) (constants_made (scope_with table globals) cs).classes →
      Every (IsGlobal classes) (globals_in (scope_with table other) (map constant_part cs))
  classes_there [] h = tt
  classes_there (c ∷ cs) h = (
    class_there c c.value
        (every_left (Contains classes) (constant_made (scope_with table globals) c.value).classes
        (constants_made (scope_with table globals) cs).classes h),
    classes_there cs
        (every_right (Contains classes) (constant_made (scope_with table globals) c.value).classes
        (constants_made (scope_with table globals) cs).classes h),
  )

-- ---- where numbers rise, a class with a number is the only one

abbrev pub numbers : List Class → List ℕ
numbers cs = map (λ (c : Class). c.number) cs

abbrev IsOnly : Class → Class → Type 0
IsOnly x c = c.number ≡ x.number → c ≡ x

none_above : (n : ℕ) (x : Class) (cs : List Class) → n ≡ x.number → Below n (numbers cs) → Every (IsOnly x) cs
none_above n x [] e h = tt
none_above n x (c ∷ cs) e h = (
  (λ same. let l : n < c.number = h.0 in let f : c.number ≡ x.number = same in absurd (omega arith)),
  none_above n x cs e h.1,
)

below_at : (n : ℕ) (x : Class) (cs : List Class) (k : ℕ) → k < length cs → slice_index_or cs k x ≡ x →
    Below n (numbers cs) → n < x.number
below_at n x [] k l at h = absurd (omega arith)
below_at n x (c ∷ cs) zero l at h = subst (λ (d : Class). n < d.number) at h.0
below_at n x (c ∷ cs) (suc k) l at h = below_at n x cs k (omega arith) at h.1

only_one : (x : Class) (cs : List Class) (k : ℕ) → k < length cs → slice_index_or cs k x ≡ x → Ascending (numbers cs) →
    Every (IsOnly x) cs
only_one x [] k l at h = tt
only_one x (c ∷ cs) zero l at h = ((λ same. at), none_above c.number x cs (ap (λ (d : Class). d.number) at) h.0)
only_one x (c ∷ cs) (suc k) l at h = (
  (λ same.
      let b : c.number < x.number = below_at c.number x cs k (omega arith) at h.0 in
      let f : c.number ≡ x.number = same in absurd (omega arith)),
  only_one x cs k (omega arith) at h.1,
)

-- what holds of one class with a number holds of all
all_with : (P : Class → Type 0) (n : ℕ) (classes : List Class) → Ascending (numbers classes) →
    Any (λ (c : Class). (c.number ≡ n) × P c) classes → All (λ (c : Class). c.number ≡ n → P c) classes
all_with P n classes h there =
    all_of (λ (c : Class). c.number ≡ n → P c) classes
    (every_weaker (IsOnly there.1) (λ (c : Class). c.number ≡ n → P c)
    (λ c only e. subst P (sym (only (e ∙ sym there.4.0))) there.4.1) classes
    (only_one there.1 classes there.0 there.2 there.3 h))

made_right : (classes : List Class) → Ascending (numbers classes) → (n : Number) → IsThere classes n → MakesRight classes n
made_right classes h (Kept place) t = tt
made_right classes h (Constructed n values) t = all_with (λ (c : Class). c.parameters ≡ 0) n classes h t
made_right classes h (Created n arguments) t = all_with (λ (c : Class). c.captured ≡ []) n classes h t
made_right classes h (Begun n) t = tt
made_right classes h (Condition n) t = tt

all_right : (classes : List Class) → Ascending (numbers classes) → (ns : List Number) → Every (IsThere classes) ns →
    All (MakesRight classes) ns
all_right classes h ns t =
    all_of (MakesRight classes) ns (every_weaker (IsThere classes) (MakesRight classes) (made_right classes h) ns t)

-- ---- the whole

abbrev OperationRight : List Class → Operation → Type 0
OperationRight classes o = All (MakesRight classes) (in_block o.block)

abbrev ConstantRight : List Class → CoreConstant → Type 0
ConstantRight classes c = All (MakesRight classes) (in_expression c.value)

constants_right : (table : Table) (globals other : List Global) (cs : List Constant) →
    globals ≡ globals_in (scope_with table other) (map constant_part cs) →
    IsRising (numbers (constants_made (scope_with table globals) cs).classes) →
    IsMadeRight (core_in (scope_with table globals) cs)
constants_right table globals other cs same rising =
    let scope : Scope = scope_with table globals in
    let classes : List Class = (constants_made scope cs).classes in
    let ascend : Ascending (numbers classes) = ascending (numbers classes) rising in
    let taken : Taken classes globals classes = record {
      known = subst (Every (IsGlobal classes)) (sym same)
          (classes_there classes table globals other cs (each_contained classes));
      within = each_contained classes;
    } in
    let made : Makes classes [] (constants_made scope cs) = values_make classes scope cs refl taken in
    let operations : List Operation = (constants_made scope cs).operations in
    record {
      classes = all_of HoldsOneOfTwo classes made.holders;
      operations =
          all_of (OperationRight classes) operations
          (every_weaker (OperationMakes classes) (OperationRight classes)
          (λ o h. all_right classes ascend (in_block o.block) h.0)
          operations made.operations);
      constants =
          all_of (ConstantRight classes) (constants_core (env_in scope []) 0 cs)
          (every_weaker (ConstantMakes classes) (ConstantRight classes)
          (λ c h. all_right classes ascend (in_expression c.value) h)
          (constants_core (env_in scope []) 0 cs) (constants_make classes scope 0 cs taken));
      begins =
          all_of BeginsBare operations
          (every_weaker (OperationMakes classes) BeginsBare (λ o h. h.1) operations made.operations);
    }

-- This holds of all programs, also of those with faults.
pub program_makes : (table : Table) (program : Program) → IsRising (numbers (core_of table program).classes) →
    IsMadeRight (core_of table program)
program_makes table program rising =
    constants_right table (outermost table program).globals (scope_of_names table (constant_parts program)).globals
    program.constants refl rising
