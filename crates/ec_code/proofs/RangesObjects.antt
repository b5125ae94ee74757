-- Objects stay in range where one is changed or added; what a world sees of them is in range.
use Rattle.std.proofs.Common.{◌≡◌, ℕ, ◌≤◌, arith, List, length, map, drop, Option, Some, None, refl}
use Rattle.std.proofs.Common.{subst, option_map}
use Rattle.std.proofs.lemmas.List.{length-set}
use Rattle.std.specs.List.{AllByRecursion as Each}
use Rattle.std.specs.Prelude.{slice_set}
use Rattle.ec_code.proofs.Carried.{each_append, each_changed, each_object, each_set}
use Rattle.ec_world.specs.Doings.{largest}
use Rattle.ec_world.specs.Objects.{changed_object, elements_if, elements_of_class, object_at}
use Rattle.ec_world.specs.Outcomes.{with_element}
use Rattle.ec_world.specs.Sights.{element_in, sight_of}
use Rattle.ec_world.specs.Values.{default_of, defaults_of, new_fields}
use Rattle.ec_world.specs.declared.class.ClassNo.{ClassNo}
use Rattle.ec_world.specs.declared.class.ClassNo.TheVariants.{Node, Program, Made, Vector}
use Rattle.ec_world.specs.declared.class.FieldRec.{FieldRec}
use Rattle.ec_world.specs.declared.common.Common.{Common}
use Rattle.ec_world.specs.declared.object.ObjectRec.{ObjectRec}
use Rattle.ec_world.specs.declared.value.Value.{Value}
use Rattle.ec_world.specs.declared.value.ValueType.{ValueType}
use Rattle.ec_world.specs.declared.value.ValueType.TheVariants.{Integer, Boolean, Bytes, Reference}
use Rattle.ec_code.specs.Actions.{RangedSight}
use Rattle.ec_code.specs.RangesValues.{AllInRange, GivenInRange, InRange}
use Rattle.ec_code.specs.Worlds.{FewElements, RangedCommon, RangedFields, RangedObject}
use Rattle.ec_code.proofs.RangesLists.{IfThere, each_map, given_get}

-- ---- defaults

pub default_ranged : (t : ValueType) → InRange (default_of t)
default_ranged Integer = record { sfits = omega arith }
default_ranged Boolean = tt
default_ranged Bytes = record { short = omega arith; bytes = tt }
default_ranged Reference = tt

pub defaults_ranged : (ts : List ValueType) → AllInRange (defaults_of ts)
defaults_ranged ts = each_map InRange default_of default_ranged ts

pub new_fields_ranged : (given : List Value) (fields : List FieldRec) → AllInRange given → AllInRange (new_fields given fields)
new_fields_ranged given fields h =
    let rest : List FieldRec = drop (length given) fields in
    each_append InRange given (map (λ (f : FieldRec). default_of f.of) rest) h
    (each_map InRange (λ (f : FieldRec). default_of f.of) (λ (f : FieldRec). default_ranged f.of) rest)

-- ---- objects

few_set : (class : ClassNo) (vs : List Value) (i : ℕ) (v : Value) → FewElements class vs → FewElements class (slice_set vs i v)
few_set (Vector of) vs i v h = omega (arith, length-set vs i v, h)
few_set Node vs i v h = tt
few_set Program vs i v h = tt
few_set (Made k) vs i v h = tt

pub element_ranged : (i : ℕ) (v : Value) → InRange v → (o : ObjectRec) → RangedObject o → RangedObject (with_element i v o)
element_ranged i v r o h =
    record { values = each_set InRange o.fields i v h.values r; few = few_set o.class o.fields i v h.few }

pub changed_ranged : (objects : List ObjectRec) (oid : ℕ) (change : ObjectRec → ObjectRec) → Each RangedObject objects
    → ((o : ObjectRec) → RangedObject o → RangedObject (change o)) → Each RangedObject (changed_object objects oid change)
changed_ranged objects oid change h f =
    each_changed RangedObject objects oid change h (λ o at. f o (each_object RangedObject objects oid o h at))

-- the fields of an object that is there
pub object_there : (objects : List ObjectRec) (oid : ℕ) → Each RangedObject objects → IfThere RangedObject (object_at objects oid)
object_there objects oid h = by (object_at objects oid) refl
  where
    by : (r : Option ObjectRec) → object_at objects oid ≡ r → IfThere RangedObject r
    by None e = tt
    by (Some o) e = each_object RangedObject objects oid o h e

-- ---- what a world sees

-- what holds of a vector's elements
few_in : (class : ClassNo) (fields : List Value) → RangedFields class fields → (n : ℕ)
    → option_map length (elements_of_class class fields) ≡ Some n → n ≤ largest
few_in (Vector of) fields h n e = let s : length fields ≡ n = cc in omega (arith, s, h.few)
few_in Node fields h n e = cc
few_in Program fields h n e = cc
few_in (Made k) fields h n e = cc

size_by : (r : Option ObjectRec) → IfThere RangedObject r → (n : ℕ) → option_map length (elements_if r) ≡ Some n → n ≤ largest
size_by None h n e = cc
size_by (Some o) h n e = few_in o.class o.fields h n e

some_ranged : (x : Option Value) (v : Value) → GivenInRange x → x ≡ Some v → InRange v
some_ranged None v h e = cc
some_ranged (Some u) v h e = let s : u ≡ v = cc in subst (λ z. InRange z) s h

element_of : (class : ClassNo) (fields : List Value) → RangedFields class fields → (i : ℕ)
    → GivenInRange (element_in (elements_of_class class fields) i)
element_of (Vector of) fields h i = given_get fields i h.values
element_of Node fields h i = tt
element_of Program fields h i = tt
element_of (Made k) fields h i = tt

element_by : (r : Option ObjectRec) → IfThere RangedObject r → (i : ℕ) → GivenInRange (element_in (elements_if r) i)
element_by None h i = tt
element_by (Some o) h i = element_of o.class o.fields h i

pub sight_ranged : (c : Common) → RangedCommon c → RangedSight (sight_of c)
sight_ranged c h = record {
  nodes = h.nodes;
  size = λ o n e. size_by (object_at c.objects o) (object_there c.objects o h.objects) n e;
  element = λ o i v e.
      some_ranged (element_in (elements_if (object_at c.objects o)) i) v
      (element_by (object_at c.objects o) (object_there c.objects o h.objects) i) e;
}
