-- The group of an object: what moves with it (Jul, Levy, Hutchinson, Black 1988: attachment).
use Rattle.std.specs.Prelude.{◌≡◌, ℕ, zero, suc, ◌==◌, ◌<◌, ◌||◌, ◌↔◌, Bool, true, false, if◌then◌else◌, List, [], ◌∷◌, ◌++◌}
use Rattle.std.specs.Prelude.{length, Option, Some, None, IsSome, slice_get}
use Rattle.ec_world.specs.declared.value.Value.{Value}
use Rattle.ec_world.specs.declared.value.Value.TheVariants.{Int, Str, Ref, Nil, Bool as Truth}
use Rattle.ec_world.specs.declared.class.FieldRec.{FieldRec}
use Rattle.ec_world.specs.declared.class.ClassRec.{ClassRec}
use Rattle.ec_world.specs.declared.object.ObjectRec.{ObjectRec}
use Rattle.ec_world.specs.declared.common.Common.{Common}
use Rattle.ec_world.specs.Objects.{object_at, class_at, fixed_if}

-- x stands at some place of the list
pub record Has {A : Type 0} (xs : List A) (x : A) : Type 0 where
  pub at : ℕ
  pub is : slice_get xs at ≡ Some x

abbrev pub link_of : FieldRec → Value → List ℕ → List ℕ
link_of f (Ref o) rest = if f.attached then o ∷ rest else rest
link_of f (Int z) rest = rest
link_of f (Truth b) rest = rest
link_of f (Str s) rest = rest
link_of f Nil rest = rest

-- the objects in attached fields that aren't nil
abbrev pub links_in : List FieldRec → List Value → List ℕ
links_in [] vs = []
links_in (f ∷ fs) [] = []
links_in (f ∷ fs) (v ∷ vs) = link_of f v (links_in fs vs)

abbrev pub fields_if : Option ClassRec → List FieldRec
fields_if None = []
fields_if (Some k) = k.fields

abbrev pub links_if : List ClassRec → Option ObjectRec → List ℕ
links_if classes None = []
links_if classes (Some o) = links_in (fields_if (class_at classes o.class)) o.fields

-- the objects to which an object is attached
abbrev pub links_of : Common → ℕ → List ℕ
links_of c oid = links_if c.classes (object_at c.objects oid)

-- the least set with object x that is closed under attached fields that aren't nil; a field that names no object that is
-- there leads to none, and a number that names no object has no group: nothing is in it
pub data InGroup (c : Common) (x : ℕ) : ℕ → Type 0 where
  Itself : IsSome (object_at c.objects x) → InGroup c x x
  Linked : (y z : ℕ) → InGroup c x y → Has (links_of c y) z → IsSome (object_at c.objects z) → InGroup c x z

-- each item is below the next
abbrev pub IsRising : List ℕ → Type 0
IsRising [] = Unit {0}
IsRising (x ∷ []) = Unit {0}
IsRising (x ∷ y ∷ ys) = (x < y) × IsRising (y ∷ ys)

-- the members of x's group, rising
pub record IsGroup (c : Common) (x : ℕ) (members : List ℕ) : Type 0 where
  pub rising : IsRising members
  pub each : (y : ℕ) → Has members y ↔ InGroup c x y

-- the mark of an object; numbers begin at 1
abbrev pub mark_at : List Bool → ℕ → Option Bool
mark_at marks zero = None
mark_at marks (suc i) = slice_get marks i

-- one mark an object, set for the members of x's group and for no other
pub record MarksGroup (c : Common) (x : ℕ) (marks : List Bool) : Type 0 where
  pub one_each : length marks ≡ length c.objects
  pub each : (y : ℕ) → (mark_at marks y ≡ Some true) ↔ InGroup c x y

-- the group as a list, by marks: one mark an object, and each round marks what marked objects are attached to
abbrev pub is_in : ℕ → List ℕ → Bool
is_in y [] = false
is_in y (x ∷ xs) = (x == y) || is_in y xs

-- what the marked objects from number oid on are attached to
abbrev pub wanted : Common → ℕ → List Bool → List ℕ
wanted c oid [] = []
wanted c oid (true ∷ ms) = links_of c oid ++ wanted c (suc oid) ms
wanted c oid (false ∷ ms) = wanted c (suc oid) ms

abbrev pub mark_all : List ℕ → ℕ → List Bool → List Bool
mark_all names oid [] = []
mark_all names oid (m ∷ ms) = (m || is_in oid names) ∷ mark_all names (suc oid) ms

abbrev pub spread : Common → List Bool → List Bool
spread c marks = mark_all (wanted c 1 marks) 1 marks

-- so many rounds
unfoldable pub rounds : Common → ℕ → List Bool → List Bool
rounds c zero marks = marks
rounds c (suc n) marks = rounds c n (spread c marks)

abbrev pub none_marked : List ObjectRec → List Bool
none_marked [] = []
none_marked (o ∷ os) = false ∷ none_marked os

abbrev pub marked_from : ℕ → List Bool → List ℕ
marked_from oid [] = []
marked_from oid (true ∷ ms) = oid ∷ marked_from (suc oid) ms
marked_from oid (false ∷ ms) = marked_from (suc oid) ms

-- the members of x's group: as many rounds as there are objects reach them all; none where x names no object
abbrev pub group_of : Common → ℕ → List ℕ
group_of c x = marked_from 1 (rounds c (length c.objects) (mark_all (x ∷ []) 1 (none_marked c.objects)))

-- some member is fixed
abbrev pub any_fixed : Common → List ℕ → Bool
any_fixed c [] = false
any_fixed c (m ∷ ms) = fixed_if (object_at c.objects m) || any_fixed c ms
