-- As many rounds of marking as there are objects reach the whole group.
use Rattle.std.proofs.Common.{◌≡◌, ℕ, zero, suc, ◌+◌, ◌<◌, ◌≤◌, ◌⊎◌, inl, inr, ⊎_elim, Bool, true, false, ◌||◌, List, [], ◌∷◌}
use Rattle.std.proofs.Common.{length, Option, Some, None, refl, sym, ap, ◌∙◌, arith}
use Rattle.std.specs.Prelude.{slice_get, IsSome, ◌==◌}
use Rattle.std.proofs.lemmas.Grind.{common_steps}
use Rattle.ec_base.proofs.Lists.{get_within, get_there}
use Rattle.ec_world.specs.declared.value.Value.{Value}
use Rattle.ec_world.specs.declared.value.Value.TheVariants.{Int, Str, Ref, Nil, Bool as Truth}
use Rattle.ec_world.specs.declared.class.FieldRec.{FieldRec}
use Rattle.ec_world.specs.declared.class.ClassNo.{ClassNo}
use Rattle.ec_world.specs.declared.class.ClassNo.TheVariants.{Node, Program, Made, Vector}
use Rattle.ec_world.specs.declared.class.ClassRec.{ClassRec}
use Rattle.ec_world.specs.declared.object.ObjectRec.{ObjectRec}
use Rattle.ec_world.specs.declared.common.Common.{Common}
use Rattle.ec_world.specs.Objects.{object_at, class_at}
use Rattle.ec_world.specs.Group.{Has, InGroup, IsGroup, MarksGroup, link_of, links_in, fields_if, links_if, links_of, mark_at}
use Rattle.ec_world.specs.Group.{is_in, wanted, mark_all, spread, rounds, none_marked, group_of}
use Rattle.ec_world.specs.Group.InGroup.{Itself, Linked}
use Rattle.ec_world.proofs.Members.{has_none, has_first, has_later, has_parts, has_one, has_front, has_back, has_either, group_same}
use Rattle.ec_world.proofs.Members.{marked_group, object_within, within_object, mark_within}

-- ---- what is in a list of names

is_in_step : (y x : ℕ) (xs : List ℕ) (b : Bool) → (x == y) ≡ b → (b || is_in y xs) ≡ true → (y ≡ x) ⊎ (is_in y xs ≡ true)
is_in_step y x xs true e h = inl (grind (arith, common_steps))
is_in_step y x xs false e h = inr h

is_in_has : (y : ℕ) (xs : List ℕ) → is_in y xs ≡ true → Has xs y
is_in_has y [] h = cc
is_in_has y (x ∷ xs) h = ⊎_elim
    (λ (e : y ≡ x). rw e (has_first x xs))
    (λ (k : is_in y xs ≡ true). has_later x y xs (is_in_has y xs k))
    (is_in_step y x xs (x == y) refl h)

or_right : (a b : Bool) → b ≡ true → (a || b) ≡ true
or_right true b e = refl
or_right false b e = e

or_left : (a b : Bool) → a ≡ true → (a || b) ≡ true
or_left true b e = refl
or_left false b e = cc

or_parts : (a b : Bool) → (a || b) ≡ true → (a ≡ true) ⊎ (b ≡ true)
or_parts true b e = inl refl
or_parts false b e = inr e

same_number : (x : ℕ) → (x == x) ≡ true
same_number x = grind (arith, common_steps)

has_is_in : (y : ℕ) (xs : List ℕ) → Has xs y → is_in y xs ≡ true
has_is_in y [] h = absurd (has_none y h)
has_is_in y (x ∷ xs) h = ⊎_elim
    (λ (e : y ≡ x). or_left (x == y) (is_in y xs) (rw e (same_number x)))
    (λ (k : Has xs y). or_right (x == y) (is_in y xs) (has_is_in y xs k))
    (has_parts x y xs h)

-- ---- marking names

length-mark_all : (names : List ℕ) (oid : ℕ) (ms : List Bool) → length (mark_all names oid ms) ≡ length ms
length-mark_all names oid [] = refl
length-mark_all names oid (m ∷ ms) = ap suc (length-mark_all names (suc oid) ms)

mark_all-get : (names : List ℕ) (oid : ℕ) (ms : List Bool) (i : ℕ) (m : Bool) → slice_get ms i ≡ Some m →
    slice_get (mark_all names oid ms) i ≡ Some (m || is_in (oid + i) names)
mark_all-get names oid [] i m e = cc
mark_all-get names oid (n ∷ ms) zero m e =
    let z : oid + 0 ≡ oid = omega arith in
    let s : n ≡ m = cc in
    rw (z, s) refl
mark_all-get names oid (n ∷ ms) (suc i) m e =
    let z : oid + suc i ≡ suc oid + i = omega arith in
    rw z (mark_all-get names (suc oid) ms i m e)

-- a mark stays
marks_kept : (names : List ℕ) (ms : List Bool) (y : ℕ) → mark_at ms y ≡ Some true → mark_at (mark_all names 1 ms) y ≡ Some true
marks_kept names ms zero e = cc
marks_kept names ms (suc i) e = mark_all-get names 1 ms i true e

-- a name that is there gets its mark
marks_named : (names : List ℕ) (ms : List Bool) (y : ℕ) → Has names y → 0 < y → y ≤ length ms → mark_at (mark_all names 1 ms) y ≡ Some true
marks_named names ms zero h p l = absurd (omega arith)
marks_named names ms (suc i) h p l =
    let g = get_there ms i (omega arith) in
    let z : 1 + i ≡ suc i = omega arith in
    let named : (g.0 || is_in (1 + i) names) ≡ true = rw z (or_right g.0 (is_in (suc i) names) (has_is_in (suc i) names h)) in
    mark_all-get names 1 ms i g.0 g.1 ∙ ap Some named

-- a new mark is a name's
marks_old : (names : List ℕ) (ms : List Bool) (y : ℕ) → mark_at (mark_all names 1 ms) y ≡ Some true →
    (mark_at ms y ≡ Some true) ⊎ Has names y
marks_old names ms zero e = cc
marks_old names ms (suc i) e =
    let l : i < length ms = (let k = get_within (mark_all names 1 ms) i true e in let n = length-mark_all names 1 ms in omega arith) in
    let g = get_there ms i l in
    let q : Some (g.0 || is_in (1 + i) names) ≡ Some true = sym (mark_all-get names 1 ms i g.0 g.1) ∙ e in
    let r : (g.0 || is_in (1 + i) names) ≡ true = cc in
    let z : 1 + i ≡ suc i = omega arith in
    ⊎_elim
    (λ (t : g.0 ≡ true). inl (g.1 ∙ ap Some t))
    (λ (n : is_in (1 + i) names ≡ true). inr (let h = is_in_has (1 + i) names n in rw z at h))
    (or_parts g.0 (is_in (1 + i) names) r)

-- ---- what marked objects are attached to

pub record Wants (c : Common) (oid : ℕ) (ms : List Bool) (z : ℕ) : Type 0 where
  pub at : ℕ
  pub marked : slice_get ms at ≡ Some true
  pub linked : Has (links_of c (oid + at)) z

wants_later : (c : Common) (oid : ℕ) (m : Bool) (ms : List Bool) (z : ℕ) → Wants c (suc oid) ms z → Wants c oid (m ∷ ms) z
wants_later c oid m ms z k =
    let e : oid + suc k.at ≡ suc oid + k.at = omega arith in
    record { at = suc k.at; marked = k.marked; linked = rw e k.linked }

wanted_from : (c : Common) (oid : ℕ) (ms : List Bool) (z : ℕ) → Has (wanted c oid ms) z → Wants c oid ms z
wanted_from c oid [] z h = absurd (has_none z h)
wanted_from c oid (true ∷ ms) z h = ⊎_elim
    (λ (k : Has (links_of c oid) z). let e : oid + 0 ≡ oid = omega arith in record { at = 0; marked = refl; linked = rw e k })
    (λ (k : Has (wanted c (suc oid) ms) z). wants_later c oid true ms z (wanted_from c (suc oid) ms z k))
    (has_either z (links_of c oid) (wanted c (suc oid) ms) h)
wanted_from c oid (false ∷ ms) z h = wants_later c oid false ms z (wanted_from c (suc oid) ms z h)

wanted_has : (c : Common) (oid : ℕ) (ms : List Bool) (i z : ℕ) → slice_get ms i ≡ Some true → Has (links_of c (oid + i)) z →
    Has (wanted c oid ms) z
wanted_has c oid [] i z e h = cc
wanted_has c oid (true ∷ ms) zero z e h =
    let s : oid + 0 ≡ oid = omega arith in
    has_front z (links_of c oid) (wanted c (suc oid) ms) (rw s at h)
wanted_has c oid (false ∷ ms) zero z e h = cc
wanted_has c oid (true ∷ ms) (suc i) z e h =
    let s : oid + suc i ≡ suc oid + i = omega arith in
    has_back z (links_of c oid) (wanted c (suc oid) ms) (wanted_has c (suc oid) ms i z e (rw s at h))
wanted_has c oid (false ∷ ms) (suc i) z e h =
    let s : oid + suc i ≡ suc oid + i = omega arith in
    wanted_has c (suc oid) ms i z e (rw s at h)

-- ---- a round

-- one mark an object, only of members, and one of x where x is there
pub record MarksSome (c : Common) (x : ℕ) (ms : List Bool) : Type 0 where
  pub one_each : length ms ≡ length c.objects
  pub sound : (y : ℕ) → mark_at ms y ≡ Some true → InGroup c x y
  pub start : IsSome (object_at c.objects x) → mark_at ms x ≡ Some true

-- what marked objects are attached to is marked
pub record IsClosed (c : Common) (ms : List Bool) : Type 0 where
  pub links : (y z : ℕ) → mark_at ms y ≡ Some true → Has (links_of c y) z → IsSome (object_at c.objects z) → mark_at ms z ≡ Some true

pub closed_group : (c : Common) (x : ℕ) (ms : List Bool) → MarksSome c x ms → IsClosed c ms → MarksGroup c x ms
closed_group c x ms m k = record { one_each = m.one_each; each = λ y. (m.sound y, whole y) }
  where
    whole : (y : ℕ) → InGroup c x y → mark_at ms y ≡ Some true
    whole y (Itself there) = m.start there
    whole _ (Linked y z g h i) = k.links y z (whole y g) h i

spread_new : (c : Common) (x : ℕ) (ms : List Bool) → MarksSome c x ms → (y : ℕ) → y ≤ length ms → 0 < y → Has (wanted c 1 ms) y →
    InGroup c x y
spread_new c x ms m y l p h =
    let k = wanted_from c 1 ms y h in
    let e : 1 + k.at ≡ suc k.at = omega arith in
    let linked : Has (links_of c (suc k.at)) y = (let q = k.linked in rw e at q) in
    Linked (suc k.at) y (m.sound (suc k.at) k.marked) linked (within_object c.objects y p (let n = m.one_each in omega arith))

spread_some : (c : Common) (x : ℕ) (ms : List Bool) → MarksSome c x ms → MarksSome c x (spread c ms)
spread_some c x ms m = record {
  one_each = length-mark_all (wanted c 1 ms) 1 ms ∙ m.one_each;
  sound = λ y e.
      let w = mark_within (spread c ms) y true e in
      let n = length-mark_all (wanted c 1 ms) 1 ms in
      ⊎_elim (λ (o : mark_at ms y ≡ Some true). m.sound y o)
      (λ (h : Has (wanted c 1 ms) y). spread_new c x ms m y (let l = w.1 in omega arith) w.0 h) (marks_old (wanted c 1 ms) ms y e);
  start = λ there. marks_kept (wanted c 1 ms) ms x (m.start there);
}

links_spread : (c : Common) (ms : List Bool) → length ms ≡ length c.objects → (y z : ℕ) → mark_at ms y ≡ Some true →
    Has (links_of c y) z → IsSome (object_at c.objects z) → mark_at (spread c ms) z ≡ Some true
links_spread c ms n zero z e h i = cc
links_spread c ms n (suc k) z e h i =
    let w = object_within c.objects z i in
    let s : 1 + k ≡ suc k = omega arith in
    let linked : Has (links_of c (1 + k)) z = rw s h in
    marks_named (wanted c 1 ms) ms z (wanted_has c 1 ms k z e linked) w.0 (let l = w.1 in omega arith)

-- ---- rounds

unfoldable pub unmarked : List Bool → ℕ
unmarked [] = 0
unmarked (true ∷ ms) = unmarked ms
unmarked (false ∷ ms) = suc (unmarked ms)

unmarked_within : (ms : List Bool) → unmarked ms ≤ length ms
unfolding unmarked
unmarked_within [] = omega arith
unmarked_within (true ∷ ms) = let h = unmarked_within ms in omega arith
unmarked_within (false ∷ ms) = let h = unmarked_within ms in omega arith

mark_all_less : (names : List ℕ) (oid : ℕ) (ms : List Bool) → unmarked (mark_all names oid ms) ≤ unmarked ms
unfolding unmarked
mark_all_less names oid [] = omega arith
mark_all_less names oid (true ∷ ms) = mark_all_less names (suc oid) ms
mark_all_less names oid (false ∷ ms) = part (is_in oid names) (mark_all_less names (suc oid) ms)
  where
    part : (b : Bool) → unmarked (mark_all names (suc oid) ms) ≤ unmarked ms →
        unmarked (b ∷ mark_all names (suc oid) ms) ≤ unmarked (false ∷ ms)
    part true h = omega arith
    part false h = omega arith

-- a round changes nothing, or fewer objects are unmarked
mark_all_falls : (names : List ℕ) (oid : ℕ) (ms : List Bool) →
    (mark_all names oid ms ≡ ms) ⊎ (unmarked (mark_all names oid ms) < unmarked ms)
unfolding unmarked
mark_all_falls names oid [] = inl refl
mark_all_falls names oid (true ∷ ms) = ⊎_elim
    (λ (e : mark_all names (suc oid) ms ≡ ms). inl (ap (λ r. true ∷ r) e))
    (λ (h : unmarked (mark_all names (suc oid) ms) < unmarked ms). inr h)
    (mark_all_falls names (suc oid) ms)
mark_all_falls names oid (false ∷ ms) = part (is_in oid names) (mark_all_less names (suc oid) ms) (mark_all_falls names (suc oid) ms)
  where
    part : (b : Bool) → unmarked (mark_all names (suc oid) ms) ≤ unmarked ms →
        (mark_all names (suc oid) ms ≡ ms) ⊎ (unmarked (mark_all names (suc oid) ms) < unmarked ms) →
        (b ∷ mark_all names (suc oid) ms ≡ false ∷ ms) ⊎ (unmarked (b ∷ mark_all names (suc oid) ms) < unmarked (false ∷ ms))
    part true l h = inr (omega arith)
    part false l h = ⊎_elim
        (λ (e : mark_all names (suc oid) ms ≡ ms). inl (ap (λ r. false ∷ r) e))
        (λ (k : unmarked (mark_all names (suc oid) ms) < unmarked ms). inr (omega arith))
        h

rounds_still : (c : Common) (n : ℕ) (ms : List Bool) → spread c ms ≡ ms → rounds c n ms ≡ ms
unfolding rounds
rounds_still c zero ms e = refl
rounds_still c (suc n) ms e = ap (rounds c n) e ∙ rounds_still c n ms e

rounds_fixed : (c : Common) (n : ℕ) (ms : List Bool) → unmarked ms ≤ n → spread c (rounds c n ms) ≡ rounds c n ms
unfolding rounds
rounds_fixed c zero ms l = ⊎_elim
    (λ (e : spread c ms ≡ ms). e)
    (λ (h : unmarked (spread c ms) < unmarked ms). absurd (omega arith))
    (mark_all_falls (wanted c 1 ms) 1 ms)
rounds_fixed c (suc n) ms l = ⊎_elim
    (λ (e : spread c ms ≡ ms). let s = rounds_still c n ms e in rw (e, s) e)
    (λ (h : unmarked (spread c ms) < unmarked ms). rounds_fixed c n (spread c ms) (omega arith))
    (mark_all_falls (wanted c 1 ms) 1 ms)

rounds_some : (c : Common) (x n : ℕ) (ms : List Bool) → MarksSome c x ms → MarksSome c x (rounds c n ms)
unfolding rounds
rounds_some c x zero ms m = m
rounds_some c x (suc n) ms m = rounds_some c x n (spread c ms) (spread_some c x ms m)

fixed_closed : (c : Common) (ms : List Bool) → length ms ≡ length c.objects → spread c ms ≡ ms → IsClosed c ms
fixed_closed c ms n e = record { links = λ y z m h i. (let s = links_spread c ms n y z m h i in rw e at s) }

-- ---- the group as a list

length-none_marked : (os : List ObjectRec) → length (none_marked os) ≡ length os
length-none_marked [] = refl
length-none_marked (o ∷ os) = ap suc (length-none_marked os)

none_marked-get : (os : List ObjectRec) (i : ℕ) → slice_get (none_marked os) i ≡ Some true → ⊥
none_marked-get [] i e = cc
none_marked-get (o ∷ os) zero e = cc
none_marked-get (o ∷ os) (suc i) e = none_marked-get os i e

none_marked-mark : (os : List ObjectRec) (y : ℕ) → mark_at (none_marked os) y ≡ Some true → ⊥
none_marked-mark os zero e = cc
none_marked-mark os (suc i) e = none_marked-get os i e

first_marks : (c : Common) (x : ℕ) → MarksSome c x (mark_all (x ∷ []) 1 (none_marked c.objects))
first_marks c x =
    let n = length-none_marked c.objects in
    let all = length-mark_all (x ∷ []) 1 (none_marked c.objects) in
    record {
      one_each = all ∙ n;
      sound = λ y e. ⊎_elim
          (λ (o : mark_at (none_marked c.objects) y ≡ Some true). absurd (none_marked-mark c.objects y o))
          (λ (h : Has (x ∷ []) y).
          let s = has_one x y h in
          let w = mark_within (mark_all (x ∷ []) 1 (none_marked c.objects)) y true e in
          let there : IsSome (object_at c.objects x) =
          within_object c.objects x (let p = w.0 in omega arith) (let l = w.1 in omega arith) in
          rw s (Itself there))
          (marks_old (x ∷ []) (none_marked c.objects) y e);
      start = λ there.
          (let w = object_within c.objects x there in marks_named (x ∷ []) (none_marked c.objects) x (has_first x []) w.0
          (let l = w.1 in omega arith));
    }

-- the list that the definition computes is the group
pub group_of_is : (c : Common) (x : ℕ) → IsGroup c x (group_of c x)
group_of_is c x =
    let ms = mark_all (x ∷ []) 1 (none_marked c.objects) in
    let m = first_marks c x in
    let some = rounds_some c x (length c.objects) ms m in
    let few : unmarked ms ≤ length c.objects = (let u = unmarked_within ms in let n = m.one_each in omega arith) in
    marked_group c x (rounds c (length c.objects) ms)
    (closed_group c x (rounds c (length c.objects) ms) some
    (fixed_closed c (rounds c (length c.objects) ms) some.one_each (rounds_fixed c (length c.objects) ms few)))

-- any list that is the group is that list
pub group_of_same : (c : Common) (x : ℕ) (xs : List ℕ) → IsGroup c x xs → xs ≡ group_of c x
group_of_same c x xs g = group_same c x xs (group_of c x) g (group_of_is c x)

-- a number that names no object has no group
pub group_of_none : (c : Common) (x : ℕ) → (IsSome (object_at c.objects x) → ⊥) → group_of c x ≡ []
group_of_none c x missing =
    sym (group_of_same c x [] (record { rising = tt; each = λ y. (λ h. absurd (has_none y h), λ g. absurd (nothing y g)) }))
  where
    nothing : (y : ℕ) → InGroup c x y → ⊥
    nothing y (Itself there) = missing there
    nothing _ (Linked y z g h i) = nothing y g

-- where nothing is attached, an object is its whole group
pub group_of_alone : (c : Common) (x : ℕ) → ((y : ℕ) → links_of c y ≡ []) → 0 < x → x ≤ length c.objects → group_of c x ≡ x ∷ []
group_of_alone c x none p l =
    let there = within_object c.objects x p l in
    sym (group_of_same c x (x ∷ []) (record { rising = tt; each = λ y. (λ h. (let s = has_one x y h in rw s (Itself there)), only y) }))
  where
    only : (y : ℕ) → InGroup c x y → Has (x ∷ []) y
    only y (Itself there) = has_first x []
    only _ (Linked y z g h i) = let e = none y in absurd (has_none z (rw e at h))

-- a class none of whose fields is attached
pub record HasNoAttached (k : ClassRec) : Type 0 where
  pub each : (f : FieldRec) → Has k.fields f → f.attached ≡ false

link_of-none : (f : FieldRec) (v : Value) (rest : List ℕ) → f.attached ≡ false → link_of f v rest ≡ rest
link_of-none f (Ref o) rest e = rw e refl
link_of-none f (Int z) rest e = refl
link_of-none f (Truth b) rest e = refl
link_of-none f (Str t) rest e = refl
link_of-none f Nil rest e = refl

links_in-none : (fs : List FieldRec) (vs : List Value) → ((f : FieldRec) → Has fs f → f.attached ≡ false) → links_in fs vs ≡ []
links_in-none [] vs h = refl
links_in-none (f ∷ fs) [] h = refl
links_in-none (f ∷ fs) (v ∷ vs) h =
    link_of-none f v (links_in fs vs) (h f (has_first f fs)) ∙ links_in-none fs vs (λ g k. h g (has_later f g fs k))

fields_if-none : (classes : List ClassRec) (class : ClassNo) → ((k : ClassRec) → Has classes k → HasNoAttached k) → (f : FieldRec) →
    Has (fields_if (class_at classes class)) f → f.attached ≡ false
fields_if-none classes Node h f m = absurd (has_none f m)
fields_if-none classes Program h f m = absurd (has_none f m)
fields_if-none classes (Vector of) h f m = absurd (has_none f m)
fields_if-none classes (Made i) h f m = part (slice_get classes i) refl m
  where
    part : (k : Option ClassRec) → slice_get classes i ≡ k → Has (fields_if k) f → f.attached ≡ false
    part None e m = absurd (has_none f m)
    part (Some k) e m = (h k (record { at = i; is = e })).each f m

-- in a program without attached fields nothing is attached
pub links_of-none : (c : Common) (y : ℕ) → ((k : ClassRec) → Has c.classes k → HasNoAttached k) → links_of c y ≡ []
links_of-none c y h = part (object_at c.objects y)
  where
    part : (o : Option ObjectRec) → links_if c.classes o ≡ []
    part None = refl
    part (Some o) = links_in-none (fields_if (class_at c.classes o.class)) o.fields (fields_if-none c.classes o.class h)
