-- Objects of nodes stay such while objects change or are made: one list of objects may come after another.
use Rattle.std.proofs.Common.{◌≡◌, ◌≢◌, ◌-◌, ◌∙◌, ◌∷◌, ◌++◌, ℕ, zero, suc, [], List, length, Option, Some, None, true}
use Rattle.std.proofs.Common.{⊎_elim, ap, arith, refl, subst, sym}
use Rattle.std.specs.Prelude.{slice_get, slice_set}
use Rattle.ec_base.proofs.Lists.{get_set_other, get_set_same, get_within, length_set}
use Rattle.ec_monitors.specs.Monitors.{dropped}
use Rattle.ec_monitors.specs.declared.record.MonitorRec.{MonitorRec}
use Rattle.ec_world.proofs.Keys.{same_or_not}
use Rattle.ec_world.specs.declared.class.ClassNo.TheVariants.{Node}
use Rattle.ec_world.specs.declared.object.ObjectRec.{ObjectRec}
use Rattle.ec_world.specs.declared.stop.Effect.{Effect}
use Rattle.ec_world.specs.declared.stop.Effect.TheVariants.{GoesOn, Calls, Leaves, Blocks, Ends, Fails}
use Rattle.ec_world.specs.Objects.{changed_if, changed_object, fixed_if, object_at}
use Rattle.ec_world.specs.Outcomes.{by_holder, dropped_at, dropped_each, dropped_if, monitor_if}
use Rattle.ec_world.specs.Sights.{class_of}
use Rattle.ec_world.specs.World.{given_up}

-- ---- the object of a node

-- it is there, is of the class of nodes, and is fixed
abbrev pub IsHome : Option ObjectRec → Type 0
IsHome None = ⊥
IsHome (Some o) = (o.class ≡ Node) × (o.fixed ≡ true)

pub home_class : (o : Option ObjectRec) → IsHome o → class_of o ≡ Some Node
home_class None h = absurd h
home_class (Some o) h = ap Some h.0

pub home_fixed : (o : Option ObjectRec) → IsHome o → fixed_if o ≡ true
home_fixed None h = absurd h
home_fixed (Some o) h = h.1

pub is_home : (o : Option ObjectRec) → class_of o ≡ Some Node → fixed_if o ≡ true → IsHome o
is_home None c f = absurd cc
is_home (Some o) c f = (cc, f)

-- ---- lists of objects

-- as many objects, and those of nodes are still such
pub record Keeps (xs ys : List ObjectRec) : Type 0 where
  pub count : length ys ≡ length xs
  pub homes : (x : ℕ) → IsHome (object_at xs x) → IsHome (object_at ys x)

pub kept_same : (xs : List ObjectRec) → Keeps xs xs
kept_same xs = record { count = refl; homes = λ x h. h }

kept_then : (xs ys zs : List ObjectRec) → Keeps xs ys → Keeps ys zs → Keeps xs zs
kept_then xs ys zs a b = record { count = b.count ∙ a.count; homes = λ x h. b.homes x (a.homes x h) }

-- ---- one object changed

-- what is seen of an object that a change leaves as it is, is seen of each object as before
module _ {T : Type 0} (seen : Option ObjectRec → T) (change : ObjectRec → ObjectRec)
    (same : (o : ObjectRec) → seen (Some (change o)) ≡ seen (Some o)) where
  set_seen : (objects : List ObjectRec) (i j : ℕ) (r : ObjectRec) → slice_get objects i ≡ Some r →
      seen (slice_get (slice_set objects i (change r)) j) ≡ seen (slice_get objects j)
  set_seen objects i j r at = ⊎_elim
      (λ (e : i ≡ j).
      subst (λ n. seen (slice_get (slice_set objects i (change r)) n) ≡ seen (slice_get objects n)) e
      (ap seen (get_set_same objects i (change r) (get_within objects i r at)) ∙ same r ∙ ap seen (sym at)))
      (λ (ne : i ≢ j). ap seen (get_set_other objects i j (change r) (λ e. ne (sym e))))
      (same_or_not i j)

  changed_if_seen : (objects : List ObjectRec) (oid x : ℕ) (t : Option ObjectRec) → object_at objects oid ≡ t →
      seen (object_at (changed_if objects oid change t) x) ≡ seen (object_at objects x)
  changed_if_seen objects oid x None at = refl
  changed_if_seen objects oid zero (Some r) at = refl
  changed_if_seen objects zero (suc j) (Some r) at = absurd cc
  changed_if_seen objects (suc i) (suc j) (Some r) at =
      let e : i ≡ suc i - 1 = omega arith in
      subst (λ n. seen (slice_get (slice_set objects n (change r)) j) ≡ seen (slice_get objects j)) e (set_seen objects i j r at)

  pub changed_seen : (objects : List ObjectRec) (oid x : ℕ) →
      seen (object_at (changed_object objects oid change) x) ≡ seen (object_at objects x)
  changed_seen objects oid x = changed_if_seen objects oid x (object_at objects oid) refl

module _ (objects : List ObjectRec) (change : ObjectRec → ObjectRec) where
  pub length_changed : (oid : ℕ) (t : Option ObjectRec) → length (changed_if objects oid change t) ≡ length objects
  length_changed oid None = refl
  length_changed oid (Some o) = length_set objects (oid - 1) (change o)

  set_home : (i j : ℕ) (r : ObjectRec) → slice_get objects i ≡ Some r → (IsHome (Some r) → IsHome (Some (change r))) →
      IsHome (slice_get objects j) → IsHome (slice_get (slice_set objects i (change r)) j)
  set_home i j r at f h = ⊎_elim
      (λ (e : i ≡ j).
      subst (λ n. IsHome (slice_get (slice_set objects i (change r)) n)) e
      (subst IsHome (sym (get_set_same objects i (change r) (get_within objects i r at)))
      (f (subst IsHome at (subst (λ n. IsHome (slice_get objects n)) (sym e) h)))))
      (λ (ne : i ≢ j). subst IsHome (sym (get_set_other objects i j (change r) (λ e. ne (sym e)))) h)
      (same_or_not i j)

  changed_home : (oid x : ℕ) (t : Option ObjectRec) → object_at objects oid ≡ t →
      ((r : ObjectRec) → object_at objects oid ≡ Some r → IsHome (Some r) → IsHome (Some (change r))) →
      IsHome (object_at objects x) → IsHome (object_at (changed_if objects oid change t) x)
  changed_home oid x None at f h = h
  changed_home oid zero (Some r) at f h = absurd h
  changed_home zero (suc j) (Some r) at f h = absurd cc
  changed_home (suc i) (suc j) (Some r) at f h =
      let e : i ≡ suc i - 1 = omega arith in
      subst (λ n. IsHome (slice_get (slice_set objects n (change r)) j)) e (set_home i j r at (f r at) h)

  pub changed_keeps : (oid : ℕ) →
      ((r : ObjectRec) → object_at objects oid ≡ Some r → IsHome (Some r) → IsHome (Some (change r))) →
      Keeps objects (changed_object objects oid change)
  changed_keeps oid f = record {
    count = length_changed oid (object_at objects oid);
    homes = λ x. changed_home oid x (object_at objects oid) refl f;
  }

-- ---- one object more

pub length_added : (objects : List ObjectRec) (o : ObjectRec) → length (objects ++ o ∷ []) ≡ suc (length objects)
length_added [] o = refl
length_added (x ∷ xs) o = ap suc (length_added xs o)

added_get : (objects : List ObjectRec) (o : ObjectRec) (i : ℕ) → IsHome (slice_get objects i) → IsHome (slice_get (objects ++ o ∷ []) i)
added_get [] o i h = absurd h
added_get (x ∷ xs) o zero h = h
added_get (x ∷ xs) o (suc i) h = added_get xs o i h

pub added_home : (objects : List ObjectRec) (o : ObjectRec) (x : ℕ) → IsHome (object_at objects x) → IsHome (object_at (objects ++ o ∷ []) x)
added_home objects o zero h = absurd h
added_home objects o (suc i) h = added_get objects o i h

-- ---- what a failed process gives up

drop_keeps : (objects : List ObjectRec) (p oid : ℕ) (m : Option MonitorRec) → Keeps objects (dropped_if objects p oid m).0
drop_keeps objects p oid None = kept_same objects
drop_keeps objects p oid (Some m) =
    changed_keeps objects (λ o. record o { monitor = Some (by_holder p m (dropped m)).0 }) oid (λ r at h. h)

drops_keep : (p : ℕ) (oids : List ℕ) (objects : List ObjectRec) → Keeps objects (dropped_each p oids objects).0
drops_keep p [] objects = kept_same objects
drops_keep p (oid ∷ oids) objects =
    kept_then objects (dropped_at objects p oid).0 (dropped_each p (oid ∷ oids) objects).0
    (drop_keeps objects p oid (monitor_if (object_at objects oid)))
    (drops_keep p oids (dropped_at objects p oid).0)

pub given_up_keeps : (p : ℕ) (owns : List ℕ) (e : Effect) (objects : List ObjectRec) → Keeps objects (given_up p owns e objects).0
given_up_keeps p owns (Fails why line) objects = drops_keep p owns objects
given_up_keeps p owns (GoesOn given) objects = kept_same objects
given_up_keeps p owns (Calls op own args) objects = kept_same objects
given_up_keeps p owns (Leaves given) objects = kept_same objects
given_up_keeps p owns (Blocks queue oid) objects = kept_same objects
given_up_keeps p owns Ends objects = kept_same objects
