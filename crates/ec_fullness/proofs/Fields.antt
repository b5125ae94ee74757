-- The fields of objects after a change.
use Rattle.std.proofs.Common.{◌≡◌, ◌≢◌, ◌⊎◌, ℕ, zero, suc, inl, inr, ⊎_elim, List, [], ◌∷◌, ◌++◌, length, map, Option, Some, None}
use Rattle.std.proofs.Common.{refl, sym, ap, ◌∙◌}
use Rattle.std.specs.Prelude.{slice_get, slice_set}
use Rattle.std.proofs.lemmas.Option.{same_Some}
use Rattle.ec_activations.proofs.Stops.{mapped}
use Rattle.ec_base.proofs.Lists.{get_set_other, get_set_same, get_within}
use Rattle.ec_cluster.proofs.Changing.{before_suc}
use Rattle.ec_node_frames.proofs.Items.{get_map}
use Rattle.ec_world.proofs.Procs.{get_but_end, get_end}
use Rattle.ec_things.proofs.Put.{same_or_not}
use Rattle.ec_world.specs.Group.{Has}
use Rattle.ec_world.specs.Objects.{changed_if, changed_object, object_at}
use Rattle.ec_world.specs.declared.object.ObjectRec.{ObjectRec}
use Rattle.ec_world.specs.declared.value.Value.{Value}

-- an item of a list of which one has been set
pub has_set : {A : Type 0} (xs : List A) (i : ℕ) (y x : A) → Has (slice_set xs i y) x → Has xs x ⊎ (y ≡ x)
has_set {A = A} xs i y x h = by xs i h.at h.is
  where
    later : (z : A) (zs : List A) → Has zs x ⊎ (y ≡ x) → Has (z ∷ zs) x ⊎ (y ≡ x)
    later z zs h = ⊎_elim (λ (f : Has zs x). inl (record { at = suc f.at; is = f.is })) (λ (e : y ≡ x). inr e) h

    by : (zs : List A) (i j : ℕ) → slice_get (slice_set zs i y) j ≡ Some x → Has zs x ⊎ (y ≡ x)
    by [] i j e = absurd cc
    by (z ∷ zs) zero zero e = inr (same_Some y x e)
    by (z ∷ zs) zero (suc j) e = inl (record { at = suc j; is = e })
    by (z ∷ zs) (suc i) zero e = inl (record { at = zero; is = e })
    by (z ∷ zs) (suc i) (suc j) e = later z zs (by zs i j e)

-- an object that had these fields
pub record HadFields (os : List ObjectRec) (oid : ℕ) (fields : List Value) : Type 0 where
  pub object : ObjectRec
  pub there : object_at os oid ≡ Some object
  pub same : object.fields ≡ fields

abbrev pub fields_of : ObjectRec → List Value
fields_of o = o.fields

pub had_fields : (os os' : List ObjectRec) → map fields_of os' ≡ map fields_of os → (oid : ℕ) (o : ObjectRec) →
    object_at os' oid ≡ Some o → HadFields os oid o.fields
had_fields os os' e zero o is = absurd cc
had_fields os os' e (suc i) o is =
    let m = mapped fields_of os i o.fields (ap (λ (xs : List (List Value)). slice_get xs i) (sym e) ∙ get_map fields_of os' i o is) in
    record { object = m.0; there = m.1; same = sym m.2 }

-- an object of a list of which one has changed is as it was, or is the one that has changed
pub record IsChanged (os : List ObjectRec) (oid : ℕ) (change : ObjectRec → ObjectRec) (at : ℕ) (now : ObjectRec) : Type 0 where
  pub same : at ≡ oid
  pub old : ObjectRec
  pub there : object_at os oid ≡ Some old
  pub is : now ≡ change old

pub changed_there : (os : List ObjectRec) (oid : ℕ) (change : ObjectRec → ObjectRec) (o : ObjectRec) → object_at os oid ≡ Some o →
    object_at (changed_object os oid change) oid ≡ Some (change o)
changed_there os zero change o is = absurd cc
changed_there os (suc i) change o is =
    ap (λ x. slice_get (changed_if os (suc i) change x) i) is ∙ ap (λ n. slice_get (slice_set os n (change o)) i) (before_suc i)
    ∙ get_set_same os i (change o) (get_within os i o is)

pub changed_either : (os : List ObjectRec) (oid : ℕ) (change : ObjectRec → ObjectRec) (at : ℕ) (o : ObjectRec) →
    object_at (changed_object os oid change) at ≡ Some o → (object_at os at ≡ Some o) ⊎ IsChanged os oid change at o
changed_either os oid change zero o e = absurd cc
changed_either os zero change (suc j) o e = inl e
changed_either os (suc i) change (suc j) o e = by (slice_get os i) refl
  where
    by : (x : Option ObjectRec) → slice_get os i ≡ x →
        (object_at os (suc j) ≡ Some o) ⊎ IsChanged os (suc i) change (suc j) o
    by None f = inl (sym (ap (λ y. slice_get (changed_if os (suc i) change y) j) f) ∙ e)
    by (Some x) f =
        let set : slice_get (slice_set os i (change x)) j ≡ Some o =
        sym (ap (λ n. slice_get (slice_set os n (change x)) j) (before_suc i))
        ∙ sym (ap (λ y. slice_get (changed_if os (suc i) change y) j) f) ∙ e in
        ⊎_elim
        (λ (same : j ≡ i).
        let here : slice_get (slice_set os i (change x)) j ≡ Some (change x) =
        ap (slice_get (slice_set os i (change x))) same ∙ get_set_same os i (change x) (get_within os i x f) in
        inr (record { same = ap suc same; old = x; there = f; is = same_Some o (change x) (sym set ∙ here) }))
        (λ (ne : j ≢ i). inl (sym (get_set_other os i j (change x) ne) ∙ set))
        (same_or_not j i)

-- an object of a list with one more is one of it, or is this one
pub made_either : (os : List ObjectRec) (o : ObjectRec) (at : ℕ) (x : ObjectRec) → object_at (os ++ o ∷ []) at ≡ Some x →
    (object_at os at ≡ Some x) ⊎ ((at ≡ suc (length os)) × (o ≡ x))
made_either os o zero x e = absurd cc
made_either os o (suc j) x e = ⊎_elim
    (λ (same : j ≡ length os).
    inr (ap suc same, same_Some o x (sym (get_end os o) ∙ ap (slice_get (os ++ o ∷ [])) (sym same) ∙ e)))
    (λ (ne : j ≢ length os). inl (sym (get_but_end os o j ne) ∙ e))
    (same_or_not j (length os))
