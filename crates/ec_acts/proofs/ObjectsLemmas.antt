-- Objects of a list, one of which changes.
use Rattle.std.proofs.Common.{◌≡◌, ℕ, zero, suc, ◌-◌, List, length, Option, Some, None, refl, ap, ◌∙◌}
use Rattle.std.specs.Prelude.{slice_get, slice_set}
use Rattle.ec_base.proofs.Lists.{get_set_same, get_within, length_set, set_there}
use Rattle.ec_cluster.proofs.Changing.{before_suc}
use Rattle.ec_world.specs.Objects.{changed_if, changed_object, object_at}
use Rattle.ec_world.specs.declared.object.ObjectRec.{ObjectRec}

module _ (objects : List ObjectRec) (change : ObjectRec → ObjectRec) where
  pub length_changed : (oid : ℕ) → length (changed_object objects oid change) ≡ length objects
  length_changed oid = of (object_at objects oid)
    where
      of : (x : Option ObjectRec) → length (changed_if objects oid change x) ≡ length objects
      of None = refl
      of (Some o) = length_set objects (oid - 1) (change o)

  changed_there : (i : ℕ) (o : ObjectRec) → object_at objects (suc i) ≡ Some o →
      changed_object objects (suc i) change ≡ slice_set objects i (change o)
  changed_there i o e = ap (changed_if objects (suc i) change) e ∙ ap (λ x. slice_set objects x (change o)) (before_suc i)

  -- the object that has changed
  pub changed_here : (oid : ℕ) (o : ObjectRec) → object_at objects oid ≡ Some o →
      object_at (changed_object objects oid change) oid ≡ Some (change o)
  changed_here zero o e = absurd cc
  changed_here (suc i) o e =
      ap (λ (os : List ObjectRec). slice_get os i) (changed_there i o e) ∙ get_set_same objects i (change o) (get_within objects i o e)

  -- what changes into itself changes nothing
  pub changed_same : (oid : ℕ) (o : ObjectRec) → object_at objects oid ≡ Some o → change o ≡ o → changed_object objects oid change ≡ objects
  changed_same zero o e same = absurd cc
  changed_same (suc i) o e same =
      changed_there i o e ∙ ap (slice_set objects i) same ∙ set_there objects i o e
