-- The object or the activation that is a thing of a world.
use Rattle.std.proofs.Common.{◌≡◌, ℕ, Option, Some, None, refl}
use Rattle.std.proofs.lemmas.Option.{same_Some}
use Rattle.ec_world.specs.Things.{activation_at}
use Rattle.ec_things.specs.Things.{Thing, frame_if, object_if, object_thing, things_of}
use Rattle.ec_world.specs.declared.key.Key.TheVariants.{Frame, Object}
use Rattle.ec_world.specs.Objects.{object_at}
use Rattle.ec_world.specs.declared.object.ObjectRec.{ObjectRec}
use Rattle.ec_world.specs.declared.world.World.{World}

module _ {A : Type 0} (frame : ℕ → ℕ → A → Thing) (w : World A) where
  pub record ObjectIs (oid : ℕ) (t : Thing) : Type 0 where
    pub object : ObjectRec
    pub there : object_at w.common.objects oid ≡ Some object
    pub is : object_thing oid object ≡ t

  pub record FrameIs (p d : ℕ) (t : Thing) : Type 0 where
    pub activation : A
    pub there : activation_at w.processes p d ≡ Some activation
    pub is : frame p d activation ≡ t

  pub object_is : (oid : ℕ) (t : Thing) → things_of frame w (Object oid) ≡ Some t → ObjectIs oid t
  object_is oid t e = by (object_at w.common.objects oid) refl e
    where
      by : (x : Option ObjectRec) → object_at w.common.objects oid ≡ x → object_if oid x ≡ Some t → ObjectIs oid t
      by None f g = absurd cc
      by (Some o) f g = record { object = o; there = f; is = same_Some (object_thing oid o) t g }

  pub frame_is : (p d : ℕ) (t : Thing) → things_of frame w (Frame p d) ≡ Some t → FrameIs p d t
  frame_is p d t e = by (activation_at w.processes p d) refl e
    where
      by : (x : Option A) → activation_at w.processes p d ≡ x → frame_if frame p d x ≡ Some t → FrameIs p d t
      by None f g = absurd cc
      by (Some a) f g = record { activation = a; there = f; is = same_Some (frame p d a) t g }
