-- What the node of an activation shows of it, of its own object, and of constants.
use Rattle.std.proofs.Common.{◌≡◌, ℕ, zero, suc, ◌+◌, ◌/◌, ◌≤◌, List, length, Option, Some, None, ap, ◌∙◌, arith, refl}
use Rattle.std.specs.Prelude.{IsSome, max, slice_get}
use Rattle.ec_cluster.proofs.Putting.{shown_there}
use Rattle.ec_cluster.specs.Cluster.{CodeWorld, Shows, frame_of, place, stores}
use Rattle.ec_cluster.specs.Images.{homes_on}
use Rattle.ec_cluster.specs.declared.cluster.Cluster.{Cluster}
use Rattle.ec_code.specs.Fine.{Fine, IsFieldOf}
use Rattle.ec_code.specs.Typing.{Declared, field_types, fields_if}
use Rattle.ec_code.specs.declared.activation.CodeActivation.{CodeActivation}
use Rattle.ec_code.specs.declared.code.Parts.{Parts}
use Rattle.ec_machine_code.specs.Limits.{HasFewFields, HasLimits}
use Rattle.ec_legs.proofs.Ranging.{constant_fits, field_fits}
use Rattle.ec_legs.proofs.Tops.{there, top_sound}
use Rattle.ec_legs.specs.Going.{HasLiterals, IsDoneTop, IsInOneBlock}
use Rattle.ec_legs.specs.Legs.{ShowsAll}
use Rattle.ec_world.proofs.Procs.{activation_is}
use Rattle.ec_world.specs.Things.{blocks_of, class_blocks}
use Rattle.ec_world.specs.declared.key.Key.TheVariants.{Frame, Object}
use Rattle.ec_code.specs.Worlds.{RangedWorld}
use Rattle.ec_code.proofs.Carried.{IsThere, all_two_length, each_object}
use Rattle.ec_code.proofs.Carried as carried
use Rattle.ec_code.specs.Sound.{FineFields, FineObject, SoundWorld}
use Rattle.ec_code.specs.SoundValues.{HasType}
use Rattle.ec_generate.proofs.Listing.{all_at}
use Rattle.ec_things.specs.Store.{Store}
use Rattle.ec_things.specs.Things.{ShownAt, frame_if, object_if, object_thing, things_of}
use Rattle.ec_world.specs.Objects.{object_at}
use Rattle.ec_world.specs.declared.class.ClassNo.{ClassNo}
use Rattle.ec_world.specs.declared.class.ClassNo.TheVariants.{Node, Program, Made, Vector}
use Rattle.ec_world.specs.declared.object.ObjectRec.{ObjectRec}
use Rattle.ec_world.specs.declared.value.Value.{Value}

-- ---- blocks

few_blocks : (n : ℕ) → n ≤ 100 → max 1 ((n + 127) / 128) ≡ 1
few_blocks n h = let one : (n + 127) / 128 ≤ 1 = omega arith in grind arith

some_is : {A : Type 0} (x : Option A) → IsSome x → (a : A) × (x ≡ Some a)
some_is None h = absurd (let e = h in cc)
some_is (Some a) h = (a, refl)

-- an object of a class has few fields
few_fields : (d : Declared) (p : Parts) → Fine d p → HasLimits p → (objects : List ObjectRec) (k : ℕ) (fields : List Value) →
    FineFields d p objects (Made k) fields → length fields ≤ 100
few_fields d p fine limits objects k fields h =
    let t = some_is (slice_get d.classes k) h.0 in
    let c = fine.classes k t.0 t.1 in
    let one : length (field_types d (Made k)) ≡ length fields =
    all_two_length (HasType d objects) (field_types d (Made k)) fields h.1 in
    let two : length t.0.fields ≡ length c.0.fields = all_two_length (IsFieldOf d p) t.0.fields c.0.fields c.2.fields in
    let three : length (field_types d (Made k)) ≡ length t.0.fields = ap (λ x. length (fields_if x)) t.1 in
    let four : length c.0.fields ≤ 100 = all_at HasFewFields p.classes k c.0 limits.fields c.1 in
    omega arith

in_one_block : (d : Declared) (p : Parts) → Fine d p → HasLimits p → (objects : List ObjectRec) (o : ObjectRec) (class : ClassNo) →
    o.class ≡ class → FineFields d p objects class o.fields → IsInOneBlock class o → blocks_of o ≡ 1
in_one_block d p fine limits objects o (Made k) e h one =
    ap (λ x. class_blocks x (length o.fields)) e ∙ few_blocks (length o.fields) (few_fields d p fine limits objects k o.fields h)
in_one_block d p fine limits objects o Node e h one = one
in_one_block d p fine limits objects o Program e h one = one
in_one_block d p fine limits objects o (Vector of) e h one = one

-- ---- the node

module _ (d : Declared) (c : Cluster) (fine : Fine d c.parts) (limits : HasLimits c.parts) (w : CodeWorld) (shows : Shows c w)
    (sound : SoundWorld d c.parts w) (ranged : RangedWorld w) (p : ℕ) (below : List CodeActivation) (top : CodeActivation)
    (is : IsDoneTop w p below top) where
  abbrev pub its_class : ClassNo
  its_class = (top_sound w p below top is d c.parts fine sound).rests.of.class

  -- its own object is there
  pub own_there : IsThere w.common.objects top.own its_class
  own_there = carried.there w.common.objects top.own its_class (top_sound w p below top is d c.parts fine sound).rests.own

  abbrev pub its_object : ObjectRec
  its_object = own_there.object

  object_fine : FineFields d c.parts w.common.objects its_object.class its_object.fields
  object_fine =
      each_object (FineObject d c.parts w.common.objects) w.common.objects top.own its_object sound.common.objects own_there.is

  one_block : blocks_of its_object ≡ 1
  one_block =
      in_one_block d c.parts fine limits w.common.objects its_object its_object.class refl object_fine
      (is.one_block its_object own_there.is)

  frame_is : things_of (frame_of c) w (Frame p (length below)) ≡ Some (frame_of c p (length below) top)
  frame_is =
      ap (frame_if (frame_of c) p (length below))
      (activation_is w.processes p (length below) is.is_top.proc is.is_top.is ∙ there w p below top is)

  -- the node of the own object shows the activation
  pub frame_at : ShownAt (stores c) (place c) (Frame p (length below)) (frame_of c p (length below) top)
  frame_at = shows.things_stand.each (Frame p (length below)) (frame_of c p (length below) top) frame_is

  pub shows_all : HasLiterals c → (k : ℕ) (s : Store) → place c top.own ≡ Some k → stores c k ≡ Some s →
      ShowsAll c.parts (homes_on c.images) w.common top its_object s p (length below)
  shows_all literals k s at stands = record {
    frame = shown_there c w k s (Frame p (length below)) (frame_of c p (length below) top) shows frame_is at stands;
    object_is = own_there.is;
    object =
        shown_there c w k s (Object top.own) (object_thing top.own its_object) shows (ap (object_if top.own) own_there.is) at stands;
    one_block = one_block;
    fields = λ i v e. field_fits w.common top.own its_object i v ranged.common own_there.is e;
    constants = λ i v e. (constant_fits w.common i v ranged.common e, shows.globals_stand k s i v stands e);
    literals = λ i text e. literals k i s text stands e;
  }

-- an object that is there has a number from 1 on
pub place_of : (objects : List ObjectRec) (oid : ℕ) (o : ObjectRec) → object_at objects oid ≡ Some o →
    (i : ℕ) × (oid ≡ suc i) × (slice_get objects i ≡ Some o)
place_of objects zero o e = absurd cc
place_of objects (suc i) o e = (i, refl, e)
