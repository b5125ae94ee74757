-- Contents fit where each part of them fits and the node has room for all.
use Rattle.std.proofs.Common.{◌≡◌, ℕ, ◌+◌, ◌-◌, ◌*◌, ◌/◌, ◌≤◌, ◌==◌, Bool, true, false, List, length, max, Option, Some, None}
use Rattle.std.proofs.Common.{refl, sym, ap, ◌∙◌, subst, arith, ⊎_elim}
use Rattle.std.proofs.lemmas.Option.{same_Some}
use Rattle.std.specs.Prelude.{IsSome, if◌then◌else◌, nat_lt, option_map, slice_get}
use Rattle.ec_carrying.specs.Landing.{IsClassed}
use Rattle.ec_generate.specs.declared.table.OperationTable.{OperationTable}
use Rattle.ec_objects.specs.Lacks.{HasRoomForAll}
use Rattle.ec_parcel_fits.specs.Unfitting.{ActivationStands, Fits, ObjectFits}
use Rattle.ec_parcels.proofs.Rising.{few_values, get_mapped, keys_once}
use Rattle.ec_parcels.specs.Classes.{ClassTable, class_of, program_number, vector_of}
use Rattle.ec_parcels.specs.Owners.{blocks_in, frame_keys, keys_of, object_keys, values_in}
use Rattle.ec_things.specs.Store.{Store, Tidy}
use Rattle.ec_wire.specs.WireForm.{KeepsRules}
use Rattle.ec_wire.specs.declared.parcel.ActivationPart.{ActivationPart}
use Rattle.ec_wire.specs.declared.parcel.Contents.{Contents}
use Rattle.ec_wire.specs.declared.parcel.MonitorPart.{MonitorPart}
use Rattle.ec_wire.specs.declared.parcel.ObjectPart.{ObjectPart}
use Rattle.ec_world.proofs.Members.{has_either}
use Rattle.ec_world.specs.Group.{Has}
use Rattle.ec_world.specs.Things.{class_blocks}
use Rattle.ec_world.specs.declared.class.ClassNo.{ClassNo}
use Rattle.ec_world.specs.declared.class.ClassNo.TheVariants.{Made, Node, Program, Vector}
use Rattle.ec_world.specs.declared.class.VectorType.{VectorType}
use Rattle.ec_world.specs.declared.key.Key.{Key}
use Rattle.ec_world.specs.declared.key.Key.TheVariants.{Frame, Object}

-- ---- objects

-- what is there is something
there_is : {A : Type 0} (o : Option A) → IsSome o → (x : A) × (o ≡ Some x)
there_is None some = absurd cc
there_is (Some x) some = (x, refl)

words_enough : (n : ℕ) → n ≤ 128 * max 1 ((n + 127) / 128)
words_enough n = omega arith

-- no number is that of the class of nodes
module _ (table : ClassTable) (number : ℕ) where
  no_vector : (found : Option VectorType) → option_map Vector found ≡ Some Node → ⊥
  no_vector None e = cc
  no_vector (Some of) e = let same : Vector of ≡ Node = same_Some (Vector of) Node e in cc

  not_behind : (b : Bool) → (if b then Some Program else vector_of table number) ≡ Some Node → ⊥
  not_behind true e = let same : Program ≡ Node = same_Some Program Node e in cc
  not_behind false e = no_vector (slice_get table.vectors (number - table.made)) e

  not_node : (b : Bool) →
      (if b then Some (Made number) else if number == program_number then Some Program else vector_of table number) ≡ Some Node → ⊥
  not_node true e = let same : Made number ≡ Node = same_Some (Made number) Node e in cc
  not_node false e = not_behind (number == program_number) e

  -- an object with a class that has a number has a word for each of its values
  few_words : (class : ClassNo) (n : ℕ) → class_of table number ≡ Some class → n ≤ 128 * class_blocks class n
  few_words Node n e = absurd (not_node (nat_lt number table.made) e)
  few_words Program n e = words_enough n
  few_words (Made k) n e = words_enough n
  few_words (Vector of) n e = words_enough n

is_classed : (table : ClassTable) (x : Contents) → KeepsRules x → (part : ObjectPart) → Has x.objects part →
    IsSome (class_of table part.class) → IsClassed table part
is_classed table x rules part h some =
    let its = there_is (class_of table part.class) some in
    record {
      class = its.0;
      is = its.1;
      few = few_words table part.class its.0 (length part.values) its.1;
      small = few_values x rules part h;
    }

-- ---- all of it

module _ (table : ClassTable) (tables : List OperationTable) (s : Store) (x : Contents)
    (objects : (part : ObjectPart) → Has x.objects part → ObjectFits table s part)
    (activations : (part : ActivationPart) → Has x.activations part → ActivationStands tables s part) where
  object_new : (key : Key) → Has (object_keys x.objects) key → s.row key ≡ None
  object_new key h =
      let o = get_mapped (λ (p : ObjectPart). Object p.number) x.objects h.at key h.is in
      subst (λ k. s.row k ≡ None) o.2 (objects o.0 (record { at = h.at; is = o.1 })).new

  frame_new : (key : Key) → Has (frame_keys x.activations) key → s.row key ≡ None
  frame_new key h =
      let a = get_mapped (λ (p : ActivationPart). Frame p.process p.depth) x.activations h.at key h.is in
      subst (λ k. s.row k ≡ None) a.2 (activations a.0 (record { at = h.at; is = a.1 })).new

  all_new : (key : Key) → Has (keys_of x) key → s.row key ≡ None
  all_new key h = ⊎_elim (object_new key) (frame_new key) (has_either key (object_keys x.objects) (frame_keys x.activations) h)

  pub they_fit : Tidy s → KeepsRules x →
      ((part : MonitorPart) → Has x.monitors part → Has (object_keys x.objects) (Object part.object)) →
      HasRoomForAll s (blocks_in table x) (values_in x) → Fits table tables s x
  they_fit tidy rules monitors room = record {
    program = record {
      objects = λ part h. is_classed table x rules part h (objects part h).class;
      monitors = monitors;
      activations = λ part h. (activations part h).fits;
    };
    room = record { tidy = tidy; once = keys_once x rules; new = all_new; blocks = room.blocks_fit; texts = room.texts_fit };
  }

-- what is told of the lists of a parcel that was asked for its contents
module _ (table : ClassTable) (tables : List OperationTable) (s : Store) (x y : Contents) (same : y ≡ x)
    (objects : List ObjectPart) (monitors : List MonitorPart) (activations : List ActivationPart)
    (of_objects : objects ≡ y.objects) (of_monitors : monitors ≡ y.monitors) (of_activations : activations ≡ y.activations) where
  are_objects : objects ≡ x.objects
  are_objects = of_objects ∙ ap (λ (z : Contents). z.objects) same

  are_monitors : monitors ≡ x.monitors
  are_monitors = of_monitors ∙ ap (λ (z : Contents). z.monitors) same

  are_activations : activations ≡ x.activations
  are_activations = of_activations ∙ ap (λ (z : Contents). z.activations) same

  pub classes_told : ((part : ObjectPart) → Has objects part → ObjectFits table s part) → (part : ObjectPart) → Has x.objects part →
      IsSome (class_of table part.class)
  classes_told fit part h = (fit part (subst (λ (os : List ObjectPart). Has os part) (sym are_objects) h)).class

  pub all_told : Tidy s → KeepsRules y → ((part : ObjectPart) → Has objects part → ObjectFits table s part) →
      ((part : MonitorPart) → Has monitors part → Has (object_keys objects) (Object part.object)) →
      ((part : ActivationPart) → Has activations part → ActivationStands tables s part) →
      HasRoomForAll s (blocks_in table x) (values_in x) → Fits table tables s x
  all_told tidy rules fit has stand room = they_fit table tables s x
      (λ part h. fit part (subst (λ (os : List ObjectPart). Has os part) (sym are_objects) h))
      (λ part h. stand part (subst (λ (fs : List ActivationPart). Has fs part) (sym are_activations) h))
      tidy
      (subst KeepsRules same rules)
      (λ part h. subst (λ (os : List ObjectPart). Has (object_keys os) (Object part.object)) are_objects
      (has part (subst (λ (ms : List MonitorPart). Has ms part) (sym are_monitors) h)))
      room
