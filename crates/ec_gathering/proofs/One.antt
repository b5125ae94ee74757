-- The things of one parcel of a group: their owners, their blocks and their values.
use Rattle.std.proofs.Common.{◌≡◌, ℕ, ⊎_elim, List, [], ◌∷◌, ◌++◌, length, map, Option, Some, None, Bool, true, false, refl, sym, ap}
use Rattle.std.proofs.Common.{◌∙◌, subst, arith}
use Rattle.std.proofs.lemmas.List.Sums.{sum_by-append}
use Rattle.std.proofs.lemmas.Option.{same_Some}
use Rattle.std.specs.List.{flat_map, sum_by}
use Rattle.std.specs.Prelude.{if◌then◌else◌, slice_get}
use Rattle.ec_activations.specs.Frames.{Held, held_if, held_in, held_of, result_in, value_in}
use Rattle.ec_node_frames.specs.Carried.{IsCarried, values_carried}
use Rattle.ec_cluster.specs.Cluster.{CodeWorld, frame_of, place}
use Rattle.ec_cluster.specs.declared.cluster.Cluster.{Cluster}
use Rattle.ec_code.specs.declared.activation.CodeActivation.{CodeActivation}
use Rattle.ec_code.specs.declared.code.Live.{Live}
use Rattle.ec_code.specs.declared.code.Parts.{Parts}
use Rattle.ec_fullness.proofs.Values.{values_of}
use Rattle.ec_gathering.proofs.GatheringRoomLists.{in_one, one_in, sum_map, sum_ones, sum_same}
use Rattle.ec_gathering.proofs.Things.{frame_is, object_is}
use Rattle.ec_gathering.specs.Gathering.{AllWait}
use Rattle.ec_parcels.proofs.Numbers.{class_again}
use Rattle.ec_parcels.specs.Classes.{ClassTable, IsClassTable, class_of}
use Rattle.ec_node_frames.proofs.Items.{map_both}
use Rattle.ec_world.specs.Things.{activation_at, class_blocks}
use Rattle.ec_world.specs.declared.key.Key.{Key}
use Rattle.ec_world.specs.declared.key.Key.TheVariants.{Frame, Object}
use Rattle.ec_parcels.proofs.Rising.{get_mapped, map_get}
use Rattle.ec_parcels.specs.Owners.{blocks_if, blocks_in, frame_keys, keys_of, object_blocks, object_keys, values_in}
use Rattle.ec_parcels.specs.Parcels.{Packs}
use Rattle.ec_generate.specs.declared.table.StopEntry.{StopEntry}
use Rattle.ec_things.specs.Things.{Thing, frame_if, object_if, object_thing, size_of, things_of}
use Rattle.ec_wire.specs.declared.parcel.ActivationPart.{ActivationPart}
use Rattle.ec_wire.specs.declared.parcel.Contents.{Contents}
use Rattle.ec_wire.specs.declared.parcel.ObjectPart.{ObjectPart}
use Rattle.ec_world.proofs.Members.{has_back, has_either, has_front, has_later, has_parts}
use Rattle.ec_world.specs.Group.{Has}
use Rattle.ec_world.specs.Objects.{object_at}
use Rattle.ec_world.specs.declared.object.ObjectRec.{ObjectRec}
use Rattle.ec_world.specs.declared.value.Value.{Value}
use Rattle.ec_world.specs.declared.value.Value.TheVariants.{Ref, Str}

-- ---- what goes with an activation

-- a stop has no result yet where a variable waits for it
no_result : (p : Parts) (a : CodeActivation) (r : Option Live) → ((l : Live) → r ≡ Some l → a.into ≡ Some l.variable) →
    result_in p a r a.into ≡ []
no_result p a None waits = refl
no_result p a (Some l) waits = ap (result_in p a (Some l)) (waits l refl)

carried_held : (p : Parts) (a : CodeActivation) (e : StopEntry) → IsCarried p a e → (pending : Bool) → a.pending ≡ pending →
    (if pending then held_in p a e.operands else result_in p a e.result a.into) ≡ held_in p a (if pending then e.operands else [])
carried_held p a e carries true is = refl
carried_held p a e carries false is = no_result p a e.result (λ l f. carries.waits l is f)

-- the values that go are those in its frame behind the own object
pub values_same : (p : Parts) (a : CodeActivation) (e : StopEntry) → IsCarried p a e →
    values_of p a ≡ Ref a.own ∷ values_carried p a e a.pending
values_same p a e carries =
    let front : List Live = if a.pending then e.operands else [] in
    let held : held_of p a ≡ held_in p a front ++ held_in p a e.live =
    ap (held_if p a) carries.rests.is ∙ ap (λ (hs : List Held). hs ++ held_in p a e.live) (carried_held p a e carries a.pending refl) in
    let both : held_in p a front ++ held_in p a e.live ≡ held_in p a (front ++ e.live) =
    map_both (λ (l : Live). record { variable = l.variable; value = value_in p a l.variable }) front e.live in
    ap (λ (hs : List Held). Ref a.own ∷ map (λ (h : Held). h.value) hs) (held ∙ both)

-- ---- one parcel

-- the values of its objects
abbrev in_objects : Contents → List Value
in_objects x = flat_map (λ (y : ObjectPart). y.values) x.objects

-- the values of its activations
abbrev in_activations : Contents → List Value
in_activations x = flat_map (λ (y : ActivationPart). y.values) x.activations

module _ (c : Cluster) (w : CodeWorld) (members : List ℕ) (k : ℕ) where
  -- an owner of a thing of the group at node k
  pub record Goes (key : Key) : Type 0 where
    pub thing : Thing
    pub is : things_of (frame_of c) w key ≡ Some thing
    pub member : Has members thing.home
    pub at : place c thing.home ≡ Some k

  -- a text of such a thing
  pub record TextGoes (text : List ℕ) : Type 0 where
    pub key : Key
    pub goes : Goes key
    pub has : Has goes.thing.values (Str text)

-- the blocks of an owner's thing
abbrev pub size : Cluster → CodeWorld → Key → ℕ
size c w key = size_of (things_of (frame_of c) w key)

module _ (table : ClassTable) (c : Cluster) (w : CodeWorld) (members : List ℕ) (k : ℕ) (x : Contents) (packs : Packs table c w members k x)
  where
    abbrev object_goes : (part : ObjectPart) → Has x.objects part → Goes c w members k (Object part.number)
    object_goes part h =
        let z = packs.objects part h in
        record {
          thing = object_thing part.number z.object;
          is = ap (object_if part.number) z.goes.is;
          member = z.goes.member;
          at = z.goes.at;
        }

    abbrev activation_goes : (part : ActivationPart) → Has x.activations part → Goes c w members k (Frame part.process part.depth)
    activation_goes part h =
        let z = packs.activations part h in
        record {
          thing = frame_of c part.process part.depth z.activation;
          is = ap (frame_if (frame_of c) part.process part.depth) z.goes.is;
          member = z.goes.member;
          at = z.goes.at;
        }

    -- each owner in the parcel is such
    pub key_goes : (key : Key) → Has (keys_of x) key → Goes c w members k key
    key_goes key h = ⊎_elim
        (λ (o : Has (object_keys x.objects) key).
        let m = get_mapped (λ (part : ObjectPart). Object part.number) x.objects o.at key o.is in
        subst (Goes c w members k) m.2 (object_goes m.0 (record { at = o.at; is = m.1 })))
        (λ (f : Has (frame_keys x.activations) key).
        let m = get_mapped (λ (part : ActivationPart). Frame part.process part.depth) x.activations f.at key f.is in
        subst (Goes c w members k) m.2 (activation_goes m.0 (record { at = f.at; is = m.1 })))
        (has_either key (object_keys x.objects) (frame_keys x.activations) h)

    -- and each such owner is in the parcel
    pub goes_key : (key : Key) (t : Thing) → things_of (frame_of c) w key ≡ Some t → Has members t.home → place c t.home ≡ Some k →
        Has (keys_of x) key
    goes_key (Object oid) t e member at =
        let o = object_is (frame_of c) w oid t e in
        let home : t.home ≡ oid = ap (λ (y : Thing). y.home) (sym o.is) in
        let z = packs.each_object oid o.object (record { member = rw home at member; at = ap (place c) (sym home) ∙ at; is = o.there }) in
        let got : slice_get (object_keys x.objects) z.1.0.at ≡ Some (Object oid) =
        map_get (λ (part : ObjectPart). Object part.number) x.objects z.1.0.at z.0 z.1.0.is ∙ ap (λ n. Some (Object n)) z.1.1 in
        has_front (Object oid) (object_keys x.objects) (frame_keys x.activations) (record { at = z.1.0.at; is = got })
    goes_key (Frame p d) t e member at =
        let a = frame_is (frame_of c) w p d t e in
        let home : t.home ≡ a.activation.own = ap (λ (y : Thing). y.home) (sym a.is) in
        let z = packs.each_activation p d a.activation
        (record { member = rw home at member; at = ap (place c) (sym home) ∙ at; is = a.there }) in
        let same : Frame z.0.process z.0.depth ≡ Frame p d = ap (λ n. Frame n z.0.depth) z.1.1.0 ∙ ap (Frame p) z.1.1.1 in
        let got : slice_get (frame_keys x.activations) z.1.0.at ≡ Some (Frame p d) =
        map_get (λ (part : ActivationPart). Frame part.process part.depth) x.activations z.1.0.at z.0 z.1.0.is ∙ ap Some same in
        has_back (Frame p d) (object_keys x.objects) (frame_keys x.activations) (record { at = z.1.0.at; is = got })

    -- ---- blocks

    object_size : IsClassTable table → (part : ObjectPart) → Has x.objects part → size c w (Object part.number) ≡ object_blocks table part
    object_size keeps part h =
        let z = packs.objects part h in
        let number : part.class ≡ z.class = ap (λ (y : ObjectPart). y.class) z.is in
        let values : part.values ≡ z.object.fields = ap (λ (y : ObjectPart). y.values) z.is in
        let class : class_of table part.class ≡ Some z.object.class =
        ap (class_of table) number ∙ class_again table keeps z.object.class z.class z.numbered in
        ap (λ o. size_of (object_if part.number o)) z.goes.is
        ∙ sym (ap (λ y. blocks_if y (length part.values)) class ∙ ap (λ (vs : List Value). class_blocks z.object.class (length vs)) values)

    frame_size : (part : ActivationPart) → Has x.activations part → size c w (Frame part.process part.depth) ≡ 1
    frame_size part h =
        let z = packs.activations part h in ap (λ a. size_of (frame_if (frame_of c) part.process part.depth a)) z.goes.is

    -- the blocks of a parcel are those of its things
    pub size_sum : IsClassTable table → sum_by (size c w) (keys_of x) ≡ blocks_in table x
    size_sum keeps =
        let objects : sum_by (size c w) (object_keys x.objects) ≡ sum_by (object_blocks table) x.objects =
        sum_map (size c w) (λ (part : ObjectPart). Object part.number) x.objects
        ∙ sum_same (λ (part : ObjectPart). size c w (Object part.number)) (object_blocks table) x.objects (object_size keeps) in
        let frames : sum_by (size c w) (frame_keys x.activations) ≡ length x.activations =
        sum_map (size c w) (λ (part : ActivationPart). Frame part.process part.depth) x.activations
        ∙ sum_ones (λ (part : ActivationPart). size c w (Frame part.process part.depth)) x.activations frame_size in
        omega (arith, objects, frames, sum_by-append (size c w) (object_keys x.objects) (frame_keys x.activations))

    -- ---- texts

    object_values : (part : ObjectPart) (h : Has x.objects part) → part.values ≡ (packs.objects part h).object.fields
    object_values part h = ap (λ (y : ObjectPart). y.values) (packs.objects part h).is

    module _ (waits : AllWait c w members) (text : List ℕ) where
      frame_values : (part : ActivationPart) (h : Has x.activations part) →
          values_of c.parts (packs.activations part h).activation ≡ Ref (packs.activations part h).activation.own ∷ part.values
      frame_values part h =
          let z = packs.activations part h in
          values_same c.parts z.activation z.entry (waits part.process part.depth z.activation z.entry z.goes.is z.goes.member z.rests)
          ∙ ap (λ (vs : List Value). Ref z.activation.own ∷ vs) (sym (ap (λ (y : ActivationPart). y.values) z.is))

      behind_own : (own : ℕ) (vs : List Value) → Has (Ref own ∷ vs) (Str text) → Has vs (Str text)
      behind_own own vs h = ⊎_elim
          (λ (e : Str text ≡ Ref own). absurd cc)
          (λ (g : Has vs (Str text)). g)
          (has_parts (Ref own) (Str text) vs h)

      of_part : (part : ObjectPart) (o : ObjectRec) → Has x.objects part → object_at w.common.objects part.number ≡ Some o →
          Has o.fields (Str text) → Has (values_in x) (Str text)
      of_part part o h is has =
          let v = packs.objects part h in
          let same : o ≡ v.object = same_Some o v.object (sym is ∙ v.goes.is) in
          let values : o.fields ≡ part.values = ap (λ (y : ObjectRec). y.fields) same ∙ sym (object_values part h) in
          has_front (Str text) (in_objects x) (in_activations x)
          (one_in (λ (y : ObjectPart). y.values) x.objects part (Str text) h (subst (λ (vs : List Value). Has vs (Str text)) values has))

      of_object : (oid : ℕ) (t : Thing) → things_of (frame_of c) w (Object oid) ≡ Some t → Has members t.home → place c t.home ≡ Some k →
          Has t.values (Str text) → Has (values_in x) (Str text)
      of_object oid t e member at has =
          let o = object_is (frame_of c) w oid t e in
          let home : t.home ≡ oid = ap (λ (y : Thing). y.home) (sym o.is) in
          let z = packs.each_object oid o.object
          (record { member = rw home at member; at = ap (place c) (sym home) ∙ at; is = o.there }) in
          of_part z.0 o.object z.1.0 (ap (object_at w.common.objects) z.1.1 ∙ o.there)
          (subst (λ (y : Thing). Has y.values (Str text)) (sym o.is) has)

      of_activation : (part : ActivationPart) (a : CodeActivation) → Has x.activations part →
          activation_at w.processes part.process part.depth ≡ Some a → Has (values_of c.parts a) (Str text) → Has (values_in x) (Str text)
      of_activation part a h is has =
          let v = packs.activations part h in
          let same : a ≡ v.activation = same_Some a v.activation (sym is ∙ v.goes.is) in
          let values : values_of c.parts a ≡ Ref v.activation.own ∷ part.values = ap (values_of c.parts) same ∙ frame_values part h in
          has_back (Str text) (in_objects x) (in_activations x)
          (one_in (λ (y : ActivationPart). y.values) x.activations part (Str text) h
          (behind_own v.activation.own part.values (subst (λ (vs : List Value). Has vs (Str text)) values has)))

      of_frame : (p d : ℕ) (t : Thing) → things_of (frame_of c) w (Frame p d) ≡ Some t → Has members t.home → place c t.home ≡ Some k →
          Has t.values (Str text) → Has (values_in x) (Str text)
      of_frame p d t e member at has =
          let a = frame_is (frame_of c) w p d t e in
          let home : t.home ≡ a.activation.own = ap (λ (y : Thing). y.home) (sym a.is) in
          let z = packs.each_activation p d a.activation
          (record { member = rw home at member; at = ap (place c) (sym home) ∙ at; is = a.there }) in
          let there : activation_at w.processes z.0.process z.0.depth ≡ activation_at w.processes p d =
          ap (λ n. activation_at w.processes n z.0.depth) z.1.1.0 ∙ ap (activation_at w.processes p) z.1.1.1 in
          of_activation z.0 a.activation z.1.0 (there ∙ a.there) (subst (λ (y : Thing). Has y.values (Str text)) (sym a.is) has)

      -- such a text is in the parcel
      pub goes_text : (key : Key) (t : Thing) → things_of (frame_of c) w key ≡ Some t → Has members t.home → place c t.home ≡ Some k →
          Has t.values (Str text) → Has (values_in x) (Str text)
      goes_text (Object oid) = of_object oid
      goes_text (Frame p d) = of_frame p d

      -- and each text in the parcel is such
      pub text_goes : Has (values_in x) (Str text) → TextGoes c w members k text
      text_goes h = ⊎_elim
          (λ (o : Has (in_objects x) (Str text)).
          let m = in_one (λ (y : ObjectPart). y.values) x.objects (Str text) o in
          let there : Has x.objects m.which = record { at = m.at; is = m.there } in
          record {
            key = Object m.which.number;
            goes = object_goes m.which there;
            has = subst (λ (vs : List Value). Has vs (Str text)) (object_values m.which there) m.has;
          })
          (λ (f : Has (in_activations x) (Str text)).
          let m = in_one (λ (y : ActivationPart). y.values) x.activations (Str text) f in
          let there : Has x.activations m.which = record { at = m.at; is = m.there } in
          record {
            key = Frame m.which.process m.which.depth;
            goes = activation_goes m.which there;
            has = subst (λ (vs : List Value). Has vs (Str text)) (sym (frame_values m.which there))
                (has_later (Ref (packs.activations m.which there).activation.own) (Str text) m.which.values m.has);
          })
          (has_either (Str text) (in_objects x) (in_activations x)
          h)
