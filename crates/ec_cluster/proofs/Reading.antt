-- What nodes show is what their words spell.
use Rattle.std.proofs.Common.{◌≡◌, ℕ, suc, ◌+◌, ◌<◌, ◌^◌, Bool, List, Option, Some, None, refl, sym, ap, ◌∙◌, subst, arith}
use Rattle.std.proofs.lemmas.Option.{same_Some}
use Rattle.std.specs.Prelude.{IsSome, length, slice_get}
use Rattle.ec_activations.specs.Frames.{or_nil}
use Rattle.ec_base.proofs.Lists.{get_there}
use Rattle.ec_cluster.specs.Cluster.{CodeWorld, place, stores}
use Rattle.ec_cluster.specs.declared.cluster.Cluster.{Cluster}
use Rattle.ec_monitors.specs.declared.record.MonitorRec.{MonitorRec}
use Rattle.ec_world.specs.declared.key.Key.TheVariants.{Object}
use Rattle.ec_objects.proofs.Reading.{read_back}
use Rattle.ec_cluster.proofs.FindingLemmas.{spelled_is}
use Rattle.ec_cluster.proofs.Listing.{each-is}
use Rattle.ec_cluster.specs.Decoded.{decoded, decoded_at, field_of, fields_of, read_as, store_at}
use Rattle.ec_cluster.specs.Each.{each_from}
use Rattle.ec_cluster.specs.Seeing.{CanBeSeen, ObjectCanBeSeen, ShowsProgram}
use Rattle.ec_things.specs.Store.{StandsAt, word_of}
use Rattle.ec_things.specs.Things.{ShownAt, object_if, object_thing}
use Rattle.ec_world.proofs.Members.{within_object}
use Rattle.ec_world.specs.Objects.{object_at}
use Rattle.ec_world.specs.declared.object.ObjectRec.{ObjectRec}
use Rattle.ec_world.specs.declared.value.Value.{Value}
use Rattle.ec_world.specs.declared.value.ValueType.{ValueType}

pub some_of : {A : Type 0} (x : Option A) → IsSome x → (a : A) × (x ≡ Some a)
some_of None h = absurd cc
some_of (Some a) h = (a, refl)

some_is : {A : Type 0} (x : Option A) (a : A) → x ≡ Some a → IsSome x
some_is None a e = absurd cc
some_is (Some b) a e = refl

module _ (c : Cluster) (w : CodeWorld) (shows : ShowsProgram c w) where
  module _ (oid : ℕ) (o : ObjectRec) (there : object_at w.common.objects oid ≡ Some o) where
    at : ShownAt (stores c) (place c) (Object oid) (object_thing oid o)
    at = shows.shows.things_stand.each (Object oid) (object_thing oid o) (ap (object_if oid) there)

    field_read : (i : ℕ) (v : Value) → slice_get o.fields i ≡ Some v →
        field_of c.parts.classes at.store o.class at.shown.row.blocks i ≡ Some v
    field_read i v e =
        let kind = shows.kinds oid i o v there e in
        let x = at.shown.spells.values i v e in
        let st : StandsAt at.store at.shown.row.blocks i v =
        subst (λ n. StandsAt at.store at.shown.row.blocks n v) (sym (same_Some i x.0 x.1)) x.2 in
        ap (λ (t : Option ValueType). read_as at.store t (word_of at.store at.shown.row.blocks i)) kind.there
        ∙ ap (read_as at.store (Some kind.kind)) st.there
        ∙ read_back at.store kind.kind v st.word (shows.shows.tidy at.node at.store at.there).nil kind.is st.stands

    fields_read : fields_of c.parts.classes at.store o.class at.shown.row.blocks at.shown.row.size ≡ o.fields
    fields_read =
        ap (fields_of c.parts.classes at.store o.class at.shown.row.blocks) at.shown.spells.size
        ∙ each-is (λ i. or_nil (field_of c.parts.classes at.store o.class at.shown.row.blocks i)) 0 o.fields (λ i v e.
        let z : 0 + i ≡ i = omega arith in
        ap (λ k. or_nil (field_of c.parts.classes at.store o.class at.shown.row.blocks k)) z ∙ ap or_nil (field_read i v e))

    abbrev object_with : List Value → Bool → Option MonitorRec → ObjectRec
    object_with fields fixed monitor = record { class = o.class; fields = fields; fixed = fixed; monitor = monitor }

    pub object_read : decoded_at c oid ≡ o
    object_read =
        spelled_is c oid at.store at.shown.row o.class (ap (store_at (stores c)) at.home ∙ at.there) at.shown.there at.shown.spells.class
        ∙ ap (λ fields. object_with fields at.shown.row.fixed at.shown.row.monitor) fields_read
        ∙ ap (λ fixed. object_with o.fields fixed at.shown.row.monitor) at.shown.spells.fixed
        ∙ ap (object_with o.fields o.fixed) at.shown.spells.monitor

    can_read : (i : ℕ) → i < at.shown.row.size → IsSome (field_of c.parts.classes at.store o.class at.shown.row.blocks i)
    can_read i l =
        let size = at.shown.spells.size in
        let v = get_there o.fields i (omega arith) in
        some_is (field_of c.parts.classes at.store o.class at.shown.row.blocks i) v.0 (field_read i v.0 v.1)

    object_can : ObjectCanBeSeen c oid
    object_can = record {
      node = at.node;
      at = at.home;
      store = at.store;
      there = at.there;
      row = at.shown.row;
      kept = at.shown.there;
      class = o.class;
      is = at.shown.spells.class;
      each = can_read;
    }

  pub objects_read : decoded c ≡ w.common.objects
  objects_read =
      ap (each_from (decoded_at c) 1) (sym shows.objects)
      ∙ each-is (decoded_at c) 1 w.common.objects (λ i o e.
      let z : 1 + i ≡ suc i = omega arith in ap (decoded_at c) z ∙ object_read (suc i) o e)

  pub all_can : length c.nodes < 2 ^ 32 → CanBeSeen c
  all_can few = record {
    objects = λ oid p l.
        let made = shows.objects in
        let o = some_of (object_at w.common.objects oid) (within_object w.common.objects oid p (omega arith)) in
        object_can oid o.0 o.1;
    few = few;
  }
