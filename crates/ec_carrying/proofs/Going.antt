-- A parcel that goes from one node to another.
use Rattle.std.proofs.Common.{◌≡◌, ◌≢◌, ℕ, ◌+◌, ◌*◌, ◌/◌, ◌≤◌, ◌==◌, Bool, true, false, List, [], ◌∷◌, length, max, Option, Some}
use Rattle.std.proofs.Common.{None, refl, sym, ap, ◌∙◌, subst, arith, ⊎_elim}
use Rattle.std.proofs.lemmas.Option.{same_Some}
use Rattle.std.specs.Prelude.{if◌then◌else◌, is_some, slice_get}
use Rattle.ec_carrying.proofs.Frames.{part_has_homes}
use Rattle.ec_carrying.proofs.Stops.{images_along, is_stop, part_along}
use Rattle.ec_carrying.specs.Carrying.{Carried, IsCarriedIn}
use Rattle.ec_carrying.specs.Landing.{AreClassed, EachArrivesAs, EachComesAs, TextsAt, monitor_in}
use Rattle.ec_carrying.specs.Moves.{AreAll, GoWithHomes, SetOff}
use Rattle.ec_carrying.specs.Steps.{AreKept, ShowsStaying, ThingAt, ThingsAt}
use Rattle.ec_carrying.specs.Unpacking.{ActivationFits, CanUnpackAt, HasRoomHere}
use Rattle.ec_cluster.specs.Cluster.{CodeWorld, Shows, frame_of, place, stores}
use Rattle.ec_cluster.specs.Steps.{Changes, KeptAt}
use Rattle.ec_cluster.specs.declared.cluster.Cluster.{Cluster}
use Rattle.ec_cluster.specs.Frames.{HasImages, tables_on}
use Rattle.ec_cluster.specs.Images.{homes_on}
use Rattle.ec_code.specs.Typing.{Declared}
use Rattle.ec_code.specs.declared.activation.CodeActivation.{CodeActivation}
use Rattle.ec_cluster.specs.Whereabouts.{Traces, made_count, place_at}
use Rattle.ec_generate.specs.declared.table.OperationTable.{OperationTable}
use Rattle.ec_monitors.specs.declared.record.MonitorRec.{MonitorRec}
use Rattle.ec_node_frames.proofs.Carrying.{many_carried}
use Rattle.ec_node_frames.specs.Carried.{carried}
use Rattle.ec_parcels.proofs.Numbers.{class_again}
use Rattle.ec_parcels.specs.Activations.{HasHomes}
use Rattle.ec_parcels.specs.Classes.{ClassTable, IsClassTable, class_of, number_of}
use Rattle.ec_world.specs.Things.{activation_at, class_blocks}
use Rattle.ec_world.specs.declared.key.Key.{Key}
use Rattle.ec_world.specs.declared.key.Key.TheVariants.{Frame, Object}
use Rattle.ec_parcels.proofs.Keys.{has_among}
use Rattle.ec_parcels.proofs.Rising.{few_values, get_mapped, keys_once, map_get}
use Rattle.ec_parcels.specs.Owners.{among, frame_keys, keys_of, object_keys, values_in}
use Rattle.ec_parcels.specs.Parcels.{ActivationGoes, IsOfObject}
use Rattle.ec_acts.proofs.Wording.{nothing_join}
use Rattle.ec_things.specs.Things.{Thing, frame_if, object_if, object_thing}
use Rattle.ec_things.proofs.Others.{stand_nowhere}
use Rattle.ec_wire.specs.declared.parcel.ActivationPart.{ActivationPart}
use Rattle.ec_wire.specs.declared.parcel.Contents.{Contents}
use Rattle.ec_wire.specs.declared.parcel.MonitorPart.{MonitorPart}
use Rattle.ec_wire.specs.declared.parcel.ObjectPart.{ObjectPart}
use Rattle.ec_world.proofs.Members.{has_back, has_either, has_first, has_front, has_later, has_none, has_parts}
use Rattle.ec_world.specs.Group.{Has}
use Rattle.ec_world.specs.Objects.{object_at}
use Rattle.ec_world.specs.declared.class.ClassNo.{ClassNo}
use Rattle.ec_world.specs.declared.class.ClassNo.TheVariants.{Made, Node, Program, Vector}
use Rattle.ec_world.specs.declared.object.ObjectRec.{ObjectRec}
use Rattle.ec_world.specs.declared.value.Value.{Value}

-- ---- monitors

equal : (n m : ℕ) → (n == m) ≡ true → n ≡ m
equal n m e = grind arith

unequal : (n m : ℕ) → (n == m) ≡ false → n ≢ m
unequal n m e same = grind arith

-- A list that has the monitor of an object, and no other monitor by its number, tells it.
monitor_told : (ms : List MonitorPart) (oid : ℕ) (m : Option MonitorRec) →
    ((part : MonitorPart) → Has ms part → part.object ≡ oid → Some part.monitor ≡ m) →
    ((r : MonitorRec) → m ≡ Some r → Has ms (record { object = oid; monitor = r })) → monitor_in ms oid ≡ m
monitor_told [] oid None only each = refl
monitor_told [] oid (Some r) only each = absurd (has_none (record { object = oid; monitor = r }) (each r refl))
monitor_told (p ∷ ps) oid m only each = by (p.object == oid) refl (λ ne. monitor_told ps oid m
    (λ part h. only part (has_later p part ps h)) (λ r is. behind ne r (each r is)))
  where
    behind : p.object ≢ oid → (r : MonitorRec) → Has (p ∷ ps) (record { object = oid; monitor = r }) →
        Has ps (record { object = oid; monitor = r })
    behind ne r h = ⊎_elim
        (λ (e : record { object = oid; monitor = r } ≡ p). absurd (ne (sym (ap (λ (q : MonitorPart). q.object) e))))
        (λ (l : Has ps (record { object = oid; monitor = r })). l)
        (has_parts p (record { object = oid; monitor = r }) ps h)

    by : (b : Bool) → (p.object == oid) ≡ b → (p.object ≢ oid → monitor_in ps oid ≡ m) →
        (if b then Some p.monitor else monitor_in ps oid) ≡ m
    by true e rest = only p (has_first p ps) (equal p.object oid e)
    by false e rest = rest (unequal p.object oid e)

-- an object that isn't fixed is told by its class, its fields and its monitor
object_is : (o : ObjectRec) (fields : List Value) (m : Option MonitorRec) → fields ≡ o.fields → o.fixed ≡ false → m ≡ o.monitor →
    o ≡ record { class = o.class; fields = fields; fixed = false; monitor = m }
object_is o fields m same unfixed monitor =
    ap (λ (b : Bool). with_parts o.fields b o.monitor) unfixed
    ∙ ap (λ (vs : List Value). with_parts vs false o.monitor) (sym same)
    ∙ ap (λ (r : Option MonitorRec). with_parts fields false r) (sym monitor)
  where
    with_parts : List Value → Bool → Option MonitorRec → ObjectRec
    with_parts fields fixed monitor = record { class = o.class; fields = fields; fixed = fixed; monitor = monitor }

-- an object with a class that can go has a word for each of its values
words_enough : (n : ℕ) → n ≤ 128 * max 1 ((n + 127) / 128)
words_enough n = omega arith

few_words : (table : ClassTable) (class : ClassNo) (number n : ℕ) → number_of table class ≡ Some number → n ≤ 128 * class_blocks class n
few_words table Node number n e = absurd cc
few_words table Program number n e = words_enough n
few_words table (Made k) number n e = words_enough n
few_words table (Vector of) number n e = words_enough n

-- ---- homes

object_home : (oid : ℕ) (o : Option ObjectRec) (t : Thing) → object_if oid o ≡ Some t → oid ≡ t.home
object_home oid None t e = absurd cc
object_home oid (Some o) t e = ap (λ (x : Thing). x.home) (same_Some (object_thing oid o) t e)

record FrameIs (c : Cluster) (p d : ℕ) (a : Option CodeActivation) (t : Thing) : Type 0 where
  activation : CodeActivation
  there : a ≡ Some activation
  home : activation.own ≡ t.home

frame_home : (c : Cluster) (p d : ℕ) (a : Option CodeActivation) (t : Thing) → frame_if (frame_of c) p d a ≡ Some t → FrameIs c p d a t
frame_home c p d None t e = absurd cc
frame_home c p d (Some a) t e = record {
  activation = a;
  there = refl;
  home = ap (λ (x : Thing). x.home) (same_Some (frame_of c p d a) t e);
}

-- the same of a parcel that is this one
pub in_words : {table : ClassTable} {c : Cluster} {from to : ℕ} {bytes : List ℕ} {d : Declared} {w : CodeWorld} {members : List ℕ}
    (x y : Contents) → y ≡ x → IsCarriedIn table c from to bytes d w members x → IsCarriedIn table c from to bytes d w members y
in_words {table} {c} {from} {to} {bytes} {d} {w} {members} x y same i =
    subst (λ (z : Contents). IsCarriedIn table c from to bytes d w members z) (sym same) i

module _ {table : ClassTable} {c : Cluster} {from to : ℕ} {bytes : List ℕ} {d : Declared} {w : CodeWorld} {members : List ℕ} {x : Contents}
    (i : IsCarriedIn table c from to bytes d w members x) where
  -- ---- what goes

  has_object_key : (part : ObjectPart) → Has x.objects part → Has (keys_of x) (Object part.number)
  has_object_key part h = has_front (Object part.number) (object_keys x.objects) (frame_keys x.activations)
      (record { at = h.at; is = map_get (λ (o : ObjectPart). Object o.number) x.objects h.at part h.is })

  has_frame_key : (part : ActivationPart) → Has x.activations part → Has (keys_of x) (Frame part.process part.depth)
  has_frame_key part h = has_back (Frame part.process part.depth) (object_keys x.objects) (frame_keys x.activations)
      (record { at = h.at; is = map_get (λ (a : ActivationPart). Frame a.process a.depth) x.activations h.at part h.is })

  object_there : (part : ObjectPart) → Has x.objects part → ThingAt c w from (Object part.number)
  object_there part h =
      let o = i.packs.objects part h in
      record { thing = object_thing part.number o.object; is = ap (object_if part.number) o.goes.is; at = o.goes.at }

  frame_there : (part : ActivationPart) → Has x.activations part → ThingAt c w from (Frame part.process part.depth)
  frame_there part h =
      let a = i.packs.activations part h in
      record {
        thing = frame_of c part.process part.depth a.activation;
        is = ap (frame_if (frame_of c) part.process part.depth) a.goes.is;
        at = a.goes.at;
      }

  pub things_there : ThingsAt c w from (keys_of x)
  things_there key h = ⊎_elim
      (λ (g : Has (object_keys x.objects) key).
      let m = get_mapped (λ (o : ObjectPart). Object o.number) x.objects g.at key g.is in
      subst (λ (k : Key). ThingAt c w from k) m.2 (object_there m.0 (record { at = g.at; is = m.1 })))
      (λ (g : Has (frame_keys x.activations) key).
      let m = get_mapped (λ (a : ActivationPart). Frame a.process a.depth) x.activations g.at key g.is in
      subst (λ (k : Key). ThingAt c w from k) m.2 (frame_there m.0 (record { at = g.at; is = m.1 })))
      (has_either key (object_keys x.objects) (frame_keys x.activations) h)

  kept_there : (key : Key) → ThingAt c w from key → KeptAt c key from
  kept_there key t =
      let z = i.shows.things_stand.each key t.thing t.is in
      let node : from ≡ z.node = same_Some from z.node (sym t.at ∙ z.home) in
      record { store = z.store; there = ap (stores c) node ∙ z.there; row = ap is_some z.shown.there }

  pub all_kept : AreKept c from (keys_of x)
  all_kept = record { once = keys_once x i.wire.rules; each = λ key h. kept_there key (things_there key h) }

  pub all_at : AreAll c.whereabouts x.objects from
  all_at part h = (i.packs.objects part h).goes.at

  home_of_frame : (p depth : ℕ) (t : Thing) (part : ObjectPart) (f : FrameIs c p depth (activation_at w.processes p depth) t) →
      Has x.objects part → part.number ≡ t.home → Has (keys_of x) (Frame p depth)
  home_of_frame p depth t part f h same =
      let o = i.packs.objects part h in
      let own : part.number ≡ f.activation.own = same ∙ sym f.home in
      let goes : ActivationGoes c w members from p depth f.activation = record {
        member = subst (λ n. Has members n) own o.goes.member;
        at = ap (place c) (sym own) ∙ o.goes.at;
        is = f.there;
      } in
      let q = i.packs.each_activation p depth f.activation goes in
      subst (λ e. Has (keys_of x) (Frame p e)) q.1.1.1
      (subst (λ r. Has (keys_of x) (Frame r q.0.depth)) q.1.1.0 (has_frame_key q.0 q.1.0))

  pub homes_go : GoWithHomes c w x
  homes_go (Object oid) t part is h same =
      let home : part.number ≡ oid = same ∙ sym (object_home oid (object_at w.common.objects oid) t is) in
      subst (λ n. Has (keys_of x) (Object n)) home (has_object_key part h)
  homes_go (Frame p depth) t part is h same =
      home_of_frame p depth t part (frame_home c p depth (activation_at w.processes p depth) t is) h same

  module _ (keeps : IsClassTable table) where
    -- ---- what the objects are

    class_is : (part : ObjectPart) (h : Has x.objects part) → class_of table part.class ≡ Some (i.packs.objects part h).object.class
    class_is part h =
        let o = i.packs.objects part h in
        ap (class_of table) (ap (λ (p : ObjectPart). p.class) o.is) ∙ class_again table keeps o.object.class o.class o.numbered

    pub all_classed : AreClassed table x.objects
    all_classed part h =
        let o = i.packs.objects part h in
        record {
          class = o.object.class;
          is = class_is part h;
          few = few_words table o.object.class o.class (length part.values) o.numbered;
          small = few_values x i.wire.rules part h;
        }

    monitor_is : (part : ObjectPart) (h : Has x.objects part) → monitor_in x.monitors part.number ≡ (i.packs.objects part h).object.monitor
    monitor_is part h = monitor_told x.monitors part.number o.object.monitor
        (λ q g same.
        let m = i.packs.monitors q g in
        let one : m.object ≡ o.object = same_Some m.object o.object
        (sym m.goes.is ∙ ap (object_at w.common.objects) same ∙ o.goes.is) in
        sym m.has ∙ ap (λ (y : ObjectRec). y.monitor) one)
        (λ r is. i.packs.each_monitor part.number o.object r o.goes is)
      where
        o : IsOfObject table c w members from part
        o = i.packs.objects part h

    module _ {c1 : Cluster} (off : SetOff c c1 from to x) where
      pub all_come : EachComesAs table c1 w to x
      all_come part h =
          let o = i.packs.objects part h in
          record {
            class = o.object.class;
            is_class = class_is part h;
            is = o.goes.is ∙ ap Some (object_is o.object part.values (monitor_in x.monitors part.number)
                (ap (λ (p : ObjectPart). p.values) o.is) (i.unfixed part.number o.object o.goes) (monitor_is part h));
            at = off.there part h;
          }

      -- ---- what the activations are

      own_goes : (p depth : ℕ) (a : CodeActivation) → ActivationGoes c w members from p depth a → place c1 a.own ≡ Some to
      own_goes p depth a goes =
          let o = i.each_is a.own goes.member in
          let q = i.packs.each_object a.own o.0 (record { member = goes.member; at = goes.at; is = o.1 }) in
          ap (place c1) (sym q.1.1) ∙ off.there q.0 q.1.0

      pub all_arrive : EachArrivesAs c1 w to x.activations
      all_arrive part h =
          let a = i.packs.activations part h in
          record {
            activation = a.activation;
            entry = a.entry;
            part_is = part_along c c1 off.changes.parts off.changes.images part a.activation a.entry (record {
              carried = i.ready part.process part.depth a.activation a.entry a.goes a.rests;
              is = a.is;
            });
            is = a.goes.is;
            at = own_goes part.process part.depth a.activation a.goes;
          }

      pub images_still : HasImages d c1
      images_still = images_along c c1 off.changes.parts off.changes.images d i.images

      -- ---- room

      under_way : ShowsStaying c1 (among (keys_of x)) w
      under_way = off.shows w things_there homes_go i.shows

      pub node_there : stores c1 to ≡ Some i.store
      node_there = off.others to i.apart ∙ i.there

      pub room_there : HasRoomHere table i.store x
      room_there = record {
        tidy = i.shows.tidy to i.store i.there;
        once = keys_once x i.wire.rules;
        new = λ key h. stand_nowhere (frame_of c1) (among (keys_of x)) (stores c1) w (place c1) to i.store key under_way
            (has_among (keys_of x) key h) node_there;
        blocks = i.blocks;
        texts = i.texts;
      }

      -- ---- the program

      abbrev its_tables : List OperationTable
      its_tables = tables_on c1 i.store.kind

      monitor_there : (part : MonitorPart) → Has x.monitors part → Has (object_keys x.objects) (Object part.object)
      monitor_there part h =
          let m = i.packs.monitors part h in
          let q = i.packs.each_object part.object m.object m.goes in
          subst (λ n. Has (object_keys x.objects) (Object n)) q.1.1
          (record { at = q.1.0.at; is = map_get (λ (o : ObjectPart). Object o.number) x.objects q.1.0.at q.0 q.1.0.is })

      fits : (part : ActivationPart) → Has x.activations part → ActivationFits its_tables part
      fits part h =
          let a = all_arrive part h in
          let same = a.part_is.is in
          let stop = is_stop c1 i.store its_tables refl d images_still part a.activation a.entry a.part_is in
          record {
            table = stop.0;
            entry = a.entry;
            is = stop.1;
            many = subst (λ (y : ActivationPart). length y.values ≡ length (carried a.entry y.is_pending)) (sym same)
                (many_carried c1.parts a.activation a.entry a.activation.pending);
            homes = subst (λ (y : ActivationPart). HasHomes stop.0 a.entry y) (sym same)
                (part_has_homes d c1.parts (homes_on c1.images) its_tables stop.0 a.activation a.entry i.store part.process part.depth
                (images_still i.store.kind) a.part_is.carried
                (ap (λ (y : ActivationPart). slice_get its_tables y.operation) (sym same) ∙ stop.1.its));
          }

      -- what has set off can be unpacked
      pub can_unpack : CanUnpackAt table c1 to bytes
      can_unpack = record {
        store = i.store;
        there = node_there;
        can = record {
          contents = x;
          wire = i.wire;
          fits = record { objects = all_classed; monitors = monitor_there; activations = fits };
          room = room_there;
        };
      }

      -- ---- all of it has come

      pub has_come : (c2 : Cluster) → Changes (TextsAt to (values_in x)) c1 c2 → c2.whereabouts ≡ c1.whereabouts →
          (ShowsStaying c1 (among (keys_of x)) w → Shows c2 w) → Carried c c2 w x to
      has_come c2 changes whereabouts shown = record {
        shows = shown under_way;
        changes = nothing_join (TextsAt to (values_in x)) c c1 c2 off.changes changes;
        there = λ part h. ap (λ (l : Traces). place_at l part.number) whereabouts ∙ off.there part h;
        others = λ oid none. ap (λ (l : Traces). place_at l oid) whereabouts ∙ off.stay oid none;
        count = ap made_count whereabouts ∙ off.count;
      }
