-- Acts on monitors at a node are acts on those of the world that is shown.
use Rattle.std.proofs.Common.{◌≡◌, ℕ, zero, suc, List, Some, sym, ap, ◌∙◌, subst}
use Rattle.std.specs.Prelude.{option_map, slice_get, slice_set}
use Rattle.ec_cluster.proofs.Changing.{before_suc, object_shown}
use Rattle.ec_cluster.proofs.Putting.{put_shown, shown_there, with_node}
use Rattle.ec_cluster.specs.Cluster.{CodeWorld, Shows, frame_of, place}
use Rattle.ec_cluster.specs.Steps.{HasObject, MonitorActs, with_common}
use Rattle.ec_cluster.specs.declared.cluster.Cluster.{Cluster}
use Rattle.ec_monitors.specs.declared.record.MonitorRec.{MonitorRec}
use Rattle.ec_world.specs.declared.key.Key.TheVariants.{Object}
use Rattle.ec_objects.specs.Acts.{ActsOn}
use Rattle.ec_stores.specs.Node.{NodeData, store_of}
use Rattle.ec_things.proofs.Objects.{object_put}
use Rattle.ec_things.specs.Things.{Shown, object_if, object_thing}
use Rattle.ec_world.specs.Objects.{changed_if, object_at}
use Rattle.ec_world.specs.Outcomes.{monitor_if}
use Rattle.ec_world.specs.declared.object.ObjectRec.{ObjectRec}

module _ {A : Type 0} (c : Cluster) (k : ℕ) (n n' : NodeData) (is : slice_get c.nodes k ≡ Some n)
    (act : MonitorRec → MonitorRec × A) (answer : A) (w : CodeWorld) (shows : Shows c w) (o : ObjectRec) where
  acts_by : (oid : ℕ) → place c oid ≡ Some k → ActsOn (store_of n) (store_of n') oid act answer → object_at w.common.objects oid ≡ Some o →
      MonitorActs (with_node c k n') w oid act answer
  acts_by zero at acts there = absurd cc
  acts_by (suc i) at acts there =
      let shown : Shown (store_of n) (Object (suc i)) (object_thing (suc i) o) =
      shown_there c w k (store_of n) (Object (suc i)) (object_thing (suc i) o) shows
      (ap (object_if (suc i)) there) at (ap (option_map store_of) is) in
      let put = acts o shown in
      let o' : ObjectRec = record o { monitor = Some (act put.before).0 } in
      let after = put_shown c k n n' w (with_common w (record w.common { objects = slice_set w.common.objects i o' }))
      (Object (suc i)) (Some (object_thing (suc i) o')) is put.puts
      (object_put (frame_of c) (place c) w i k o o' there at) shows in
      record {
        before = put.before;
        had = ap monitor_if there ∙ put.had;
        answers = put.answers;
        shown = subst (λ (os : List ObjectRec). Shows (with_node c k n') (with_common w (record w.common { objects = os })))
            (sym (ap (changed_if w.common.objects (suc i) (λ (x : ObjectRec). record x { monitor = Some (act put.before).0 })) there
            ∙ ap (λ x. slice_set w.common.objects x o') (before_suc i))) after;
      }

-- so an act on the monitor of an object that is at a node
pub acts_shown : {A : Type 0} (c : Cluster) (oid k : ℕ) (n n' : NodeData) (act : MonitorRec → MonitorRec × A) (answer : A) →
    HasObject c oid →
    place c oid ≡ Some k → slice_get c.nodes k ≡ Some n → ActsOn (store_of n) (store_of n') oid act answer → (w : CodeWorld) → Shows c w →
    MonitorActs (with_node c k n') w oid act answer
acts_shown c oid k n n' act answer has at is acts w shows =
    let o = object_shown c w oid has shows in
    acts_by c k n n' is act answer w shows o.0 oid at acts o.1
