-- From node to node and from object to object, up to the first world.
use Rattle.std.proofs.Common.{◌≡◌, ℕ, suc, ◌+◌, ◌<◌, ◌≤◌, List, [], ◌∷◌, ◌++◌, Some, refl, sym, ap, ◌∙◌, subst, arith}
use Rattle.std.specs.Prelude.{length, replicate, slice_get}
use Rattle.std.proofs.lemmas.List.{length-replicate, replicate_more}
use Rattle.ec_base.proofs.Lists.{get_there}
use Rattle.ec_cluster.specs.Cluster.{CodeWorld, frame_of, place, stores}
use Rattle.ec_cluster.specs.Images.{homes_on, image_of}
use Rattle.ec_cluster.specs.Makings.{with_one}
use Rattle.ec_cluster.specs.declared.cluster.Cluster.{Cluster}
use Rattle.ec_cluster.specs.declared.cluster.Images.{Images}
use Rattle.ec_cluster.specs.Frames.{HasImages}
use Rattle.ec_code.specs.declared.code.Parts.{Parts}
use Rattle.ec_cluster.specs.Located.{Located, first_made, made_at, nodes_made}
use Rattle.ec_acts.proofs.Entering.{entry_there}
use Rattle.ec_acts.proofs.LoadingHolding.{held_nodes, held_objects}
use Rattle.ec_acts.proofs.MakingLemmas.{no_frame, no_object}
use Rattle.ec_acts.proofs.Rooms.{program_place, two_blocks}
use Rattle.ec_acts.specs.Loading.{CanBeginFirst, CanLoad, CanMakeAt, HaveRoom, IsSet, first_needs}
use Rattle.ec_acts.specs.Worlds.{with_first, with_objects, world_first}
use Rattle.ec_node_frames.specs.Beginning.{HasEntry}
use Rattle.ec_node_frames.specs.Frames.{HasTables}
use Rattle.ec_world.specs.Things.{class_blocks}
use Rattle.ec_generate.specs.declared.table.OperationTable.{OperationTable}
use Rattle.ec_things.proofs.World.{if_here}
use Rattle.ec_things.specs.Held.{Held}
use Rattle.ec_things.specs.Store.{Store}
use Rattle.ec_world.specs.Run.{node_object, program_object}
use Rattle.ec_world.specs.declared.class.ClassNo.{ClassNo}
use Rattle.ec_world.specs.declared.class.ClassNo.TheVariants.{Node, Program}
use Rattle.ec_world.specs.declared.node.NodeSpec.{NodeSpec}
use Rattle.ec_world.specs.declared.object.ObjectRec.{ObjectRec}

-- ---- what can be made

module _ (p : Parts) (images : Images) (specs : List NodeSpec) (w : CodeWorld) (at : Located) (c : Cluster)
    (set : IsSet p images specs w at c) where
  can_make : (k oid : ℕ) (class : ClassNo) → k < length specs → oid ≡ suc (length w.common.objects) →
      ((s : Store) → stores c k ≡ Some s → class_blocks class 0 ≤ s.free) → CanMakeAt c k oid class
  can_make k oid class within next blocks = record {
    there = (let n = set.nodes in omega (arith, n, within));
    next = next ∙ ap suc (set.many ∙ sym set.whereabouts.made);
    new = λ s e. no_object c w k oid s set.shows e next;
    blocks = blocks;
  }

  free_at : (k : ℕ) (spec : NodeSpec) (s : Store) → slice_get specs k ≡ Some spec → stores c k ≡ Some s →
      s.free + Held (frame_of c) (place c) k w ≡ spec.blocks
  free_at k spec s e f = set.shows.room k s f ∙ (set.sizes k spec s e f).room

module _ (p : Parts) (images : Images) (specs : List NodeSpec) where
  abbrev count : ℕ
  count = length specs

  abbrev nodes_world : ℕ → CodeWorld
  nodes_world k = with_objects count p (replicate k node_object)

  abbrev objects_world : CodeWorld
  objects_world = with_objects count p (replicate count node_object ++ program_object ∷ [])

  pub can_make_node : (k : ℕ) (c : Cluster) → IsSet p images specs (nodes_world k) (nodes_made k) c → k < count →
      CanMakeAt c k (k + 1) Node
  can_make_node k c set within =
      can_make p images specs (nodes_world k) (nodes_made k) c set k (k + 1) Node within
      (let l = length-replicate k node_object in omega (arith, l)) (λ s e. omega arith)

  pub one_node_more : (k : ℕ) (c : Cluster) →
      IsSet p images specs (with_one (nodes_world k) node_object) (made_at (nodes_made k) (k + 1) k) c →
      IsSet p images specs (nodes_world (k + 1)) (nodes_made (k + 1)) c
  one_node_more k c set =
      let next : k + 1 ≡ suc k = omega arith in
      subst (λ (os : List ObjectRec). IsSet p images specs (with_objects count p os) (nodes_made (k + 1)) c)
      (replicate_more k node_object)
      (subst (λ (l : Located). IsSet p images specs (with_one (nodes_world k) node_object) l c)
      (ap (λ x. made_at (nodes_made k) x k) next ∙ ap nodes_made (sym next)) set)

  pub program_set : (c : Cluster) →
      IsSet p images specs (with_one (nodes_world count) program_object) (made_at (nodes_made count) (count + 1) 0) c →
      IsSet p images specs objects_world (first_made count) c
  program_set c set =
      let next : count + 1 ≡ suc count = omega arith in
      subst (λ x. IsSet p images specs objects_world (made_at (nodes_made count) x 0) c) next set

  module _ (can : CanLoad p images specs) (room : HaveRoom (first_needs p images count) specs count) (c : Cluster) where
    pub can_make_program : IsSet p images specs (nodes_world count) (nodes_made count) c → CanMakeAt c 0 (count + 1) Program
    can_make_program set =
        can_make p images specs (nodes_world count) (nodes_made count) c set 0 (count + 1) Program can.some
        (let l = length-replicate count node_object in omega (arith, l))
        (λ s e.
        let spec = get_there specs 0 can.some in
        let free = free_at p images specs (nodes_world count) (nodes_made count) c set 0 spec.0 s spec.1 e in
        let none = held_nodes p c.parts (homes_on c.images) (place c) 0 count count in
        let two = two_blocks p images specs can room spec.0 spec.1 in
        omega (arith, free, none, two))

    pub has_images : (w : CodeWorld) (at : Located) → IsSet p images specs w at c → HasImages can.declared c
    has_images w at set kind =
        subst (λ (x : Images). HasTables can.declared c.parts kind (homes_on x) (image_of x kind).table.operations) (sym set.images_are)
        (subst (λ (q : Parts). HasTables can.declared q kind (homes_on images) (image_of images kind).table.operations) (sym set.parts)
        (can.tables kind))

    module _ (set : IsSet p images specs objects_world (first_made count) c) where
      program_at : place c (suc count) ≡ Some 0
      program_at = set.whereabouts.places (suc count) ∙ program_place count

      pub own_at : place c (count + 1) ≡ Some 0
      own_at = let next : count + 1 ≡ suc count = omega arith in ap (place c) next ∙ program_at

      pub can_begin : CanBeginFirst c
      can_begin = record {
        there = (let n = set.nodes in let some = can.some in omega (arith, n, some));
        new = λ s e. no_frame c objects_world 0 s set.shows e refl;
        room = λ s e.
            let spec = get_there specs 0 can.some in
            let free = free_at p images specs objects_world (first_made count) c set 0 spec.0 s spec.1 e in
            let held = held_objects p c.parts (homes_on c.images) (place c) 0 count count program_at in
            let one = if_here 0 1 in
            let two = two_blocks p images specs can room spec.0 spec.1 in
            omega (arith, free, held, one, two);
        entry = λ kind. subst (λ (x : Images).
            (table : OperationTable) × (slice_get (image_of x kind).table.operations 0 ≡ Some table) × HasEntry table) (sym set.images_are)
            (entry_there can.declared p kind (homes_on images) (image_of images kind).table.operations (can.tables kind));
      }

  pub world_set : (c : Cluster) → IsSet p images specs (with_first objects_world (count + 1)) (first_made count) c →
      IsSet p images specs (world_first count p) (first_made count) c
  world_set c set =
      let next : count + 1 ≡ suc count = omega arith in
      subst (λ x. IsSet p images specs (with_first objects_world x) (first_made count) c) next set
