-- What is unpacked is shown.
use Rattle.std.proofs.Common.{◌≡◌, ℕ, ◌+◌, List, [], ◌∷◌, ◌++◌, length, refl, sym, ap, ◌∙◌, subst, arith, ⊎_elim}
use Rattle.std.proofs.lemmas.List.Sums.{sum_by-cons}
use Rattle.std.specs.List.{sum_by}
use Rattle.ec_carrying.proofs.Stops.{is_stop}
use Rattle.ec_carrying.proofs.Steps.{places_along}
use Rattle.ec_carrying.specs.Landing.{ComesAs, EachArrivesAs, monitor_in}
use Rattle.ec_carrying.specs.Steps.{ShowsStaying}
use Rattle.ec_cluster.specs.Cluster.{CodeWorld, Shows, frame_of, place, stores}
use Rattle.ec_cluster.specs.Images.{homes_on}
use Rattle.ec_cluster.specs.declared.cluster.Cluster.{Cluster}
use Rattle.ec_cluster.specs.Frames.{tables_on}
use Rattle.ec_code.specs.Typing.{Declared}
use Rattle.ec_parcels.specs.Classes.{ClassTable}
use Rattle.ec_parcels.specs.Objects.{object_of}
use Rattle.ec_node_frames.specs.Frames.{HasTables}
use Rattle.ec_world.specs.declared.key.Key.{Key}
use Rattle.ec_world.specs.declared.key.Key.TheVariants.{Frame, Object}
use Rattle.ec_parcels.proofs.Rising.{get_mapped}
use Rattle.ec_parcels.specs.Owners.{among, blocks_if, frame_keys, keys_of, object_blocks, object_keys}
use Rattle.ec_things.specs.Things.{frame_if, object_if, object_thing, size_of, things_of}
use Rattle.ec_things.specs.Travelling.{ShowsBut, nothing}
use Rattle.ec_wire.specs.declared.parcel.ActivationPart.{ActivationPart}
use Rattle.ec_wire.specs.declared.parcel.Contents.{Contents}
use Rattle.ec_wire.specs.declared.parcel.MonitorPart.{MonitorPart}
use Rattle.ec_wire.specs.declared.parcel.ObjectPart.{ObjectPart}
use Rattle.ec_world.proofs.Members.{has_either, has_first, has_later}
use Rattle.ec_world.specs.Group.{Has}
use Rattle.ec_world.specs.declared.node.Kind.{Kind}
use Rattle.ec_carrying.proofs.Batch.{LandsAs, blocks_at, many_land}
use Rattle.ec_carrying.proofs.Frames.{parts_show}
use Rattle.ec_carrying.specs.Holding.{HoldsThings}
use Rattle.ec_carrying.specs.UnpackingLaws.{WhatIsUnpackedIsShown}
use Rattle.ec_carrying.specs.Unpacking.{UnpackedAt}

-- ---- blocks

module _ (table : ClassTable) (c : Cluster) (w : CodeWorld) (k : ℕ) where
  blocks_of_frames : (parts : List ActivationPart) → EachArrivesAs c w k parts →
      blocks_at (frame_of c) w (place c) (frame_keys parts) ≡ length parts
  blocks_of_frames [] each = refl
  blocks_of_frames (part ∷ parts) each =
      let a = each part (has_first part parts) in
      let one : size_of (things_of (frame_of c) w (Frame part.process part.depth)) ≡ 1 =
      ap (λ o. size_of (frame_if (frame_of c) part.process part.depth o)) a.is in
      let rest = blocks_of_frames parts (λ q h. each q (has_later part q parts h)) in
      omega (arith, one, rest)

  blocks_of_all : (ms : List MonitorPart) (objects : List ObjectPart) (keys : List Key) →
      ((part : ObjectPart) → Has objects part → ComesAs table c w k ms part) →
      blocks_at (frame_of c) w (place c) (object_keys objects ++ keys)
      ≡ sum_by (object_blocks table) objects + blocks_at (frame_of c) w (place c) keys
  blocks_of_all ms [] keys each = omega arith
  blocks_of_all ms (part ∷ objects) keys each =
      let o = each part (has_first part objects) in
      let own : size_of (things_of (frame_of c) w (Object part.number)) ≡ object_blocks table part =
      ap (λ x. size_of (object_if part.number x)) o.is ∙ ap (λ q. blocks_if q (length part.values)) (sym o.is_class) in
      let rest = blocks_of_all ms objects keys (λ q h. each q (has_later part q objects h)) in
      let sum = sum_by-cons (object_blocks table) part objects in
      omega (arith, own, rest, sum)

-- ---- what lands

module _ (d : Declared) (table : ClassTable) (c c' : Cluster) (w : CodeWorld) (k : ℕ) (x : Contents) (holds : HoldsThings d table c w k x)
    (at : UnpackedAt table c c' k x) where
  abbrev Lands : Key → Type 0
  Lands key = LandsAs (frame_of c) w (place c) at.new k key

  object_lands : (part : ObjectPart) → Has x.objects part → Lands (Object part.number)
  object_lands part h =
      let o = holds.objects part h in
      record {
        thing = object_thing part.number (object_of o.class part (monitor_in x.monitors part.number));
        is = ap (object_if part.number) o.is;
        at = o.at;
        shown = at.unpacked.objects part o.class h o.is_class;
      }

  frame_lands : (part : ActivationPart) → Has x.activations part → Lands (Frame part.process part.depth)
  frame_lands part h =
      let a = holds.activations part h in
      let stop = is_stop c at.old (tables_on c at.old.kind) refl d holds.images part a.activation a.entry a.part_is in
      let has : HasTables d c.parts at.new.kind (homes_on c.images) (tables_on c at.old.kind) =
      subst (λ (kind : Kind). HasTables d c.parts kind (homes_on c.images) (tables_on c at.old.kind)) (sym at.unpacked.grown.kind)
      (holds.images at.old.kind) in
      record {
        thing = frame_of c part.process part.depth a.activation;
        is = ap (frame_if (frame_of c) part.process part.depth) a.is;
        at = a.at;
        shown = parts_show d c.parts (homes_on c.images) (tables_on c at.old.kind) stop.0 a.activation a.entry a.entry part at.new
            part.process part.depth (Frame part.process part.depth) has a.part_is.carried a.part_is.is stop.1
            (at.unpacked.activations part stop.0 a.entry h stop.1);
      }

  lands : (key : Key) → Has (keys_of x) key → Lands key
  lands key h = ⊎_elim
      (λ (g : Has (object_keys x.objects) key).
      let m = get_mapped (λ (o : ObjectPart). Object o.number) x.objects g.at key g.is in
      subst (λ (q : Key). Lands q) m.2 (object_lands m.0 (record { at = g.at; is = m.1 })))
      (λ (g : Has (frame_keys x.activations) key).
      let m = get_mapped (λ (a : ActivationPart). Frame a.process a.depth) x.activations g.at key g.is in
      subst (λ (q : Key). Lands q) m.2 (frame_lands m.0 (record { at = g.at; is = m.1 })))
      (has_either key (object_keys x.objects) (frame_keys x.activations) h)

  blocks : at.new.free + blocks_at (frame_of c) w (place c) (keys_of x) ≡ at.old.free
  blocks =
      let objects = blocks_of_all table c w k x.monitors x.objects (frame_keys x.activations) holds.objects in
      let frames = blocks_of_frames table c w k x.activations holds.activations in
      let free = at.unpacked.blocks in
      omega (arith, objects, frames, free)

  pub shown_again : ShowsStaying c (among (keys_of x)) w → Shows c' w
  shown_again shows =
      places_along c c' at.parts at.images (λ frame pl. ShowsBut frame nothing (stores c') w pl) at.whereabouts
      (many_land (frame_of c) w (place c) (stores c) (stores c') k at.old at.new (keys_of x) holds.once shows at.at lands
      at.unpacked.others at.unpacked.grown at.unpacked.tidy blocks)

pub unpacked_is_shown : WhatIsUnpackedIsShown
unpacked_is_shown d table c c' w k x holds shows at = shown_again d table c c' w k x holds at shows
