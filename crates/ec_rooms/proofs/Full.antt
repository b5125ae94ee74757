-- Where a node is found full for a world to come, it finds no room there: what is told of nodes is so by worlds and their events alone.
use Rattle.std.proofs.Common.{◌≡◌, ◌<◌, ℕ, List, Option, Some, None, refl, sym, ap, ◌∙◌, arith}
use Rattle.std.specs.Prelude.{slice_get}
use Rattle.std.proofs.lemmas.Option.{same_Some}
use Rattle.ec_base.proofs.Lists.{get_there}
use Rattle.ec_cluster.proofs.Putting.{is_node}
use Rattle.ec_cluster.specs.Cluster.{CodeWorld, frame_of, place, stores}
use Rattle.ec_cluster.specs.declared.cluster.Cluster.{Cluster}
use Rattle.ec_code.specs.Typing.{Declared}
use Rattle.ec_code.specs.declared.activation.CodeActivation.{CodeActivation}
use Rattle.ec_code.specs.declared.code.Parts.{Parts}
use Rattle.ec_fullness.specs.Fullness.{IsFull, NeedsAt}
use Rattle.ec_world.specs.Held.{Fits}
use Rattle.ec_world.specs.Things.{in_process}
use Rattle.ec_world.specs.declared.key.Key.{Key}
use Rattle.ec_world.specs.declared.key.Key.TheVariants.{Frame, Object}
use Rattle.ec_world.specs.declared.room.Needs.{Needs}
use Rattle.ec_world.specs.declared.room.Part.{Part}
use Rattle.ec_rooms.specs.Places.{AgreeWith, ArePlaced}
use Rattle.ec_rooms.proofs.Nodes.{NodeAt, node_at}
use Rattle.ec_rooms.proofs.Retelling.{Agree, held_by, strings_by}
use Rattle.ec_rooms.proofs.Single.{same_needs}
use Rattle.ec_rooms.specs.Laws.{FoundIsFull}
use Rattle.ec_rooms.specs.Rooms.{FullAt, NeedsOf, Strings, held}
use Rattle.ec_things.specs.Texts.{BytesOf}
use Rattle.ec_rooms.specs.Standing.{ShowsWith}
use Rattle.ec_code.proofs.Carried.{there}
use Rattle.ec_code.proofs.Facts.{activation_rests}
use Rattle.ec_code.specs.Sound.{SoundWorld}
use Rattle.ec_cluster.specs.declared.system.System.{System}
use Rattle.ec_things.specs.Store.{Store}
use Rattle.ec_things.specs.Things.{Thing, frame_if, object_if, object_thing, things_of}
use Rattle.ec_world.specs.Objects.{object_at}
use Rattle.ec_world.specs.declared.node.NodeSpec.{NodeSpec}
use Rattle.ec_world.specs.declared.object.ObjectRec.{ObjectRec}
use Rattle.ec_world.specs.declared.process.Proc.{Proc}

-- ---- the homes of things

-- an object that is there
pub record Exists (w : CodeWorld) (oid : ℕ) : Type 0 where
  pub object : ObjectRec
  pub is : object_at w.common.objects oid ≡ Some object

-- each thing of a sound world is at one
pub home_exists : (d : Declared) (c : Cluster) (w : CodeWorld) → SoundWorld d c.parts w → (key : Key) (t : Thing) →
    things_of (frame_of c) w key ≡ Some t → Exists w t.home
home_exists d c w sound (Object oid) t e = by (object_at w.common.objects oid) refl e
  where
    by : (x : Option ObjectRec) → object_at w.common.objects oid ≡ x → object_if oid x ≡ Some t → Exists w t.home
    by None at f = absurd cc
    by (Some o) at f =
        let same : object_thing oid o ≡ t = same_Some (object_thing oid o) t f in
        record { object = o; is = ap (λ (x : Thing). object_at w.common.objects x.home) (sym same) ∙ at }
home_exists d c w sound (Frame q n) t e = by_process (slice_get w.processes q) refl e
  where
    by : (proc : Proc CodeActivation) → slice_get w.processes q ≡ Some proc → (x : Option CodeActivation) →
        slice_get proc.activations n ≡ x → frame_if (frame_of c) q n x ≡ Some t → Exists w t.home
    by proc is None at f = absurd cc
    by proc is (Some a) at f =
        let same : frame_of c q n a ≡ t = same_Some (frame_of c q n a) t f in
        let rests = (activation_rests d c.parts w sound q proc is n a at).at in
        let own = there w.common.objects a.own rests.of.class rests.own in
        record { object = own.object; is = ap (λ (x : Thing). object_at w.common.objects x.home) (sym same) ∙ own.is }

    by_process : (x : Option (Proc CodeActivation)) → slice_get w.processes q ≡ x → frame_if (frame_of c) q n (in_process x n) ≡ Some t →
        Exists w t.home
    by_process None is f = absurd cc
    by_process (Some proc) is f = by proc is (slice_get proc.activations n) refl f

-- Places that have each object of a world where its events have it have each thing so.
pub agree_of : (d : Declared) (c : Cluster) (w : CodeWorld) (at : ℕ → Option ℕ) → SoundWorld d c.parts w → AgreeWith at w → Agree c w at
agree_of d c w at sound agree key t e = let o = home_exists d c w sound key t e in agree t.home o.object o.is

-- ---- what nodes need

module _ (specs : List NodeSpec) (s : System) (w w' : CodeWorld) (Pool : ℕ → List ℕ → Type 0) (shows : ShowsWith specs s w Pool)
    (placed : ArePlaced s.cluster w) (at : ℕ → Option ℕ) (agree : Agree s.cluster w' at) where
  abbrev parts : Parts
  parts = s.cluster.parts

  -- what is told of a node is so by the world and its events alone
  module _ (k : ℕ) (spec : NodeSpec) (store : Store) (n : Needs) (is : slice_get specs k ≡ Some spec)
      (there : stores s.cluster k ≡ Some store) (are : NeedsAt s.cluster w w' at k store n) where
    node : NodeAt specs s w Pool k spec
    node = node_at specs s w Pool shows placed k spec is

    store_is : node.store ≡ store
    store_is = same_Some node.store store (sym node.there ∙ there)

    new_bytes : BytesOf (λ text. Strings parts w' k text × (Pool k text → ⊥)) n.bytes
    new_bytes = record {
      texts = are.bytes.texts;
      once = are.bytes.once;
      these = λ text.
          let strings = strings_by s.cluster w' at agree k text in
          let pool = shows.pools k store text there in (
            λ h. let x = (are.bytes.these text).0 h in (strings.0 x.0, λ old. x.1 (pool.1 old)),
            λ h. (are.bytes.these text).1 (strings.1 h.0, λ old. h.1 (pool.0 old)),
          );
      bytes = are.bytes.bytes;
    }

    needs_are : NeedsOf spec (held parts w k) (held parts w' k) (Pool k) (Strings parts w' k) n
    needs_are = record {
      blocks =
          (let before = held_by s.cluster w (place s.cluster) (λ key t e. placed t.home) k in
          let after = held_by s.cluster w' at agree k in
          omega (arith, are.blocks, before, after));
      free_blocks = (let same = ap (λ (x : Store). x.free) store_is in omega (arith, same, node.blocks, are.free_blocks));
      bytes = new_bytes;
      used = node.used;
      used_is = node.used_are;
      free_bytes = (let same = ap (λ (x : Store). x.text_free) store_is in omega (arith, same, node.text, are.free_bytes));
    }

  module _ (k need free : ℕ) (part : Part) (full : IsFull s.cluster w w' at k part need free) where
    -- a node of a smaller number has room
    earlier_fits : (j : ℕ) (other : NodeSpec) (n : Needs) → j < k → slice_get specs j ≡ Some other →
        NeedsOf other (held parts w j) (held parts w' j) (Pool j) (Strings parts w' j) n → Fits n
    earlier_fits j other n low is are =
        let node = node_at specs s w Pool shows placed j other is in
        let told = full.first j node.store low node.there in
        let same = same_needs other (held parts w j) (held parts w' j) (Pool j) (Strings parts w' j) n told.needs are
        (needs_are j other node.store told.needs is node.there told.are) in
        (omega (arith, same.blocks, same.free_blocks, told.fits.0), omega (arith, same.bytes, same.free_bytes, told.fits.1))

    pub full_here : FullAt specs (held parts w) (held parts w') Pool (Strings parts w') k part need free
    full_here =
        let l = is_node s.cluster k full.store full.there in
        let spec = get_there specs k (omega (arith, l, shows.sizes.nodes)) in
        record {
          spec = spec.0;
          there = spec.1;
          needs = full.needs;
          are = needs_are k spec.0 full.store full.needs spec.1 full.there full.are;
          lacks = full.lacks;
          earlier = earlier_fits;
        }

pub found_full : (Pool : ℕ → List ℕ → Type 0) → FoundIsFull Pool
found_full Pool d specs s w w' lack runs sound shows has finds =
    full_here specs s w w' Pool shows has.placed finds.at (agree_of d s.cluster w' finds.at sound finds.agree) lack.node lack.need lack.free
    lack.part finds.full
