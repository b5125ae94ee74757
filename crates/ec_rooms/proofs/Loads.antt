-- A load is told to find no room where it finds none, and only there.
use Rattle.std.proofs.Common.{◌≡◌, ◌<◌, ℕ, suc, inr, ⊎_elim, List, [], ◌∷◌, Some, refl, sym, ap, ◌∙◌, arith, length-append}
use Rattle.std.specs.Prelude.{length, slice_get}
use Rattle.ec_activations.specs.Frames.{frame_thing}
use Rattle.ec_base.proofs.Lists.{get_there, get_within}
use Rattle.ec_cluster.proofs.Putting.{is_node}
use Rattle.ec_cluster.specs.Cluster.{CodeWorld}
use Rattle.ec_cluster.specs.Images.{homes_on}
use Rattle.ec_cluster.specs.declared.cluster.Images.{Images}
use Rattle.ec_code.specs.declared.code.Parts.{Parts}
use Rattle.ec_acts.proofs.LoadingHolding.{held_first}
use Rattle.ec_acts.proofs.Rooms.{program_place}
use Rattle.ec_acts.specs.Loaded.{Loaded}
use Rattle.ec_acts.specs.Loading.{CanLoad, HaveRoom, LacksFirst, first_needs}
use Rattle.ec_acts.specs.Worlds.{first_blocks, first_place, world_first}
use Rattle.ec_world.proofs.Procs.{get_end}
use Rattle.ec_world.specs.Words.{text_bytes}
use Rattle.ec_world.specs.declared.room.Lack.{Lack}
use Rattle.ec_world.specs.declared.room.Part.{Part}
use Rattle.ec_rooms.specs.Places.{place_of}
use Rattle.ec_rooms.proofs.Bytes.{bytes_along, none_bytes}
use Rattle.ec_rooms.proofs.Fitting.{Both, Holds, needs_fit, never_full}
use Rattle.ec_rooms.specs.Laws.{LoadsAreFull}
use Rattle.ec_rooms.specs.Rooms.{Literals, LoadFull, NoTexts, held, nothing}
use Rattle.ec_things.specs.Texts.{BytesOf}
use Rattle.ec_rooms.specs.Standing.{HavePools, HaveSizes}
use Rattle.ec_cluster.specs.declared.system.System.{System}
use Rattle.ec_things.specs.Held.{Held}
use Rattle.ec_world.proofs.Placement.{length-first_places}
use Rattle.ec_world.specs.Group.{Has}
use Rattle.ec_world.specs.Places.{numbers_from}
use Rattle.ec_world.specs.declared.node.NodeSpec.{NodeSpec}

-- the program's own object is at node 0
program_here : (n : ℕ) (p : Parts) → place_of (world_first n p) (suc n) ≡ Some 0
program_here n p =
    let all = length-first_places n in
    let parts = length-append (numbers_from 0 n) (0 ∷ []) in
    let count : length (numbers_from 0 n) ≡ n = omega (arith, all, parts) in
    ap (λ i. place_of (world_first n p) (suc i)) (sym count) ∙ get_end (numbers_from 0 n) 0

module _ (p : Parts) (images : Images) (specs : List NodeSpec) (can : CanLoad p images specs) where
  abbrev w : CodeWorld
  w = world_first (length specs) p

  literal_bytes : BytesOf (Has p.literals) (text_bytes p.literals)
  literal_bytes = record { texts = p.literals; once = can.once; these = λ text. (λ h. h, λ h. h); bytes = refl }

  -- so many blocks are counted for the load
  blocks_are : (k : ℕ) → Held (frame_thing p (homes_on images)) (first_place (length specs)) k w ≡ held p w k
  blocks_are k =
      let counted : Held (frame_thing p (homes_on images)) (first_place (length specs)) k w ≡ first_blocks k =
      held_first p p (homes_on images) (first_place (length specs)) k (length specs) (length specs) (program_place (length specs)) in
      let there : held p w k ≡ first_blocks k =
      held_first p p (λ kind. []) (place_of w) k (length specs) (length specs) (program_here (length specs) p) in
      counted ∙ sym there

  has_room : (count : ℕ) → HaveRoom (first_needs p images (length specs)) specs count → (k : ℕ) (spec : NodeSpec) → k < count →
      slice_get specs k ≡ Some spec → Holds spec (held p w k) (Both (NoTexts k) (Literals p k))
  has_room count room k spec l is =
      let fits = room k spec l is in
      let blocks = blocks_are k in
      record {
        blocks_fit = omega (arith, fits.0, blocks);
        bytes = text_bytes p.literals;
        bytes_are = bytes_along (Has p.literals) (Both (NoTexts k) (Literals p k)) (text_bytes p.literals)
            (λ text. (λ h. inr h, λ h. ⊎_elim (λ (x : ⊥). absurd x) (λ (x : Has p.literals text). x) h)) literal_bytes;
        bytes_fit = fits.1;
      }

  load_full : (lack : Lack) → LacksFirst (first_needs p images (length specs)) specs lack →
      LoadFull p specs lack.node lack.part lack.need lack.free
  load_full lack h = record {
    spec = h.spec;
    there = h.is;
    needs = first_needs p images (length specs) lack.node h.spec;
    are = record {
      blocks = (let blocks = blocks_are lack.node in omega (arith, blocks));
      free_blocks = omega arith;
      bytes = bytes_along (Has p.literals) (λ text. Literals p lack.node text × (NoTexts lack.node text → ⊥)) (text_bytes p.literals)
          (λ text. (λ x. (x, λ no. no), λ x. x.0)) literal_bytes;
      used = 0;
      used_is = none_bytes;
      free_bytes = omega arith;
    };
    lacks = h.lacks;
    earlier = λ j other needs l is are. needs_fit other (nothing j) (held p w j) (NoTexts j) (Literals p j) needs
        (has_room lack.node h.earlier j other l is) are;
  }

  module _ (s : System) (loaded : Loaded p images specs s) where
    load_fits : (k need free : ℕ) (part : Part) → LoadFull p specs k part need free → ⊥
    load_fits k need free part full =
        never_full specs nothing (held p w) NoTexts (Literals p)
        (λ j spec is. has_room (length specs) loaded.fits j spec (get_within specs j spec is) is) k need free part full

module _ (p : Parts) (images : Images) (specs : List NodeSpec) (s : System) (loaded : Loaded p images specs s) where
  load_sizes : HaveSizes specs s.cluster
  load_sizes = record {
    nodes = loaded.nodes;
    blocks = λ k spec store is there. (loaded.sizes k spec store is there).room;
    text = λ k spec store is there. (loaded.sizes k spec store is there).text_room;
  }

  load_pools : HavePools s.cluster (Literals p)
  load_pools k store text there =
      let l = is_node s.cluster k store there in
      let spec = get_there specs k (let n = loaded.nodes in omega (arith, l, n)) in
      let size = loaded.sizes k spec.0 store spec.1 there in (
        λ h. record { at = h.0; is = sym (size.texts h.0) ∙ h.1 },
        λ h. (h.at, size.texts h.at ∙ h.is),
      )

pub loads_full : LoadsAreFull
loads_full = record {
  full = λ p images specs lack can h. load_full p images specs can lack h;
  fits = λ p images specs s can loaded k need free part full. load_fits p images specs can s loaded k need free part full;
  sizes = λ p images specs s loaded. load_sizes p images specs s loaded;
  pools = λ p images specs s loaded. load_pools p images specs s loaded;
}
