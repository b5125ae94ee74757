-- What is free at a node, by what a world that is shown holds there and by the texts of its pool.
use Rattle.std.proofs.Common.{◌≡◌, ◌+◌, ℕ, inl, ⊎_elim, List, Some, ap, ◌∙◌, arith}
use Rattle.std.specs.Prelude.{option_map, slice_get}
use Rattle.ec_base.proofs.Lists.{get_there, get_within}
use Rattle.ec_cluster.specs.Cluster.{CodeWorld, place, stores}
use Rattle.ec_world.specs.Words.{text_bytes}
use Rattle.ec_rooms.specs.Places.{ArePlaced}
use Rattle.ec_rooms.proofs.Bytes.{bytes_along, pool_bytes}
use Rattle.ec_rooms.proofs.Fitting.{Both, Holds, never_full}
use Rattle.ec_rooms.proofs.Retelling.{held_by, strings_by}
use Rattle.ec_rooms.specs.Laws.{SameNodesHaveRoom}
use Rattle.ec_rooms.specs.Rooms.{Strings, held}
use Rattle.ec_rooms.specs.Standing.{ShowsWith}
use Rattle.ec_stores.specs.Node.{store_of}
use Rattle.ec_cluster.proofs.Pools.{strings_in_pool}
use Rattle.ec_cluster.specs.declared.system.System.{System}
use Rattle.ec_things.specs.Store.{Store}
use Rattle.ec_things.specs.Texts.{BytesOf, InPool}
use Rattle.ec_world.specs.declared.node.NodeSpec.{NodeSpec}

-- The node of a number is there: its blocks are those held and those that are free, and so it is with the bytes of its texts.
pub record NodeAt (specs : List NodeSpec) (s : System) (w : CodeWorld) (Pool : ℕ → List ℕ → Type 0) (k : ℕ) (spec : NodeSpec) : Type 0 where
  pub store : Store
  pub there : stores s.cluster k ≡ Some store
  pub blocks : store.free + held s.cluster.parts w k ≡ spec.blocks
  pub used : ℕ
  pub used_are : BytesOf (Pool k) used
  pub text : used + store.text_free ≡ spec.text

module _ (specs : List NodeSpec) (s : System) (w : CodeWorld) (Pool : ℕ → List ℕ → Type 0) (shows : ShowsWith specs s w Pool)
    (placed : ArePlaced s.cluster w) where
  held_here : (k : ℕ) (store : Store) → stores s.cluster k ≡ Some store → store.free + held s.cluster.parts w k ≡ store.room
  held_here k store there =
      let room = shows.mirrors.shows.room k store there in
      let same = held_by s.cluster w (place s.cluster) (λ key t e. placed t.home) k in
      omega (arith, room, same)

  pub node_here : (k : ℕ) (spec : NodeSpec) (store : Store) → slice_get specs k ≡ Some spec → stores s.cluster k ≡ Some store →
      NodeAt specs s w Pool k spec
  node_here k spec store is there =
      let filled = (shows.mirrors.shows.tidy k store there).filled in
      record {
        store = store;
        there = there;
        blocks = held_here k store there ∙ shows.sizes.blocks k spec store is there;
        used = text_bytes filled.texts;
        used_are = bytes_along (InPool store) (Pool k) (text_bytes filled.texts) (λ text. shows.pools k store text there)
            (pool_bytes store filled);
        text = filled.bytes ∙ shows.sizes.text k spec store is there;
      }

  pub node_at : (k : ℕ) (spec : NodeSpec) → slice_get specs k ≡ Some spec → NodeAt specs s w Pool k spec
  node_at k spec is =
      let l = get_within specs k spec is in
      let n = get_there s.cluster.nodes k (omega (arith, l, shows.sizes.nodes)) in
      node_here k spec (store_of n.0) is (ap (option_map store_of) n.1)

  -- the texts of the world are there
  pub texts_there : (k : ℕ) (spec : NodeSpec) (text : List ℕ) → slice_get specs k ≡ Some spec →
      Strings s.cluster.parts w k text → Pool k text
  texts_there k spec text is h =
      let n = node_at k spec is in
      (shows.pools k n.store text n.there).0
      (strings_in_pool s.cluster w k n.store text shows.mirrors.shows n.there
      ((strings_by s.cluster w (place s.cluster) (λ key t e. placed t.home) k text).1 h))

  -- What is shown had room: so much is held, and these are the texts.
  pub node_holds : (k : ℕ) (spec : NodeSpec) → slice_get specs k ≡ Some spec → Holds spec (held s.cluster.parts w k) (Pool k)
  node_holds k spec is =
      let n = node_at k spec is in
      record {
        blocks_fit = omega (arith, n.blocks);
        bytes = n.used;
        bytes_are = n.used_are;
        bytes_fit = omega (arith, n.text);
      }

-- ---- nodes that show another world as they are

pub same_nodes : (Pool : ℕ → List ℕ → Type 0) → SameNodesHaveRoom Pool
same_nodes Pool specs s w w' before had shows has = record {
  room = never_full specs (held s.cluster.parts w) (held s.cluster.parts w') Pool (Strings s.cluster.parts w')
      (λ k spec is.
      let h = node_holds specs s w' Pool shows has.placed k spec is in
      record {
        blocks_fit = h.blocks_fit;
        bytes = h.bytes;
        bytes_are = bytes_along (Pool k) (Both (Pool k) (Strings s.cluster.parts w' k)) h.bytes
            (λ text. (
              λ x. inl x,
              λ x. ⊎_elim
                  (λ (old : Pool k text). old)
                  (λ (new : Strings s.cluster.parts w' k text). texts_there specs s w' Pool shows has.placed k spec text is new)
                  x,
            ))
            h.bytes_are;
        bytes_fit = h.bytes_fit;
      });
  texts = λ k spec text is h. texts_there specs s w' Pool shows has.placed k spec text is h;
}
