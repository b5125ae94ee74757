-- One node of a cluster has changed.
use Rattle.std.proofs.Common.{◌≡◌, ◌≢◌, ◌<◌, ℕ, List, Option, Some, None, refl, sym, ap, ◌∙◌, subst, inl, ⊎_elim}
use Rattle.std.specs.Prelude.{length, option_map, slice_get, slice_set}
use Rattle.ec_base.proofs.Lists.{get_set_other, get_set_same, get_within, length_set}
use Rattle.ec_cluster.specs.Cluster.{CodeWorld, Shows, frame_of, place, stores, stores_of}
use Rattle.ec_cluster.specs.Steps.{Changes, HasObject}
use Rattle.ec_cluster.specs.declared.cluster.Cluster.{Cluster}
use Rattle.ec_world.specs.declared.key.Key.{Key}
use Rattle.ec_stores.specs.Node.{NodeData, store_of}
use Rattle.ec_things.proofs.Put.{same_or_not}
use Rattle.ec_things.proofs.World.{one_changed}
use Rattle.ec_things.specs.Changes.{WorldPut}
use Rattle.ec_things.specs.Store.{Store}
use Rattle.ec_things.specs.Texts.{GetsTexts, InPool, NoTexts}
use Rattle.ec_things.specs.Things.{NodePut, Puts, ShowsHere, Shown, Thing, things_of}

-- the same cluster with another node k
abbrev pub with_node : Cluster → ℕ → NodeData → Cluster
with_node c k n = record c { nodes = slice_set c.nodes k n }

-- a store is some node's
pub store_there : (k : ℕ) (x : Option NodeData) (s : Store) → option_map store_of x ≡ Some s →
    (n : NodeData) × (x ≡ Some n) × (store_of n ≡ s)
store_there k None s e = absurd cc
store_there k (Some n) s e = (n, refl, cc)

-- a node that keeps something is one of them
pub is_node : (c : Cluster) (k : ℕ) (s : Store) → stores c k ≡ Some s → k < length c.nodes
is_node c k s e = let x = store_there k (slice_get c.nodes k) s e in get_within c.nodes k x.0 x.1

-- the node at which an object is is one of them
pub node_there : (c : Cluster) (oid k : ℕ) → HasObject c oid → place c oid ≡ Some k → k < length c.nodes
node_there c oid k has at =
    let same : has.node ≡ k = cc (has.at) in
    is_node c k has.kept.store (ap (stores c) (sym same) ∙ has.kept.there)

pub node_put : (nodes : List NodeData) (k : ℕ) (n n' : NodeData) → slice_get nodes k ≡ Some n →
    NodePut (stores_of nodes) (stores_of (slice_set nodes k n')) k (store_of n) (store_of n')
node_put nodes k n n' is = record {
  before = ap (option_map store_of) is;
  after = ap (option_map store_of) (get_set_same nodes k n' (get_within nodes k n is));
  others = λ j ne. ap (option_map store_of) (get_set_other nodes k j n' ne);
}

-- a text that a node doesn't get
pub nothing_got : (s : Store) → GetsTexts NoTexts s s
nothing_got s = record {
  kind = refl;
  room = refl;
  text_room = refl;
  count = refl;
  texts = λ text. (λ h. inl h, λ h. ⊎_elim (λ (x : InPool s text). x) (λ (x : ⊥). absurd x) h);
  stay = λ i text e. e;
}

-- The node gets texts, and no other one does.
pub node_changes : (c : Cluster) (k : ℕ) (n n' : NodeData) (Added : ℕ → List ℕ → Type 0) → slice_get c.nodes k ≡ Some n →
    GetsTexts (Added k) (store_of n) (store_of n') → ((j : ℕ) (text : List ℕ) → j ≢ k → Added j text → ⊥) →
    Changes Added c (with_node c k n')
node_changes c k n n' Added is gets elsewhere = record {
  parts = refl;
  images = refl;
  nodes = length_set c.nodes k n';
  each = λ j s e. ⊎_elim
      (λ (same : j ≡ k).
      let old : stores c j ≡ Some (store_of n) = ap (stores c) same ∙ ap (option_map store_of) is in
      let s_is : store_of n ≡ s = cc in (
        store_of n',
        ap (stores (with_node c k n')) same ∙ (node_put c.nodes k n n' is).after,
        subst (λ x. GetsTexts (Added x) s (store_of n')) (sym same) (subst (λ (x : Store). GetsTexts (Added k) x (store_of n')) s_is gets),
      ))
      (λ (ne : j ≢ k). (
        s,
        (node_put c.nodes k n n' is).others j ne ∙ e,
        record {
          kind = refl;
          room = refl;
          text_room = refl;
          count = refl;
          texts = λ text. (λ h. inl h, λ h. ⊎_elim (λ (x : InPool s text). x) (λ (x : Added j text). absurd (elsewhere j text ne x)) h);
          stay = λ i text e. e;
        },
      ))
      (same_or_not j k);
}

-- One thing is put at a node: the nodes show the world with it.
pub put_shown : (c : Cluster) (k : ℕ) (n n' : NodeData) (w w' : CodeWorld) (key : Key) (now : Option Thing) → slice_get c.nodes k ≡ Some n →
    Puts (store_of n) (store_of n') key now → WorldPut (frame_of c) (place c) k w w' key now → Shows c w → Shows (with_node c k n') w'
put_shown c k n n' w w' key now is puts put shows =
    one_changed (frame_of c) (place c) (stores_of c.nodes) (stores_of (slice_set c.nodes k n')) k (store_of n) (store_of n') w w' key now
    shows
    (node_put c.nodes k n n' is) puts put

-- what a thing's node shows of it
pub shown_there : (c : Cluster) (w : CodeWorld) (k : ℕ) (s : Store) (key : Key) (t : Thing) → Shows c w →
    things_of (frame_of c) w key ≡ Some t →
    place c t.home ≡ Some k → stores c k ≡ Some s → Shown s key t
shown_there c w k s key t shows is at there =
    let z = shows.things_stand.each key t is in
    let node : z.node ≡ k = cc (z.home) in
    let same : stores c k ≡ Some z.store = ap (stores c) (sym node) ∙ z.there in
    let s_is : z.store ≡ s = cc in
    subst (λ (x : Store). Shown x key t) s_is z.shown
