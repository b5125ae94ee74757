-- One thing comes to one node, and no text does.
use Rattle.std.proofs.Common.{◌≡◌, ◌≢◌, ℕ, List, Option, Some, sym, ap, ◌∙◌, subst, ⊎_elim}
use Rattle.std.specs.Prelude.{length, option_map, slice_get, slice_set}
use Rattle.ec_base.proofs.Lists.{length_set}
use Rattle.ec_cluster.proofs.Putting.{node_put}
use Rattle.ec_cluster.specs.Cluster.{CodeWorld, Shows, stores, stores_of}
use Rattle.ec_cluster.specs.declared.cluster.Cluster.{Cluster}
use Rattle.ec_cluster.specs.declared.cluster.Images.{Images}
use Rattle.ec_code.specs.declared.code.Parts.{Parts}
use Rattle.ec_cluster.specs.Whereabouts.{Gives, Traces}
use Rattle.ec_cluster.specs.Located.{Located}
use Rattle.ec_acts.proofs.Keeping.{texts_same}
use Rattle.ec_acts.specs.Fresh.{HasSize}
use Rattle.ec_acts.specs.Loading.{IsSet}
use Rattle.ec_world.specs.declared.key.Key.{Key}
use Rattle.ec_stores.specs.Node.{NodeData, store_of}
use Rattle.ec_things.proofs.Put.{same_or_not}
use Rattle.ec_things.specs.Store.{Store}
use Rattle.ec_things.specs.Texts.{GetsTexts, InPool}
use Rattle.ec_things.specs.Things.{Puts, Thing}
use Rattle.ec_world.specs.declared.node.NodeSpec.{NodeSpec}

-- a node that gets none of these texts has those that it had
pub gets_none : (Added : List ℕ → Type 0) (s s' : Store) → ((text : List ℕ) → Added text → ⊥) → GetsTexts Added s s' → (text : List ℕ) →
    InPool s' text → InPool s text
gets_none Added s s' none gets text h = ⊎_elim
    (λ (old : InPool s text). old)
    (λ (new : Added text). absurd (none text new))
    ((gets.texts text).0 h)

module _ (p : Parts) (images : Images) (specs : List NodeSpec) (w : CodeWorld) (at : Located) (c : Cluster)
    (set : IsSet p images specs w at c) (k : ℕ) (n n' : NodeData) (is : slice_get c.nodes k ≡ Some n) (key : Key) (now : Option Thing)
    (puts : Puts (store_of n) (store_of n') key now)
    (no_text : (text : List ℕ) → InPool (store_of n') text → InPool (store_of n) text) where
  here : stores c k ≡ Some (store_of n)
  here = ap (option_map store_of) is

  size_kept : (spec : NodeSpec) → HasSize p spec (store_of n) → HasSize p spec (store_of n')
  size_kept spec h = record {
    kind = puts.grown.kind ∙ h.kind;
    room = puts.grown.room ∙ h.room;
    text_room = puts.grown.text_room ∙ h.text_room;
    count = puts.count ∙ h.count;
    texts = λ i. texts_same (store_of n) (store_of n') (puts.tidy (set.shows.tidy k (store_of n) here)) puts.grown.text no_text i
        ∙ h.texts i;
  }

  sizes_after : (j : ℕ) (spec : NodeSpec) (s : Store) → slice_get specs j ≡ Some spec →
      stores_of (slice_set c.nodes k n') j ≡ Some s → HasSize p spec s
  sizes_after j spec s e f = ⊎_elim
      (λ (same : j ≡ k).
      let after : stores_of (slice_set c.nodes k n') j ≡ Some (store_of n') =
      ap (stores_of (slice_set c.nodes k n')) same ∙ (node_put c.nodes k n n' is).after in
      let s_is : store_of n' ≡ s = cc in
      let before : stores c j ≡ Some (store_of n) = ap (stores c) same ∙ here in
      subst (λ (x : Store). HasSize p spec x) s_is (size_kept spec (set.sizes j spec (store_of n) e before)))
      (λ (ne : j ≢ k). set.sizes j spec s e (sym ((node_put c.nodes k n n' is).others j ne) ∙ f))
      (same_or_not j k)

  pub set_with : (d' : Traces) (w' : CodeWorld) (at' : Located) → Gives d' at' → length w'.common.objects ≡ at'.made →
      Shows (record c { nodes = slice_set c.nodes k n'; whereabouts = d' }) w' →
      IsSet p images specs w' at' (record c { nodes = slice_set c.nodes k n'; whereabouts = d' })
  set_with d' w' at' gives many shows = record {
    parts = set.parts;
    images_are = set.images_are;
    nodes = length_set c.nodes k n' ∙ set.nodes;
    sizes = sizes_after;
    whereabouts = gives;
    many = many;
    shows = shows;
  }
