-- A world to which nodes have come found room at each of them.
use Rattle.std.proofs.Common.{◌≡◌, ◌⊎◌, ℕ, inl, inr, ⊎_elim, List, Some, sym, ◌∙◌, subst}
use Rattle.std.specs.Prelude.{slice_get}
use Rattle.ec_cluster.specs.Cluster.{CodeWorld, place}
use Rattle.ec_code.specs.declared.code.Parts.{Parts}
use Rattle.ec_cluster.proofs.Before.{before}
use Rattle.ec_rooms.proofs.Fitting.{Holds, never_full}
use Rattle.ec_rooms.proofs.Nodes.{node_holds}
use Rattle.ec_rooms.proofs.Retelling.{strings_by}
use Rattle.ec_rooms.specs.Laws.{HadRoom, HaveCome, StepsHadRoom}
use Rattle.ec_rooms.specs.Rooms.{Strings, held}
use Rattle.ec_rooms.specs.Standing.{HavePools, HaveSizes, ShowsWith}
use Rattle.ec_cluster.specs.Systems.{Strings as Shown}
use Rattle.ec_cluster.specs.declared.system.System.{System}
use Rattle.ec_things.specs.Texts.{InPool}
use Rattle.ec_world.specs.declared.node.NodeSpec.{NodeSpec}

module _ (specs : List NodeSpec) (s t : System) (w w' : CodeWorld) (Pool : ℕ → List ℕ → Type 0) (shows : ShowsWith specs s w Pool)
    (come : HaveCome s t w') where
  abbrev parts : Parts
  parts = s.cluster.parts

  -- the texts that the node had, and those of the world now
  abbrev PoolThen : ℕ → List ℕ → Type 0
  PoolThen k text = Pool k text ⊎ Strings parts w' k text

  sizes_now : HaveSizes specs t.cluster
  sizes_now = record {
    nodes = come.texts.nodes ∙ shows.sizes.nodes;
    blocks = λ k spec store is there.
        let b = before (Shown t.cluster w') s.cluster t.cluster k store come.texts there in
        b.gets.room ∙ shows.sizes.blocks k spec b.store is b.there;
    text = λ k spec store is there.
        let b = before (Shown t.cluster w') s.cluster t.cluster k store come.texts there in
        b.gets.text_room ∙ shows.sizes.text k spec b.store is b.there;
  }

  pools_now : HavePools t.cluster PoolThen
  pools_now k store text there =
      let b = before (Shown t.cluster w') s.cluster t.cluster k store come.texts there in
      let old = shows.pools k b.store text b.there in
      let new = strings_by t.cluster w' (place t.cluster) (λ key x e. come.places.placed x.home) k text in (
        λ h. ⊎_elim
            (λ (x : InPool b.store text). inl (old.0 x))
            (λ (x : Shown t.cluster w' k text). inr (subst (λ (p : Parts). Strings p w' k text) come.texts.parts (new.0 x)))
            ((b.gets.texts text).0 h),
        λ h. (b.gets.texts text).1 (⊎_elim
            (λ (x : Pool k text). inl (old.1 x))
            (λ (x : Strings parts w' k text). inr (new.1 (subst (λ (p : Parts). Strings p w' k text) (sym come.texts.parts) x)))
            h),
      )

  shows_now : ShowsWith specs t w' PoolThen
  shows_now = record { mirrors = come.mirrors; sizes = sizes_now; pools = pools_now }

  holds_now : (k : ℕ) (spec : NodeSpec) → slice_get specs k ≡ Some spec → Holds spec (held parts w' k) (PoolThen k)
  holds_now k spec is =
      subst (λ (p : Parts). Holds spec (held p w' k) (PoolThen k)) come.texts.parts
      (node_holds specs t w' PoolThen shows_now come.places.placed k spec is)

  had_room : HadRoom specs s t w w' Pool
  had_room = record {
    room = never_full specs (held parts w) (held parts w') Pool (Strings parts w') holds_now;
    sizes = sizes_now;
    pools = pools_now;
  }

pub steps_had : (Pool : ℕ → List ℕ → Type 0) → StepsHadRoom Pool
steps_had Pool d specs s t w w' runs shows has come = had_room specs s t w w' Pool shows come
