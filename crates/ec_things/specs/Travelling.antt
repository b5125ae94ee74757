-- When nodes show a world but for what travels: what has been taken away at one node and not yet put at another.
use Rattle.std.specs.Prelude.{◌≡◌, ◌≢◌, ℕ, suc, ◌+◌, Bool, false, if◌then◌else◌, Option, None}
use Rattle.ec_world.specs.Held.{if_at, total}
use Rattle.ec_world.specs.declared.key.Key.{Key}
use Rattle.ec_world.specs.declared.key.Key.TheVariants.{Object, Frame}
use Rattle.ec_things.specs.Shows.{Shows}
use Rattle.ec_things.specs.Store.{Store}
use Rattle.ec_things.specs.Things.{Thing, object_thing, things_of}
use Rattle.ec_world.specs.declared.object.ObjectRec.{ObjectRec}
use Rattle.ec_world.specs.declared.process.Proc.{Proc}
use Rattle.ec_world.specs.declared.world.World.{World}

-- What an activation is to a node is a thing by its process, its depth from the bottom (from 0) and itself.
module _ {A : Type 0} (frame : ℕ → ℕ → A → Thing) where
  -- the things of a world but those that travel
  abbrev pub staying : (Key → Bool) → World A → Key → Option Thing
  staying travels w key = if travels key then None else things_of frame w key

  -- the blocks that a thing takes of node k, where it doesn't travel
  abbrev pub weight_but : (Key → Bool) → (ℕ → Option ℕ) → ℕ → Key → Thing → ℕ
  weight_but travels place k key t = if travels key then 0 else if_at k t.blocks (place t.home)

  abbrev pub object_weight : (Key → Bool) → (ℕ → Option ℕ) → ℕ → ℕ → ObjectRec → ℕ
  object_weight travels place k i o = weight_but travels place k (Object (suc i)) (object_thing (suc i) o)

  abbrev pub frame_weight : (Key → Bool) → (ℕ → Option ℕ) → ℕ → ℕ → ℕ → A → ℕ
  frame_weight travels place k p d a = weight_but travels place k (Frame p d) (frame p d a)

  abbrev pub process_weight : (Key → Bool) → (ℕ → Option ℕ) → ℕ → ℕ → Proc A → ℕ
  process_weight travels place k p proc = total (frame_weight travels place k p) 0 proc.activations

  -- the blocks of each object and of each activation at node k, but of those that travel
  abbrev pub HeldBut : (Key → Bool) → (ℕ → Option ℕ) → ℕ → World A → ℕ
  HeldBut travels place k w =
      total (object_weight travels place k) 0 w.common.objects + total (process_weight travels place k) 0 w.processes

  -- Nodes show a world but for what travels.
  abbrev pub ShowsBut : (Key → Bool) → (ℕ → Option Store) → World A → (ℕ → Option ℕ) → Type 0
  ShowsBut travels nodes w place = Shows nodes (staying travels w) w.common.globals (λ k. HeldBut travels place k w) place

-- nothing travels
abbrev pub nothing : Key → Bool
nothing key = false

-- one more travels, or one less: all else is as before
pub record Turned (travels travels' : Key → Bool) (key : Key) (now : Bool) : Type 0 where
  pub here : travels' key ≡ now
  pub others : (other : Key) → other ≢ key → travels' other ≡ travels other
