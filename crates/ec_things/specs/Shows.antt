-- When nodes show a world: each object and each activation of it stands at its place as words, and nothing else stands anywhere.
use Rattle.std.specs.Prelude.{◌≡◌, ℕ, ◌+◌, List, Option, Some, slice_get}
use Rattle.ec_world.specs.declared.key.Key.{Key}
use Rattle.ec_things.specs.Held.{Held}
use Rattle.ec_things.specs.Store.{Store, Stands, Tidy}
use Rattle.ec_things.specs.Things.{ShowsThings, Thing, things_of}
use Rattle.ec_world.specs.declared.value.Value.{Value}
use Rattle.ec_world.specs.declared.world.World.{World}

-- constant i of a node stands for a value
pub record GlobalStands (s : Store) (i : ℕ) (v : Value) : Type 0 where
  pub word : ℕ
  pub there : s.global i ≡ Some word
  pub stands : Stands s v word

-- Nodes show things and constants, and of the blocks of each node those that are held and those that are free are all.
pub record Shows (nodes : ℕ → Option Store) (things : Key → Option Thing) (globals : List Value) (held : ℕ → ℕ) (place : ℕ → Option ℕ) :
    Type 0 where
  pub things_stand : ShowsThings nodes things place
  pub globals_stand : (k : ℕ) (s : Store) (i : ℕ) (v : Value) → nodes k ≡ Some s → slice_get globals i ≡ Some v → GlobalStands s i v
  pub tidy : (k : ℕ) (s : Store) → nodes k ≡ Some s → Tidy s
  pub room : (k : ℕ) (s : Store) → nodes k ≡ Some s → s.free + held k ≡ s.room

-- What an activation is to a node is a thing by its process, its depth from the bottom (from 0) and itself.
abbrev pub ShowsWorld : {A : Type 0} → (ℕ → ℕ → A → Thing) → (ℕ → Option Store) → World A → (ℕ → Option ℕ) → Type 0
ShowsWorld frame nodes w place = Shows nodes (things_of frame w) w.common.globals (λ k. Held frame place k w) place
