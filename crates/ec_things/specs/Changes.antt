-- What an entry changes of a world, one thing at a time, and of the nodes that show it.
use Rattle.std.specs.Prelude.{◌≡◌, ◌≢◌, ℕ, ◌+◌, List, Option, Some}
use Rattle.ec_world.specs.Held.{if_at}
use Rattle.ec_world.specs.declared.key.Key.{Key}
use Rattle.ec_things.specs.Held.{Held}
use Rattle.ec_things.specs.Shows.{GlobalStands}
use Rattle.ec_things.specs.Store.{KeptRow, Store, Tidy}
use Rattle.ec_things.specs.Things.{IsAt, Thing, ThingPut, size_of, things_of}
use Rattle.ec_world.specs.declared.value.Value.{Value}
use Rattle.ec_world.specs.declared.world.World.{World}

-- One thing of a world at node k has changed, come or gone, and what each node holds has changed by its blocks.
pub record WorldPut {A : Type 0} (frame : ℕ → ℕ → A → Thing) (place : ℕ → Option ℕ) (k : ℕ) (w w' : World A) (key : Key)
    (now : Option Thing) : Type 0 where
  pub thing : ThingPut (things_of frame w) (things_of frame w') key now
  pub globals : w'.common.globals ≡ w.common.globals
  pub sums : (j : ℕ) → Held frame place j w' + if_at j (size_of (things_of frame w key)) (Some k) ≡ Held frame place j w + if_at j
      (size_of now) (Some k)
  pub old_at : IsAt place k (things_of frame w key)
  pub new_at : IsAt place k now

-- A node whose constant i stands for a value now, and which is else as it was but for new references and texts.
pub record PutsGlobal (s s' : Store) (i : ℕ) (v : Value) : Type 0 where
  pub here : GlobalStands s' i v
  pub others : (j : ℕ) → j ≢ i → s'.global j ≡ s.global j
  pub rows : (key : Key) → KeptRow s s' key
  pub kind : s'.kind ≡ s.kind
  pub local : (j oid : ℕ) → s.local j ≡ Some oid → s'.local j ≡ Some oid
  pub text : (j : ℕ) (t : List ℕ) → s.text j ≡ Some t → s'.text j ≡ Some t
  pub room : s'.room ≡ s.room
  pub free : s'.free ≡ s.free
  pub count : s'.count ≡ s.count
  pub tidy : Tidy s → Tidy s'

-- Each node does so: a constant stands at every node.
pub record PutsGlobals (nodes nodes' : ℕ → Option Store) (i : ℕ) (v : Value) : Type 0 where
  pub each : (k : ℕ) (s : Store) → nodes k ≡ Some s → (s' : Store) × (nodes' k ≡ Some s') × PutsGlobal s s' i v
  pub only : (k : ℕ) (s' : Store) → nodes' k ≡ Some s' → (s : Store) × (nodes k ≡ Some s)
