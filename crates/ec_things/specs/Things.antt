-- Objects and activations alike: what lies in blocks at the place of an object.
use Rattle.std.specs.Prelude.{◌≡◌, ◌≢◌, ◌⊎◌, ℕ, ◌+◌, Bool, List, [], length, Option, Some, None}
use Rattle.std.specs.Prelude.{slice_get}
use Rattle.ec_world.specs.declared.value.Value.{Value}
use Rattle.ec_world.specs.declared.object.ObjectRec.{ObjectRec}
use Rattle.ec_monitors.specs.declared.record.MonitorRec.{MonitorRec}
use Rattle.ec_world.specs.declared.class.ClassNo.{ClassNo}
use Rattle.ec_world.specs.declared.world.World.{World}
use Rattle.ec_world.specs.Objects.{object_at}
use Rattle.ec_world.specs.declared.node.Kind.{Kind}
use Rattle.ec_world.specs.declared.key.Key.{Key}
use Rattle.ec_world.specs.declared.key.Key.TheVariants.{Object, Frame}
use Rattle.ec_world.specs.Things.{activation_at, blocks_of, in_order}
use Rattle.ec_things.specs.Store.{Store, Owned, StandsAt, word_of, KeptRow, Grown, Tidy}

-- an object or an activation, as a node keeps it
pub record Thing : Type 0 where
  -- the object at whose place it is
  pub home : ℕ
  pub blocks : ℕ
  -- how many fields or elements it has; an activation none
  pub size : ℕ
  pub class : Option ClassNo
  pub fixed : Bool
  pub monitor : Option MonitorRec
  -- plain words from word 0 on
  pub heads : List ℕ
  pub values : List Value
  -- the word that value i has on a kind
  pub spot : Kind → ℕ → Option ℕ

abbrev pub object_thing : ℕ → ObjectRec → Thing
object_thing oid o =
    record {
      home = oid;
      blocks = blocks_of o;
      size = length o.fields;
      class = Some o.class;
      fixed = o.fixed;
      monitor = o.monitor;
      heads = [];
      values =
          o.fields;
      spot = in_order;
    }

abbrev pub object_if : ℕ → Option ObjectRec → Option Thing
object_if oid None = None
object_if oid (Some o) = Some (object_thing oid o)

-- What an activation is to a node is a thing by its process, its depth from the bottom (from 0) and itself.
module _ {A : Type 0} (frame : ℕ → ℕ → A → Thing) where
  abbrev pub frame_if : ℕ → ℕ → Option A → Option Thing
  frame_if p d None = None
  frame_if p d (Some a) = Some (frame p d a)

  -- the things of a world, by their owners
  abbrev pub things_of : World A → Key → Option Thing
  things_of w (Object oid) = object_if oid (object_at w.common.objects oid)
  things_of w (Frame p d) = frame_if p d (activation_at w.processes p d)

-- what a store keeps of an owner is this thing: its home, its blocks, what is kept beside them, its plain words, and a word for each
-- value
pub record Spells (s : Store) (r : Owned) (t : Thing) : Type 0 where
  pub home : r.home ≡ t.home
  pub counted : length r.blocks ≡ t.blocks
  pub size : r.size ≡ t.size
  pub class : r.class ≡ t.class
  pub fixed : r.fixed ≡ t.fixed
  pub monitor : r.monitor ≡ t.monitor
  pub heads : (i n : ℕ) → slice_get t.heads i ≡ Some n → word_of s r.blocks i ≡ Some n
  pub values : (i : ℕ) (v : Value) → slice_get t.values i ≡ Some v → (at : ℕ) × (t.spot s.kind i ≡ Some at) × StandsAt s r.blocks at v

-- a store shows a thing of an owner
pub record Shown (s : Store) (key : Key) (t : Thing) : Type 0 where
  pub row : Owned
  pub there : s.row key ≡ Some row
  pub spells : Spells s row t

-- the node at the place of its home shows a thing
pub record ShownAt (nodes : ℕ → Option Store) (place : ℕ → Option ℕ) (key : Key) (t : Thing) : Type 0 where
  pub node : ℕ
  pub store : Store
  pub home : place t.home ≡ Some node
  pub there : nodes node ≡ Some store
  pub shown : Shown store key t

-- each thing is at its place, and nothing else is anywhere
pub record ShowsThings (nodes : ℕ → Option Store) (things : Key → Option Thing) (place : ℕ → Option ℕ) : Type 0 where
  pub each : (key : Key) (t : Thing) → things key ≡ Some t → ShownAt nodes place key t
  pub only : (k : ℕ) (s : Store) (key : Key) (r : Owned) → nodes k ≡ Some s → s.row key ≡ Some r →
      (t : Thing) × (things key ≡ Some t) × (place t.home ≡ Some k)

-- what a store shows of an owner: a thing, or nothing
abbrev pub ShowsHere : Store → Key → Option Thing → Type 0
ShowsHere s key None = s.row key ≡ None
ShowsHere s key (Some t) = Shown s key t

abbrev pub size_of : Option Thing → ℕ
size_of None = 0
size_of (Some t) = t.blocks

abbrev pub row_size : Option Owned → ℕ
row_size None = 0
row_size (Some r) = length r.blocks

-- one owner of a store has changed: it now has this thing, or none; all other owners are as they were
pub record Puts (s s' : Store) (key : Key) (now : Option Thing) : Type 0 where
  pub here : ShowsHere s' key now
  pub others : (other : Key) → other ≢ key → KeptRow s s' other
  pub grown : Grown s s'
  pub tidy : Tidy s → Tidy s'
  pub free : s'.free + size_of now ≡ s.free + row_size (s.row key)
  pub count : s'.count ≡ s.count

-- one node has changed
pub record NodePut (nodes nodes' : ℕ → Option Store) (k : ℕ) (s s' : Store) : Type 0 where
  pub before : nodes k ≡ Some s
  pub after : nodes' k ≡ Some s'
  pub others : (j : ℕ) → j ≢ k → nodes' j ≡ nodes j

-- where a thing is; what isn't there is anywhere
abbrev pub IsAt : (ℕ → Option ℕ) → ℕ → Option Thing → Type 0
IsAt place k None = Unit {0}
IsAt place k (Some t) = place t.home ≡ Some k

-- one thing has changed
pub record ThingPut (things things' : Key → Option Thing) (key : Key) (now : Option Thing) : Type 0 where
  pub here : things' key ≡ now
  pub others : (other : Key) → other ≢ key → things' other ≡ things other

-- some things at one node have changed
pub record ThingsPut (place : ℕ → Option ℕ) (k : ℕ) (Touched : Key → Type 0) (things things' : Key → Option Thing) : Type 0 where
  pub decided : (key : Key) → Touched key ⊎ (Touched key → ⊥)
  pub others : (key : Key) → (Touched key → ⊥) → things' key ≡ things key
  pub old_at : (key : Key) → Touched key → IsAt place k (things key)
  pub new_at : (key : Key) → Touched key → IsAt place k (things' key)
