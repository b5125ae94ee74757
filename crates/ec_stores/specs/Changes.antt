-- What a call asks of a store, and what it leaves, told of its tables as functions.
use Rattle.std.specs.Prelude.{◌≡◌, ◌≢◌, ℕ, ◌+◌, ◌-◌, ◌*◌, ◌^◌, min, ◌<◌, ◌≤◌, ◌⊎◌, ◌↔◌, Bool, true, false, List, [], ◌∷◌, length}
use Rattle.std.specs.Prelude.{Option, Some, None, slice_get}
use Rattle.std.specs.List.Sorted.{IsStrictlySortedBy}
use Rattle.ec_monitors.specs.Monitors.{is_held_by}
use Rattle.ec_monitors.specs.declared.record.MonitorRec.{MonitorRec}
use Rattle.ec_world.specs.Things.{class_blocks}
use Rattle.ec_world.specs.declared.key.Key.{Key}
use Rattle.ec_world.specs.declared.key.Key.TheVariants.{Object, Frame}
use Rattle.ec_things.specs.Store.{Grown, KeptRow, Owned, Store, Tidy, word_of}
use Rattle.ec_things.specs.Texts.{InPool}
use Rattle.ec_things.specs.Things.{row_size}
use Rattle.ec_world.specs.Group.{Has}
use Rattle.ec_world.specs.declared.class.ClassNo.{ClassNo}
use Rattle.ec_world.specs.declared.node.Kind.{Kind}
use Rattle.ec_stores.specs.Tables.{frame_cmp}
use Rattle.ec_stores.specs.declared.rows.Object.{Object as ObjectData}

-- ---- what is there

-- an object of this class, size and fixedness is there, with as many blocks as these want
pub record IsObject (s : Store) (oid : ℕ) (o : ObjectData) : Type 0 where
  pub row : Owned
  pub there : s.row (Object oid) ≡ Some row
  pub class : row.class ≡ Some o.class
  pub size : row.size ≡ o.size
  pub fixed : row.fixed ≡ o.fixed
  pub blocks : length row.blocks ≡ class_blocks o.class o.size

-- an owner is there, and has a word i
pub record OwnsWord (s : Store) (key : Key) (i : ℕ) : Type 0 where
  pub row : Owned
  pub there : s.row key ≡ Some row
  pub within : i < 128 * length row.blocks

-- word i of an owner
pub record WordIs (s : Store) (key : Key) (i w : ℕ) : Type 0 where
  pub row : Owned
  pub there : s.row key ≡ Some row
  pub is : word_of s row.blocks i ≡ Some w

-- the first block of an owner
pub record FirstBlock (s : Store) (key : Key) (b : ℕ) : Type 0 where
  pub row : Owned
  pub there : s.row key ≡ Some row
  pub first : slice_get row.blocks 0 ≡ Some b

-- an owner is there, and has a block
abbrev pub HasBlock : Store → Key → Type 0
HasBlock s key = (b : ℕ) × FirstBlock s key b

-- an activation is there, on an object
pub record StandsOn (s : Store) (p d oid : ℕ) : Type 0 where
  pub row : Owned
  pub there : s.row (Frame p d) ≡ Some row
  pub home : row.home ≡ oid

-- these are the activations on an object that are there, by process and depth: all of them and each once, by process and then by depth
pub record HasOn (s : Store) (oid : ℕ) (found : List (ℕ × ℕ)) : Type 0 where
  pub these : (at : ℕ × ℕ) → Has found at ↔ StandsOn s at.0 at.1 oid
  pub ordered : IsStrictlySortedBy frame_cmp found

-- the monitor of an object
pub record MonitorIs (s : Store) (oid : ℕ) (m : MonitorRec) : Type 0 where
  pub row : Owned
  pub there : s.row (Object oid) ≡ Some row
  pub is : row.monitor ≡ Some m

-- an object, if it is there, has no monitor
abbrev pub LacksMonitor : Store → ℕ → Type 0
LacksMonitor s oid = (row : Owned) → s.row (Object oid) ≡ Some row → row.monitor ≡ None

-- an object is there, and has a monitor
abbrev pub HasMonitor : Store → ℕ → Type 0
HasMonitor s oid = (m : MonitorRec) × MonitorIs s oid m

-- a process holds the monitor of an object
pub record HoldsMonitor (s : Store) (oid process : ℕ) : Type 0 where
  pub monitor : MonitorRec
  pub there : MonitorIs s oid monitor
  pub holds : is_held_by monitor process ≡ true

-- a process holds the monitor of an object, which has a condition of this number
pub record WaitsAtMonitor (s : Store) (oid process condition : ℕ) : Type 0 where
  pub monitor : MonitorRec
  pub there : MonitorIs s oid monitor
  pub holds : is_held_by monitor process ≡ true
  pub within : condition < length monitor.conditions

-- ---- what stays

-- all but words, rows and what is free
pub record SameRest (s s' : Store) : Type 0 where
  pub kind : s'.kind ≡ s.kind
  pub global : (i : ℕ) → s'.global i ≡ s.global i
  pub local : (i : ℕ) → s'.local i ≡ s.local i
  pub text : (i : ℕ) → s'.text i ≡ s.text i
  pub room : s'.room ≡ s.room
  pub text_room : s'.text_room ≡ s.text_room
  pub text_free : s'.text_free ≡ s.text_free
  pub count : s'.count ≡ s.count

-- ---- changes

-- nothing is there yet: so many blocks and bytes of text are free, and so many constants are 0
pub record IsFresh (s : Store) (kind : Kind) (blocks text globals : ℕ) : Type 0 where
  pub kind_is : s.kind ≡ kind
  pub rows : (key : Key) → s.row key ≡ None
  pub constants : (i : ℕ) → i < globals → s.global i ≡ Some 0
  pub locals : (i : ℕ) → s.local i ≡ None
  pub texts : (i : ℕ) → s.text i ≡ None
  pub room_is : s.room ≡ blocks
  pub free_is : s.free ≡ blocks
  pub text_room_is : s.text_room ≡ text
  pub text_is : s.text_free ≡ text
  pub count_is : s.count ≡ 0

-- word i of an owner is w, and nothing else has changed
pub record WritesWord (s s' : Store) (key : Key) (i w : ℕ) : Type 0 where
  pub here : WordIs s' key i w
  pub its : (r : Owned) (j : ℕ) → s.row key ≡ Some r → j < 128 * length r.blocks → j ≢ i → word_of s' r.blocks j ≡ word_of s r.blocks j
  pub others : (other : Key) → other ≢ key → KeptRow s s' other
  pub rows : (other : Key) → s'.row other ≡ s.row other
  pub rest : SameRest s s'
  pub free : s'.free ≡ s.free

-- constant i is w, and nothing else has changed
pub record WritesGlobal (s s' : Store) (i w : ℕ) : Type 0 where
  pub here : s'.global i ≡ Some w
  pub others : (j : ℕ) → j ≢ i → s'.global j ≡ s.global j
  pub kept : (key : Key) → KeptRow s s' key
  pub kind : s'.kind ≡ s.kind
  pub local : (j : ℕ) → s'.local j ≡ s.local j
  pub text : (j : ℕ) → s'.text j ≡ s.text j
  pub room : s'.room ≡ s.room
  pub free : s'.free ≡ s.free
  pub text_room : s'.text_room ≡ s.text_room
  pub text_free : s'.text_free ≡ s.text_free
  pub count : s'.count ≡ s.count

-- a new owner has this row; its first words are those given, and every word of its blocks can be read
pub record Placed (s s' : Store) (key : Key) (row : Owned) (given : List ℕ) : Type 0 where
  pub here : s'.row key ≡ Some row
  pub words : (i n : ℕ) → slice_get given i ≡ Some n → word_of s' row.blocks i ≡ Some n
  pub there : (i : ℕ) → i < 128 * length row.blocks → (w : ℕ) × (word_of s' row.blocks i ≡ Some w)
  pub others : (other : Key) → other ≢ key → KeptRow s s' other
  pub rest : SameRest s s'
  pub free : s'.free + length row.blocks ≡ s.free
  pub tidy : Tidy s'

abbrev pub object_row : ℕ → List ℕ → ℕ → ClassNo → Bool → Option MonitorRec → Owned
object_row oid blocks size class fixed monitor =
    record { home = oid; blocks = blocks; size = size; class = Some class; fixed = fixed; monitor = monitor }

-- a new object, with as many blocks as its class and size want
pub record PlacedObject (s s' : Store) (oid : ℕ) (class : ClassNo) (size : ℕ) (fixed : Bool) (monitor : Option MonitorRec)
    (given : List ℕ) : Type 0 where
  pub blocks : List ℕ
  pub many : length blocks ≡ class_blocks class size
  pub placed : Placed s s' (Object oid) (object_row oid blocks size class fixed monitor) given

abbrev pub frame_row : ℕ → ℕ → Owned
frame_row own b = record { home = own; blocks = b ∷ []; size = 0; class = None; fixed = false; monitor = None }

-- a new activation on an object, which has one block
pub record PlacedFrame (s s' : Store) (p d own : ℕ) (given : List ℕ) : Type 0 where
  pub block : ℕ
  pub placed : Placed s s' (Frame p d) (frame_row own block) given

-- an owner goes, and its blocks are free
pub record Closed (s s' : Store) (key : Key) : Type 0 where
  pub gone : s'.row key ≡ None
  pub others : (other : Key) → other ≢ key → KeptRow s s' other
  pub rest : SameRest s s'
  pub free : s'.free ≡ s.free + row_size (s.row key)
  pub tidy : Tidy s'

-- an owner's row has become another by `now`, and nothing else has changed
pub record SetsRow (s s' : Store) (key : Key) (now : Owned → Owned) : Type 0 where
  pub row : (r : Owned) → s.row key ≡ Some r → s'.row key ≡ Some (now r)
  pub others : (other : Key) → other ≢ key → s'.row other ≡ s.row other
  pub words : (b i : ℕ) → s'.word b i ≡ s.word b i
  pub rest : SameRest s s'
  pub free : s'.free ≡ s.free

-- nothing has changed
pub record SameRows (s s' : Store) : Type 0 where
  pub row : (key : Key) → s'.row key ≡ s.row key
  pub words : (b i : ℕ) → s'.word b i ≡ s.word b i
  pub rest : SameRest s s'
  pub free : s'.free ≡ s.free

abbrev pub with_fixed : Bool → Owned → Owned
with_fixed fixed r = record r { fixed = fixed }

abbrev pub with_monitor : Option MonitorRec → Owned → Owned
with_monitor monitor r = record r { monitor = monitor }

-- an act on the monitor of an object, which answers this: nothing but the monitor has changed
pub record Acts {A : Type 0} (s s' : Store) (oid : ℕ) (act : MonitorRec → MonitorRec × A) (answer : A) : Type 0 where
  pub before : MonitorRec
  pub after : MonitorRec
  pub had : MonitorIs s oid before
  pub does : act before ≡ (after, answer)
  pub sets : SetsRow s s' (Object oid) (with_monitor (Some after))

-- k instructions have been run: words and constants are what they left, the count has risen by as many, up to 2^64 - 1, and nothing
-- else has changed
pub record Ran (s s' : Store) (k : ℕ) : Type 0 where
  pub rows : (key : Key) → s'.row key ≡ s.row key
  pub kind : s'.kind ≡ s.kind
  pub local : (i : ℕ) → s'.local i ≡ s.local i
  pub text : (i : ℕ) → s'.text i ≡ s.text i
  pub room : s'.room ≡ s.room
  pub free : s'.free ≡ s.free
  pub text_room : s'.text_room ≡ s.text_room
  pub text_free : s'.text_free ≡ s.text_free
  pub count : s'.count ≡ min (s.count + k) (2 ^ 64 - 1)

-- only the local references or the texts have grown
pub record OnlyTables (s s' : Store) : Type 0 where
  pub grown : Grown s s'
  pub rows : (key : Key) → s'.row key ≡ s.row key
  pub words : (b i : ℕ) → s'.word b i ≡ s.word b i
  pub free : s'.free ≡ s.free
  pub count : s'.count ≡ s.count
  pub tidy : Tidy s'

-- the word is the local reference to an object, and no text has come
pub record Refers (s s' : Store) (oid word : ℕ) : Type 0 where
  pub only : OnlyTables s s'
  pub is : s'.local word ≡ Some oid
  pub texts : (i : ℕ) → s'.text i ≡ s.text i
  pub text_free : s'.text_free ≡ s.text_free

-- so many texts are there
pub record HasTexts (s : Store) (n : ℕ) : Type 0 where
  pub below : (i : ℕ) → i < n → (t : List ℕ) × (s.text i ≡ Some t)
  pub from : (i : ℕ) → n ≤ i → s.text i ≡ None

-- the word is the place of a text, and no other text has come
pub record Interns (s s' : Store) (text : List ℕ) (word : ℕ) : Type 0 where
  pub only : OnlyTables s s'
  pub is : s'.text word ≡ Some text
  pub texts : (other : List ℕ) → InPool s' other ↔ (InPool s other ⊎ (other ≡ text))
  pub locals : (i : ℕ) → s'.local i ≡ s.local i
  pub kept : InPool s text → s'.text_free ≡ s.text_free
  pub new : (InPool s text → ⊥) → s'.text_free + length text ≡ s.text_free
  pub at_end : (InPool s text → ⊥) → HasTexts s word
