-- What a node keeps, as functions, whatever the order of its bytes and the layout of its tables; and when a word stands
-- for a value.
use Rattle.std.specs.Prelude.{◌≡◌, ℕ, ◌+◌, ◌/◌, ◌%◌, ◌<◌, ◌↔◌, Bool, List, Option, Some, None}
use Rattle.std.specs.Prelude.{slice_get}
use Rattle.ec_world.specs.declared.value.Value.{Value}
use Rattle.ec_world.specs.declared.class.ClassNo.{ClassNo}
use Rattle.ec_monitors.specs.declared.record.MonitorRec.{MonitorRec}
use Rattle.ec_world.specs.declared.node.Kind.{Kind}
use Rattle.ec_world.specs.Group.{Has}
use Rattle.ec_world.specs.Held.{Distinct}
use Rattle.ec_world.specs.Words.{StandsFor, text_bytes}
use Rattle.ec_world.specs.declared.key.Key.{Key}

-- what is kept of an owner of blocks: the object at whose place it is, of an object itself and of an activation the one that it is on;
-- of an object also how many fields or elements it has, its class, whether it is fixed, and its monitor; an activation has none of these
pub record Owned : Type 0 where
  pub home : ℕ
  pub blocks : List ℕ
  pub size : ℕ
  pub class : Option ClassNo
  pub fixed : Bool
  pub monitor : Option MonitorRec

-- a node: its kind, its owners, word i of block b, its global constants, its local references, the texts of its pool,
-- how many blocks it has, how many of them are free, how many bytes of text it has room for, how many of them are free, and
-- how many instructions it ran
pub record Store : Type 0 where
  pub kind : Kind
  pub row : Key → Option Owned
  pub word : ℕ → ℕ → Option ℕ
  pub global : ℕ → Option ℕ
  pub local : ℕ → Option ℕ
  pub text : ℕ → Option (List ℕ)
  pub room : ℕ
  pub free : ℕ
  pub text_room : ℕ
  pub text_free : ℕ
  pub count : ℕ

-- a word of a node stands for a value, by the node's own references and texts
abbrev pub Stands : Store → Value → ℕ → Type 0
Stands s v word = StandsFor s.local s.text v word

-- word i of a block, where there is one
abbrev pub word_in : Store → Option ℕ → ℕ → Option ℕ
word_in s None i = None
word_in s (Some b) i = s.word b i

-- word i of an owner, whose blocks have 128 words each
abbrev pub word_of : Store → List ℕ → ℕ → Option ℕ
word_of s blocks i = word_in s (slice_get blocks (i / 128)) (i % 128)

-- word `at` of an owner stands for a value
pub record StandsAt (s : Store) (blocks : List ℕ) (at : ℕ) (v : Value) : Type 0 where
  pub word : ℕ
  pub there : word_of s blocks at ≡ Some word
  pub stands : Stands s v word

-- the texts of a node, each once: their bytes and those that are free are all
pub record Filled (s : Store) : Type 0 where
  pub texts : List (List ℕ)
  pub once : Distinct texts
  pub these : (text : List ℕ) → Has texts text ↔ ((i : ℕ) × (s.text i ≡ Some text))
  pub bytes : text_bytes texts + s.text_free ≡ s.text_room

-- what a store keeps by itself, whatever world it shows: no block has two owners, local references and object numbers
-- are one to one, 0 is no reference, each text stands once, and what texts don't take of their room is free
pub record Tidy (s : Store) : Type 0 where
  pub apart : (a b : Key) (r q : Owned) (x : ℕ) → s.row a ≡ Some r → s.row b ≡ Some q → Has r.blocks x → Has q.blocks x → a ≡ b
  pub nil : s.local 0 ≡ None
  pub locals : (i j oid : ℕ) → s.local i ≡ Some oid → s.local j ≡ Some oid → i ≡ j
  pub texts : (i j : ℕ) (t : List ℕ) → s.text i ≡ Some t → s.text j ≡ Some t → i ≡ j
  pub filled : Filled s

-- the tables only grow, and globals stay
pub record Grown (s s' : Store) : Type 0 where
  pub kind : s'.kind ≡ s.kind
  pub local : (i oid : ℕ) → s.local i ≡ Some oid → s'.local i ≡ Some oid
  pub text : (i : ℕ) (t : List ℕ) → s.text i ≡ Some t → s'.text i ≡ Some t
  pub global : (i : ℕ) → s'.global i ≡ s.global i
  pub room : s'.room ≡ s.room
  pub text_room : s'.text_room ≡ s.text_room

-- the blocks of an owner and their words are as they were
pub record KeptRow (s s' : Store) (key : Key) : Type 0 where
  pub row : s'.row key ≡ s.row key
  pub words : (r : Owned) (b i : ℕ) → s.row key ≡ Some r → Has r.blocks b → i < 128 → s'.word b i ≡ s.word b i
