-- The texts that a world wants at a node, and those that are new there.
use Rattle.std.specs.Prelude.{◌≡◌, ◌⊎◌, ℕ, ◌↔◌, List, Option, Some}
use Rattle.ec_world.specs.Held.{Distinct}
use Rattle.ec_world.specs.Words.{text_bytes}
use Rattle.ec_world.specs.declared.key.Key.{Key}
use Rattle.ec_things.specs.Store.{Store}
use Rattle.ec_things.specs.Things.{Thing}
use Rattle.ec_world.specs.Group.{Has}
use Rattle.ec_world.specs.declared.value.Value.{Value}
use Rattle.ec_world.specs.declared.value.Value.TheVariants.{Str}

-- a text is in the pool of a node
abbrev pub InPool : Store → List ℕ → Type 0
InPool s text = (i : ℕ) × (s.text i ≡ Some text)

-- no text at all
abbrev pub NoTexts : List ℕ → Type 0
NoTexts text = ⊥

-- A node has the texts that it had and those that were added, and each text keeps its place; its kind, its room and its
-- count are as they were.
pub record GetsTexts (Added : List ℕ → Type 0) (s s' : Store) : Type 0 where
  pub kind : s'.kind ≡ s.kind
  pub room : s'.room ≡ s.room
  pub text_room : s'.text_room ≡ s.text_room
  pub count : s'.count ≡ s.count
  pub texts : (text : List ℕ) → InPool s' text ↔ (InPool s text ⊎ Added text)
  -- each text keeps its place
  pub stay : (i : ℕ) (text : List ℕ) → s.text i ≡ Some text → s'.text i ≡ Some text

-- a text is a value of a thing whose home is at node k
pub record IsHeld (things : Key → Option Thing) (place : ℕ → Option ℕ) (k : ℕ) (text : List ℕ) : Type 0 where
  pub key : Key
  pub thing : Thing
  pub is : things key ≡ Some thing
  pub at : place thing.home ≡ Some k
  pub has : Has thing.values (Str text)

-- The texts that things have at node k, and those of constants, which each node has.
abbrev pub TextsHeld : (things : Key → Option Thing) (globals : List Value) (place : ℕ → Option ℕ) → ℕ → List ℕ → Type 0
TextsHeld things globals place k text = IsHeld things place k text ⊎ Has globals (Str text)

-- So many bytes have these texts, each text once; so no order matters.
pub record BytesOf (Texts : List ℕ → Type 0) (n : ℕ) : Type 0 where
  pub texts : List (List ℕ)
  pub once : Distinct texts
  pub these : (text : List ℕ) → Has texts text ↔ Texts text
  pub bytes : n ≡ text_bytes texts

-- the bytes of the texts that are wanted and not in the pool
abbrev pub NewBytes : (Wanted : List ℕ → Type 0) → Store → ℕ → Type 0
NewBytes Wanted s = BytesOf (λ text. Wanted text × (InPool s text → ⊥))
