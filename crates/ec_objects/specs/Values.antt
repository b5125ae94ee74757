-- Words that stand for values: which value a word is, given its kind; words for values, and the room that their texts want.
use Rattle.std.specs.Prelude.{◌≡◌, ◌+◌, ◌≤◌, ◌==◌, ℕ, zero, suc, List, length, Option, Some, slice_get, ◌↔◌, ◌⊎◌}
use Rattle.std.specs.Int.{cast_signed, w32}
use Rattle.std.specs.Option.{option_map}
use Rattle.ec_stores.specs.Changes.{OnlyTables}
use Rattle.ec_things.specs.Store.{Stands, Store}
use Rattle.ec_things.specs.Texts.{InPool, NewBytes}
use Rattle.ec_world.specs.Group.{Has}
use Rattle.ec_world.specs.declared.value.Value.{Value}
use Rattle.ec_world.specs.declared.value.Value.TheVariants.{Int, Str, Ref, Nil, Bool as Truth}
use Rattle.ec_world.specs.declared.value.ValueType.{ValueType}
use Rattle.ec_world.specs.declared.value.ValueType.TheVariants.{Integer, Boolean, Bytes, Reference}

-- ---- values of words

-- 0 is nil, and another word a reference of the node
abbrev pub reference_of : (ℕ → Option ℕ) → ℕ → Option Value
reference_of local zero = Some Nil
reference_of local (suc w) = option_map Ref (local (suc w))

-- The value that a word stands for, given its kind: a word by itself doesn't tell a number from a truth value or from nil.
abbrev pub value_of : Store → ValueType → ℕ → Option Value
value_of s Integer w = Some (Int (cast_signed w32 w))
value_of s Boolean w = Some (Truth (w == 1))
value_of s Bytes w = option_map Str (s.text w)
value_of s Reference w = reference_of s.local w

-- ---- words for values

-- a text has room, or is there already
abbrev pub HasRoom : Store → Value → Type 0
HasRoom s (Str t) = (InPool s t → ⊥) → length t ≤ s.text_free
HasRoom s (Int z) = Unit {0}
HasRoom s (Truth b) = Unit {0}
HasRoom s (Ref o) = Unit {0}
HasRoom s Nil = Unit {0}

-- what a value's word takes of the room for text: a new text its bytes, all else nothing
abbrev pub Spends : Store → Store → Value → Type 0
Spends s s' (Str t) =
    (InPool s t → s'.text_free ≡ s.text_free) × ((InPool s t → ⊥) → s'.text_free + length t ≡ s.text_free)
Spends s s' (Int z) = s'.text_free ≡ s.text_free
Spends s s' (Truth b) = s'.text_free ≡ s.text_free
Spends s s' (Ref o) = s'.text_free ≡ s.text_free
Spends s s' Nil = s'.text_free ≡ s.text_free

-- a word for a value: the tables have grown by what it wants, and nothing else has changed
pub record HasWord (s s' : Store) (v : Value) (w : ℕ) : Type 0 where
  pub only : OnlyTables s s'
  pub stands : Stands s' v w
  pub texts : (text : List ℕ) → InPool s' text ↔ (InPool s text ⊎ (v ≡ Str text))
  pub spent : Spends s s' v

-- the words of the first n values
pub record WordsFor (s : Store) (values : List Value) (n : ℕ) (words : List ℕ) : Type 0 where
  pub many : length words ≡ n
  pub each : (i w : ℕ) (v : Value) → slice_get values i ≡ Some v → slice_get words i ≡ Some w → Stands s v w

-- the texts of values that aren't in the pool have room, each once
pub record TextsFit (s : Store) (values : List Value) : Type 0 where
  pub bytes : ℕ
  pub needs : NewBytes (λ text. Has values (Str text)) s bytes
  pub fits : bytes ≤ s.text_free

-- words for values: the tables have grown by what they want, and nothing else has changed
pub record HasWords (s s' : Store) (values : List Value) (words : List ℕ) : Type 0 where
  pub only : OnlyTables s s'
  pub are : WordsFor s' values (length values) words
  pub texts : (text : List ℕ) → InPool s' text ↔ (InPool s text ⊎ Has values (Str text))
