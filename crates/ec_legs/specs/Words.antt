-- Words of one owner are written, and all else stays.
use Rattle.std.specs.Prelude.{◌≡◌, ◌≢◌, ℕ, ◌*◌, ◌<◌, length, Some}
use Rattle.ec_world.specs.declared.key.Key.{Key}
use Rattle.ec_world.specs.declared.key.Key.TheVariants.{Frame}
use Rattle.ec_stores.specs.Changes.{SameRest}
use Rattle.ec_things.specs.Store.{KeptRow, Owned, Store, word_of}

-- All that a store tells is as it was but for words of one owner that aren't kept. Of what nobody owns `KeepsBytes` tells.
pub record KeepsWords (s s' : Store) (key : Key) (IsKept : ℕ → Type 0) : Type 0 where
  pub its :
      (r : Owned) (j : ℕ) → s.row key ≡ Some r → j < 128 * length r.blocks → IsKept j → word_of s' r.blocks j ≡ word_of s r.blocks j
  pub others : (other : Key) → other ≢ key → KeptRow s s' other
  pub rows : (other : Key) → s'.row other ≡ s.row other
  pub rest : SameRest s s'
  pub free : s'.free ≡ s.free

-- an activation is there, in one block
pub record IsFrame (s : Store) (process depth : ℕ) : Type 0 where
  pub row : Owned
  pub there : s.row (Frame process depth) ≡ Some row
  pub one : length row.blocks ≡ 1
