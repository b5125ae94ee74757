-- How values are read from a frame: by the homes of variables, each by its type.
use Rattle.std.specs.Prelude.{◌≡◌, ℕ, ◌<◌, List, Some, slice_get}
use Rattle.ec_code.specs.Typing.{kind_of}
use Rattle.ec_code.specs.declared.code.Live.{Live}
use Rattle.ec_node_frames.specs.Loops.{spot_of}
use Rattle.ec_world.specs.declared.key.Key.TheVariants.{Frame}
use Rattle.ec_objects.specs.Kinds.{IsOfKind}
use Rattle.ec_generate.specs.declared.table.OperationTable.{OperationTable}
use Rattle.ec_stores.specs.Changes.{FirstBlock}
use Rattle.ec_things.specs.Store.{StandsAt, Store}
use Rattle.ec_world.specs.declared.value.Value.{Value}

-- In the block of an activation, the word at the home of a variable stands for a value, of the kind of the variable's type.
pub record ReadsIn (s : Store) (table : OperationTable) (block : ℕ) (l : Live) (v : Value) : Type 0 where
  pub process : ℕ
  pub depth : ℕ
  pub first : FirstBlock s (Frame process depth) block
  pub low : spot_of table l < 128
  pub stands : StandsAt s first.row.blocks (spot_of table l) v
  pub kind : IsOfKind (kind_of l.of) v

-- the word at the home of each of these variables stands for its value by this function
abbrev pub AreRead : Store → OperationTable → ℕ → List Live → (Live → Value) → Type 0
AreRead s table block held value = (i : ℕ) (l : Live) → slice_get held i ≡ Some l → ReadsIn s table block l (value l)
