-- What an activation is as a thing of a node by the table of its operation alone, whatever the program is of which this is the table.
use Rattle.std.specs.Prelude.{◌≡◌, ℕ, zero, suc, ◌<◌, false, if◌then◌else◌, List, [], ◌∷◌, Option, Some, None, slice_get}
use Rattle.std.specs.Option.{option_map}
use Rattle.ec_code.specs.declared.code.Live.{Live}
use Rattle.ec_generate.specs.declared.table.OperationTable.{OperationTable}
use Rattle.ec_generate.specs.declared.table.StopEntry.{StopEntry}
use Rattle.ec_machine_code.specs.Frames.{own_reference}
use Rattle.ec_node_frames.specs.Carried.{carried}
use Rattle.ec_node_frames.specs.Loops.{spot_of}
use Rattle.ec_node_frames.specs.declared.frames.Headings.{Headings}
use Rattle.ec_things.specs.Things.{Thing}
use Rattle.ec_world.specs.declared.value.Value.{Value}
use Rattle.ec_world.specs.declared.value.Value.TheVariants.{Ref}

-- words 0 to 5 of a frame
abbrev pub heads_by : ℕ → ℕ → Headings → List ℕ
heads_by process depth h = process ∷ depth ∷ h.operation ∷ h.stop ∷ (if h.pending then 1 else 0) ∷ h.own ∷ []

-- the word of a variable by the table of its operation
abbrev pub spot_if : OperationTable → Option Live → Option ℕ
spot_if table l = option_map (spot_of table) l

-- the word of value i: the node's own reference to the own object comes first
abbrev pub spot_by : OperationTable → List Live → ℕ → Option ℕ
spot_by table held zero = Some own_reference
spot_by table held (suc i) = spot_if table (slice_get held i)

-- an activation with these headings at a stop, and these values of the variables that are there
abbrev pub frame_by : OperationTable → StopEntry → ℕ → ℕ → Headings → List Value → Thing
frame_by table e process depth h values = record {
  home = h.own;
  blocks = 1;
  size = 0;
  class = None;
  fixed = false;
  monitor = None;
  heads = heads_by process depth h;
  values = Ref h.own ∷ values;
  spot = λ kind i. spot_by table (carried e h.pending) i;
}

-- Each of these variables has a word of a frame, and variables that have one word have one value.
pub record HaveHomes (table : OperationTable) (held : List Live) (values : List Value) : Type 0 where
  pub low : (i : ℕ) (l : Live) → slice_get held i ≡ Some l → spot_of table l < 128
  pub one_each : (i j : ℕ) (l m : Live) (v u : Value) → slice_get held i ≡ Some l → slice_get held j ≡ Some m →
      slice_get values i ≡ Some v → slice_get values j ≡ Some u → spot_of table l ≡ spot_of table m → v ≡ u
