-- What is run between two stops: the code itself, on a machine, from what the frame keeps to what the frame then keeps.
use Rattle.std.specs.Prelude.{ℕ, List}
use Rattle.ec_machine_code.specs.Machine.{MachineMeaning}
use Rattle.ec_machine_code.specs.declared.code.Code.{Code}
use Rattle.ec_generate.specs.declared.table.StopTable.{StopTable}
use Rattle.ec_stores.specs.Changes.{Ran}
use Rattle.ec_stores.specs.Memory.{SameMemory}
use Rattle.ec_stores.specs.Node.{KeepsBytes, NodeData, bytes_in, store_of}
use Rattle.ec_target.specs.Runs.{Going, Native, Standing}
use Rattle.ec_legs.specs.Machines.{IsBehindStop, IsUntouched, RestsWhere}
use Rattle.ec_world.specs.declared.key.Key.TheVariants.{Frame}

-- The code of an activation's frame was run on a machine: from a state behind the stop that the frame names, with what the frame has
-- saved, k steps of the machine's own tables lead to a stop, none of them a trap; the frame then rests where the machine has come to. The
-- bytes are those that the steps leave, but for the frame's headings that name the stop and its saved words; blocks are free as before.
pub record RunsNatively {S : Type 0} (M : MachineMeaning S) (goes : List ℕ → Going S) (stops : List ℕ → Standing S) (code : Code)
    (table : StopTable) (node node' : NodeData) (process depth k : ℕ) : Type 0 where
  pub from : S
  pub to : S
  -- the node as the machine has left it
  pub between : NodeData
  pub behind : IsBehindStop M table.addresses (store_of node) process depth from
  pub native : Native (goes code.words) (stops code.words) from (bytes_in node) k to (bytes_in between)
  pub counted : Ran (store_of node) (store_of between) k
  pub lists : SameMemory node.memory between.memory
  pub rests : RestsWhere M table.addresses (store_of between) (store_of node') process depth to
  pub bytes : KeepsBytes between node' (Frame process depth) (IsUntouched M.homes)
