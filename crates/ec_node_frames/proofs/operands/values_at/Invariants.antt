use Rattle.std.proofs.Common.{◌≡◌, map, take}
use Rattle.ec_code.specs.declared.code.Live.{Live}
use Rattle.ec_node_frames.proofs.operands.values_at.Given as goal
use Rattle.ec_node_frames.specs.Reading.{AreRead}
use Rattle.ec_stores.specs.Node.{store_of}
use Rattle.ec_world.specs.declared.value.Value.{Value}

-- the values so far are those of the first variables, by whatever function the words are read
abbrev pub invariant-loop-live : goal.invariant-loop-live
invariant-loop-live l =
    (value : Live → Value) → AreRead (store_of l.node) l.table l.block l.held value → l.values ≡ map value (take l.live-index l.held)
