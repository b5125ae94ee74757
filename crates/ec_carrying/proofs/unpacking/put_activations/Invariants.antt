use Rattle.std.proofs.Common.{take}
use Rattle.ec_carrying.proofs.unpacking.put_activations.Given as goal
use Rattle.ec_carrying.specs.Unpacking.{Unpacked, activations_alone}
use Rattle.ec_parcels.specs.Classes.{ClassTable}
use Rattle.ec_stores.specs.Node.{store_of}

-- the first i activations have come
abbrev pub invariant-loop-i : goal.invariant-loop-i
invariant-loop-i l = (table : ClassTable) →
    Unpacked table l.tables (activations_alone (take l.i l.parts)) (store_of l.fn.node) (store_of l.node)
