use Rattle.std.proofs.Common.{List, [], take}
use Rattle.ec_carrying.proofs.Putting.{holding}
use Rattle.ec_carrying.proofs.unpacking.put_objects.Given as goal
use Rattle.ec_carrying.specs.Unpacking.{Unpacked}
use Rattle.ec_generate.specs.declared.table.OperationTable.{OperationTable}
use Rattle.ec_stores.specs.Node.{store_of}

-- the first i objects have come
abbrev pub invariant-loop-i : goal.invariant-loop-i
invariant-loop-i l = (tables : List OperationTable) →
    Unpacked l.numbers tables (holding l.contents.monitors (take l.i l.contents.objects) []) (store_of l.fn.node) (store_of l.node)
