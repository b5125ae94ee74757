use Rattle.std.proofs.Common.{◌≡◌, List, take}
use Rattle.ec_parcels.proofs.mover.objects.fields_of.Given as goal
use Rattle.ec_parcels.specs.Objects.{AreFields}
use Rattle.ec_stores.specs.Node.{store_of}
use Rattle.ec_world.specs.declared.value.Value.{Value}

-- the fields so far are the first ones, by whatever values the words are read
abbrev pub invariant-loop-i : goal.invariant-loop-i
invariant-loop-i l =
    (values : List Value) → AreFields l.classes (store_of l.node) l.oid l.object.class l.object.size values → l.values ≡ take l.i values
