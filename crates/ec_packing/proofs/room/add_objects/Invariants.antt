use Rattle.std.proofs.Common.{◌≡◌, ◌++◌, take}
use Rattle.std.specs.List.{flat_map}
use Rattle.ec_packing.proofs.room.add_objects.Given as goal

abbrev pub invariant-loop-object : goal.invariant-loop-object
invariant-loop-object l = l.values.items ≡ l.initial.values.items ++ flat_map (λ o. o.values) (take l.object-index l.objects)
