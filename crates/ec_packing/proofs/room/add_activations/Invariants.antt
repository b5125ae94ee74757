use Rattle.std.proofs.Common.{◌≡◌, ◌++◌, take}
use Rattle.std.specs.List.{flat_map}
use Rattle.ec_packing.proofs.room.add_activations.Given as goal

abbrev pub invariant-loop-activation : goal.invariant-loop-activation
invariant-loop-activation l =
    l.values.items ≡ l.initial.values.items ++ flat_map (λ a. a.values) (take l.activation-index l.activations)
