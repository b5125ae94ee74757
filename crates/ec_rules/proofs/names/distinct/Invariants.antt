use Rattle.std.proofs.Common.{◌≡◌, drop, map}
use Rattle.ec_rules.specs.Doubled.{doubled, doubled_behind}
use Rattle.ec_rules.specs.Rules.{noted}
use Rattle.ec_rules.proofs.names.distinct.Given as goal

abbrev pub invariant-loop-name : goal.invariant-loop-name
invariant-loop-name l =
    noted l.faults (doubled_behind l.taken (map (λ name. name.now) (drop l.name-index l.names)))
    ≡ noted l.initial.faults (doubled (map (λ name. name.now) l.names))
