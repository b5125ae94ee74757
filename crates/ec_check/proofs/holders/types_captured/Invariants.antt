use Rattle.std.proofs.Common.{◌≡◌, ◌++◌, drop, map}
use Rattle.ec_check.specs.Places.{type_found}
use Rattle.ec_types.specs.Scopes.{find}
use Rattle.ec_check.proofs.holders.types_captured.Given as goal

abbrev pub invariant-loop-i : goal.invariant-loop-i
invariant-loop-i l =
    l.types ++ map (λ name. type_found (find l.scope name)) (drop l.i l.captures)
    ≡ map (λ name. type_found (find l.scope name)) l.captures
