use Rattle.std.proofs.Common.{◌≡◌, ◌++◌, drop}
use Rattle.ec_check.proofs.Along.{AlongMade}
use Rattle.ec_check.specs.Making.{env_of}
use Rattle.ec_check.specs.Program.{constants_core, constants_made}
use Rattle.ec_check.proofs.program.resolve_constants.Given as goal

abbrev pub invariant-loop-c : goal.invariant-loop-c
invariant-loop-c l = record {
  made : AlongMade l.initial.r l.r (constants_made l.initial.r.walk.scope (drop l.c-index l.constants))
      (constants_made l.initial.r.walk.scope l.constants);
  core : l.found ++ constants_core (env_of l.initial.r) l.number (drop l.c-index l.constants) ≡ constants_core (env_of l.initial.r)
      0 l.constants;
  number : l.number ≡ l.c-index;
}
