use Rattle.std.proofs.Common.{◌≡◌, drop, map}
use Rattle.ec_judge.specs.Programs.{faults_of}
use Rattle.ec_rules.specs.Faults.{constants_done}
use Rattle.ec_rules.specs.Lists.{each}
use Rattle.ec_rules.specs.Rules.{noted}
use Rattle.ec_rules.specs.Statements.{done_both, nothing_done}
use Rattle.ec_rules.specs.Tree.{constant_part}
use Rattle.ec_judge.proofs.program.judge_constants.Given as goal

abbrev pub invariant-loop-c : goal.invariant-loop-c
invariant-loop-c l =
    record {
      faults : noted l.walk.faults (each (faults_of l.initial.walk.scope) (map constant_part (drop l.c-index l.constants)))
          ≡ noted l.initial.walk.faults (each (faults_of l.initial.walk.scope) (map constant_part l.constants));
      done : done_both l.done (constants_done l.initial.walk.scope (map constant_part (drop l.c-index l.constants)))
          ≡ constants_done l.initial.walk.scope (map constant_part l.constants);
      fits : done_both l.done nothing_done ≡ l.done;
      scope : l.walk.scope ≡ l.initial.walk.scope;
    }
