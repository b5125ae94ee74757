use Rattle.std.proofs.Common.{map, refl, sym, ap, ◌∙◌}
use Rattle.ec_rules.specs.Faults.{constants_done, faults_in_constant, value_done}
use Rattle.ec_rules.specs.Rules.{noted}
use Rattle.ec_rules.specs.Statements.{done_both, nothing_done}
use Rattle.ec_rules.specs.Tree.{constant_part, value_part}
use Rattle.ec_judge.proofs.Along.{fits_next}
use Rattle.ec_judge.proofs.Programs.{constant_done_next, constant_faults_next, constants_done_first}
use Rattle.ec_judge.proofs.program.judge_constants.Goals as goal

pub loop-c-init : goal.loop-c-init
loop-c-init c =
    let cs = map constant_part c.args.constants.now in
    record {
      faults = refl;
      done = ap (λ d. done_both d (constants_done c.args.walk.now.scope cs)) c.nothing-done.ensures
          ∙ constants_done_first c.args.walk.now.scope cs;
      fits = ap (λ d. done_both d nothing_done) c.nothing-done.ensures ∙ sym c.nothing-done.ensures;
      scope = refl;
    }

pub loop-c-preserved : goal.loop-c-preserved
loop-c-preserved c =
    let scope = c.args.walk.now.scope in
    let x = c.c-item.result in
    let faults = c.in_ok-judge_constant.ensures.faults
    ∙ ap (λ s. noted c.loop-c.walk.faults (faults_in_constant s x.name x.of (value_part x.value))) c.loop-c.invariant.scope in
    let done = c.both-done.ensures
    ∙ ap (done_both c.loop-c.done) (c.in_ok-judge_constant.ensures.done
    ∙ ap (λ s. value_done s (value_part x.value)) c.loop-c.invariant.scope) in
    record {
      faults = constant_faults_next scope c.args.constants.now c.loop-c.c-index x c.loop-c-test.true c.c-item.is c.loop-c.walk.faults
          c.judge_constant.new.walk.faults faults
          ∙ c.loop-c.invariant.faults;
      done = constant_done_next scope c.args.constants.now c.loop-c.c-index x c.loop-c-test.true c.c-item.is c.loop-c.done
          c.both-done.result done
          ∙ c.loop-c.invariant.done;
      fits = fits_next c.loop-c.done c.in_ok-judge_constant.field-0 c.both-done.result c.both-done.ensures;
      scope = c.in_ok-judge_constant.ensures.scope ∙ c.loop-c.invariant.scope;
    }
