use Rattle.std.proofs.Common.{◌+◌, ◌++◌, refl, ap, ◌∙◌}
use Rattle.ec_check.proofs.Along.{along_first, found_end, made_in, over_end, over_next}
use Rattle.ec_check.proofs.Programs.{constant_found}
use Rattle.ec_check.specs.Making.{env_of}
use Rattle.ec_check.specs.Program.{constant_core, constant_made, constants_core, constants_made}
use Rattle.ec_check.proofs.program.resolve_constants.Goals as goal

pub loop-c-init : goal.loop-c-init
loop-c-init c = record {
  made = along_first c.args.r.now (constants_made c.args.r.now.walk.scope c.args.constants.now);
  core = ap (λ f. f ++ constants_core (env_of c.args.r.now) 0 c.args.constants.now) c.new-found.ensures;
  number = refl;
}

pub loop-c-preserved : goal.loop-c-preserved
loop-c-preserved c =
    let env = env_of c.args.r.now in
    let x = c.c-item.result in
    let made = c.loop-c.invariant.made in
    record {
      made =
          over_next (λ y. constant_made env.scope y.value) (constants_made env.scope) (λ y ys. refl) c.args.constants.now
          c.loop-c.c-index x c.loop-c-test.true
          c.c-item.is made (made_in (λ z. constant_made z x.value) made c.in_ok-resolve_constant.ensures.made);
      core =
          constant_found env c.loop-c.number c.loop-c.found c.resolve_constant.new.found _ c.args.constants.now c.loop-c.c-index x
          c.loop-c-test.true c.c-item.is
          c.in_ok-resolve_constant.ensures.core (ap (λ z. constant_core z c.loop-c.number x x.value) made.place)
          ∙ c.loop-c.invariant.core;
      number = ap (λ n. n + 1) c.loop-c.invariant.number;
    }

pub returns-clause-core : goal.returns-clause-core
returns-clause-core c =
    found_end (constants_core (env_of c.args.r.now) c.loop-c.number) refl c.loop-c.found c.args.constants.now c.loop-c.c-index
    c.loop-c-test.false
    ∙ c.loop-c.invariant.core

pub returns-clause-made : goal.returns-clause-made
returns-clause-made c =
    let scope = c.args.r.now.walk.scope in
    over_end (λ y. constant_made scope y.value) (constants_made scope) (λ y ys. refl) c.args.constants.now c.loop-c.c-index refl
    c.loop-c-test.false
    c.loop-c.invariant.made
