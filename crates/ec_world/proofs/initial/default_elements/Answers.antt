use Rattle.std.proofs.Common.{arith}
use Rattle.std.proofs.lemmas.Grind.{common_steps}
use Rattle.ec_world.specs.Values.{default_of}
use Rattle.ec_world.proofs.Defaults.{replicate_next}
use Rattle.ec_world.proofs.initial.default_elements.Goals as goal

pub loop-preserved : goal.loop-preserved
loop-preserved c =
    let next = replicate_next c.loop.counter (default_of c.args.of) in
    grind (arith, common_steps, next)
