-- What is told of room is what both steps ask for, or why nothing is done.
use Rattle.std.proofs.Common.{refl}
use Rattle.ec_network.proofs.Finding.{finds_full}
use Rattle.ec_network.proofs.KernelTold.{none_told, some_told}
use Rattle.ec_network.proofs.kernel.acting.perform_here.Goals as goal

pub both_steps-requires-clause-room : goal.both_steps-requires-clause-room
both_steps-requires-clause-room c = λ d w below top runs asks.
    (none_told c.in-Ok-None.field-0 c.in-Ok-None.field-0-is c.in-Ok-None.ensures.fits d w below top runs asks).1

pub returns-in-Ok-Some-clause-refused : goal.returns-in-Ok-Some-clause-refused
returns-in-Ok-Some-clause-refused c = λ d w a. record {
  same = refl;
  finds = finds_full d c.args.system.now w c.args.who c.args.doing a c.in-Ok-Some.lack c.requires.stays
      (some_told _ c.in-Ok-Some.field-0 c.in-Ok-Some.lack c.in-Ok-Some.field-0-is c.in-Ok-Some.ensures.full d w a.below a.top a.goes.runs
      a.asks);
}
