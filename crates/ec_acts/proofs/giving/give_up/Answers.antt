-- Where a process fails its monitors are dropped.
use Rattle.std.proofs.Common.{◌∙◌}
use Rattle.ec_cluster.proofs.Answered.{if_ok}
use Rattle.ec_code.specs.Activations.{code_meaning}
use Rattle.ec_acts.proofs.Unfailing.{gives_all, gives_nothing}
use Rattle.ec_acts.proofs.giving.give_up.Goals as goal
use Rattle.ec_world.specs.World.{owns_of}

pub returns-in_ok-owns-in-Fails-clause-gives : goal.returns-in_ok-owns-in-Fails-clause-gives
returns-in_ok-owns-in-Fails-clause-gives c =
    if_ok c.drop_each.result
    (λ freed shows w below top t.
    gives_all c.drop_each.new.cluster w c.args.who.process (owns_of code_meaning below top) freed c.args.effect.now c.in-Fails.cause
    c.in-Fails.line c.as_slice.result.now c.in-Fails.is (c.as_slice.ensures ∙ c.in_ok-owns-in-Fails.ensures w below top t)
    (shows w t.shows))
    c.drop_each.ensures.shows

pub returns-in-GoesOn-clause-gives : goal.returns-in-GoesOn-clause-gives
returns-in-GoesOn-clause-gives c = λ w below top t.
    gives_nothing c.args.cluster.now w c.args.who.process (owns_of code_meaning below top) c.new.result c.args.effect.now c.in-GoesOn.is
    t.shows c.new.ensures
