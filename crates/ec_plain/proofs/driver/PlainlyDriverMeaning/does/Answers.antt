use Rattle.ec_world.specs.declared.run.RunEntry.TheVariants.{TurnOf, MoveOf}
use Rattle.ec_plain.proofs.Driven.{driven_on}
use Rattle.ec_plain.proofs.driver.PlainlyDriverMeaning.does.Goals as goal

pub returns-in_ok-turn-in-TurnOf-clause-done : goal.returns-in_ok-turn-in-TurnOf-clause-done
returns-in_ok-turn-in-TurnOf-clause-done c = λ start schedule budget statuses progress stands next.
    driven_on start c.args.m.now c.turn.new.self schedule budget statuses progress c.args.entry (TurnOf c.in-TurnOf.p) c.in-TurnOf.is
    c.turn.ensures.program c.in_ok-turn-in-TurnOf.ensures.world stands next

pub returns-in_ok-operator_move-in-MoveOf-clause-done : goal.returns-in_ok-operator_move-in-MoveOf-clause-done
returns-in_ok-operator_move-in-MoveOf-clause-done c = λ start schedule budget statuses progress stands next.
    driven_on start c.args.m.now c.operator_move.new.self schedule budget statuses progress c.args.entry
    (MoveOf c.in-MoveOf.o c.in-MoveOf.k) c.in-MoveOf.is
    c.operator_move.ensures.program c.in_ok-operator_move-in-MoveOf.ensures.world stands next
