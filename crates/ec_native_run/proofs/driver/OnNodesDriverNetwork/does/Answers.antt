-- What the network answers to an entry.
use Rattle.ec_native_run.proofs.Following.{may_move, move_refused, moved_done, turn_done, turn_refused}
use Rattle.ec_native_run.proofs.driver.OnNodesDriverNetwork.does.Goals as goal

pub turn-requires : goal.turn-requires
turn-requires c = record { few = may_move c.args.self.now.specs.now c.args.net.now c.args.entry c.requires }

pub operator_move-requires : goal.operator_move-requires
operator_move-requires c = record { few = may_move c.args.self.now.specs.now c.args.net.now c.args.entry c.requires }

pub returns-in-Ok-clause-done : goal.returns-in-Ok-clause-done
returns-in-Ok-clause-done c =
    turn_done c.args.self.now.specs.now c.args.net.now c.turn.new.self c.turn.ensures.numbers c.args.entry c.in-TurnOf.p c.in-TurnOf.is
    c.in-Ok.field-0
    c.in-Ok.ensures.turned.1 c.in-Ok.ensures.moves

pub returns-in-Err-clause-refused : goal.returns-in-Err-clause-refused
returns-in-Err-clause-refused c =
    turn_refused c.args.self.now.specs.now c.args.net.now c.turn.new.self c.turn.ensures.numbers c.args.entry c.in-TurnOf.p c.in-TurnOf.is
    c.in-Err.e
    c.refusal_of.result c.refusal_of.ensures c.in-Err.ensures.refused

pub returns-in-Ok-operator_move-clause-done : goal.returns-in-Ok-operator_move-clause-done
returns-in-Ok-operator_move-clause-done c =
    moved_done c.args.self.now.specs.now c.args.net.now c.operator_move.new.self c.operator_move.ensures.numbers c.args.entry c.in-MoveOf.o c.in-MoveOf.k c.in-MoveOf.is
    c.in-Ok-operator_move.field-0 c.in-Ok-operator_move.ensures.moved.1
    c.in-Ok-operator_move.ensures.moves

pub returns-in-Err-operator_move-clause-refused : goal.returns-in-Err-operator_move-clause-refused
returns-in-Err-operator_move-clause-refused c =
    move_refused c.args.self.now.specs.now c.args.net.now c.operator_move.new.self c.operator_move.ensures.numbers c.args.entry c.in-MoveOf.o c.in-MoveOf.k c.in-MoveOf.is
    c.in-Err-operator_move.e c.refusal_of-in-Err-operator_move.result c.refusal_of-in-Err-operator_move.ensures
    c.in-Err-operator_move.ensures.refused
