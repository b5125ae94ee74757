use Rattle.std.proofs.Common.{◌≡◌}
use Rattle.ec_meaning.specs.Meaning.{settle}
use Rattle.ec_meaning.specs.Sources.{source_of}
use Rattle.ec_meaning.specs.Weights.{weight}
use Rattle.ec_meaning.proofs.Settling.{gets_lighter, goes, rests, stuck}
use Rattle.ec_meaning.proofs.settle.settle.Goals as goal

pub loop-item-preserved : goal.loop-item-preserved
loop-item-preserved c =
    goes (source_of c.args.program.now) c.args.whose c.loop-item.state c.step.new.state c.in-Some.item c.loop-item.todo
    c.pop.new.self c.step.new.todo c.in_ok-step.field-0
    (settle (source_of c.args.program.now) c.args.whose (weight c.args.todo.now) c.args.state.now c.args.todo.now)
    c.in-Some.ensures c.in_ok-step.ensures c.in-Goes.is c.loop-item.invariant

pub loop-item-smaller : goal.loop-item-smaller
loop-item-smaller c =
    gets_lighter (source_of c.args.program.now) c.args.whose c.loop-item.state c.step.new.state c.in-Some.item c.loop-item.todo
    c.pop.new.self c.step.new.todo c.in_ok-step.field-0
    c.in-Some.ensures c.in_ok-step.ensures c.in-Goes.is

pub returns-in-Rests : goal.returns-in-Rests
returns-in-Rests c =
    rests (source_of c.args.program.now) c.args.whose c.loop-item.state c.step.new.state c.in-Some.item c.loop-item.todo
    c.pop.new.self c.step.new.todo c.in_ok-step.field-0
    (settle (source_of c.args.program.now) c.args.whose (weight c.args.todo.now) c.args.state.now c.args.todo.now)
    c.in-Rests.stop c.in-Rests.operands
    c.in-Some.ensures c.in_ok-step.ensures c.in-Rests.is c.loop-item.invariant

pub returns-in-NoCase : goal.returns-in-NoCase
returns-in-NoCase c =
    stuck (source_of c.args.program.now) c.args.whose c.loop-item.state c.step.new.state c.in-Some.item c.loop-item.todo
    c.pop.new.self c.step.new.todo c.in_ok-step.field-0
    (settle (source_of c.args.program.now) c.args.whose (weight c.args.todo.now) c.args.state.now c.args.todo.now)
    c.in-Some.ensures c.in_ok-step.ensures c.in-NoCase.is c.loop-item.invariant
