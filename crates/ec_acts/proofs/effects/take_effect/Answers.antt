-- Each effect comes by its own function.
use Rattle.std.proofs.Common.{sym, ap, ◌∙◌}
use Rattle.std.specs.Prelude.{option_copied}
use Rattle.ec_cluster.proofs.Answered.{on_ok}
use Rattle.ec_acts.proofs.Taken.{blocks_taken, taken_as}
use Rattle.ec_acts.proofs.effects.take_effect.Goals as goal
use Rattle.ec_world.specs.declared.process.ProcStatus.TheVariants.{Ended, Failed, Ready}
use Rattle.ec_world.specs.declared.stop.Effect.TheVariants.{Blocks, Calls, Ends, Fails, GoesOn, Leaves}

pub returns-in-GoesOn : goal.returns-in-GoesOn
returns-in-GoesOn c = on_ok c.go_on.result
    (λ takes.
    taken_as c.args.cluster.now c.go_on.new.cluster c.args.who c.args.effect (GoesOn (option_copied c.as_ref.result))
    (ap GoesOn c.as_ref.ensures.value ∙ sym c.in-GoesOn.is)
    (λ d w below top t. takes d w below top Ready t))
    c.go_on.ensures

pub returns-in-Calls : goal.returns-in-Calls
returns-in-Calls c = on_ok c.call.result
    (λ takes.
    taken_as c.args.cluster.now c.call.new.cluster c.args.who c.args.effect (Calls c.in-Calls.op c.in-Calls.own c.as_slice.result.now)
    (ap (Calls c.in-Calls.op c.in-Calls.own) c.as_slice.ensures ∙ sym c.in-Calls.is)
    (λ d w below top t. takes d w below top Ready t))
    c.call.ensures

pub returns-in-Leaves : goal.returns-in-Leaves
returns-in-Leaves c = on_ok c.leave.result
    (λ takes.
    taken_as c.args.cluster.now c.leave.new.cluster c.args.who c.args.effect (Leaves (option_copied c.as_ref-in-Leaves.result))
    (ap Leaves c.as_ref-in-Leaves.ensures.value ∙ sym c.in-Leaves.is)
    (λ d w below top t. takes d w below top Ready t))
    c.leave.ensures

pub returns-in-Blocks : goal.returns-in-Blocks
returns-in-Blocks c = on_ok c.go_on-in-Blocks.result
    (λ takes.
    taken_as c.args.cluster.now c.go_on-in-Blocks.new.cluster c.args.who c.args.effect (Blocks c.in-Blocks.queue c.in-Blocks.own)
    (sym c.in-Blocks.is)
    (blocks_taken c.args.cluster.now c.go_on-in-Blocks.new.cluster c.args.who c.in-Blocks.queue c.in-Blocks.own takes))
    c.go_on-in-Blocks.ensures

pub returns-in-Ends : goal.returns-in-Ends
returns-in-Ends c =
    taken_as c.args.cluster.now c.close_all.new.cluster c.args.who c.args.effect Ends (sym c.in-Ends.is)
    (λ d w below top t. c.close_all.ensures w below top Ended t.shows_top)

pub returns-in-Fails : goal.returns-in-Fails
returns-in-Fails c =
    taken_as c.args.cluster.now c.close_all-in-Fails.new.cluster c.args.who c.args.effect (Fails c.in-Fails.cause c.in-Fails.line)
    (sym c.in-Fails.is)
    (λ d w below top t. c.close_all-in-Fails.ensures w below top (Failed c.in-Fails.cause c.in-Fails.line) t.shows_top)
