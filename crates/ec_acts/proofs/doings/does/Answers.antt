-- Each doing is done by its function, or leaves nodes alone.
use Rattle.std.proofs.Common.{refl}
use Rattle.ec_cluster.proofs.Answered.{if_ok, on_ok}
use Rattle.ec_acts.proofs.Stepping.{answered, done_nothing, named}
use Rattle.ec_acts.proofs.doings.does.Goals as goal
use Rattle.ec_world.specs.Outcomes.{only}
use Rattle.ec_world.specs.declared.doing.Doing.TheVariants.{Breaks, Finishes, Invokes, Passes}
use Rattle.ec_world.specs.declared.stop.Effect.TheVariants.{Calls, Ends, Fails, GoesOn}
use Rattle.ec_acts.proofs.Stepping.{always, same_nodes}

pub returns-in-Passes-clause-does : goal.returns-in-Passes-clause-does
returns-in-Passes-clause-does c = λ w mirrors. named c.in-Passes.is (answered c.only.ensures
    (done_nothing c.args.system.now w c.args.who mirrors (Passes c.in-Passes.given) (only (GoesOn c.in-Passes.given)) refl))

pub returns-in-Prints-clause-does : goal.returns-in-Prints-clause-does
returns-in-Prints-clause-does c = if_ok c.print.result
    (λ o does w mirrors. named c.in-Prints.is (does c.args.who w mirrors)) c.print.ensures.does

pub returns-in-Defines-clause-does : goal.returns-in-Defines-clause-does
returns-in-Defines-clause-does c = if_ok c.define.result
    (λ o does w mirrors. named c.in-Defines.is (does c.args.who w mirrors)) c.define.ensures.does

pub returns-in-Stores-clause-does : goal.returns-in-Stores-clause-does
returns-in-Stores-clause-does c = if_ok c.store.result
    (λ o does w mirrors. named c.in-Stores.is (does c.args.who w mirrors)) c.store.ensures.does

pub returns-in-Invokes-clause-does : goal.returns-in-Invokes-clause-does
returns-in-Invokes-clause-does c = λ w mirrors. named c.in-Invokes.is (answered c.only-in-Invokes.ensures
    (done_nothing c.args.system.now w c.args.who mirrors (Invokes c.in-Invokes.op c.in-Invokes.own c.in-Invokes.args)
    (only (Calls c.in-Invokes.op c.in-Invokes.own c.in-Invokes.args)) refl))

pub returns-in-Unfixes-clause-does : goal.returns-in-Unfixes-clause-does
returns-in-Unfixes-clause-does c = λ w mirrors. named c.in-Unfixes.is (c.unfix.ensures.does c.args.who w mirrors)

pub returns-in-Finishes-clause-does : goal.returns-in-Finishes-clause-does
returns-in-Finishes-clause-does c = λ w mirrors. named c.in-Finishes.is (answered c.only-in-Finishes.ensures
    (done_nothing c.args.system.now w c.args.who mirrors Finishes (only Ends) refl))

pub returns-in-Breaks-clause-does : goal.returns-in-Breaks-clause-does
returns-in-Breaks-clause-does c = λ w mirrors. named c.in-Breaks.is (answered c.only-in-Breaks.ensures
    (done_nothing c.args.system.now w c.args.who mirrors (Breaks c.in-Breaks.cause c.in-Breaks.line)
    (only (Fails c.in-Breaks.cause c.in-Breaks.line)) refl))

pub returns-in-Prints-clause-texts : goal.returns-in-Prints-clause-texts
returns-in-Prints-clause-texts c = on_ok c.print.result (λ same brings. same_nodes c.args.system.now.cluster c.print.new.system.cluster
    same)
    (always c.print.result c.print.ensures.cluster)
