-- By what is given, and whether it is taken.
use Rattle.std.proofs.Common.{◌≡◌, ℕ, Bor, Option, Some, option_copied, sym, subst}
use Rattle.std.specs.Prelude.{Err, Ok, OnOk, Result}
use Rattle.ec_code.specs.declared.code.Live.{Live}
use Rattle.ec_machine_code.specs.Frames.{home_word}
use Rattle.ec_node_frames.proofs.Done.{nothing_given, nothing_waits}
use Rattle.ec_node_frames.proofs.Given.{texts_given, value_given}
use Rattle.ec_node_frames.proofs.finish.finish_frame.Goals as goal
use Rattle.ec_node_frames.specs.Finishing.{FinishesFrame, Gives, IsTaken}
use Rattle.ec_generate.specs.Tables.{home_in}
use Rattle.ec_generate.specs.declared.table.OperationTable.{OperationTable}
use Rattle.ec_generate.specs.declared.table.StopEntry.{StopEntry}
use Rattle.ec_stores.specs.Node.{store_of}
use Rattle.ec_things.specs.Store.{Store}
use Rattle.ec_things.specs.Texts.{GetsTexts}
use Rattle.ec_world.specs.declared.value.Value.{Value}

finishes_if : {X E : Type 0} (s s' : Store) (process depth : ℕ) (table : OperationTable) (e : StopEntry) (l : Live) (v : Value)
    (r : Result X E) → e.result ≡ Some l → OnOk r (Gives s s' process depth (home_word (home_in table l.variable)) v) →
    OnOk r (FinishesFrame s s' table e process depth (Some v))
finishes_if s s' process depth table e l v (Ok x) is gives = value_given s s' process depth table e l is v gives
finishes_if s s' process depth table e l v (Err x) is gives = tt

gets_if : {X E : Type 0} (s s' : Store) (process depth at : ℕ) (t : Option Live) (l : Live) (v : Value) (r : Result X E) → t ≡ Some l →
    OnOk r (Gives s s' process depth at v) → OnOk r (GetsTexts (IsTaken t (Some v)) s s')
gets_if s s' process depth at t l v (Ok x) is gives = texts_given s s' process depth at t l v is gives
gets_if s s' process depth at t l v (Err x) is gives = tt

pub returns-in-None-clause-puts : goal.returns-in-None-clause-puts
returns-in-None-clause-puts c =
    subst
    (λ (g : Option (Bor Value)).
    FinishesFrame (store_of c.args.node.now) (store_of c.end_action.new.node) c.args.table.now c.args.entry.now c.args.process c.args.depth
    (option_copied g))
    (sym c.in-None.is)
    (nothing_given (store_of c.args.node.now) (store_of c.end_action.new.node) c.args.process c.args.depth c.end_action.ensures.writes
    c.end_action.ensures.tidy c.args.table.now c.args.entry.now)

pub returns-in-None-result-clause-puts : goal.returns-in-None-result-clause-puts
returns-in-None-result-clause-puts c =
    subst
    (λ (g : Option (Bor Value)).
    FinishesFrame (store_of c.args.node.now) (store_of c.end_action-in-None-result.new.node) c.args.table.now c.args.entry.now
    c.args.process c.args.depth (option_copied g))
    (sym c.in-Some.is)
    (nothing_waits (store_of c.args.node.now) (store_of c.end_action-in-None-result.new.node) c.args.process c.args.depth
    c.end_action-in-None-result.ensures.writes c.end_action-in-None-result.ensures.tidy c.args.table.now c.args.entry.now
    c.in-Some.value.now c.in-None-result.is)

pub returns-in-Some-result-clause-puts : goal.returns-in-Some-result-clause-puts
returns-in-Some-result-clause-puts c =
    subst
    (λ (g : Option (Bor Value)).
    OnOk c.give.result
    (FinishesFrame (store_of c.args.node.now) (store_of c.give.new.node) c.args.table.now c.args.entry.now c.args.process c.args.depth
    (option_copied g)))
    (sym c.in-Some.is)
    (finishes_if (store_of c.args.node.now) (store_of c.give.new.node) c.args.process c.args.depth c.args.table.now c.args.entry.now
    c.in-Some-result.taker c.in-Some.value.now c.give.result c.in-Some-result.is c.give.ensures.gives)

pub returns-in-Some-result-clause-gets : goal.returns-in-Some-result-clause-gets
returns-in-Some-result-clause-gets c =
    subst
    (λ (g : Option (Bor Value)).
    OnOk c.give.result
    (GetsTexts (IsTaken c.args.entry.now.result (option_copied g)) (store_of c.args.node.now) (store_of c.give.new.node)))
    (sym c.in-Some.is)
    (gets_if (store_of c.args.node.now) (store_of c.give.new.node) c.args.process c.args.depth
    (home_word (home_in c.args.table.now c.in-Some-result.taker.variable)) c.args.entry.now.result c.in-Some-result.taker
    c.in-Some.value.now c.give.result c.in-Some-result.is c.give.ensures.gives)
