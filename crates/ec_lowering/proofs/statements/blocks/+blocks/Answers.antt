use Rattle.std.proofs.Common.{◌≡◌, ◌-◌, List, ◌++◌, drop, OnOk, sym, ap, subst, ◌∙◌, arith}
use Rattle.ec_code.specs.declared.code.Op.{Op}
use Rattle.ec_emission.specs.Statements.{leave_ops}
use Rattle.ec_expressions.proofs.Whole.{on_ok}
use Rattle.ec_lowering.proofs.Forms.{arm_made, arms_made, block_of, choice_is, done_of, from_item, one_more_arm}
use Rattle.ec_lowering.proofs.Forms.{one_statement}
use Rattle.ec_lowering.proofs.Turning.{stands_within, turned_back}
use Rattle.ec_lowering.specs.Blocks.{block_by, statements_by}
use Rattle.ec_lowering.proofs.statements.blocks.+blocks.Goals as goal

pub all_arms-loop-n-preserved : goal.all_arms-loop-n-preserved
all_arms-loop-n-preserved t c =
    let m = c.args.m.now in
    let leaves = leave_ops c.args.o.now in
    let n = c.loop-n.n - 1 in
    let a = c.index-arms-n.result in
    let split = from_item c.args.arms.now n c.loop-n.n a (omega arith) (omega arith) c.index-arms-n.is in
    rw split
    (one_more_arm m leaves a (drop c.loop-n.n c.args.arms.now) c.args.passed c.args.left c.len-end.result c.since.result
    c.in_ok-behind.behind c.args.out.now c.loop-n.out c.arm.new.out c.len-end.ensures c.since.ensures c.in_ok-behind.ensures
    c.loop-n.invariant c.in_ok-arm.ensures)

pub all_statements-loop-n-preserved : goal.all_statements-loop-n-preserved
all_statements-loop-n-preserved t c =
    let m = c.args.m.now in
    let leaves = leave_ops c.args.o.now in
    let n = c.loop-n.n - 1 in
    let x = c.index-xs-n.result in
    let split = from_item c.args.xs.now n c.loop-n.n x (omega arith) (omega arith) c.index-xs-n.is in
    rw split
    (one_statement m leaves x (drop c.loop-n.n c.args.xs.now) c.args.left c.len-end.result c.since.result
    c.in_ok-further.further c.args.out.now c.loop-n.out c.statement.new.out c.len-end.ensures c.since.ensures
    c.in_ok-further.ensures c.loop-n.invariant c.in_ok-statement.ensures)

pub arm-returns : goal.arm-returns
arm-returns t c =
    on_ok c.decide.result
    (arm_made c.args.m.now (leave_ops c.args.o.now) c.args.a.now c.args.passed c.args.left c.len-end.result c.since.result
    c.in_ok-around.around c.in_ok-further.further c.since-steps.result c.args.out.now c.jump_over.new.out c.block.new.out
    c.decide.new.out c.len-end.ensures c.in_ok-jump_over.ensures c.in_ok-around.ensures c.since.ensures
    c.in_ok-further.ensures c.in_ok-block.ensures c.since-steps.ensures)
    c.decide.ensures

pub block-returns : goal.block-returns
block-returns t c =
    let m = c.args.m.now in
    let leaves = leave_ops c.args.o.now in
    let old = c.args.out.now in
    on_ok c.all_statements.result
    (λ e.
    e
    ∙ ap (λ xs. statements_by m leaves xs c.args.left ++ old) c.as_slice.ensures
    ∙ ap (λ code. code ++ old) (sym (block_of m leaves c.args.b.now c.args.left)))
    c.all_statements.ensures

pub statement-returns : goal.statement-returns
statement-returns t c =
    subst
    (λ (code : List Op). OnOk c.statement_by_form.result (c.statement_by_form.new.out ≡ code ++ c.args.out.now))
    (sym (done_of c.args.m.now (leave_ops c.args.o.now) c.args.x.now c.args.left)) c.statement_by_form.ensures

pub statement_by_form-returns-in_ok-other_arm-in-If : goal.statement_by_form-returns-in_ok-other_arm-in-If
statement_by_form-returns-in_ok-other_arm-in-If t c =
    let m = c.args.m.now in
    let leaves = leave_ops c.args.o.now in
    let old = c.args.out.now in
    let arms = c.as_slice.result.now in
    let is = choice_is m leaves c.args.x.now arms c.in-If.arms c.in-If.other c.args.left c.in-If.is c.as_slice.ensures in
    on_ok c.all_arms.result
    (λ e.
    arms_made m leaves arms c.in-If.other c.args.left c.len-end.result c.since-passed.result old c.other_arm.new.out
    c.all_arms.new.out c.len-end.ensures c.in_ok-other_arm-in-If.ensures c.since-passed.ensures e
    ∙ ap (λ code. code ++ old) is)
    c.all_arms.ensures

pub turns-replace-requires : goal.turns-replace-requires
turns-replace-requires t c =
    let inner = (block_by c.args.m.now (leave_ops c.args.o.now) c.args.body.now).code 1 in
    stands_within inner c.args.out.now c.before-2.new.self c.block.new.out c.len-end.result c.len-end.ensures
    c.in_ok-before.ensures c.in_ok-block.ensures

pub turns-returns : goal.turns-returns
turns-returns t c =
    let inner = (block_by c.args.m.now (leave_ops c.args.o.now) c.args.body.now).code 1 in
    on_ok c.bare.result
    (turned_back inner c.args.out.now c.before-2.new.self c.block.new.out c.len-end.result c.len-end.ensures
    c.in_ok-before.ensures c.in_ok-block.ensures c.replace.new.self c.bare.new.out c.in_ok-back.back
    (c.in_ok-back.ensures ∙ c.since-steps.ensures) c.replace.ensures)
    c.bare.ensures
