use Rattle.std.proofs.Common.{◌≡◌, ◌+◌, drop, sym, subst, ap, ◌∙◌, arith}
use Rattle.ec_code.specs.Activations.{walk}
use Rattle.ec_code.specs.Steps.{act}
use Rattle.ec_code.specs.declared.code.Line.{Line}
use Rattle.ec_stepping.proofs.Walked.{goes, loops, there}
use Rattle.ec_stepping.specs.Stepping.{Looping, On, after, as_machine}
use Rattle.ec_stepping.proofs.walking.walk.Goals as goal

pub loop-at-preserved : goal.loop-at-preserved
loop-at-preserved c =
    let next : c.in-Some.next ≡ c.loop-at.at + (1 + c.in-Goes.over) = omega (arith, c.in-Some.ensures) in
    let old = as_machine c.loop-at.m in
    let new = as_machine c.step.new.m in
    let line = c.index-code-at.result in
    let at = there c.args.code.now c.loop-at.at line (omega arith) c.index-code-at.is in
    let step = subst (λ (l : Line). On new c.in-Goes.over ≡ after old (act c.args.literals.now c.args.own old l.op))
    (sym c.index-code-at.is) (rw c.in-Goes.is at c.in_ok-over.ensures) in
    ap (λ k. walk c.args.literals.now c.args.own k (drop k c.args.code.now) 0 new) next
    ∙ goes c.args.literals.now c.args.own c.args.code.now c.loop-at.at line at old new c.in-Goes.over step
    ∙ c.loop-at.invariant

pub returns-in-Loops : goal.returns-in-Loops
returns-in-Loops c =
    let old = as_machine c.loop-at.m in
    let new = as_machine c.step.new.m in
    let line = c.index-code-at.result in
    let at = there c.args.code.now c.loop-at.at line (omega arith) c.index-code-at.is in
    let step = subst (λ (l : Line). Looping new c.in-Loops.back ≡ after old (act c.args.literals.now c.args.own old l.op))
    (sym c.index-code-at.is) (rw c.in-Loops.is at c.in_ok-over.ensures) in
    c.in_ok-loop_top-in-Loops.ensures c.step.new.m
    ∙ sym (loops c.args.literals.now c.args.own c.args.code.now c.loop-at.at line at old new c.in-Loops.back step)
    ∙ c.loop-at.invariant
