use Rattle.std.proofs.Common.{sym, ◌∙◌, arith}
use Rattle.ec_report.proofs.Choosing.{next_going, step_finished, step_spent, step_stuck, step_turn}
use Rattle.ec_report.proofs.step.robin_step.Goals as goal

pub returns-then-are_over-clause-step : goal.returns-then-are_over-clause-step
returns-then-are_over-clause-step g c = λ start schedule budget statuses progress stands.
    let over = c.in_ok-are_over.ensures.over start schedule budget statuses progress stands in
    step_finished statuses c.args.budget c.args.done c.args.last (sym over ∙ c.if-are_over.true)

pub returns-else-are_over-clause-step : goal.returns-else-are_over-clause-step
returns-else-are_over-clause-step g c = λ start schedule budget statuses progress stands.
    let over = c.in_ok-are_over.ensures.over start schedule budget statuses progress stands in
    let next = c.in_ok-p.ensures.next start schedule budget statuses progress stands in
    step_stuck statuses c.args.budget c.args.done c.args.last (sym over ∙ c.if-are_over.false) (sym next ∙ c.in_default.is)

pub returns-then-done-budget-clause-step : goal.returns-then-done-budget-clause-step
returns-then-done-budget-clause-step g c = λ start schedule budget statuses progress stands.
    let next = sym (c.in_ok-p.ensures.next start schedule budget statuses progress stands) ∙ c.in-Some.is in
    let going = next_going statuses c.args.last c.in-Some.p next in
    step_spent statuses c.args.budget c.args.done c.args.last going c.in-Some.p next (omega arith)

pub returns-clause-step : goal.returns-clause-step
returns-clause-step g c = λ start schedule budget statuses progress stands.
    let next = sym (c.in_ok-p.ensures.next start schedule budget statuses progress stands) ∙ c.in-Some.is in
    let going = next_going statuses c.args.last c.in-Some.p next in
    step_turn statuses c.args.budget c.args.done c.args.last going c.in-Some.p next (omega arith)
