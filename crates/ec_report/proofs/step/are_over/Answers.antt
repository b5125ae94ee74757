use Rattle.std.proofs.Common.{sym, ◌∙◌, refl, arith}
use Rattle.ec_base.proofs.Lists.{get_within}
use Rattle.ec_report.proofs.Choosing.{over_end, over_here, over_past}
use Rattle.ec_report.proofs.step.are_over.Goals as goal

pub loop-p-init : goal.loop-p-init
loop-p-init g c = λ start schedule budget statuses progress stands. (refl, omega arith)

pub returns-in-None-clause-over : goal.returns-in-None-clause-over
returns-in-None-clause-over g c = λ start schedule budget statuses progress stands.
    let at = c.in-None.ensures start schedule budget statuses progress stands in
    let so_far = c.loop-p.invariant start schedule budget statuses progress stands in
    sym (so_far.0 ∙ over_end statuses c.loop-p.p (sym at))

pub returns-then-not-is_over-clause-over : goal.returns-then-not-is_over-clause-over
returns-then-not-is_over-clause-over g c = λ start schedule budget statuses progress stands.
    let at = c.in-Some.ensures start schedule budget statuses progress stands in
    let so_far = c.loop-p.invariant start schedule budget statuses progress stands in
    sym (so_far.0 ∙ over_here statuses c.loop-p.p c.in-Some.status (sym at) (sym c.if-not-is_over.ensures))

pub loop-p-preserved : goal.loop-p-preserved
loop-p-preserved g c = λ start schedule budget statuses progress stands.
    let at = c.in-Some.ensures start schedule budget statuses progress stands in
    let so_far = c.loop-p.invariant start schedule budget statuses progress stands in
    let there = get_within statuses c.loop-p.p c.in-Some.status (sym at) in
    (so_far.0 ∙ over_past statuses c.loop-p.p c.in-Some.status (sym at) (sym c.if-not-is_over.ensures), omega arith)

pub returns-clause-many : goal.returns-clause-many
returns-clause-many g c = λ start schedule budget statuses progress stands.
    let so_far = c.loop-p.invariant start schedule budget statuses progress stands in
    let many = so_far.1 in omega arith
