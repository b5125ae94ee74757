use Rattle.std.proofs.Common.{sym, ◌∙◌, arith}
use Rattle.ec_report.proofs.Choosing.{first_behind, first_end, first_here, first_past}
use Rattle.ec_report.proofs.step.first_ready.Goals as goal

pub returns-in-None-clause-first : goal.returns-in-None-clause-first
returns-in-None-clause-first g c = λ start schedule budget statuses progress stands.
    let at = c.in-None.ensures start schedule budget statuses progress stands in
    sym (c.loop-p.invariant start schedule budget statuses progress stands
    ∙ first_end statuses 0 c.loop-p.p c.loop-p.p (omega arith) (sym at))

pub returns-then-is_ready-clause-first : goal.returns-then-is_ready-clause-first
returns-then-is_ready-clause-first g c = λ start schedule budget statuses progress stands.
    let at = c.in-Some.ensures start schedule budget statuses progress stands in
    sym (c.loop-p.invariant start schedule budget statuses progress stands
    ∙ first_here statuses 0 c.loop-p.p c.loop-p.p c.in-Some.status (omega arith) (sym at) (sym c.if-is_ready.ensures))

pub loop-p-preserved : goal.loop-p-preserved
loop-p-preserved g c = λ start schedule budget statuses progress stands.
    let at = c.in-Some.ensures start schedule budget statuses progress stands in
    c.loop-p.invariant start schedule budget statuses progress stands
    ∙ first_past statuses c.loop-p.p c.in-Some.status (sym at) (sym c.if-is_ready.ensures)

pub returns-in-None-status-clause-first : goal.returns-in-None-status-clause-first
returns-in-None-status-clause-first g c = λ start schedule budget statuses progress stands.
    let at = c.in-None-status.ensures start schedule budget statuses progress stands in
    sym (c.loop-p.invariant start schedule budget statuses progress stands
    ∙ first_behind statuses 4294967295 c.loop-p.p (sym at) (omega arith))
