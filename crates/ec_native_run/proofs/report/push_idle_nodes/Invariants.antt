use Rattle.std.proofs.Common.{◌≡◌, ◌++◌, ℕ, drop}
use Rattle.ec_native_run.proofs.report.push_idle_nodes.Given as goal
use Rattle.ec_report.specs.Report.{node_lines}

-- the nodes from this one on are still to come
abbrev pub invariant-loop-spec : goal.invariant-loop-spec
invariant-loop-spec l = l.out.items ++ node_lines (λ (k : ℕ). 0) l.spec-index (drop l.spec-index l.specs) ≡ l.initial.out.items
    ++ node_lines (λ (k : ℕ). 0) 0 l.specs
