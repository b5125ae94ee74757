use Rattle.std.proofs.Common.{◌≡◌, ◌++◌, drop}
use Rattle.ec_native_run.proofs.report.push_nodes.Given as goal
use Rattle.ec_network.specs.Nets.{counts_of}
use Rattle.ec_report.specs.Report.{node_lines}

abbrev pub invariant-loop-k : goal.invariant-loop-k
invariant-loop-k l = l.out.items ++ node_lines (counts_of l.net) l.k (drop l.k l.specs) ≡ l.initial.out.items
    ++ node_lines (counts_of l.net) 0 l.specs
