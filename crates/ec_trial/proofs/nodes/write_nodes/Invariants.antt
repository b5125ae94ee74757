use Rattle.std.proofs.Common.{◌≡◌, ◌++◌, drop, string_bytes}
use Rattle.ec_trial.specs.Texts.{node_texts}
use Rattle.ec_trial.proofs.nodes.write_nodes.Given as goal

-- the nodes from this one on are still to be written
abbrev pub invariant-loop-j : goal.invariant-loop-j
invariant-loop-j l = string_bytes l.out ++ node_texts l.j (drop l.j l.drawn.kinds) ≡ node_texts 0 l.drawn.kinds
