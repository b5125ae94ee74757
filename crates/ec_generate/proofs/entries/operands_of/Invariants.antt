use Rattle.std.proofs.Common.{◌≡◌, ◌++◌, drop, map}
use Rattle.ec_generate.specs.Entries.{typed}
use Rattle.ec_generate.proofs.entries.operands_of.Given as goal

abbrev pub invariant-loop-x : goal.invariant-loop-x
invariant-loop-x l = l.operands ++ map (typed l.live) (drop l.x-index l.row.operands) ≡ map (typed l.live) l.row.operands
