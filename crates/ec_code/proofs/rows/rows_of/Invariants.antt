use Rattle.std.proofs.Common.{◌≡◌, length}
use Rattle.ec_code.specs.Listed.{AreRows}
use Rattle.ec_code.proofs.rows.rows_of.Given as goal

abbrev pub invariant-loop-n : goal.invariant-loop-n
invariant-loop-n l = AreRows l.code l.kind 0 l.rows × (length l.rows ≡ l.n)
