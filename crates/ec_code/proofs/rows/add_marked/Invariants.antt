use Rattle.std.proofs.Common.{◌≡◌, ◌++◌, drop}
use Rattle.ec_code.specs.Listed.{marked_at}
use Rattle.ec_code.proofs.rows.add_marked.Given as goal

abbrev pub invariant-loop-n : goal.invariant-loop-n
invariant-loop-n l = l.list ++ marked_at l.kind l.n (drop l.n l.rows) l.q ≡ l.initial.list ++ marked_at l.kind 0 l.rows l.q
