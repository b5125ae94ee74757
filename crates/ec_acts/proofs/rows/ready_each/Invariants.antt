use Rattle.std.proofs.Common.{◌≡◌, drop}
use Rattle.ec_acts.specs.Rows.{rows_readied}
use Rattle.ec_acts.proofs.rows.ready_each.Given as goal

-- those from this one on are still to be set
abbrev pub invariant-loop-q : goal.invariant-loop-q
invariant-loop-q l = rows_readied l.rows (drop l.q-index l.granted) ≡ rows_readied l.initial.rows l.granted
