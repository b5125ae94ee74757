use Rattle.std.proofs.Common.{◌≡◌, drop}
use Rattle.ec_meaning.specs.Meaning.{constant_items}
use Rattle.ec_meaning.proofs.behind.constant_items.Given as goal

-- the constants from n on are to be given their values
abbrev pub invariant-loop-n : goal.invariant-loop-n
invariant-loop-n l = l.todo ≡ constant_items l.n (drop l.n l.constants)
