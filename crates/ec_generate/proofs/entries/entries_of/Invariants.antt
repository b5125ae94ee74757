use Rattle.std.proofs.Common.{◌≡◌, ◌++◌, drop}
use Rattle.ec_generate.specs.Entries.{entries_from, entries_of}
use Rattle.ec_generate.proofs.entries.entries_of.Given as goal

abbrev pub invariant-loop-q : goal.invariant-loop-q
invariant-loop-q l = l.entries ++ entries_from l.code l.q (drop l.q l.code) ≡ entries_of l.code
