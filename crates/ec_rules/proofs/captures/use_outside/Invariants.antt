use Rattle.std.proofs.Common.{◌≡◌, ◌++◌, drop, map}
use Rattle.ec_rules.specs.Captures.{uses_outside, use_seen}
use Rattle.ec_rules.proofs.captures.use_outside.Given as goal

abbrev pub invariant-loop-u : goal.invariant-loop-u
invariant-loop-u l =
    l.uses ++ uses_outside (map use_seen (drop l.u-index l.u-items)) ≡ l.initial.uses ++ uses_outside l.within
