use Rattle.std.proofs.Common.{◌≡◌, drop, map}
use Rattle.ec_rules.specs.Captures.{captured, captured_behind, use_seen}
use Rattle.ec_rules.proofs.captures.captured.Given as goal

abbrev pub invariant-loop-u : goal.invariant-loop-u
invariant-loop-u l =
    captured_behind l.taken (map use_seen (drop l.u-index l.u-items)) ≡ captured l.uses
