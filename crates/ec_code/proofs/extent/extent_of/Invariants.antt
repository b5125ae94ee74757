use Rattle.std.proofs.Common.{◌≡◌, drop}
use Rattle.ec_code.specs.Listed.{with_code, IsSmall}
use Rattle.ec_code.proofs.extent.extent_of.Given as goal

abbrev pub invariant-loop-op : goal.invariant-loop-op
invariant-loop-op l =
    (with_code l.e (drop l.op-index l.code) ≡ with_code (record { named = 0; temporaries = 0 }) l.code) × IsSmall l.e
