use Rattle.std.proofs.Common.{◌≡◌, drop, length}
use Rattle.ec_types.specs.Conforms.{parameters_fit}
use Rattle.ec_types.specs.Pairs.{in_table}
use Rattle.ec_types.proofs.conform.pairs.parameters_fit.Given as goal

abbrev pub invariant-loop-w : goal.invariant-loop-w
invariant-loop-w l =
    parameters_fit l.types (in_table (length l.types) l.pairs) (drop (length l.yielded) l.wanted)
    (drop (length l.yielded) l.given)
    ≡ parameters_fit l.types (in_table (length l.types) l.pairs) l.wanted l.given
