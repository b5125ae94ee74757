use Rattle.std.proofs.Common.{◌≡◌, drop}
use Rattle.ec_parcels.specs.Vectors.{with_lines}
use Rattle.ec_parcels.proofs.class_numbers.numbers.add_lines.Given as goal

abbrev pub invariant-loop-line : goal.invariant-loop-line
invariant-loop-line l = with_lines l.types (drop l.line-index l.lines) ≡ with_lines l.initial.types l.lines
