use Rattle.std.proofs.Common.{◌≡◌, ◌++◌}
use Rattle.ec_meaning.specs.ClassNames.{times}
use Rattle.ec_meaning.proofs.class_names.push_times.Given as goal

abbrev pub invariant-loop-time : goal.invariant-loop-time
invariant-loop-time l = l.out.items ≡ l.initial.out.items ++ times l._time l.text
