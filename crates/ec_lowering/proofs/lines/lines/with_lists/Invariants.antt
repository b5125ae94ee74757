use Rattle.std.proofs.Common.{◌≡◌, ℕ, [], ◌++◌, length, drop}
use Rattle.ec_lowering.specs.Sites.{around_by}
use Rattle.ec_emission.specs.Types.{Around, lines_of}
use Rattle.ec_lowering.proofs.lines.lines.with_lists.Given as goal

abbrev pub invariant-loop-op : goal.invariant-loop-op
invariant-loop-op l =
    let w : Around = around_by l.site in
    let n : ℕ = length l.yielded in
    (l.lines ++ lines_of w l.temporaries (drop n l.fn.ops) (drop n l.lists) ≡ lines_of w [] l.fn.ops l.lists)
    × (length l.lines ≡ n)
