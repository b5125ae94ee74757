use Rattle.std.proofs.Common.{suc, arith}
use Rattle.mips_delay.proofs.Standing.{low_of}
use Rattle.mips_delay.proofs.moves.moves_of.Goals as goal

pub of-requires-clause-few : goal.of-requires-clause-few
of-requires-clause-few c =
    let long = c.in_ok-fills.ensures.long in
    omega (arith, long, c.requires.few)

pub of-requires-clause-within : goal.of-requires-clause-within
of-requires-clause-within c = λ j h.
    let long = c.in_ok-fills.ensures.long in
    let there = low_of c.args.words.now (suc (suc j)) 0 (c.in_ok-fills.ensures.yes j h).third in
    omega (arith, there, long)
