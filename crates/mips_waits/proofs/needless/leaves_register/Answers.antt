use Rattle.std.proofs.Common.{arith}
use Rattle.mips_waits.proofs.Deciding.{stands_of}
use Rattle.mips_waits.proofs.needless.leaves_register.Goals as goal

pub returns-else-i-words-clause-no : goal.returns-else-i-words-clause-no
returns-else-i-words-clause-no c = λ l.
    c.leaves.ensures.no (λ x is. l x (stands_of c.args.words.now c.args.i x (omega (arith, c.if-i-words.false)) is))
